-- What is put in front of chains, page by page.
use Rattle.std.proofs.Common.{◌≡◌, ℕ, ◌<◌, Bool, true, false, cond, ◌&&◌, ◌==◌, List, [], ◌∷◌, ◌++◌, Option, Some, None, length, refl, sym, ap, ◌∙◌, subst, true≢false, arith, if◌then◌else◌, Result, Ok, Err, OnOk}
use Rattle.std.specs.Ordering.{eq_by_cmp}
use Rattle.std.specs.FinMap as map
use Rattle.page_bytes.specs.declared.ids.PageId.{PageId}
use Rattle.page_bytes.specs.declared.ids.Space.{Space}
use Rattle.page_bytes.specs.declared.lists.PageChange.{PageChange}
use Rattle.page_bytes.specs.Order.{page_cmp}
use Rattle.page_bytes.specs.Changes.{change_of}
use Rattle.page_versions.specs.declared.version.Version.{Version}
use Rattle.page_versions.specs.declared.version.Image.{Image}
use Rattle.page_versions.specs.declared.version.Image.TheVariants.{Absent}
use Rattle.page_versions.specs.ChainMap.{ChainMap, chain_in}
use Rattle.page_versions.specs.Staging.{image_of, staged_image, with_image, staged_chain, is_dropped, has_versions}
use Rattle.page_versions.specs.Purging.{has_staged, unstaged}
use Rattle.page_versions.specs.Inside.{is_page, is_listed, IsBefore, NoneEmpty, staged_once, StagesUnder}
use Rattle.page_bytes.proofs.Orders.{page_cmp-total, page_cmp-exact}
use Rattle.page_versions.proofs.Chaining.{same_number, before_has_none}
use Rattle.page_versions.proofs.Paging.{listed_first, listed_last, page-is, unlisted, chain_in-insert, filled-insert}

-- nothing is put in front
pub stages_none : (n : ℕ) (m : ChainMap) (ps : List PageId) → NoneEmpty m → StagesUnder n m m ps ps
stages_none n m ps filled = record { filled = filled; listed = λ q e. e; others = λ q e. refl; under = λ q. refl }

-- one page more is listed, and nothing is put in front
pub stages_listed : (n : ℕ) (m : ChainMap) (ps : List PageId) (id : PageId) → NoneEmpty m → StagesUnder n m m ps (ps ++ id ∷ [])
stages_listed n m ps id filled = record { filled = filled; listed = λ q. listed_first ps id q; others = λ q e. refl; under = λ q. refl }

-- one after another
pub stages_more : (n : ℕ) (a b c : ChainMap) (ps qs rs : List PageId) → StagesUnder n a b ps qs → StagesUnder n b c qs rs → StagesUnder n a c ps rs
stages_more n a b c ps qs rs first second = record {
  filled = second.filled;
  listed = λ q e. second.listed q (first.listed q e);
  others = λ q e. second.others q e ∙ first.others q (unlisted qs rs q (second.listed q) e);
  under = λ q. second.under q ∙ first.under q;
}

-- a listed page gets a chain with the same published part
pub stages_one : (n : ℕ) (m : ChainMap) (ps : List PageId) (id : PageId) (c : List Version) → NoneEmpty m → 0 < length c
    → unstaged n c ≡ unstaged n (chain_in m id) → StagesUnder n m (map.insert m id c) ps (ps ++ id ∷ [])
stages_one n m ps id c filled some same = record {
  filled = filled-insert m id c filled some;
  listed = λ q. listed_first ps id q;
  others = λ q e. chain_in-insert m id c q ∙ elim (is_page q id) as (λ b. is_page q id ≡ b → cond b c (chain_in m q) ≡ chain_in m q) [
    | true ↦ λ t. absurd (true≢false (sym (subst (λ p. is_listed (ps ++ id ∷ []) p ≡ true) (sym (page-is q id t)) (listed_last ps id)) ∙ e))
    | false ↦ λ _. refl
  ] refl;
  under = λ q. ap (unstaged n) (chain_in-insert m id c q)
      ∙ elim (is_page q id) as (λ b. is_page q id ≡ b → unstaged n (cond b c (chain_in m q)) ≡ unstaged n (chain_in m q)) [
        | true ↦ λ t. same ∙ ap (λ p. unstaged n (chain_in m p)) (sym (page-is q id t))
        | false ↦ λ _. refl
      ] refl;
}

-- a version of the commit behind which nothing is staged
pub unstaged-staged : (n : ℕ) (image : Image) (chain : List Version) → has_staged n chain ≡ false
    → unstaged n (record { commit = n; image = image } ∷ chain) ≡ unstaged n chain
unstaged-staged n image [] none = ap (λ b. cond b [] (record { commit = n; image = image } ∷ [])) (same_number n)
unstaged-staged n image (v ∷ vs) none =
    ap (λ b. cond b (v ∷ vs) (record { commit = n; image = image } ∷ v ∷ vs)) (same_number n) ∙ ap (λ b. cond b vs (v ∷ vs)) (sym none)

-- a chain with a version of the commit in front is, without it, what the chain is without one of that commit
pub unstaged-once : (n : ℕ) (image : Image) (chain : List Version) → unstaged n (staged_once n image chain) ≡ unstaged n chain
unstaged-once n image chain =
    elim (has_staged n chain) as (λ b. has_staged n chain ≡ b → unstaged n (cond b chain (record { commit = n; image = image } ∷ chain)) ≡ unstaged n chain) [
      | true ↦ λ _. refl
      | false ↦ λ e. unstaged-staged n image chain e
    ] refl

-- and it has a version
pub some-once : (n : ℕ) (image : Image) (chain : List Version) → 0 < length (staged_once n image chain)
some-once n image [] = omega arith
some-once n image (v ∷ vs) =
    elim (v.commit == n) as (λ b. 0 < length (cond b (v ∷ vs) (record { commit = n; image = image } ∷ v ∷ vs))) [ true ↦ omega arith | false ↦ omega arith ]

-- what is there, put in again, changes nothing
pub insert-there : (m : ChainMap) (id : PageId) (c : List Version) → map.get m id ≡ Some c → map.insert m id c ≡ m
insert-there m id c is = map.same_map page_cmp-total page_cmp-exact _ _ (λ q. map.get-insert page_cmp-total m id c q
    ∙ elim (is_page q id) as (λ b. is_page q id ≡ b → cond b (Some c) (map.get m q) ≡ map.get m q) [
      | true ↦ λ t. sym is ∙ ap (map.get m) (sym (page-is q id t))
      | false ↦ λ _. refl
    ] refl)

-- to put a version in front twice is to do it once
pub once-once : (n : ℕ) (image : Image) (chain : List Version) → staged_once n image (staged_once n image chain) ≡ staged_once n image chain
once-once n image chain =
    elim (has_staged n chain) as (λ b. has_staged n chain ≡ b
    → staged_once n image (cond b chain (record { commit = n; image = image } ∷ chain)) ≡ cond b chain (record { commit = n; image = image } ∷ chain)) [
      | true ↦ λ e. ap (λ b. cond b chain (record { commit = n; image = image } ∷ chain)) e
      | false ↦ λ e. ap (λ b. cond b (record { commit = n; image = image } ∷ chain)
          (record { commit = n; image = image } ∷ record { commit = n; image = image } ∷ chain)) (same_number n)
    ] refl

-- the first of two, if there is one
abbrev or_else : {X : Type 0} → Option X → Option X → Option X
or_else None p = p
or_else (Some x) p = Some x

-- what a list of changes says with one change more
change_of-append : (cs : List PageChange) (c : PageChange) (q : PageId)
    → change_of (cs ++ c ∷ []) q ≡ or_else (change_of cs q) (if eq_by_cmp page_cmp q c.id then Some c.page else None)
change_of-append [] c q = refl
change_of-append (d ∷ ds) c q = ap (λ o. if eq_by_cmp page_cmp q d.id then Some d.page else o) (change_of-append ds c q) ∙ at (eq_by_cmp page_cmp q d.id)
  where
    at : (b : Bool) → (if b then Some d.page else or_else (change_of ds q) (if eq_by_cmp page_cmp q c.id then Some c.page else None))
        ≡ or_else (if b then Some d.page else change_of ds q) (if eq_by_cmp page_cmp q c.id then Some c.page else None)
    at true = refl
    at false = refl

-- one change more is put in front
pub changes_more : (n : ℕ) (cs : List PageChange) (c : PageChange) (old now next : PageId → List Version) (image : Image)
    → ((q : PageId) → IsBefore (Some n) (old q)) → image ≡ image_of c.page
    → ((q : PageId) → now q ≡ with_image n (staged_image (change_of cs q) false) (old q))
    → ((q : PageId) → next q ≡ cond (is_page q c.id) (staged_once n image (now q)) (now q))
    → (q : PageId) → next q ≡ with_image n (staged_image (change_of (cs ++ c ∷ []) q) false) (old q)
changes_more n cs c old now next image before is done step q =
    step q ∙ ap (λ x. cond (is_page q c.id) (staged_once n image x) x) (done q)
    ∙ at (change_of cs q) (is_page q c.id)
    ∙ ap (λ o. with_image n (staged_image o false) (old q)) (sym (change_of-append cs c q))
  where
    at : (o : Option (Option (List ℕ))) (b : Bool)
        → cond b (staged_once n image (with_image n (staged_image o false) (old q))) (with_image n (staged_image o false) (old q))
        ≡ with_image n (staged_image (or_else o (cond b (Some c.page) None)) false) (old q)
    at (Some page) true = ap
        (λ t. cond t (record { commit = n; image = image_of page } ∷ old q)
        (record { commit = n; image = image } ∷ record { commit = n; image = image_of page } ∷ old q)) (same_number n)
    at (Some page) false = refl
    at None true = ap (λ t. cond t (old q) (record { commit = n; image = image } ∷ old q)) (before_has_none n (old q) (before q))
        ∙ ap (λ i. record { commit = n; image = i } ∷ old q) is
    at None false = refl

-- absences are put in front of what is not changed
pub absences : (n : ℕ) (changes : List PageChange) (dropped : List Space) (q : PageId) (old : List Version) (gone : Bool) → IsBefore (Some n) old
    → gone ≡ (is_dropped dropped q.space && has_versions old)
    → cond gone (staged_once n Absent (with_image n (staged_image (change_of changes q) false) old))
    (with_image n (staged_image (change_of changes q) false) old) ≡ staged_chain n changes dropped q old
absences n changes dropped q old gone before is = at (change_of changes q) gone ∙ ap (λ b. with_image n (staged_image (change_of changes q) b) old) is
  where
    at : (o : Option (Option (List ℕ))) (b : Bool)
        → cond b (staged_once n Absent (with_image n (staged_image o false) old)) (with_image n (staged_image o false) old)
        ≡ with_image n (staged_image o b) old
    at (Some page) true = ap
        (λ t. cond t (record { commit = n; image = image_of page } ∷ old)
        (record { commit = n; image = Absent } ∷ record { commit = n; image = image_of page } ∷ old)) (same_number n)
    at (Some page) false = refl
    at None true = ap (λ t. cond t old (record { commit = n; image = Absent } ∷ old)) (before_has_none n old before)
    at None false = refl

-- what follows from what holds of a value given holds of it too
pub on_ok_weaker : {T E P Q : Type 0} (r : Result T E) → (P → Q) → OnOk r P → OnOk r Q
on_ok_weaker (Ok x) after p = after p
on_ok_weaker (Err e) after p = tt
