-- How a listing of changes goes on from page to page.
use Rattle.std.proofs.Common.{◌≡◌, ◌≢◌, ℕ, Bool, true, false, not, ◌&&◌, ◌||◌, List, Option, Some, None, inl, inr, ⊎_elim, refl, sym, ap, ◌∙◌, subst, cond, is_some, true≢false}
use Rattle.std.specs.Option.{option_or}
use Rattle.std.specs.declared.cmp.Ordering.{Ordering}
use Rattle.std.specs.declared.cmp.Ordering.TheVariants.{Less, Equal, Greater}
use Rattle.std.specs.Ordering.{eq_by_cmp, is_eq}
use Rattle.std.specs.FinMap as map
use Rattle.page_bytes.specs.declared.ids.PageId.{PageId}
use Rattle.page_bytes.specs.Order.{page_cmp}
use Rattle.page_bytes.specs.Known.{PageMap, PageIds, Spaces, is_unknown}
use Rattle.page_bytes.specs.Changes.{IsChange, IsLongChange}
use Rattle.page_bytes.specs.Inside.{stays, pages_of, work_of, now_of, Notes, AreLong, IsListedAt, IsListed}
use Rattle.page_bytes.proofs.Orders.{page_cmp-total, page_cmp-exact}
use Rattle.page_bytes.proofs.Works.{get-inserted, get-beside, get-pages_of}

abbrev Changes : Type 0
Changes = map.FinMap page_cmp (Option (List ℕ))

-- a value that is there isn't none, from which all follows
pub some_none : {X P : Type 0} (x : X) → Some x ≡ None → P
some_none x e = absurd (true≢false (ap is_some e))

-- a change that is put in is noted
pub Notes-inserted : (changes : Changes) (id : PageId) (below now page : Option (List ℕ)) → page ≡ now → below ≢ now
    → Notes changes id below now (map.insert changes id page)
Notes-inserted changes id below now page is differs =
    (λ _. subst (IsChange below now) (sym (get-inserted changes id page)) (is, differs), λ q apart. get-beside changes id q page apart)

-- what was taken out isn't there, and all else stays
get-taken : {X : Type 0} (m : map.FinMap page_cmp X) (k q : PageId) (e : Bool) → eq_by_cmp page_cmp q k ≡ e
    → map.get (map.remove m k) q ≡ cond e None (map.get m q)
get-taken m k q e is = map.get-remove page_cmp-total m k q ∙ ap (λ b. cond b None (map.get m q)) is

-- a page is the one at hand or another one
pub either : {P : Type 0} (k q : PageId) → (q ≡ k → eq_by_cmp page_cmp q k ≡ true → P) → (eq_by_cmp page_cmp q k ≡ false → P) → P
either {P} k q same other = at (page_cmp q k) refl
  where
    at : (o : Ordering) → page_cmp q k ≡ o → P
    at Less e = other (ap is_eq e)
    at Equal e = same (page_cmp-exact q k e) (ap is_eq e)
    at Greater e = other (ap is_eq e)

-- a page of 4,096 bytes, or none, is put in among such
pub AreLong-inserted : (changes : Changes) (id : PageId) (page : Option (List ℕ)) → IsLongChange (Some page) → AreLong changes
    → AreLong (map.insert changes id page)
AreLong-inserted changes id page long all q = either id q
    (λ same tied. subst IsLongChange (sym (ap (map.get (map.insert changes id page)) same ∙ get-inserted changes id page)) long)
    (λ apart. subst IsLongChange (sym (get-beside changes id q page apart)) (all q))

-- in a table without changes all pages have 4,096 bytes
pub AreLong-empty : (changes : Changes) → changes ≡ map.empty → AreLong changes
AreLong-empty changes none q = subst IsLongChange (sym (ap (λ m. map.get m q) none ∙ map.get-empty page_cmp q)) tt

nothing : (s : Bool) (o : Option (List ℕ)) → o ≡ cond s o o
nothing true o = refl
nothing false o = refl

module _ (b d : PageMap) (g : PageIds) (w : Spaces) where
  moved : (q : PageId) {x x' y y' : Option (List ℕ)} {z z' : Option (Option (List ℕ))} → x ≡ x' → y ≡ y' → z ≡ z' → IsListedAt b d g w q x y z
      → IsListedAt b d g w q x' y' z'
  moved q ex ey ez h = subst (λ (t : Option (List ℕ) × (Option (List ℕ) × Option (Option (List ℕ)))). IsListedAt b d g w q t.0 t.1.0 t.1.1)
      (λ j. (ex j, (ey j, ez j))) h

  -- at the start all is left
  pub IsListed-start : (changes : Changes) → changes ≡ map.empty → IsListed b d g w b d changes
  IsListed-start changes none q = inl (refl, refl, ap (λ m. map.get m q) none ∙ map.get-empty page_cmp q)

  -- a page from below is looked at with its draft, and its change is noted
  pub IsListed-below : (b' d' : PageMap) (old new : Changes) (id : PageId) (page : List ℕ) → IsListed b d g w b' d' old → map.get b' id ≡ Some page
      → Notes old id (Some page) (now_of g w id (map.get d' id) (Some page)) new → IsListed b d g w (map.remove b' id) (map.remove d' id) new
  IsListed-below b' d' old new id page listed there notes q = either id q
      (λ same tied. inr (
        get-taken b' id q true tied,
        get-taken d' id q true tied,
        subst (λ k. IsChange (map.get b k) (now_of g w k (map.get d k) (map.get b k)) (map.get new k)) (sym same) here,
      ))
      (λ apart. moved q (sym (get-taken b' id q false apart)) (sym (get-taken d' id q false apart)) (sym (notes.1 q apart)) (listed q))
    where
      here : IsChange (map.get b id) (now_of g w id (map.get d id) (map.get b id)) (map.get new id)
      here = ⊎_elim
          (λ left. subst (λ (t : Option (List ℕ) × Option (List ℕ)). IsChange t.0 (now_of g w id t.1 t.0) (map.get new id))
          (λ j. ((sym there ∙ left.0) j, left.1 j)) (notes.0 left.2))
          (λ done. some_none page (sym there ∙ done.0))
          (listed id)

  -- where nothing is left below, a page that has a draft is new
  pub IsListed-new : (d' : PageMap) (old : Changes) (id : PageId) (draft : List ℕ) → IsListed b d g w map.empty d' old → map.get d' id ≡ Some draft
      → IsListed b d g w map.empty (map.remove d' id) (map.insert old id (Some draft))
  IsListed-new d' old id draft listed there q = either id q
      (λ same tied. inr (
        map.get-empty page_cmp q,
        get-taken d' id q true tied,
        subst (λ k. IsChange (map.get b k) (now_of g w k (map.get d k) (map.get b k)) (map.get (map.insert old id (Some draft)) k)) (sym same)
            (subst (IsChange (map.get b id) (now_of g w id (map.get d id) (map.get b id))) (sym (get-inserted old id (Some draft))) here),
      ))
      (λ apart. moved q refl (sym (get-taken d' id q false apart)) (sym (get-beside old id q (Some draft) apart)) (listed q))
    where
      here : IsChange (map.get b id) (now_of g w id (map.get d id) (map.get b id)) (Some (Some draft))
      here = ⊎_elim
          (λ left. subst (λ (t : Option (List ℕ) × Option (List ℕ)). IsChange t.0 (now_of g w id t.1 t.0) (Some (Some draft)))
          (λ j. ((sym (map.get-empty page_cmp id) ∙ left.0) j, (sym there ∙ left.1) j)) (refl, λ e. some_none draft (sym e)))
          (λ done. some_none draft (sym there ∙ done.1))
          (listed id)

  -- at the end each change is noted
  pub IsListed-end : (changes : Changes) → IsListed b d g w map.empty map.empty changes → (q : PageId)
      → IsChange (map.get b q) (now_of g w q (map.get d q) (map.get b q)) (map.get changes q)
  IsListed-end changes listed q = ⊎_elim
      (λ left. subst (λ (t : Option (List ℕ) × (Option (List ℕ) × Option (Option (List ℕ)))). IsChange t.0 (now_of g w q t.1.0 t.0) t.1.1)
      (λ j. ((sym (map.get-empty page_cmp q) ∙ left.0) j, ((sym (map.get-empty page_cmp q) ∙ left.1) j, sym left.2 j))) (nothing (stays g w q) None))
      (λ done. done.2)
      (listed q)

  -- and it is that of what the workspace is seen as
  pub IsChange-pages_of : (q : PageId) (change : Option (Option (List ℕ))) → IsChange (map.get b q) (now_of g w q (map.get d q) (map.get b q)) change
      → IsChange (map.get b q) (map.get (pages_of b d g w) q) change
  IsChange-pages_of q change is = subst (λ now. IsChange (map.get b q) now change) (sym (get-pages_of b d g w q)) is

  out : (there : Option (List ℕ)) (w' g' : Bool) (draft page : Option (List ℕ)) → there ≡ option_or draft (cond (not w' && not g') page None)
      → (not (is_some there) && not (w' || g')) ≡ true → page ≡ there
  out (Some x) w' g' draft page is h = absurd (true≢false (sym h))
  out None true g' draft page is h = absurd (true≢false (sym h))
  out None false true draft page is h = absurd (true≢false (sym h))
  out None false false None page is h = sym is
  out None false false (Some x) page is h = some_none x (sym is)

  -- what isn't known is below as it is now: it isn't there
  pub unknown_below : (q : PageId) → is_unknown (work_of b d g w).now q ≡ true → map.get b q ≡ map.get (pages_of b d g w) q
  unknown_below q h = out (map.get (pages_of b d g w) q) (map.contains_key w q.space) (map.contains_key g q) (map.get d q) (map.get b q)
      (get-pages_of b d g w q) h

-- what is the same isn't listed
pub IsChange-same : (below now : Option (List ℕ)) (change : Option (Option (List ℕ))) → below ≡ now → IsChange below now change → change ≡ None
IsChange-same below now None same is = refl
IsChange-same below now (Some page) same is = absurd (is.1 same)
