-- What a caller of `Versions` keeps: no version and no open snapshot is of a commit after the newest one.
use Rattle.std.proofs.Common.{◌≡◌, ◌≢◌, ℕ, ◌+◌, ◌<◌, ◌≤◌, Bool, true, false, cond, not, ◌==◌, List, [], ◌∷◌, Option, Some, None, All, IsSomeAnd, nat_le, Contains, slice_set, slice_index_or, filter, Result, Ok, Err, IfOk, OnErr, refl, sym, ap, ◌∙◌, subst, true≢false, arith}
use Rattle.std.proofs.lemmas.Bool.Decides.{nat_tests}
use Rattle.std.proofs.lemmas.List.Elements.{recursion_from_All, All-from_recursion}
use Rattle.std.specs.List.{AllByRecursion}
use Rattle.page_bytes.specs.declared.ids.PageId.{PageId}
use Rattle.page_bytes.specs.declared.ids.Space.{Space}
use Rattle.page_bytes.specs.declared.lists.PageChange.{PageChange}
use Rattle.page_versions.specs.declared.version.Version.{Version}
use Rattle.page_versions.specs.declared.version.Image.{Image}
use Rattle.page_versions.specs.Chains.{version_at, newest, published, needed, is_needed}
use Rattle.page_versions.specs.Kept.{Kept, chain_of, snapshot_at, IsOpen, IsNewestAt, IsKnownAt, IsPast, IsUpTo}
use Rattle.std.specs.Option.{option_map}
use Rattle.page_versions.specs.declared.version.Image.TheVariants.{Absent}
use Rattle.page_versions.specs.Purging.{with_slot}
use Rattle.page_versions.specs.Inside.{is_page}
use Rattle.page_versions.specs.Staging.{with_image, staged_chain}
use Rattle.std.specs.FinMap as map
use Rattle.std.proofs.lemmas.Bool.{eqb-true}
use Rattle.page_versions.proofs.Chaining.{same_number}
use Rattle.page_versions.proofs.Paging.{chain_in-empty, chain_in-insert}
use Rattle.page_versions.proofs.Sounding.{ended_open, key_of, contains_there}

-- what holds of all holds of those that are kept
all-filter : {X : Type 0} (P : X → Type 0) (test : X → Bool) (xs : List X) → AllByRecursion P xs → AllByRecursion P (filter test xs)
all-filter P test [] all = all
all-filter P test (x ∷ xs) all =
    elim (test x) as (λ b. AllByRecursion P (cond b (x ∷ filter test xs) (filter test xs))) [
      | true ↦
          (all.0, all-filter P test xs all.1)
      | false ↦ all-filter P test xs all.1
    ]

abbrev UpTo : ℕ → List Version → Type 0
UpTo n chain = AllByRecursion (λ v. v.commit ≤ n) chain

more : (m n : ℕ) → m ≤ n → (chain : List Version) → UpTo m chain → UpTo n chain
more m n le [] all = tt
more m n le (v ∷ vs) all = let first : v.commit ≤ m = all.0 in (omega arith, more m n le vs all.1)

with_image_upto : (n : ℕ) (o : Option Image) (chain : List Version) → UpTo n chain → UpTo (n + 1) (with_image (n + 1) o chain)
with_image_upto n None chain all = more n (n + 1) (omega arith) chain all
with_image_upto n (Some image) chain all = (omega arith, more n (n + 1) (omega arith) chain all)

published_upto : (n : ℕ) (o : Option Image) (chain : List Version) → UpTo n chain → UpTo n (published (Some (n + 1)) (with_image (n + 1) o chain))
published_upto n None chain all = all-filter (λ v. v.commit ≤ n) (λ v. not (v.commit == n + 1)) chain all
published_upto n (Some image) chain all =
    let is : (n + 1 == n + 1) ≡ true = grind (arith, nat_tests) in
    subst (λ b. UpTo n (cond (not b) (record { commit = n + 1; image = image } ∷ filter (λ v. not (v.commit == n + 1)) chain)
    (filter (λ v. not (v.commit == n + 1)) chain))) (sym is)
    (all-filter (λ v. v.commit ≤ n) (λ v. not (v.commit == n + 1)) chain all)

by_recursion : (n : ℕ) (chain : List Version) → All (λ v. v.commit ≤ n) chain → UpTo n chain
by_recursion n chain all = recursion_from_All (λ (v : Version). v.commit ≤ n) chain all

by_index : (n : ℕ) (chain : List Version) → UpTo n chain → All (λ v. v.commit ≤ n) chain
by_index n chain all = All-from_recursion (λ (v : Version). v.commit ≤ n) chain all

-- the next commit may be staged
pub past_upto : (k : Kept) (n : ℕ) → IsUpTo k n → IsPast k (n + 1)
past_upto k n upto = record {
  commits = λ id i d less. let le = upto.commits id i d less in omega arith;
  snapshots = λ s there. let le = upto.snapshots s there in omega arith;
}

-- the newest commit may be read
pub newest_upto : (k : Kept) (n : ℕ) → IsUpTo k n → IsNewestAt k n
newest_upto k n upto id =
    subst (λ st. All (IsKnownAt st n) (chain_of k id)) (sym upto.staged) (λ i d less. (λ _. upto.commits id i d less, λ e. absurd (true≢false (sym e))))

module _ (k mid new : Kept) (n : ℕ) (changes : List PageChange) (dropped : List Space) (upto : IsUpTo k n)
    (chains : (id : PageId) → chain_of mid id ≡ staged_chain (n + 1) changes dropped id (chain_of k id)) (same : mid.snapshots ≡ k.snapshots)
    (staged : mid.staged ≡ Some (n + 1)) where
  was : (id : PageId) → UpTo n (chain_of k id)
  was id = by_recursion n (chain_of k id) (upto.commits id)

  opened : new.snapshots ≡ mid.snapshots → (s : ℕ) → IsOpen new s → s ≤ n
  opened is s there = upto.snapshots s (subst (λ xs. Contains xs (Some s)) (is ∙ same) there)

  -- what was staged is published
  pub upto_publish : ((id : PageId) → chain_of new id ≡ needed None mid.snapshots (chain_of mid id)) → new.snapshots ≡ mid.snapshots → new.staged ≡ None
      → IsUpTo new (n + 1)
  upto_publish cut is none = record {
    staged = none;
    commits = λ id. by_index (n + 1) (chain_of new id)
        (subst (UpTo (n + 1)) (sym (cut id)) (all-filter (λ v. v.commit ≤ n + 1) (is_needed None mid.snapshots (chain_of mid id)) (chain_of mid id)
        (subst (UpTo (n + 1)) (sym (chains id)) (with_image_upto n _ (chain_of k id) (was id)))));
    snapshots = λ s there. let le = opened is s there in omega arith;
  }

  -- or taken back
  pub upto_retract : ((id : PageId) → chain_of new id ≡ published mid.staged (chain_of mid id)) → new.snapshots ≡ mid.snapshots → new.staged ≡ None
      → IsUpTo new n
  upto_retract cut is none = record {
    staged = none;
    commits = λ id. by_index n (chain_of new id)
        (subst (UpTo n) (sym (cut id ∙ (λ i. published (staged i) (chains id i)))) (published_upto n _ (chain_of k id) (was id)));
    snapshots = opened is;
  }

-- a snapshot is ended
pub upto_end : (k new : Kept) (n key : ℕ) → IsUpTo k n → ((id : PageId) → chain_of new id ≡ needed k.staged new.snapshots (chain_of k id))
    → new.snapshots ≡ slice_set k.snapshots key None → new.staged ≡ k.staged → IsUpTo new n
upto_end k new n key upto cut is staged = record {
  staged = staged ∙ upto.staged;
  commits = λ id. by_index n (chain_of new id)
      (subst (UpTo n) (sym (cut id))
      (all-filter (λ v. v.commit ≤ n) (is_needed k.staged new.snapshots (chain_of k id)) (chain_of k id) (by_recursion n (chain_of k id) (upto.commits id))));
  snapshots = λ s there. upto.snapshots s (ended_open k.snapshots key s (subst (λ xs. Contains xs (Some s)) is there));
}

-- a snapshot is opened at the newest commit
pub upto_open : (k new : Kept) (n key : ℕ) → IsUpTo k n → snapshot_at new key ≡ Some n
    → ((other : ℕ) → other ≢ key → snapshot_at new other ≡ snapshot_at k other) → new.chains ≡ k.chains → new.staged ≡ k.staged → IsUpTo new n
upto_open k new n key upto changed others same staged = record {
  staged = staged ∙ upto.staged;
  commits = λ id. subst (λ (m : _). All (λ v. v.commit ≤ n) (chain_of (record k { chains = m }) id)) (sym same) (upto.commits id);
  snapshots = λ s there. let at = key_of new.snapshots s there in
      elim (at.0 == key) as (λ b. (at.0 == key) ≡ b → s ≤ n) [
        | true ↦ λ e. let one : at.0 ≡ key = grind (arith, nat_tests) in let both : Some n ≡ Some s = sym changed
            ∙ ap (λ j. slice_index_or new.snapshots j None) (sym one) ∙ at.1 in
            let number : n ≡ s = cc in omega arith
        | false ↦ λ e. upto.snapshots s
            (contains_there k.snapshots at.0 s (sym (others at.0 (λ one. let is : (at.0 == key) ≡ true = grind (arith, nat_tests) in true≢false (sym is ∙ e)))
            ∙ at.1))
      ] refl;
}

-- at first there is nothing
pub empty_upto : (k : Kept) → k ≡ record { chains = map.empty; snapshots = []; staged = None } → IsUpTo k 0
empty_upto k is = subst (λ x. IsUpTo x 0) (sym is) (record {
  staged = refl;
  commits = λ id. subst (All (λ v. v.commit ≤ 0)) (sym (chain_in-empty id)) (λ i d less. absurd (omega arith));
  snapshots = λ s there. let less = there.1 in absurd (omega arith);
})

-- what a call that may fail leaves
pub kept_upto : (k new : Kept) (n : ℕ) → new ≡ k → IsUpTo k n → IsUpTo new n
kept_upto k new n same upto = subst (λ x. IsUpTo x n) (sym same) upto

-- a call that opens a snapshot at the newest commit, or fails and changes nothing, leaves nothing of a later commit
pub upto_opened : {E : Type 0} (k new : Kept) (n : ℕ) (r : Result ℕ E) → IsUpTo k n → IfOk r (λ key. snapshot_at new key ≡ Some n)
    → IfOk r (λ key. (other : ℕ) → other ≢ key → snapshot_at new other ≡ snapshot_at k other)
    → new.chains ≡ k.chains → new.staged ≡ k.staged → OnErr r (new ≡ k) → IsUpTo new n
upto_opened k new n (Ok key) upto changed others same staged err = upto_open k new n key upto changed others same staged
upto_opened k new n (Err e) upto changed others same staged err = kept_upto k new n err upto

-- the newest version is the one at the newest commit
pub version_at-newest : (n : ℕ) (chain : List Version) → All (λ v. v.commit ≤ n) chain → version_at chain n ≡ newest chain
version_at-newest n [] all = refl
version_at-newest n (v ∷ vs) all = let le : v.commit ≤ n = all 0 v (omega arith) in let shows : nat_le v.commit n ≡ true = grind (arith, nat_tests) in
    ap (λ b. cond b (Some v) (version_at vs n)) shows

-- an image that is there at the newest commit may be put in a slot
pub slot_allowed : (k : Kept) (n : ℕ) (id : PageId) → IsUpTo k n
    → IsSomeAnd (option_map (λ (v : Version). v.image) (version_at (chain_of k id) n)) (λ i. i ≢ Absent)
    → IsSomeAnd (newest (published k.staged (chain_of k id))) (λ v. v.image ≢ Absent)
slot_allowed k n id upto there =
    subst (λ st. IsSomeAnd (newest (published st (chain_of k id))) (λ v. v.image ≢ Absent)) (sym upto.staged)
    (through (newest (chain_of k id))
    (subst (λ o. IsSomeAnd (option_map (λ (v : Version). v.image) o) (λ i. i ≢ Absent)) (version_at-newest n (chain_of k id) (upto.commits id)) there))
  where
    through : (o : Option Version) → IsSomeAnd (option_map (λ (v : Version). v.image) o) (λ i. i ≢ Absent) → IsSomeAnd o (λ v. v.image ≢ Absent)
    through None p = p
    through (Some v) p = p

-- an image is put in a slot
pub upto_slot : (k : Kept) (n : ℕ) (id : PageId) (slot : ℕ) → IsUpTo k n
    → IsUpTo (record k { chains = map.insert k.chains id (with_slot k.staged slot (chain_of k id)) }) n
upto_slot k n id slot upto = record {
  staged = upto.staged;
  commits = λ q. subst (All (λ v. v.commit ≤ n)) (sym (chain_in-insert k.chains id (with_slot k.staged slot (chain_of k id)) q)) (pick q (is_page q id));
  snapshots = upto.snapshots;
}
  where
    slotted : (st : Option ℕ) → st ≡ None → (chain : List Version) → UpTo n chain → UpTo n (with_slot st slot chain)
    slotted None is [] all = all
    slotted None is (v ∷ vs) all = all
    slotted (Some m) is chain all = absurd (some_none m is)
      where
        some_none : (m : ℕ) → ◌≡◌ {A = Option ℕ} (Some m) None → ⊥
        some_none m e = cc

    pick : (q : PageId) (b : Bool) → All (λ v. v.commit ≤ n) (cond b (with_slot k.staged slot (chain_of k id)) (chain_of k q))
    pick q true = by_index n (with_slot k.staged slot (chain_of k id))
        (slotted k.staged upto.staged (chain_of k id) (by_recursion n (chain_of k id) (upto.commits id)))
    pick q false = upto.commits q

-- what is staged at a later commit leaves what is newest
newest_known : (k n : ℕ) (o : Option Image) (chain : List Version) → n < k → AllByRecursion (IsKnownAt None n) chain
    → AllByRecursion (IsKnownAt (Some k) n) (with_image k o chain)
newest_known k n o chain lt all = in_front o
  where
    known : (vs : List Version) → AllByRecursion (IsKnownAt None n) vs → AllByRecursion (IsKnownAt (Some k) n) vs
    known [] all = tt
    known (v ∷ vs) all = ((λ _. all.0.0 refl, λ is. let same : v.commit ≡ k = eqb-true _ _ is in omega (arith, lt, same)), known vs all.1)

    in_front : (o : Option Image) → AllByRecursion (IsKnownAt (Some k) n) (with_image k o chain)
    in_front None = known chain all
    in_front (Some image) = ((λ other. absurd (true≢false (sym (same_number k) ∙ other)), λ _. lt), known chain all)

-- a chain known at a commit is known there too once an image of a later commit is staged in front
pub staged_newest : (k n : ℕ) (o : Option Image) (chain new : List Version) → n < k → new ≡ with_image k o chain → All (IsKnownAt None n) chain
    → All (IsKnownAt (Some k) n) new
staged_newest k n o chain new lt is all =
    subst (All (IsKnownAt (Some k) n)) (sym is)
    (All-from_recursion (IsKnownAt (Some k) n) (with_image k o chain) (newest_known k n o chain lt (recursion_from_All (IsKnownAt None n) chain all)))
