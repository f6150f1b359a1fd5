-- Tables under texts whose keys have been sorted.
use Rattle.std.specs.Prelude.{T}
use Rattle.std.proofs.Common.{◌≡◌, ℕ, Bool, true, false, ◌&&◌, List, [], ◌∷◌, refl, sym, ap, subst, ◌∙◌, cond, map, string_bytes}
use Rattle.std.specs.Ordering.{nat_cmp, eq_by_cmp, is_lt}
use Rattle.std.specs.Cmp.Lexicographic.{slice_cmp, nat_list_eq_equiv}
use Rattle.std.specs.declared.cmp.Ordering.TheVariants.{Less}
use Rattle.std.specs.List.{IsDistinct, AllByRecursion, dedup, dedup_from}
use Rattle.std.specs.List.Sorted.{IsPermutation, IsSorted, IsStrictlySortedBy}
use Rattle.std.specs.Str.{bytes_eq}
use Rattle.std.specs.String.{string_eq, string_cmp, string_eq_equiv, string_cmp_total}
use Rattle.std.specs.declared.string.String.{String}
use Rattle.std.specs.FinMap as fin
use Rattle.std.specs.FinMap.{is_sorted, slice_cmp-IsAntisymmetric, nat_cmp-IsAntisymmetric}
use Rattle.std.specs.FinMap.Entries.{below_all}
use Rattle.std.proofs.lemmas.Cmp.{nat_list_cmp_total}
use Rattle.std.proofs.lemmas.List.Kept.{IsStrictlySortedBy-dedup}
use Rattle.std.proofs.lemmas.Map.Text.{is_eq-slice_cmp}
use Rattle.indexmap.proofs.MapLemmas.{lookup_permutation}
use Rattle.xq_ast.specs.declared.need.LockMode.{LockMode}
use Rattle.xq_ast.specs.declared.need.Need.{Need}
use Rattle.doc_locks.specs.Names.{Names, names_of_entries}
use Rattle.doc_locks.specs.Locks.{need_of, needs_of}
use Rattle.doc_locks.proofs.Entries.{find-texts, get-names}

-- ---- distinct names stay when repeated ones are taken out

unrepeated : {A : Type 0} (k : String A) (xs : List (String A)) → IsDistinct string_eq (k ∷ xs) → dedup_from string_eq k xs ≡ k ∷ xs
unfolding IsDistinct
unrepeated k [] distinct = refl
unrepeated k (x ∷ xs) distinct =
    ap (λ b. cond b (dedup_from string_eq k xs) (k ∷ dedup_from string_eq x xs)) (string_eq_equiv.symm x k ∙ distinct.0.0)
    ∙ ap (λ l. k ∷ l) (unrepeated x xs distinct.1)

same_dedup : {A : Type 0} (xs : List (String A)) → IsDistinct string_eq xs → dedup string_eq xs ≡ xs
same_dedup [] distinct = refl
same_dedup (x ∷ xs) distinct = unrepeated x xs distinct

tied_texts : {A : Type 0} (x y : String A) → string_eq x y ≡ eq_by_cmp string_cmp x y
tied_texts x y = sym (is_eq-slice_cmp (string_bytes x) (string_bytes y))

-- texts that are sorted and distinct rise strictly
pub rising : {A : Type 0} (xs : List (String A)) → IsSorted string_cmp xs → IsDistinct string_eq xs → IsStrictlySortedBy string_cmp xs
rising xs sorted distinct = subst (IsStrictlySortedBy string_cmp) (same_dedup xs distinct) (IsStrictlySortedBy-dedup string_cmp_total tied_texts xs sorted)

-- ---- entries under texts that rise are sorted

abbrev keys_of : {A V : Type 0} → List (String A × V) → List (String A)
keys_of es = map (λ e. e.0) es

module _ {A V X : Type 0} (f : V → X) where
  below_pairs : (k : String A) (es : List (String A × V)) → AllByRecursion (λ y. string_cmp k y ≡ Less) (keys_of es)
      → below_all (slice_cmp nat_cmp) (string_bytes k) (map (λ e. (string_bytes e.0, f e.1)) es) ≡ true
  below_pairs k [] below = refl
  below_pairs k (e ∷ es) below =
      ap (λ r. is_lt r && below_all (slice_cmp nat_cmp) (string_bytes k) (map (λ e. (string_bytes e.0, f e.1)) es)) below.0 ∙ below_pairs k es below.1

  -- entries whose texts rise are sorted by the bytes of these, whatever is made of their values
  pub sorted_pairs : (es : List (String A × V)) → IsStrictlySortedBy string_cmp (keys_of es)
      → is_sorted (slice_cmp nat_cmp) (map (λ e. (string_bytes e.0, f e.1)) es) ≡ true
  unfolding IsStrictlySortedBy
  sorted_pairs [] rise = refl
  sorted_pairs (e ∷ es) rise =
      ap (λ b. b && is_sorted (slice_cmp nat_cmp) (map (λ e. (string_bytes e.0, f e.1)) es)) (below_pairs e.0 es rise.0) ∙ sorted_pairs es rise.1

-- ---- needs in byte order

-- the needs that entries keep as texts, in the order of the entries
abbrev pub needs_in : {A : Type 0} → List (String A × LockMode) → List Need
needs_in [] = []
needs_in (e ∷ es) = record { name = string_bytes e.0; mode = e.1 } ∷ needs_in es

of_pairs : {A : Type 0} (es : List (String A × LockMode))
    → needs_in es ≡ map need_of (map (λ e. (string_bytes e.0, e.1)) es)
of_pairs [] = refl
of_pairs (e ∷ es) = ap (λ l. record { name = string_bytes e.0; mode = e.1 } ∷ l) (of_pairs es)

-- the entries of a table in some order, with distinct names that rise, are its needs
pub needs-sorted : {A : Type 0} (es fs : List (String A × LockMode)) → IsPermutation es fs → IsDistinct string_eq (keys_of fs)
    → IsSorted string_cmp (keys_of fs)
    → needs_in fs ≡ needs_of (names_of_entries es)
needs-sorted es fs moves distinct sorted =
    of_pairs fs ∙ ap (map need_of) (sym (fin.entries-from_sorted (slice_cmp nat_cmp) pairs in_order)) ∙ ap needs_of same
  where
    pairs : List (List ℕ × LockMode)
    pairs = map (λ e. (string_bytes e.0, e.1)) fs

    in_order : T (is_sorted (slice_cmp nat_cmp) pairs)
    in_order = subst T (sym (sorted_pairs (λ m. m) fs (rising (keys_of fs) sorted distinct))) tt

    same : fin.from_sorted pairs ≡ names_of_entries es
    same = fin.same_map nat_list_cmp_total (slice_cmp-IsAntisymmetric nat_cmp-IsAntisymmetric) _ _
        (λ q. fin.get-from_sorted (slice_cmp nat_cmp) pairs q in_order ∙ find-texts q fs
        ∙ lookup_permutation string_eq_equiv es fs moves distinct (λ k. bytes_eq q (string_bytes k))
        (λ x y. nat_list_eq_equiv.congr q (string_bytes x) (string_bytes y))
        ∙ sym (get-names es q))
