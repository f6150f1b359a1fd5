-- The names of a forest, as the sorted names of a table of changes that have a document.
use Rattle.std.specs.Prelude.{T}
use Rattle.std.proofs.Common.{◌≡◌, ℕ, Bool, true, false, true≢false, ◌&&◌, List, [], ◌∷◌, Option, None, Some, is_some, refl, sym, ap, subst, ◌∙◌, cond, map as list_map, string_bytes}
use Rattle.std.specs.Ordering.{nat_cmp, eq_by_cmp, is_lt, is_eq}
use Rattle.std.specs.Cmp.Lexicographic.{slice_cmp, nat_list_eq_equiv}
use Rattle.std.specs.declared.cmp.Ordering.{Ordering}
use Rattle.std.specs.declared.cmp.Ordering.TheVariants.{Less, Equal, Greater}
use Rattle.std.specs.List.{IsDistinct}
use Rattle.std.specs.List.Sorted.{IsPermutation, IsSorted}
use Rattle.std.specs.Str.{bytes_eq}
use Rattle.std.specs.String.{string_eq, string_cmp, string_eq_equiv}
use Rattle.std.specs.declared.string.String.{String}
use Rattle.std.specs.declared.sync.Arc.{Arc}
use Rattle.std.specs.FinMap as forests
use Rattle.std.specs.FinMap.{find, is_sorted, nat_cmp-IsAntisymmetric, slice_cmp-IsAntisymmetric}
use Rattle.std.specs.FinMap.Entries.{below_all}
use Rattle.indexmap.proofs.MapLemmas.{lookup_permutation}
use Rattle.xml_model.specs.declared.node.Doc.{Doc}
use Rattle.xml_model.specs.Forest.{no_documents}
use Rattle.xml_model.specs.Changes.{laid_over, unshared, changes_of_entries}
use Rattle.doc_locks.proofs.Sorting.{rising, sorted_pairs}
use Rattle.xml_model.proofs.Entries.{pairs_of, entry_of, find-texts, get-entries}
use Rattle.xml_model.proofs.Laying.{seen_as, seen-cond, same_forest, get-laid-nothing}

-- ---- the entries that have a document

-- the names of the entries that have a document, in the order of the entries
abbrev pub names_in : {A Z : Type 0} → List (String A × Option (Arc Doc Z)) → List (List ℕ)
names_in [] = []
names_in (e ∷ es) = cond (is_some e.1) (string_bytes e.0 ∷ names_in es) (names_in es)

abbrev keys_of : {A Z : Type 0} → List (String A × Option (Arc Doc Z)) → List (String A)
keys_of es = list_map (λ e. e.0) es

abbrev with_kept : List ℕ → Option Doc → List (List ℕ × Doc) → List (List ℕ × Doc)
with_kept name None ds = ds
with_kept name (Some doc) ds = (name, doc) ∷ ds

abbrev kept : List (List ℕ × Option Doc) → List (List ℕ × Doc)
kept [] = []
kept (e ∷ es) = with_kept e.0 e.1 (kept es)

name-kept : {Z : Type 0} (name : List ℕ) (o : Option (Arc Doc Z)) (ds : List (List ℕ × Doc))
    → list_map (λ d. d.0) (with_kept name (unshared o) ds) ≡ cond (is_some o) (name ∷ list_map (λ d. d.0) ds) (list_map (λ d. d.0) ds)
name-kept name None ds = refl
name-kept name (Some shared) ds = refl

names-kept : {A Z : Type 0} (es : List (String A × Option (Arc Doc Z))) → list_map (λ d. d.0) (kept (pairs_of es)) ≡ names_in es
names-kept [] = refl
names-kept (e ∷ es) = name-kept (string_bytes e.0) e.1 (kept (pairs_of es)) ∙ ap (λ l. cond (is_some e.1) (string_bytes e.0 ∷ l) l) (names-kept es)

-- ---- names that rise

both : (a b : Bool) → (a && b) ≡ true → (a ≡ true) × (b ≡ true)
both true b e = (refl, e)
both false b e = absurd (true≢false (sym e))

not_tied : (r : Ordering) → is_lt r ≡ true → is_eq r ≡ false
not_tied Less e = refl
not_tied Equal e = absurd (true≢false (sym e))
not_tied Greater e = refl

tied : (r : Ordering) → is_eq r ≡ true → r ≡ Equal
tied Less e = absurd (true≢false (sym e))
tied Equal e = refl
tied Greater e = absurd (true≢false (sym e))

below-with : (k name : List ℕ) (o : Option Doc) (ds : List (List ℕ × Doc)) → is_lt (slice_cmp nat_cmp k name) ≡ true → below_all (slice_cmp nat_cmp) k ds ≡ true
    → below_all (slice_cmp nat_cmp) k (with_kept name o ds) ≡ true
below-with k name None ds below rest = rest
below-with k name (Some doc) ds below rest = ap (λ b. b && below_all (slice_cmp nat_cmp) k ds) below ∙ rest

below-kept : (k : List ℕ) (es : List (List ℕ × Option Doc)) → below_all (slice_cmp nat_cmp) k es ≡ true → below_all (slice_cmp nat_cmp) k (kept es) ≡ true
below-kept k [] below = refl
below-kept k (e ∷ es) below =
    let parts = both (is_lt (slice_cmp nat_cmp k e.0)) (below_all (slice_cmp nat_cmp) k es) below in
    below-with k e.0 e.1 (kept es) parts.0 (below-kept k es parts.1)

sorted-with : (name : List ℕ) (o : Option Doc) (ds : List (List ℕ × Doc)) → below_all (slice_cmp nat_cmp) name ds ≡ true
    → is_sorted (slice_cmp nat_cmp) ds ≡ true
    → is_sorted (slice_cmp nat_cmp) (with_kept name o ds) ≡ true
sorted-with name None ds below rest = rest
sorted-with name (Some doc) ds below rest = ap (λ b. b && is_sorted (slice_cmp nat_cmp) ds) below ∙ rest

sorted-kept : (es : List (List ℕ × Option Doc)) → is_sorted (slice_cmp nat_cmp) es ≡ true → is_sorted (slice_cmp nat_cmp) (kept es) ≡ true
sorted-kept [] rise = refl
sorted-kept (e ∷ es) rise =
    let parts = both (below_all (slice_cmp nat_cmp) e.0 es) (is_sorted (slice_cmp nat_cmp) es) rise in
    sorted-with e.0 e.1 (kept es) (below-kept e.0 es parts.0) (sorted-kept es parts.1)

-- a name below all others is not among them
missing : (q : List ℕ) (es : List (List ℕ × Option Doc)) → below_all (slice_cmp nat_cmp) q es ≡ true → find (slice_cmp nat_cmp) q es ≡ None
missing q [] below = refl
missing q (e ∷ es) below =
    let parts = both (is_lt (slice_cmp nat_cmp q e.0)) (below_all (slice_cmp nat_cmp) q es) below in
    ap (λ b. cond b (Some e.1) (find (slice_cmp nat_cmp) q es)) (not_tied (slice_cmp nat_cmp q e.0) parts.0) ∙ missing q es parts.1

-- ---- what is found among them

find-none : (b : Bool) (found : Option Doc) (rest : Option (Option Doc)) → (b ≡ true → rest ≡ None) → found ≡ seen_as rest None
    → found ≡ seen_as (cond b (Some None) rest) None
find-none true found rest apart is = is ∙ ap (λ o. seen_as o None) (apart refl)
find-none false found rest apart is = is

find-with : (q name : List ℕ) (o : Option Doc) (ds : List (List ℕ × Doc)) (rest : Option (Option Doc))
    → (eq_by_cmp (slice_cmp nat_cmp) q name ≡ true → rest ≡ None)
    → find (slice_cmp nat_cmp) q ds ≡ seen_as rest None
    → find (slice_cmp nat_cmp) q (with_kept name o ds) ≡ seen_as (cond (eq_by_cmp (slice_cmp nat_cmp) q name) (Some o) rest) None
find-with q name None ds rest apart is = find-none (eq_by_cmp (slice_cmp nat_cmp) q name) (find (slice_cmp nat_cmp) q ds) rest apart is
find-with q name (Some doc) ds rest apart is =
    ap (cond (eq_by_cmp (slice_cmp nat_cmp) q name) (Some doc)) is ∙ sym (seen-cond (eq_by_cmp (slice_cmp nat_cmp) q name) (Some (Some doc)) rest None)

find-kept : (q : List ℕ) (es : List (List ℕ × Option Doc)) → is_sorted (slice_cmp nat_cmp) es ≡ true
    → find (slice_cmp nat_cmp) q (kept es) ≡ seen_as (find (slice_cmp nat_cmp) q es) None
find-kept q [] rise = refl
find-kept q (e ∷ es) rise =
    let parts = both (below_all (slice_cmp nat_cmp) e.0 es) (is_sorted (slice_cmp nat_cmp) es) rise in
    find-with q e.0 e.1 (kept es) (find (slice_cmp nat_cmp) q es)
    (λ same. subst (λ z. find (slice_cmp nat_cmp) z es ≡ None)
    (sym (slice_cmp-IsAntisymmetric nat_cmp-IsAntisymmetric q e.0 (tied (slice_cmp nat_cmp q e.0) same))) (missing e.0 es parts.0))
    (find-kept q es parts.1)

-- the entries of a table in some order, with distinct names that rise: those that have a document are the names of the forest
pub names-sorted : {A Z : Type 0} (es fs : List (String A × Option (Arc Doc Z))) → IsPermutation es fs → IsDistinct string_eq (keys_of fs)
    → IsSorted string_cmp (keys_of fs)
    → names_in fs ≡ forests.keys (laid_over (changes_of_entries es) no_documents)
names-sorted es fs moves distinct sorted =
    sym (names-kept fs) ∙ ap (list_map (λ p. p.0)) (sym (forests.entries-from_sorted (slice_cmp nat_cmp) (kept (pairs_of fs)) in_order)) ∙ ap forests.keys same
  where
    rise : is_sorted (slice_cmp nat_cmp) (pairs_of fs) ≡ true
    rise = sorted_pairs unshared fs (rising (keys_of fs) sorted distinct)

    in_order : T (is_sorted (slice_cmp nat_cmp) (kept (pairs_of fs)))
    in_order = subst T (sym (sorted-kept (pairs_of fs) rise)) tt

    same : forests.from_sorted (kept (pairs_of fs)) ≡ laid_over (changes_of_entries es) no_documents
    same = same_forest _ _
        (λ q. forests.get-from_sorted (slice_cmp nat_cmp) (kept (pairs_of fs)) q in_order ∙ find-kept q (pairs_of fs) rise
        ∙ ap (λ o. seen_as o None) (find-texts q fs
        ∙ ap entry_of (lookup_permutation string_eq_equiv es fs moves distinct (λ k. bytes_eq q (string_bytes k))
        (λ x y. nat_list_eq_equiv.congr q (string_bytes x) (string_bytes y)))
        ∙ sym (get-entries es q))
        ∙ sym (get-laid-nothing (changes_of_entries es) q))
