-- What the entries of a table of changes say.
use Rattle.std.proofs.Common.{◌≡◌, ℕ, ◌+◌, slice_get, drop, drop-cons, add-one, Bool, true, false, true≢false, List, [], ◌∷◌, Option, None, Some, Result, Ok, Err, IsOk, OnOk, refl, sym, ap, ◌∙◌, cond, map as list_map, string_bytes}
use Rattle.std.specs.Ordering.{nat_cmp, eq_by_cmp}
use Rattle.std.specs.Cmp.{eq_by_cmp_equiv}
use Rattle.std.specs.Cmp.Lexicographic.{slice_cmp, nat_list_cmp_total}
use Rattle.std.specs.Str.{bytes_eq}
use Rattle.std.specs.String.{string_eq}
use Rattle.std.specs.declared.string.String.{String}
use Rattle.std.specs.declared.sync.Arc.{Arc}
use Rattle.std.specs.FinMap as map
use Rattle.std.specs.FinMap.{find, nat_cmp-IsAntisymmetric, slice_cmp-IsAntisymmetric}
use Rattle.std.specs.Map.{lookup}
use Rattle.std.proofs.lemmas.Option.{slice_get_within, get_or_from_slice_get}
use Rattle.std.proofs.lemmas.Map.Text.{is_eq-slice_cmp, hash_map_updates_text}
use Rattle.indexmap.specs.IndexMap.{IndexMap, Updates, UpdatesBy}
use Rattle.xml_model.specs.declared.node.Doc.{Doc}
use Rattle.xml_model.specs.Changes.{unshared, changes_of_entries}

-- the entries as names and documents
abbrev pub pairs_of : {A Z : Type 0} → List (String A × Option (Arc Doc Z)) → List (List ℕ × Option Doc)
pairs_of es = list_map (λ e. (string_bytes e.0, unshared e.1)) es

-- what a table has at a name, with the document itself in place of the shared pointer
abbrev pub entry_of : {Z : Type 0} → Option (Option (Arc Doc Z)) → Option (Option Doc)
entry_of None = None
entry_of (Some after) = Some (unshared after)

entry-cond : {Z : Type 0} (b : Bool) (x y : Option (Option (Arc Doc Z))) → entry_of (cond b x y) ≡ cond b (entry_of x) (entry_of y)
entry-cond true x y = refl
entry-cond false x y = refl

-- entries found by the order of names are those looked up by equal bytes
pub find-texts : {A Z : Type 0} (q : List ℕ) (es : List (String A × Option (Arc Doc Z)))
    → find (slice_cmp nat_cmp) q (list_map (λ e. (string_bytes e.0, unshared e.1)) es) ≡ entry_of (lookup (λ k. bytes_eq q (string_bytes k)) es)
find-texts q [] = refl
find-texts q (e ∷ es) = (λ i. cond (is_eq-slice_cmp q (string_bytes e.0) i) (Some (unshared e.1)) (find-texts q es i))
    ∙ sym (entry-cond (bytes_eq q (string_bytes e.0)) (Some e.1) (lookup (λ k. bytes_eq q (string_bytes k)) es))

back : (a b : List ℕ) → bytes_eq a b ≡ eq_by_cmp (slice_cmp nat_cmp) b a
back a b = sym (is_eq-slice_cmp a b) ∙ (eq_by_cmp_equiv nat_list_cmp_total).symm a b

-- what the changes have at a name
pub get-entries : {A Z : Type 0} (es : List (String A × Option (Arc Doc Z))) (q : List ℕ)
    → map.get (changes_of_entries es) q ≡ entry_of (lookup (λ k. bytes_eq q (string_bytes k)) es)
get-entries es q = map.get-from_entries nat_list_cmp_total (list_map (λ e. (string_bytes e.0, unshared e.1)) es) q ∙ find-texts q es

-- one change more
pub entries-insert : {A S Z : Type 0} (m n : IndexMap (String A) (Option (Arc Doc Z)) S) (k : String A) (after : Option (Arc Doc Z))
    → Updates string_eq m n k (Some after) → changes_of_entries n.entries ≡ map.insert (changes_of_entries m.entries) (string_bytes k) (unshared after)
entries-insert m n k after u = map.same_map nat_list_cmp_total (slice_cmp-IsAntisymmetric nat_cmp-IsAntisymmetric) _ _
    (λ q. get-entries n.entries q ∙ ap entry_of (hash_map_updates_text (string_bytes k) m n (Some after) u q)
    ∙ entry-cond (bytes_eq (string_bytes k) q) (Some after) (lookup (λ x. bytes_eq q (string_bytes x)) m.entries)
    ∙ (λ i. cond (back (string_bytes k) q i) (Some (unshared after)) (sym (get-entries m.entries q) i))
    ∙ sym (map.get-insert nat_list_cmp_total (changes_of_entries m.entries) (string_bytes k) (unshared after) q))

-- a name is taken out
pub entries-remove : {A S Z : Type 0} (m n : IndexMap (String A) (Option (Arc Doc Z)) S) (name : List ℕ)
    → UpdatesBy string_eq (λ k. bytes_eq name (string_bytes k)) m n None → changes_of_entries n.entries ≡ map.remove (changes_of_entries m.entries) name
entries-remove m n name u = map.same_map nat_list_cmp_total (slice_cmp-IsAntisymmetric nat_cmp-IsAntisymmetric) _ _
    (λ q. get-entries n.entries q ∙ ap entry_of (hash_map_updates_text name m n None u q)
    ∙ entry-cond (bytes_eq name q) None (lookup (λ x. bytes_eq q (string_bytes x)) m.entries)
    ∙ (λ i. cond (back name q i) None (sym (get-entries m.entries q) i))
    ∙ sym (map.get-remove nat_list_cmp_total (changes_of_entries m.entries) name q))

-- a place in a list that has an item
pub drop-at : {X : Type 0} (xs : List X) (i : ℕ) (x : X) → slice_get xs i ≡ Some x → drop i xs ≡ x ∷ drop (i + 1) xs
drop-at xs i x is =
    let within = slice_get_within xs i x is in
    drop-cons xs i x within ∙ (λ j. get_or_from_slice_get xs i x x is j ∷ drop (sym (add-one i) j) xs)

-- what is stated of a good result holds, where the result is good
pub on_ok : {T E P : Type 0} (r : Result T E) → IsOk r → OnOk r P → P
on_ok (Ok x) is fact = fact
on_ok (Err e) is fact = absurd (true≢false (sym is))
