-- What the entries of a table say of the finite map that they stand for.
use Rattle.std.proofs.Common.{◌≡◌, ℕ, List, [], ◌∷◌, Some, None, refl, sym, ◌∙◌, cond, map, string_bytes, nat_eq}
use Rattle.std.specs.Ordering.{nat_cmp, eq_by_cmp}
use Rattle.std.specs.Cmp.{nat_cmp_total, unsigned_tied, eq_by_cmp_equiv}
use Rattle.std.specs.Cmp.Lexicographic.{slice_cmp}
use Rattle.std.specs.Str.{bytes_eq}
use Rattle.std.specs.String.{string_eq}
use Rattle.std.specs.declared.string.String.{String}
use Rattle.std.specs.FinMap as fin
use Rattle.std.specs.FinMap.{find, nat_cmp-IsAntisymmetric, slice_cmp-IsAntisymmetric}
use Rattle.std.specs.Map.{lookup}
use Rattle.std.proofs.lemmas.Cmp.{nat_list_cmp_total}
use Rattle.std.proofs.lemmas.Map.Text.{is_eq-slice_cmp, hash_map_updates_text}
use Rattle.indexmap.specs.IndexMap.{IndexMap, Updates}
use Rattle.xq_ast.specs.declared.need.LockMode.{LockMode}
use Rattle.doc_locks.specs.Names.{names_of_entries}

-- entries found by the order of names are those looked up by equal bytes
pub find-texts : {A X : Type 0} (q : List ℕ) (es : List (String A × X))
    → find (slice_cmp nat_cmp) q (map (λ e. (string_bytes e.0, e.1)) es) ≡ lookup (λ k. bytes_eq q (string_bytes k)) es
find-texts q [] = refl
find-texts q (e ∷ es) = (λ i. cond (is_eq-slice_cmp q (string_bytes e.0) i) (Some e.1) (find-texts q es i))

-- what names have at a name
pub get-names : {A : Type 0} (es : List (String A × LockMode)) (q : List ℕ)
    → fin.get (names_of_entries es) q ≡ lookup (λ k. bytes_eq q (string_bytes k)) es
get-names es q = fin.get-from_entries nat_list_cmp_total (map (λ e. (string_bytes e.0, e.1)) es) q ∙ find-texts q es

-- a name is put in
pub names-insert : {A S : Type 0} (m n : IndexMap (String A) LockMode S) (k : String A) (v : LockMode)
    → Updates string_eq m n k (Some v) → names_of_entries n.entries ≡ fin.insert (names_of_entries m.entries) (string_bytes k) v
names-insert m n k v u = fin.same_map nat_list_cmp_total (slice_cmp-IsAntisymmetric nat_cmp-IsAntisymmetric) _ _
    (λ q. get-names n.entries q ∙ hash_map_updates_text (string_bytes k) m n (Some v) u q
    ∙ (λ i. cond (back (string_bytes k) q i) (Some v) (sym (get-names m.entries q) i))
    ∙ sym (fin.get-insert nat_list_cmp_total (names_of_entries m.entries) (string_bytes k) v q))
  where
    back : (a b : List ℕ) → bytes_eq a b ≡ eq_by_cmp (slice_cmp nat_cmp) b a
    back a b = sym (is_eq-slice_cmp a b) ∙ (eq_by_cmp_equiv nat_list_cmp_total).symm a b

module _ {X : Type 0} where
  find-numbers : (q : ℕ) (es : List (ℕ × X)) → find nat_cmp q es ≡ lookup (nat_eq q) es
  find-numbers q [] = refl
  find-numbers q (e ∷ es) = (λ i. cond (unsigned_tied q e.0 i) (Some e.1) (find-numbers q es i))

  -- the finite map of a table under numbers
  abbrev pub map_of : List (ℕ × X) → fin.FinMap nat_cmp X
  map_of es = fin.from_entries es

  -- what it has at a number
  pub get-map_of : (es : List (ℕ × X)) (q : ℕ) → fin.get (map_of es) q ≡ lookup (nat_eq q) es
  get-map_of es q = fin.get-from_entries nat_cmp_total es q ∙ find-numbers q es

  -- a value is put in
  pub map_of-insert : {S : Type 0} (m n : IndexMap ℕ X S) (k : ℕ) (v : X) → Updates nat_eq m n k (Some v) → map_of n.entries ≡ fin.insert (map_of m.entries) k v
  map_of-insert m n k v u = fin.same_map nat_cmp_total nat_cmp-IsAntisymmetric _ _
      (λ q. get-map_of n.entries q ∙ u.0 q
      ∙ (λ i. cond (back k q i) (Some v) (sym (get-map_of m.entries q) i))
      ∙ sym (fin.get-insert nat_cmp_total (map_of m.entries) k v q))
    where
      back : (a b : ℕ) → nat_eq a b ≡ eq_by_cmp nat_cmp b a
      back a b = sym (unsigned_tied a b) ∙ (eq_by_cmp_equiv nat_cmp_total).symm a b

  -- a value is taken out
  pub map_of-remove : {S : Type 0} (m n : IndexMap ℕ X S) (k : ℕ) → Updates nat_eq m n k None → map_of n.entries ≡ fin.remove (map_of m.entries) k
  map_of-remove m n k u = fin.same_map nat_cmp_total nat_cmp-IsAntisymmetric _ _
      (λ q. get-map_of n.entries q ∙ u.0 q
      ∙ (λ i. cond (back k q i) None (sym (get-map_of m.entries q) i))
      ∙ sym (fin.get-remove nat_cmp_total (map_of m.entries) k q))
    where
      back : (a b : ℕ) → nat_eq a b ≡ eq_by_cmp nat_cmp b a
      back a b = sym (unsigned_tied a b) ∙ (eq_by_cmp_equiv nat_cmp_total).symm a b
