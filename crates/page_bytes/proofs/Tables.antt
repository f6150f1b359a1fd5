-- What the entries of a tree say of the finite map that they stand for.
use Rattle.std.proofs.Common.{◌≡◌, Bool, true, List, [], ◌∷◌, Some, None, refl, sym, ap, ◌∙◌, cond}
use Rattle.std.specs.Ordering.{eq_by_cmp, is_eq}
use Rattle.std.specs.declared.cmp.Ordering.{Ordering}
use Rattle.std.specs.declared.cmp.Ordering.TheVariants.{Less, Equal, Greater}
use Rattle.std.specs.List.{filter}
use Rattle.std.specs.Cmp.{IsTotalOrder, eq_by_cmp_equiv}
use Rattle.std.specs.FinMap as map
use Rattle.std.specs.FinMap.{FinMap, find, IsAntisymmetric}
use Rattle.std.specs.Map.{lookup}
use Rattle.std.specs.BTreeMap as tree
use Rattle.std.specs.BTreeMap.{BTreeMap, is_at, Updates}
use Rattle.std.proofs.lemmas.Map.Entries.{lookup-filter-keys}

-- the two look-ups in a list of entries are one
pub find-lookup : {K X : Type 0} (R : K → K → Ordering) (q : K) (es : List (K × X)) → find R q es ≡ lookup (is_at (R q)) es
find-lookup R q [] = refl
find-lookup R q (e ∷ es) = ap (cond (eq_by_cmp R q e.0) (Some e.1)) (find-lookup R q es)

-- an answer that passes the test is `Equal`
equal : (o : Ordering) → is_eq o ≡ true → o ≡ Equal
equal Less t = cc
equal Equal t = refl
equal Greater t = cc

-- the finite map of a tree
abbrev pub map_of : {K V : Type 0} {R : K → K → Ordering} → BTreeMap K V → FinMap R V
map_of m = map.from_entries m.entries

module _ {K V : Type 0} {R : K → K → Ordering} (o : IsTotalOrder R) where
  -- it has at each key what the tree has
  pub get-map_of : (m : BTreeMap K V) (q : K) → map.get (map_of {R = R} m) q ≡ tree.get R m q
  get-map_of m q = map.get-from_entries o m.entries q ∙ find-lookup R q m.entries

  module _ (exact : IsAntisymmetric R) where
    -- an insertion into the tree is one into the map
    pub map_of-insert : (m n : BTreeMap K V) (k : K) (v : V) → Updates R m n k (Some v) → map_of {R = R} n ≡ map.insert (map_of m) k v
    map_of-insert m n k v u = map.same_map o exact _ _
        (λ q. get-map_of n q ∙ u.0 q ∙ ap (λ b. cond b (Some v) (tree.get R m q)) ((eq_by_cmp_equiv o).symm k q)
        ∙ ap (cond (eq_by_cmp R q k) (Some v)) (sym (get-map_of m q)) ∙ sym (map.get-insert o (map_of m) k v q))

    -- and so is a removal
    pub map_of-remove : (m n : BTreeMap K V) (k : K) → Updates R m n k None → map_of {R = R} n ≡ map.remove (map_of m) k
    map_of-remove m n k u = map.same_map o exact _ _
        (λ q. get-map_of n q ∙ u.0 q ∙ ap (λ b. cond b None (tree.get R m q)) ((eq_by_cmp_equiv o).symm k q)
        ∙ ap (cond (eq_by_cmp R q k) None) (sym (get-map_of m q)) ∙ sym (map.get-remove o (map_of m) k q))

    -- to keep the entries whose keys pass a test is to keep those keys of the map
    pub map_of-filter : (m n : BTreeMap K V) (p : K → Bool) → n.entries ≡ filter (λ e. p e.0) m.entries → map_of {R = R} n ≡ map.retain_keys (map_of m) p
    map_of-filter m n p is = map.same_map o exact _ _
        (λ q. get-map_of n q ∙ ap (lookup (is_at (R q))) is
        ∙ lookup-filter-keys (is_at (R q)) p (p q) (λ k t. ap p (sym (exact q k (equal _ t)))) m.entries
        ∙ ap (λ x. cond (p q) x None) (sym (get-map_of m q)) ∙ sym (map.get-retain_keys (map_of m) p q (λ x t. ap p (sym (exact q x t)))))
