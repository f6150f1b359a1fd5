-- Trees are made of a forest's documents one after another.
use Rattle.std.proofs.Common.{◌≡◌, ℕ, zero, suc, ◌+◌, ◌<◌, Bool, true, false, ◌||◌, List, [], ◌∷◌, ◌++◌, map, drop, length, get_or, refl, sym, ap, subst, ◌∙◌, append_assoc, add-one, arith}
use Rattle.std.specs.Prelude.{is_some}
use Rattle.std.specs.Cmp.Lexicographic.{slice_cmp}
use Rattle.std.specs.FinMap as fin_map
use Rattle.std.specs.List.{list_any}
use Rattle.std.specs.Ordering.{nat_cmp, eq_by_cmp, is_eq}
use Rattle.std.proofs.Math.Seq.{drop-cons}
use Rattle.std.proofs.lemmas.Cmp.{nat_list_cmp_total, tied_itself}
use Rattle.std.proofs.lemmas.List.{map-append}
use Rattle.xml_model.specs.declared.tree_nav.Tree.{Tree}
use Rattle.xml_model.specs.Forest.{Forest}
use Rattle.xml_model.specs.TreeNodes.{IsTreeOf, AreTreesOf}

are_more : (F : Forest) (trees : List Tree) (tree : Tree) → AreTreesOf F trees → IsTreeOf F tree → AreTreesOf F (trees ++ tree ∷ [])
are_more F [] tree are is = (is, tt)
are_more F (t ∷ trees) tree are is = (are.0, are_more F trees tree are.1 is)

-- one more
pub tree_added : (F : Forest) (old trees : List Tree) (tree : Tree) (names : List (List ℕ)) (i : ℕ) (name : List ℕ)
    → map (λ tree. tree.name) old ++ drop i names ≡ names → AreTreesOf F old → i < length names → name ≡ get_or names i name
    → trees ≡ old ++ tree ∷ [] → tree.name ≡ name → IsTreeOf F tree
    → (map (λ tree. tree.name) trees ++ drop (i + 1) names ≡ names) × AreTreesOf F trees
tree_added F old trees tree names i name e are less is more named stands = (
  ap (λ trees. map (λ tree. tree.name) trees ++ drop (i + 1) names) more
      ∙ (ap (λ all. all ++ drop (i + 1) names) (map-append (λ tree. tree.name) old (tree ∷ []))
      ∙ (append_assoc (map (λ tree. tree.name) old) (tree.name ∷ []) (drop (i + 1) names)
      ∙ (ap (λ n. map (λ tree. tree.name) old ++ n ∷ drop (i + 1) names) (named ∙ is)
      ∙ (ap (λ rest. map (λ tree. tree.name) old ++ rest) (sym (next less)) ∙ e)))),
  subst (AreTreesOf F) (sym more) (are_more F old tree are stands),
)
  where
    next : i < length names → drop i names ≡ get_or names i name ∷ drop (i + 1) names
    next less = rw (add-one, drop-cons names i name)

-- a name of the forest has a document
among : (name : List ℕ) (names : List (List ℕ)) (i : ℕ) → i < length names → name ≡ get_or names i name → list_any (eq_by_cmp (slice_cmp nat_cmp) name) names ≡ true
among name [] i less e = absurd (omega arith)
among name (x ∷ names) zero less e =
    ap (λ r. is_eq r || list_any (eq_by_cmp (slice_cmp nat_cmp) name) names) (ap (slice_cmp nat_cmp name) (sym e) ∙ tied_itself nat_list_cmp_total name)
among name (x ∷ names) (suc i) less e = go (eq_by_cmp (slice_cmp nat_cmp) name x) (among name names i (omega arith) e)
  where
    go : (b : Bool) → list_any (eq_by_cmp (slice_cmp nat_cmp) name) names ≡ true → (b || list_any (eq_by_cmp (slice_cmp nat_cmp) name) names) ≡ true
    go true h = refl
    go false h = h

pub name_has_document : (F : Forest) (names : List (List ℕ)) (i : ℕ) (name : List ℕ) → names ≡ fin_map.keys F → i < length names → name ≡ get_or names i name
    → is_some (fin_map.get F name) ≡ true
name_has_document F names i name e less is =
    fin_map.contains_key-keys F name ∙ (ap (list_any (eq_by_cmp (slice_cmp nat_cmp) name)) (sym e) ∙ among name names i less is)
