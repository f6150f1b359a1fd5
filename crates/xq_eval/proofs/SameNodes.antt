-- Nodes that document order does not tell apart are the same node.
use Rattle.std.proofs.Common.{◌≡◌, ℕ, ◌<◌, List, [], ◌∷◌, refl, ap, subst, ◌∙◌}
use Rattle.std.specs.Cmp.{ranks}
use Rattle.std.specs.Cmp.Lexicographic.{slice_cmp}
use Rattle.std.specs.Ordering.{nat_cmp, ordering_then, MatchOrdering}
use Rattle.std.specs.declared.cmp.Ordering.{Ordering}
use Rattle.std.specs.declared.cmp.Ordering.TheVariants.{Less, Equal, Greater}
use Rattle.xml_model.specs.declared.place.PlaceStep.{PlaceStep}
use Rattle.xml_model.specs.declared.place.PlaceStep.TheVariants as steps
use Rattle.xml_model.specs.Place.{step_cmp, place_cmp}
use Rattle.xml_model.specs.Items.{Tree, stored, constructed, NodeAt}
use Rattle.xml_model.specs.Nodes.{tree_cmp, node_cmp}

-- where two comparisons one after another find no difference, neither does
both_equal : (r s : Ordering) → ordering_then r s ≡ Equal → (r ≡ Equal) × (s ≡ Equal)
both_equal Less s e = cc
both_equal Equal s e = (refl, e)
both_equal Greater s e = cc

same_number : (m n : ℕ) → nat_cmp m n ≡ Equal → m ≡ n
same_number m n e = subst (λ r. MatchOrdering r (m < n) (m ≡ n) (n < m)) e (ranks m n)

same_numbers : (xs ys : List ℕ) → slice_cmp nat_cmp xs ys ≡ Equal → xs ≡ ys
same_numbers [] [] e = refl
same_numbers [] (y ∷ ys) e = cc
same_numbers (x ∷ xs) [] e = cc
same_numbers (x ∷ xs) (y ∷ ys) e =
    let both = both_equal (nat_cmp x y) (slice_cmp nat_cmp xs ys) e in
    ap (λ z. z ∷ xs) (same_number x y both.0) ∙ ap (λ zs. y ∷ zs) (same_numbers xs ys both.1)

pub same_step : (s t : PlaceStep) → step_cmp s t ≡ Equal → s ≡ t
same_step (steps.Attr i) (steps.Attr j) e = ap steps.Attr (same_number i j e)
same_step (steps.Attr i) (steps.Kid j) e = cc
same_step (steps.Kid i) (steps.Attr j) e = cc
same_step (steps.Kid i) (steps.Kid j) e = ap steps.Kid (same_number i j e)

pub same_place : (p q : List PlaceStep) → place_cmp p q ≡ Equal → p ≡ q
same_place [] [] e = refl
same_place [] (t ∷ q) e = cc
same_place (s ∷ p) [] e = cc
same_place (s ∷ p) (t ∷ q) e =
    let both = both_equal (step_cmp s t) (place_cmp p q) e in
    ap (λ u. u ∷ p) (same_step s t both.0) ∙ ap (λ r. t ∷ r) (same_place p q both.1)

pub same_tree : (s t : Tree) → tree_cmp s t ≡ Equal → s ≡ t
same_tree (stored a) (stored b) e = ap stored (same_numbers a b e)
same_tree (stored a) (constructed n) e = cc
same_tree (constructed n) (stored b) e = cc
same_tree (constructed n) (constructed m) e = ap constructed (same_number n m e)

pub same_node : (a b : NodeAt) → node_cmp a b ≡ Equal → a ≡ b
same_node a b e =
    let both = both_equal (tree_cmp a.tree b.tree) (place_cmp a.place b.place) e in
    let moved : NodeAt = record { tree = b.tree; place = a.place } in
    let first : a ≡ moved = ap (λ t. let n : NodeAt = record { tree = t; place = a.place } in n) (same_tree a.tree b.tree both.0) in
    first ∙ ap (λ p. let n : NodeAt = record { tree = b.tree; place = p } in n) (same_place a.place b.place both.1)
