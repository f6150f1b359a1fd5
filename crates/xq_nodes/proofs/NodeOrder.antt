-- Document order of nodes is a total order.
use Rattle.std.proofs.Common.{◌≡◌, ℕ, List, [], ◌∷◌, refl, ap, subst}
use Rattle.std.specs.Cmp.{IsTotalOrder, nat_cmp_total, on_total, then_total}
use Rattle.std.specs.Cmp.Lexicographic.{slice_cmp}
use Rattle.std.proofs.lemmas.Cmp.{lists_total, nat_list_cmp_total}
use Rattle.std.specs.Ordering.{nat_cmp, ordering_then, on, then_cmp}
use Rattle.std.specs.declared.cmp.Ordering.{Ordering}
use Rattle.std.specs.declared.cmp.Ordering.TheVariants.{Less, Equal, Greater}
use Rattle.xml_model.specs.declared.place.PlaceStep.{PlaceStep}
use Rattle.xml_model.specs.declared.place.PlaceStep.TheVariants as steps
use Rattle.xml_model.specs.Place.{step_cmp, place_cmp}
use Rattle.xml_model.specs.Items.{Tree, stored, constructed, NodeAt}
use Rattle.xml_model.specs.Nodes.{tree_cmp, node_cmp}

-- ---- steps and places

-- attributes first
abbrev sort_of_step : PlaceStep → ℕ
sort_of_step (steps.Attr i) = 0
sort_of_step (steps.Kid i) = 1

abbrev number_of_step : PlaceStep → ℕ
number_of_step (steps.Attr i) = i
number_of_step (steps.Kid i) = i

abbrev by_step : PlaceStep → PlaceStep → Ordering
by_step = then_cmp (on sort_of_step nat_cmp) (on number_of_step nat_cmp)

by_step_is : (s t : PlaceStep) → by_step s t ≡ step_cmp s t
by_step_is (steps.Attr i) (steps.Attr j) = refl
by_step_is (steps.Attr i) (steps.Kid j) = refl
by_step_is (steps.Kid i) (steps.Attr j) = refl
by_step_is (steps.Kid i) (steps.Kid j) = refl

pub step_total : IsTotalOrder step_cmp
step_total = subst IsTotalOrder (λ i s t. by_step_is s t i) (then_total (on_total sort_of_step nat_cmp_total) (on_total number_of_step nat_cmp_total))

by_steps_is : (p q : List PlaceStep) → slice_cmp step_cmp p q ≡ place_cmp p q
by_steps_is [] [] = refl
by_steps_is [] (t ∷ q) = refl
by_steps_is (s ∷ p) [] = refl
by_steps_is (s ∷ p) (t ∷ q) = ap (ordering_then (step_cmp s t)) (by_steps_is p q)

pub place_total : IsTotalOrder place_cmp
place_total = subst IsTotalOrder (λ i p q. by_steps_is p q i) (lists_total step_total)

-- ---- trees and nodes

-- stored documents first
abbrev sort_of_tree : Tree → ℕ
sort_of_tree (stored name) = 0
sort_of_tree (constructed n) = 1

abbrev name_of_tree : Tree → List ℕ
name_of_tree (stored name) = name
name_of_tree (constructed n) = []

abbrev number_of_tree : Tree → ℕ
number_of_tree (stored name) = 0
number_of_tree (constructed n) = n

abbrev by_tree : Tree → Tree → Ordering
by_tree = then_cmp (on sort_of_tree nat_cmp) (then_cmp (on name_of_tree (slice_cmp nat_cmp)) (on number_of_tree nat_cmp))

then_nothing : (o : Ordering) → ordering_then o Equal ≡ o
then_nothing Less = refl
then_nothing Equal = refl
then_nothing Greater = refl

by_tree_is : (s t : Tree) → by_tree s t ≡ tree_cmp s t
by_tree_is (stored a) (stored b) = then_nothing (slice_cmp nat_cmp a b)
by_tree_is (stored a) (constructed n) = refl
by_tree_is (constructed n) (stored b) = refl
by_tree_is (constructed n) (constructed m) = refl

pub tree_total : IsTotalOrder tree_cmp
tree_total =
    subst IsTotalOrder (λ i s t. by_tree_is s t i)
    (then_total (on_total sort_of_tree nat_cmp_total) (then_total (on_total name_of_tree nat_list_cmp_total) (on_total number_of_tree nat_cmp_total)))

pub node_total : IsTotalOrder node_cmp
node_total = then_total (on_total (λ (n : NodeAt). n.tree) tree_total) (on_total (λ (n : NodeAt). n.place) place_total)
