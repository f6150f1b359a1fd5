-- The order of places is total.
use Rattle.std.proofs.Common.{◌≡◌, ℕ, List, [], ◌∷◌, refl, ap, subst}
use Rattle.std.specs.Cmp.{IsTotalOrder, nat_cmp_total, on_total, then_total}
use Rattle.std.specs.Cmp.Lexicographic.{slice_cmp}
use Rattle.std.proofs.lemmas.Cmp.{lists_total}
use Rattle.std.specs.Ordering.{nat_cmp, ordering_then, on, then_cmp}
use Rattle.std.specs.declared.cmp.Ordering.{Ordering}
use Rattle.xml_model.specs.declared.place.PlaceStep.{PlaceStep}
use Rattle.xml_model.specs.declared.place.PlaceStep.TheVariants as steps
use Rattle.xml_model.specs.Place.{step_cmp, place_cmp}

-- attributes first
abbrev sort_of_step : PlaceStep → ℕ
sort_of_step (steps.Attr i) = 0
sort_of_step (steps.Kid i) = 1

abbrev number_of_step : PlaceStep → ℕ
number_of_step (steps.Attr i) = i
number_of_step (steps.Kid i) = i

abbrev by_step : PlaceStep → PlaceStep → Ordering
by_step = then_cmp (on sort_of_step nat_cmp) (on number_of_step nat_cmp)

by_step_is : (s t : PlaceStep) → by_step s t ≡ step_cmp s t
by_step_is (steps.Attr i) (steps.Attr j) = refl
by_step_is (steps.Attr i) (steps.Kid j) = refl
by_step_is (steps.Kid i) (steps.Attr j) = refl
by_step_is (steps.Kid i) (steps.Kid j) = refl

step_total : IsTotalOrder step_cmp
step_total = subst IsTotalOrder (λ i s t. by_step_is s t i) (then_total (on_total sort_of_step nat_cmp_total) (on_total number_of_step nat_cmp_total))

by_steps_is : (p q : List PlaceStep) → slice_cmp step_cmp p q ≡ place_cmp p q
by_steps_is [] [] = refl
by_steps_is [] (t ∷ q) = refl
by_steps_is (s ∷ p) [] = refl
by_steps_is (s ∷ p) (t ∷ q) = ap (ordering_then (step_cmp s t)) (by_steps_is p q)

-- one of two places comes first, or they are one
pub place_total : IsTotalOrder place_cmp
place_total = subst IsTotalOrder (λ i p q. by_steps_is p q i) (lists_total step_total)
