-- What stands at places.
use Rattle.std.proofs.Common.{◌≡◌, ℕ, zero, suc, ◌<◌, List, [], ◌∷◌, length, get_or, drop, drop-cons, Option, Some, None, refl, sym, ap, ◌∙◌}
use Rattle.std.specs.List.{slice_get}
use Rattle.std.specs.Option.{option_map}
use Rattle.xml_model.specs.declared.place.PlaceStep.{PlaceStep}
use Rattle.xml_model.specs.Place.{Placed, step_from, placed_from}
use Rattle.xq_values.specs.declared.item.MadeRoot.{MadeRoot}
use Rattle.xq_values.specs.Seen.{root_seen, made_seen}

-- no steps lead on from nothing
pub nowhere : (place : List PlaceStep) → placed_from place None ≡ None
nowhere [] = refl
nowhere (s ∷ place) = refl

-- where one step leads nowhere, all of them lead nowhere
pub stopped : (place : List PlaceStep) (i : ℕ) (d : PlaceStep) (at : Placed) (t : Option Placed) → i < length place → placed_from (drop i place) (Some at) ≡ t
    → None ≡ step_from at (get_or place i d) → None ≡ t
stopped place i d at t h same e =
    sym (nowhere (drop (suc i) place))
    ∙ (ap (placed_from (drop (suc i) place)) e ∙ (ap (λ p. placed_from p (Some at)) (sym (drop-cons place i d h)) ∙ same))

-- the root of a tree by its number
pub root_there : (made : List MadeRoot) (i : ℕ) → slice_get (made_seen made) i ≡ option_map root_seen (slice_get made i)
root_there [] i = refl
root_there (r ∷ made) zero = refl
root_there (r ∷ made) (suc i) = root_there made i

-- in a tree that is not there nothing stands
pub no_root : (made : List MadeRoot) (i : ℕ) (place : List PlaceStep) → None ≡ slice_get made i → None ≡ placed_from place (slice_get (made_seen made) i)
no_root made i place e = sym (nowhere place) ∙ ap (placed_from place) (ap (option_map root_seen) e ∙ sym (root_there made i))
