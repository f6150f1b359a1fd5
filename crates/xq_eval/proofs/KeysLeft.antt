-- The types of earlier tuples at the places that are left.
use Rattle.std.specs.Prelude.{◌≡◌, ℕ, zero, suc, ◌+◌, List, [], ◌∷◌, drop, refl}
use Rattle.std.proofs.Math.Numerals.{add-one}
use Rattle.xml_model.specs.declared.value.KeyType.{KeyType}
use Rattle.xml_model.specs.Tuples.{other_types}

other_suc : (ts : List KeyType) (i : ℕ) → other_types (drop i ts) ≡ drop (suc i) ts
other_suc [] zero = refl
other_suc [] (suc i) = refl
other_suc (t ∷ ts) zero = refl
other_suc (t ∷ ts) (suc i) = other_suc ts i

-- those behind the place
pub others_left : (ts : List KeyType) (i : ℕ) → other_types (drop i ts) ≡ drop (i + 1) ts
others_left ts i = rw add-one (other_suc ts i)
