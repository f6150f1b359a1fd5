-- What contracts see of a `Session`.
use Rattle.std.specs.Prelude.{ℕ, refl}
use Rattle.std.specs.Coded.{Coded, code_by, coded×, coded_ℕ}
use Rattle.xml_model.specs.Changes.{ChangeMap, changes_code}

-- A session's number, and the changes of its open transaction.
pub record Seat : Type 0 where
  pub number : ℕ
  pub changes : ChangeMap

-- how a session is written as one value: by its number and its changes
abbrev pub seat_code : Coded Seat
seat_code = code_by (ℕ × ChangeMap) (coded× coded_ℕ changes_code) (λ s. (s.number, s.changes)) (λ p. record { number = p.0; changes = p.1 }) (λ _. refl)

-- a session by its number and the changes of its open transaction
abbrev pub seat_of : ℕ → ChangeMap → Seat
seat_of number changes = record { number = number; changes = changes }
