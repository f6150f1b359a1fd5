-- A list of events and its parts.
use Rattle.std.specs.Prelude.{◌≡◌, ℕ, List, [], ◌∷◌, ◌++◌, length, nat_lt, eqb, if◌then◌else◌}

-- the list begins with what was seen
abbrev pub Begins : {E : Type 0} → List E → List E → Type 0
Begins {E} log seen = (rest : List E) × (log ≡ seen ++ rest)

-- the events of one session, in their order
abbrev pub events_of : {E : Type 0} → (E → ℕ) → ℕ → List E → List E
events_of session by [] = []
events_of session by (e ∷ es) = if eqb (session e) by then e ∷ events_of session by es else events_of session by es

-- each event is of this session
abbrev pub AllOf : {E : Type 0} → (E → ℕ) → ℕ → List E → Type 0
AllOf session by [] = Unit {0}
AllOf session by (e ∷ es) = (session e ≡ by) × AllOf session by es

-- the longer of two lists
abbrev pub longer : {E : Type 0} → List E → List E → List E
longer xs ys = if nat_lt (length xs) (length ys) then ys else xs
