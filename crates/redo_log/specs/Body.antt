-- How a body is kept: between its length and the next gate.
use Rattle.std.specs.Prelude.{◌≡◌, ◌-◌, List, ℕ, length, take, drop}
use Rattle.redo_log.specs.Record.{tail_of}

-- the body in such bytes
abbrev pub body_in : List ℕ → List ℕ
body_in tail = take (length tail - 9) (drop 8 tail)

-- the bytes are the length of the body in them, that body and a closed gate
abbrev pub IsTail : List ℕ → Type 0
IsTail tail = tail ≡ tail_of (body_in tail)
