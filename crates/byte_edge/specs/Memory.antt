-- A source and a sink in memory, whose calls fail where a list of numbers says so.
use Rattle.std.specs.Prelude.{◌==◌, ℕ, Bool, List}
use Rattle.std.specs.List.{list_any}
use Rattle.byte_edge.specs.Faults.{up}

-- the next call is one of the failing calls, which are numbered from 1
abbrev pub is_failing : List ℕ → ℕ → Bool
is_failing fails calls = list_any (λ k. k == up calls) fails

-- what a source in memory has left, the numbers of its failing calls, its calls so far and its faults
pub record Supply : Type 0 where
  pub rest : List ℕ
  pub fails : List ℕ
  pub calls : ℕ
  pub faults : ℕ

-- what a sink in memory holds, the numbers of its failing calls, its calls so far and its faults
pub record Store : Type 0 where
  pub bytes : List ℕ
  pub fails : List ℕ
  pub calls : ℕ
  pub faults : ℕ
