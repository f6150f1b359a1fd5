use Rattle.std.proofs.Common.{◌≡◌, ◌∷◌, take, map as list_map}
use Rattle.session_run.proofs.statement.name_lines.Given as goal

abbrev pub invariant-loop-name : goal.invariant-loop-name
invariant-loop-name l = l.lines ≡ list_map (λ name. 61 ∷ name) (take l.name-index l.names)
