-- The names so far are counted off.
use Rattle.std.proofs.Common.{◌≡◌, ◌-◌, drop}
use Rattle.redo_log.specs.Reading.{names_length}
use Rattle.redo_log.proofs.record.behind_names.Given as goal

abbrev pub invariant-loop-name : goal.invariant-loop-name
invariant-loop-name l = l.left - names_length (drop l.name-index l.names) ≡ l.initial.left - names_length l.names
