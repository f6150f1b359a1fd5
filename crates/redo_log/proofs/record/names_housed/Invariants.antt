-- What is left to test decides.
use Rattle.std.proofs.Common.{◌≡◌, drop}
use Rattle.redo_log.specs.Reading.{names_housed}
use Rattle.redo_log.proofs.record.names_housed.Given as goal

abbrev pub invariant-loop-name : goal.invariant-loop-name
invariant-loop-name l = names_housed l.pages (drop l.name-index l.names) l.left ≡ names_housed l.pages l.names l.initial.left
