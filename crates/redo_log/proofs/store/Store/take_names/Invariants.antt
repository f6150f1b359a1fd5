-- What is left of the names decides.
use Rattle.std.proofs.Common.{◌≡◌, drop}
use Rattle.redo_log.specs.Store.{after_names}
use Rattle.redo_log.proofs.store.Store.take_names.Given as goal

abbrev pub invariant-loop-name : goal.invariant-loop-name
invariant-loop-name l = after_names (drop l.name-index l.names) l.self ≡ after_names l.names l.initial.self
