use Rattle.std.proofs.Common.{◌≡◌, ◌++◌, length}
use Rattle.std.specs.Vec.Iter.{into_iter_items, into_iter_len}
use Rattle.session_core.specs.Keeping.CoreCalls.{AreMade, CanMake}
use Rattle.session_core.proofs.keeping.sessions.Core.make_each.Given as goal

-- those before are made, and the others can be made from here
abbrev pub invariant-loop-call : goal.invariant-loop-call
invariant-loop-call l = (l.yielded ++ into_iter_items l.call-iterator ≡ l.fn.calls.items)
    × AreMade l.yielded l.fn.self l.self
    × CanMake (into_iter_items l.call-iterator) l.self
    × (into_iter_len l.call-iterator ≡ length (into_iter_items l.call-iterator))
