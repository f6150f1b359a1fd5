use Rattle.std.proofs.Common.{take}
use Rattle.xdb_top.specs.Playing.{HasPlayed}
use Rattle.xdb_top.proofs.play.play_order.Given as goal

-- the turns of the order so far were had
abbrev pub invariant-loop-number : goal.invariant-loop-number
invariant-loop-number l = HasPlayed l.sessions (take l.number-index l.order) l.initial.core l.core l.seats
