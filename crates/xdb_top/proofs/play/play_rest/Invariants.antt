use Rattle.std.proofs.Common.{take}
use Rattle.xdb_top.specs.Playing.{HasPlayed}
use Rattle.xdb_top.specs.Turns.{one_by_one}
use Rattle.xdb_top.proofs.play.play_rest.Given as goal

-- the sessions so far have had their turns one by one
abbrev pub invariant-loop-index : goal.invariant-loop-index
invariant-loop-index l = HasPlayed l.sessions (one_by_one 1 (take l.index l.sessions)) l.initial.core l.core l.seats
