use Rattle.std.proofs.Common.{replicate}
use Rattle.xdb_top.specs.Playing.{HasPlayed}
use Rattle.xdb_top.proofs.play.play_turns.Given as goal

-- the session has had so many turns
abbrev pub invariant-loop-turn : goal.invariant-loop-turn
invariant-loop-turn l = HasPlayed l.sessions (replicate l._turn l.number) l.initial.core l.core l.seats
