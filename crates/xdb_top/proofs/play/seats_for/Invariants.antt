use Rattle.xdb_top.specs.Playing.{AreNewSeats}
use Rattle.xdb_top.proofs.play.seats_for.Given as goal

-- the seats so far are new seats
abbrev pub invariant-loop-index : goal.invariant-loop-index
invariant-loop-index l = AreNewSeats l.index l.seats.items
