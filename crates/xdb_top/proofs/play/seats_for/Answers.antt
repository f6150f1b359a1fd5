use Rattle.std.proofs.Common.{◌+◌, ◌∷◌, [], ◌++◌, ap, sym, subst, ◌∙◌, arith}
use Rattle.xdb_top.specs.Playing.{AreNewSeats}
use Rattle.xdb_top.proofs.Starting.{no_seats, one_seat_more}
use Rattle.xdb_top.proofs.play.seats_for.Goals as goal

pub loop-index-init : goal.loop-index-init
loop-index-init c = no_seats c.new-seats.result.items c.new-seats.ensures.items

pub loop-index-preserved : goal.loop-index-preserved
loop-index-preserved c =
    subst (AreNewSeats (c.loop-index.index + 1))
    (sym (c.in_ok-push.ensures.items ∙ ap (λ s. c.loop-index.seats.items ++ record { session = s; made = 0 } ∷ []) c.of.ensures))
    (one_seat_more c.loop-index.index c.loop-index.seats.items c.loop-index.invariant)

pub returns : goal.returns
returns c = subst (λ n. AreNewSeats n c.loop-index.seats.items) (omega (arith, c.loop-index-test.false, c.loop-index.auto.index-end)) c.loop-index.invariant
