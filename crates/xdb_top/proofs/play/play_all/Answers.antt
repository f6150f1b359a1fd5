use Rattle.std.proofs.Common.{refl, subst}
use Rattle.xdb_top.specs.Playing.{HasPlayed, HasBrokenOff}
use Rattle.xdb_top.specs.Turns.{one_by_one}
use Rattle.xdb_top.proofs.Playing.{more_played, where_err, played_and_off, off_in_front}
use Rattle.xdb_top.proofs.play.play_all.Goals as goal

pub returns-clause-played : goal.returns-clause-played
returns-clause-played c =
    more_played c.args.script.now.sessions c.args.script.now.order
    (one_by_one 1 c.args.script.now.sessions) c.args.core.now c.play_order.new.core c.play_rest.new.core c.play_order.new.seats c.play_rest.new.seats
    (subst (λ order. HasPlayed c.args.script.now.sessions order c.args.core.now c.play_order.new.core c.play_order.new.seats) c.as_slice.ensures
    c.in_ok-play_order.ensures.played)
    c.in_ok-play_rest.ensures.played

pub returns-in_err-play_order-clause-off : goal.returns-in_err-play_order-clause-off
returns-in_err-play_order-clause-off c =
    where_err c.from_residual.result
    (off_in_front c.args.script.now.sessions c.args.script.now.order _ c.args.core.now c.play_order.new.core
    (record { rest = one_by_one 1 c.args.script.now.sessions; is = refl })
    (subst (λ order. HasBrokenOff c.args.script.now.sessions order c.args.core.now c.play_order.new.core) c.as_slice.ensures c.in_err-play_order.ensures.off))

pub returns-in_err-play_rest-clause-off : goal.returns-in_err-play_rest-clause-off
returns-in_err-play_rest-clause-off c =
    where_err c.from_residual-in_err-play_rest.result
    (played_and_off c.args.script.now.sessions c.args.script.now.order
    (one_by_one 1 c.args.script.now.sessions) c.args.core.now c.play_order.new.core c.play_rest.new.core c.play_order.new.seats
    (subst (λ order. HasPlayed c.args.script.now.sessions order c.args.core.now c.play_order.new.core c.play_order.new.seats) c.as_slice.ensures
    c.in_ok-play_order.ensures.played)
    c.in_err-play_rest.ensures.off)
