use Rattle.std.proofs.Common.{◌≡◌, ◌+◌, [], ◌∷◌, length, take, slice_index_or, ap, sym, subst, ◌∙◌, arith}
use Rattle.std.proofs.lemmas.List.{take_more}
use Rattle.std.proofs.Math.Seq.{take-length}
use Rattle.xdb_top.specs.Playing.{HasPlayed, HasBrokenOff}
use Rattle.xdb_top.proofs.Turns.{take_front}
use Rattle.xdb_top.proofs.Playing.{nothing_played, more_played, where_err, played_and_off, off_in_front}
use Rattle.xdb_top.proofs.play.play_order.Goals as goal

pub loop-number-init : goal.loop-number-init
loop-number-init c = nothing_played c.args.sessions.now c.args.core.now c.args.seats.now c.requires

pub play_turn-requires : goal.play_turn-requires
play_turn-requires c = c.loop-number.invariant.playing

pub loop-number-preserved : goal.loop-number-preserved
loop-number-preserved c =
    subst (λ order. HasPlayed c.args.sessions.now order c.args.core.now c.play_turn.new.core c.play_turn.new.seats)
    (sym (take_more c.args.order.now c.loop-number.number-index 0 c.loop-number-test.true))
    (more_played c.args.sessions.now (take c.loop-number.number-index c.args.order.now)
    (slice_index_or c.args.order.now c.loop-number.number-index 0 ∷ []) c.args.core.now c.loop-number.core c.play_turn.new.core
    c.loop-number.seats c.play_turn.new.seats c.loop-number.invariant c.in_ok-play_turn.ensures.played)

pub returns : goal.returns
returns c =
    let all : c.loop-number.number-index ≡ length c.args.order.now = omega (arith, c.loop-number-test.false, c.loop-number.auto.number-index-end) in
    record {
      played = subst (λ order. HasPlayed c.args.sessions.now order c.args.core.now c.loop-number.core c.loop-number.seats)
          (ap (λ n. take n c.args.order.now) all ∙ take-length c.args.order.now) c.loop-number.invariant;
      off = tt;
      base = c.loop-number.invariant.playing.base;
    }

pub returns-in_err-play_turn-clause-off : goal.returns-in_err-play_turn-clause-off
returns-in_err-play_turn-clause-off c =
    let i = c.loop-number.number-index in
    where_err c.from_residual.result
    (off_in_front c.args.sessions.now (take (i + 1) c.args.order.now) c.args.order.now c.args.core.now c.play_turn.new.core
    (take_front (i + 1) c.args.order.now)
    (subst (λ order. HasBrokenOff c.args.sessions.now order c.args.core.now c.play_turn.new.core) (sym (take_more c.args.order.now i 0 c.loop-number-test.true))
    (played_and_off c.args.sessions.now (take i c.args.order.now)
    (slice_index_or c.args.order.now i 0 ∷ []) c.args.core.now c.loop-number.core c.play_turn.new.core c.loop-number.seats
    c.loop-number.invariant c.in_err-play_turn.ensures.off)))
