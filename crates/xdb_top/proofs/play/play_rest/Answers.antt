use Rattle.std.proofs.Common.{◌≡◌, ◌+◌, ◌++◌, length, take, replicate, slice_index_or, ap, subst, ◌∙◌, arith}
use Rattle.std.proofs.Math.Seq.{take-length}
use Rattle.xdb_top.specs.Playing.{HasPlayed, HasBrokenOff}
use Rattle.xdb_top.specs.Turns.{one_by_one}
use Rattle.xdb_top.proofs.Turns.{one_by_one_front}
use Rattle.xdb_top.proofs.Playing.{nothing_played, more_played, where_err, played_and_off, off_in_front, one_by_one-next}
use Rattle.xdb_top.proofs.play.play_rest.Goals as goal

pub loop-index-init : goal.loop-index-init
loop-index-init c = nothing_played c.args.sessions.now c.args.core.now c.args.seats.now c.requires

pub play_turns-requires : goal.play_turns-requires
play_turns-requires c = c.loop-index.invariant.playing

pub loop-index-preserved : goal.loop-index-preserved
loop-index-preserved c =
    let P = c.args.sessions.now in
    let place = c.index-as_slice-index.is ∙ ap (λ Q. slice_index_or Q c.loop-index.index c.index-as_slice-index.result) c.as_slice.ensures in
    let next = one_by_one-next P c.loop-index.index c.index-as_slice-index.result (omega (arith, c.loop-index-test.true, c.len-index-end.ensures)) place in
    subst (λ order. HasPlayed P order c.args.core.now c.play_turns.new.core c.play_turns.new.seats)
    (ap (λ n. one_by_one 1 (take c.loop-index.index P) ++ replicate n (c.loop-index.index + 1)) c.len-count.ensures ∙ next)
    (more_played P (one_by_one 1 (take c.loop-index.index P))
    (replicate c.len-count.result (c.loop-index.index + 1)) c.args.core.now c.loop-index.core c.play_turns.new.core
    c.loop-index.seats c.play_turns.new.seats c.loop-index.invariant c.in_ok-play_turns.ensures.played)

pub returns : goal.returns
returns c =
    let all : c.loop-index.index ≡ length c.args.sessions.now = omega (arith, c.loop-index-test.false, c.loop-index.auto.index-end, c.len-index-end.ensures) in
    record {
      played = subst (λ P. HasPlayed c.args.sessions.now (one_by_one 1 P) c.args.core.now c.loop-index.core c.loop-index.seats)
          (ap (λ n. take n c.args.sessions.now) all ∙ take-length c.args.sessions.now) c.loop-index.invariant;
      off = tt;
      base = c.loop-index.invariant.playing.base;
    }

pub returns-in_err-play_turns-clause-off : goal.returns-in_err-play_turns-clause-off
returns-in_err-play_turns-clause-off c =
    let P = c.args.sessions.now in
    let i = c.loop-index.index in
    let place = c.index-as_slice-index.is ∙ ap (λ Q. slice_index_or Q i c.index-as_slice-index.result) c.as_slice.ensures in
    let next = one_by_one-next P i c.index-as_slice-index.result (omega (arith, c.loop-index-test.true, c.len-index-end.ensures)) place in
    where_err c.from_residual.result
    (off_in_front P (one_by_one 1 (take (i + 1) P)) (one_by_one 1 P) c.args.core.now c.play_turns.new.core (one_by_one_front 1 (i + 1) P)
    (subst (λ order. HasBrokenOff P order c.args.core.now c.play_turns.new.core) (ap (λ n. one_by_one 1 (take i P) ++ replicate n (i + 1)) c.len-count.ensures
    ∙ next)
    (played_and_off P (one_by_one 1 (take i P))
    (replicate c.len-count.result (i + 1)) c.args.core.now c.loop-index.core c.play_turns.new.core c.loop-index.seats
    c.loop-index.invariant c.in_err-play_turns.ensures.off)))
