use Rattle.std.proofs.Common.{◌≡◌, ◌+◌, [], ◌∷◌, replicate, subst, arith}
use Rattle.std.proofs.lemmas.List.{replicate_more}
use Rattle.xdb_top.specs.Playing.{HasPlayed, HasBrokenOff}
use Rattle.xdb_top.proofs.Turns.{replicate_front}
use Rattle.xdb_top.proofs.Playing.{nothing_played, more_played, where_err, played_and_off, off_in_front}
use Rattle.xdb_top.proofs.play.play_turns.Goals as goal

pub loop-turn-init : goal.loop-turn-init
loop-turn-init c = nothing_played c.args.sessions.now c.args.core.now c.args.seats.now c.requires

pub play_turn-requires : goal.play_turn-requires
play_turn-requires c = c.loop-turn.invariant.playing

pub loop-turn-preserved : goal.loop-turn-preserved
loop-turn-preserved c =
    subst (λ order. HasPlayed c.args.sessions.now order c.args.core.now c.play_turn.new.core c.play_turn.new.seats)
    (replicate_more c.loop-turn._turn c.args.number)
    (more_played c.args.sessions.now (replicate c.loop-turn._turn c.args.number)
    (c.args.number ∷ []) c.args.core.now c.loop-turn.core c.play_turn.new.core c.loop-turn.seats c.play_turn.new.seats
    c.loop-turn.invariant c.in_ok-play_turn.ensures.played)

pub returns : goal.returns
returns c = record {
  played = subst (λ n. HasPlayed c.args.sessions.now (replicate n c.args.number) c.args.core.now c.loop-turn.core c.loop-turn.seats)
      (let all : c.loop-turn._turn ≡ c.args.count = omega (arith, c.loop-turn-test.false, c.loop-turn.auto._turn-end) in all) c.loop-turn.invariant;
  off = tt;
  base = c.loop-turn.invariant.playing.base;
}

pub returns-in_err-play_turn-clause-off : goal.returns-in_err-play_turn-clause-off
returns-in_err-play_turn-clause-off c =
    let turn = c.loop-turn._turn in
    where_err c.from_residual.result
    (off_in_front c.args.sessions.now (replicate (turn + 1) c.args.number) (replicate c.args.count c.args.number) c.args.core.now c.play_turn.new.core
    (replicate_front (turn + 1) c.args.count c.args.number (omega (arith, c.loop-turn-test.true)))
    (subst (λ order. HasBrokenOff c.args.sessions.now order c.args.core.now c.play_turn.new.core) (replicate_more turn c.args.number)
    (played_and_off c.args.sessions.now (replicate turn c.args.number)
    (c.args.number ∷ []) c.args.core.now c.loop-turn.core c.play_turn.new.core c.loop-turn.seats
    c.loop-turn.invariant c.in_err-play_turn.ensures.off)))
