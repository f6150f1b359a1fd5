use Rattle.std.proofs.Common.{◌+◌, ◌-◌, [], ◌∷◌, length, Ok, Err, OnOk, OnErr, refl, subst, ◌∙◌, arith, slice_set}
use Rattle.std.proofs.lemmas.Option.{slice_get_read}
use Rattle.xdb_top.specs.Playing.{IsSeated, HasPlayed, HasHadTurn, HasBrokenOff}
use Rattle.xdb_top.proofs.Playing.{seat_played}
use Rattle.xdb_top.proofs.play.play_turn.Goals as goal

pub returns : goal.returns
returns c = record {
  played =
      elim c.play_seat.result as (λ r. OnOk r (HasHadTurn c.args.sessions.now (c.args.number - 1 + 1) c.args.core.now c.play_seat.new.core c.play_seat.new.seat)
      → OnOk r (HasPlayed c.args.sessions.now (c.args.number ∷ []) c.args.core.now c.play_seat.new.core
      (slice_set c.args.seats.now (c.args.number - 1) c.play_seat.new.seat))) [
        | Ok done ↦ λ turn. subst
            (λ n. HasPlayed c.args.sessions.now (n ∷ []) c.args.core.now c.play_seat.new.core
            (slice_set c.args.seats.now (c.args.number - 1) c.play_seat.new.seat))
            (omega (arith, c.if-number-eq0.false))
            (seat_played c.args.sessions.now (c.args.number - 1) c.args.core.now c.play_seat.new.core c.args.seats.now c.play_seat.new.seat c.requires
            (omega (arith, c.if-number-eq0.false, c.if-number-seats.false)) turn)
        | Err e ↦ λ _. tt
      ] c.play_seat.ensures.turn;
  off = subst (λ n. OnErr c.play_seat.result (HasBrokenOff c.args.sessions.now (n ∷ []) c.args.core.now c.play_seat.new.core))
      (omega (arith, c.if-number-eq0.false)) c.play_seat.ensures.off;
  base = c.play_seat.ensures.base ∙ c.requires.base;
}

pub play_seat-requires-clause-seated : goal.play_seat-requires-clause-seated
play_seat-requires-clause-seated c =
    let i = c.args.number - 1 in
    subst (λ seat. IsSeated (i + 1) seat c.args.core.now) c.index-seats-index.is
    (c.requires.seated i c.index-seats-index.result
    (slice_get_read c.args.seats.now (length c.args.seats.now) i c.index-seats-index.result refl
    (omega (arith, c.if-number-eq0.false, c.if-number-seats.false)) c.index-seats-index.is))
