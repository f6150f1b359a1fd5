use Rattle.std.proofs.Common.{◌≡◌, ◌+◌, false, IsTrue, length, slice_index_or, refl, ap, sym, subst, ◌∙◌, arith}
use Rattle.std.proofs.lemmas.Bool.{ltb-true}
use Rattle.session_core.specs.History.States.{state, is_open}
use Rattle.session_core.specs.Keeping.Kept.{with_event, past}
use Rattle.session_core.specs.declared.history.event.Event.TheVariants.{Left}
use Rattle.xdb_top.specs.Playing.{HasHadTurn}
use Rattle.xdb_top.proofs.Seats.{passed_over, turn_goes_on, turn_ends, calls_at, none_left, up_after_next, broke_off_next, ready_as, others_as}
use Rattle.xdb_top.proofs.Playing.{where_err}
use Rattle.xdb_top.proofs.play.play_seat.Goals as goal

pub returns-in_default : goal.returns-in_default
returns-in_default c =
    let place = c.index-as_slice-index.is ∙ ap (λ P. slice_index_or P c.args.index c.index-as_slice-index.result) c.as_slice.ensures in
    let are = calls_at c.args.sessions.now c.args.index c.index-as_slice-index.result c.requires.index place ∙ sym c.as_slice-2.ensures in
    record {
      off = tt;
      turn = passed_over c.args.sessions.now (c.args.index + 1) c.args.core.now c.args.seat.now c.requires.played c.requires.at_rest c.requires.seated
          (none_left c.args.sessions.now c.args.index c.args.seat.now.made c.as_slice-2.result.now are (c.in_default.ensures.lookup).0);
      base = refl;
    }

pub returns-then-seat-len : goal.returns-then-seat-len
returns-then-seat-len c =
    let P = c.args.sessions.now in
    let place = c.index-as_slice-index.is ∙ ap (λ Q. slice_index_or Q c.args.index c.index-as_slice-index.result) c.as_slice.ensures in
    let calls = calls_at P c.args.index c.index-as_slice-index.result c.requires.index place in
    let after = up_after_next P c.args.index c.args.seat.now.made c.args.seat.now.session.number c.as_slice-2.result.now c.in-Some.call.now c.args.core.now
    c.call_on.new.core
    c.requires.played c.requires.at_rest (calls ∙ sym c.as_slice-2.ensures) (c.in-Some.ensures.lookup).0
    (c.in-Some.ensures.lookup).1 c.requires.seated.made c.requires.seated.number c.in_ok-call_on.ensures.ok in
    let called = c.in_ok-call_on.ensures.number ∙ c.requires.seated.number in
    let left = c.leave_on.ensures.number ∙ called in
    let turn : HasHadTurn P (c.args.index + 1) c.args.core.now c.leave_on.new.core (record { session = c.leave_on.new.self; made = c.args.seat.now.made + 1 }) =
    turn_ends P (c.args.index + 1) c.args.core.now c.call_on.new.core c.leave_on.new.core _ after
    (λ is. subst (λ s. IsTrue (is_open (state s (past c.call_on.new.core)))
    → c.leave_on.new.core ≡ with_event (Left s) c.call_on.new.core) called c.leave_on.ensures.left is)
    (λ is. subst (λ s. is_open (state s (past c.call_on.new.core)) ≡ false → c.leave_on.new.core ≡ c.call_on.new.core) called c.leave_on.ensures.closed is)
    (ready_as c.leave_on.new.self.number c.args.index c.leave_on.new.self.changes c.leave_on.new.core left c.leave_on.ensures.ready)
    left
    (ap (λ n. n + 1) c.requires.seated.made)
    (c.if-seat-len.true ∙ c.len.ensures ∙ ap length (sym calls))
    (others_as c.args.seat.now.session.number c.args.index c.args.core.now c.call_on.new.core c.requires.seated.number c.in_ok-call_on.ensures.others)
    (others_as c.call_on.new.self.number c.args.index c.call_on.new.core c.leave_on.new.core called c.leave_on.ensures.others) in
    record { turn = turn; off = tt; base = turn.base }

pub returns-else-seat-len : goal.returns-else-seat-len
returns-else-seat-len c =
    let P = c.args.sessions.now in
    let place = c.index-as_slice-index.is ∙ ap (λ Q. slice_index_or Q c.args.index c.index-as_slice-index.result) c.as_slice.ensures in
    let calls = calls_at P c.args.index c.index-as_slice-index.result c.requires.index place in
    let after = up_after_next P c.args.index c.args.seat.now.made c.args.seat.now.session.number c.as_slice-2.result.now c.in-Some.call.now c.args.core.now
    c.call_on.new.core
    c.requires.played c.requires.at_rest (calls ∙ sym c.as_slice-2.ensures) (c.in-Some.ensures.lookup).0
    (c.in-Some.ensures.lookup).1 c.requires.seated.made c.requires.seated.number c.in_ok-call_on.ensures.ok in
    let called = c.in_ok-call_on.ensures.number ∙ c.requires.seated.number in
    let within = ltb-true c.args.seat.now.made (length c.as_slice-2.result.now) (sym (c.in-Some.ensures.lookup).0) in
    let long = ap length (calls ∙ sym c.as_slice-2.ensures) in
    let counted = c.len.ensures ∙ ap length (sym c.as_slice-2.ensures) in
    let turn : HasHadTurn P (c.args.index + 1) c.args.core.now c.call_on.new.core (record { session = c.call_on.new.self; made = c.args.seat.now.made + 1 }) =
    turn_goes_on P (c.args.index + 1) c.args.core.now c.call_on.new.core _ after
    (ready_as c.call_on.new.self.number c.args.index c.call_on.new.self.changes c.call_on.new.core called c.in_ok-call_on.ensures.ready)
    called
    (ap (λ n. n + 1) c.requires.seated.made)
    (omega (arith, within, long, counted, c.if-seat-len.false))
    (others_as c.args.seat.now.session.number c.args.index c.args.core.now c.call_on.new.core c.requires.seated.number c.in_ok-call_on.ensures.others) in
    record { turn = turn; off = tt; base = turn.base }

pub returns-in_err-call_on-clause-off : goal.returns-in_err-call_on-clause-off
returns-in_err-call_on-clause-off c =
    let P = c.args.sessions.now in
    let place = c.index-as_slice-index.is ∙ ap (λ Q. slice_index_or Q c.args.index c.index-as_slice-index.result) c.as_slice.ensures in
    let calls = calls_at P c.args.index c.index-as_slice-index.result c.requires.index place in
    where_err c.from_residual.result
    (broke_off_next P c.args.index c.args.seat.now.made c.args.seat.now.session.number c.as_slice-2.result.now c.in-Some.call.now c.args.core.now
    c.call_on.new.core
    c.requires.played c.requires.at_rest (calls ∙ sym c.as_slice-2.ensures) (c.in-Some.ensures.lookup).0
    (c.in-Some.ensures.lookup).1 c.requires.seated.made c.requires.seated.number c.in_err-call_on.ensures.err)
