use Rattle.std.proofs.Common.{◌+◌, List, ℕ, length, ap, refl, subst, rules}
use Rattle.std.specs.Prelude.{IfSome}
use Rattle.page_device.specs.Device.{FileIs}
use Rattle.page_device.specs.Run.{Each, LeavesOnly}
use Rattle.page_device.specs.Gate as gate
use Rattle.page_device.proofs.Told.{if_told, if_still_told, told}
use Rattle.redo_log.proofs.Gates.{rests_next}
use Rattle.redo_log.proofs.appending.append.Goals as goal

pub returns-in-Err-Failed-clause-failed : goal.returns-in-Err-Failed-clause-failed
returns-in-Err-Failed-clause-failed g c _ = let d = c.args.device.now in let e = c.args.end.now in
    subst (λ (t : List ℕ). IfSome (g.D.Device.contents d)
    (λ i. Each (g.D.Device.may_leave c.write_behind_gate.new.device) (gate.Lacks e.file e.at t i (g.D.Device.may_leave d)))) c.tail-tail.ensures
    (c.in-Err-Failed.ensures.failed (search rules))

pub returns-in-Err-Failed-clause-any_moment : goal.returns-in-Err-Failed-clause-any_moment
returns-in-Err-Failed-clause-any_moment g c = let d = c.args.device.now in let e = c.args.end.now in
    subst (λ (t : List ℕ). IfSome (g.D.Device.contents d)
    (λ i. LeavesOnly g.D.Device.moment g.D.Device.left_since d c.write_behind_gate.new.device (gate.AtAnyMoment e.file e.at t i (g.D.Device.may_leave d))))
    c.tail-tail.ensures
    c.in-Err-Failed.ensures.any_moment

pub returns-in-Err-Doubt-clause-doubt : goal.returns-in-Err-Doubt-clause-doubt
returns-in-Err-Doubt-clause-doubt g c _ = let d = c.args.device.now in let e = c.args.end.now in
    subst (λ (t : List ℕ). IfSome (g.D.Device.contents d) (λ i. Each (g.D.Device.may_leave c.write_behind_gate.new.device) (gate.HasBody e.file e.at t i)))
    c.tail-tail.ensures (c.in-Err-Doubt.ensures.doubt (search rules))

pub returns-in-Err-Doubt-clause-any_moment : goal.returns-in-Err-Doubt-clause-any_moment
returns-in-Err-Doubt-clause-any_moment g c = let d = c.args.device.now in let e = c.args.end.now in
    subst (λ (t : List ℕ). IfSome (g.D.Device.contents d)
    (λ i. LeavesOnly g.D.Device.moment g.D.Device.left_since d c.write_behind_gate.new.device (gate.AtAnyMoment e.file e.at t i (g.D.Device.may_leave d))))
    c.tail-tail.ensures
    c.in-Err-Doubt.ensures.any_moment

pub returns-in-Ok-clause-next : goal.returns-in-Ok-clause-next
returns-in-Ok-clause-next g c = let d = c.args.device.now in let o = g.D.Device.contents d in let e = c.args.end.now in
    let new = c.write_behind_gate.new.device in let p = g.D.Device.contents new in
    if_still_told o p _ c.write_behind_gate.ensures.told (λ i is.
    let only = subst (λ (t : List ℕ). FileIs e.file (gate.gated e.file e.at t i) (g.D.Device.may_leave new)) c.tail-tail.ensures
    (told o _ i is c.in-Ok.ensures.done) in
    if_told p _ (λ j there. rests_next e c.args.body.now i (g.D.Device.may_leave d) (g.met.D.Device.told_now d i is) (told o _ i is c.requires.rest) _
    (g.D.Device.may_leave new) j refl
    (ap (λ (t : List ℕ). e.at + length t) c.tail-tail.ensures) (g.met.D.Device.told_now new j there) only))
