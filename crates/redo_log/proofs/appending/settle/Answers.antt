use Rattle.std.proofs.Common.{◌+◌, ℕ, List, Bool, length, sym, ap, ◌∙◌}
use Rattle.std.specs.Prelude.{if◌then◌else◌}
use Rattle.page_device.proofs.Told.{if_told, told}
use Rattle.redo_log.specs.declared.end.LogEnd.{LogEnd}
use Rattle.redo_log.specs.Append.{next_end}
use Rattle.redo_log.proofs.Gates.{settles}
use Rattle.redo_log.proofs.appending.settle.Goals as goal

abbrev at_place : LogEnd → ℕ → LogEnd
at_place e n = record { file = e.file; at = n }

pub returns-then-yes-clause-answer : goal.returns-then-yes-clause-answer
returns-then-yes-clause-answer g c = let d = c.args.device.now in let o = g.D.Device.contents d in let e = c.args.end.now in let new =
    c.settle_gate.new.device in
    if_told o _ (λ i is.
    settles e c.args.body.now i (g.D.Device.may_leave d) (g.met.D.Device.told_now d i is) (told o _ i is c.requires.doubt) (g.D.Device.may_leave new)
    (g.met.D.Device.told_now new i (c.in_ok-yes.ensures.contents ∙ is))
    c.in_ok-yes.yes _ (ap (λ (t : List ℕ). at_place e (e.at + length t)) c.tail-tail.ensures
    ∙ ap (λ (b : Bool). if b then next_end e c.args.body.now else e) (sym c.if-yes.true)) (told o _ i is c.in_ok-yes.ensures.answer))

pub returns-else-yes-clause-answer : goal.returns-else-yes-clause-answer
returns-else-yes-clause-answer g c = let d = c.args.device.now in let o = g.D.Device.contents d in let e = c.args.end.now in let new =
    c.settle_gate.new.device in
    if_told o _ (λ i is.
    settles e c.args.body.now i (g.D.Device.may_leave d) (g.met.D.Device.told_now d i is) (told o _ i is c.requires.doubt) (g.D.Device.may_leave new)
    (g.met.D.Device.told_now new i (c.in_ok-yes.ensures.contents ∙ is))
    c.in_ok-yes.yes e (ap (λ (b : Bool). if b then next_end e c.args.body.now else e) (sym c.if-yes.false)) (told o _ i is c.in_ok-yes.ensures.answer))
