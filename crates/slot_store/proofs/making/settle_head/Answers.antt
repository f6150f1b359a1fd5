use Rattle.std.proofs.Common.{◌≡◌, subst, rules}
use Rattle.page_device.specs.declared.device.Which.{Which}
use Rattle.page_device.specs.Gate.{IsSettled}
use Rattle.page_device.proofs.Told.{if_told, told}
use Rattle.page_device.proofs.Runs.{weaker}
use Rattle.slot_store.specs.Logs.{other_file}
use Rattle.slot_store.specs.Opens.{Opens}
use Rattle.slot_store.proofs.Preparing.{doubt_opens, settled_as}
use Rattle.slot_store.proofs.making.settle_head.Goals as goal

pub returns-in_err-yes-clause-same : goal.returns-in_err-yes-clause-same
returns-in_err-yes-clause-same g c head rest o all =
    weaker g.D.Device.moment g.D.Device.left_since c.args.device.now c.settle_gate.new.device (g.D.Device.may_leave c.args.device.now) (Opens o)
    c.settle_gate.ensures.any_moment (λ i left. doubt_opens c.args.state.now head rest o i (all i left))

pub returns-clause-same : goal.returns-clause-same
returns-clause-same g c head rest o all =
    weaker g.D.Device.moment g.D.Device.left_since c.args.device.now c.settle_gate.new.device (g.D.Device.may_leave c.args.device.now) (Opens o)
    c.settle_gate.ensures.any_moment (λ i left. doubt_opens c.args.state.now head rest o i (all i left))

pub returns-clause-opens : goal.returns-clause-opens
returns-clause-opens g c =
    let d = c.args.device.now in let new = g.D.Device.may_leave c.settle_gate.new.device in let st = c.args.state.now in
    let fv : c.file.result ≡ other_file st.log = search rules in
    if_told (g.D.Device.contents d) _ (λ i is. λ head rest o all. settled_as st head rest o i new c.in_ok-yes.yes
    (subst (λ (f : Which). IsSettled f 0 i new c.in_ok-yes.yes) fv (told (g.D.Device.contents d) _ i is c.in_ok-yes.ensures.answer))
    (λ k left. all k (c.settle_gate.ensures.images k left)))
