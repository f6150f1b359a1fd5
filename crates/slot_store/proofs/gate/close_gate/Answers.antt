use Rattle.std.proofs.Common.{◌∙◌, rules}
use Rattle.page_device.proofs.Told.{if_told, told}
use Rattle.page_device.proofs.Runs.{weaker, joined}
use Rattle.page_device.proofs.Replay.{with_own}
use Rattle.slot_store.specs.Steps.{From, GateMoved}
use Rattle.slot_store.proofs.Gates.{gates_still, closed_so, one_first, moved_in_part, closed_now, closed_others}
use Rattle.slot_store.proofs.gate.close_gate.Goals as goal

pub returns-in_err-yes-clause-images : goal.returns-in_err-yes-clause-images
returns-in_err-yes-clause-images g c = let d = c.args.device.now in let o = g.D.Device.contents d in
    if_told o _ (λ i is. λ k left. gates_still c.args.file (g.D.Device.may_leave d) (told o _ i is c.requires.gate) k (c.settle_gate.ensures.images k left))

pub returns-in_err-yes-clause-any_moment : goal.returns-in_err-yes-clause-any_moment
returns-in_err-yes-clause-any_moment g c = let d = c.args.device.now in let o = g.D.Device.contents d in
    if_told o _ (λ i is. weaker g.D.Device.moment g.D.Device.left_since d c.settle_gate.new.device (g.D.Device.may_leave d)
    (From (GateMoved c.args.file) (g.D.Device.may_leave d)) c.settle_gate.ensures.any_moment
    (gates_still c.args.file (g.D.Device.may_leave d) (told o _ i is c.requires.gate)))

pub returns-then-not-yes-clause-images : goal.returns-then-not-yes-clause-images
returns-then-not-yes-clause-images g c = let d = c.args.device.now in let o = g.D.Device.contents d in
    if_told o _ (λ i is. λ k left. gates_still c.args.file (g.D.Device.may_leave d) (told o _ i is c.requires.gate) k (c.settle_gate.ensures.images k left))

pub returns-then-not-yes-clause-any_moment : goal.returns-then-not-yes-clause-any_moment
returns-then-not-yes-clause-any_moment g c = let d = c.args.device.now in let o = g.D.Device.contents d in
    if_told o _ (λ i is. weaker g.D.Device.moment g.D.Device.left_since d c.settle_gate.new.device (g.D.Device.may_leave d)
    (From (GateMoved c.args.file) (g.D.Device.may_leave d)) c.settle_gate.ensures.any_moment
    (gates_still c.args.file (g.D.Device.may_leave d) (told o _ i is c.requires.gate)))

pub returns-then-not-yes-clause-contents : goal.returns-then-not-yes-clause-contents
returns-then-not-yes-clause-contents g c = let d = c.args.device.now in let o = g.D.Device.contents d in
    if_told o _ (λ i is. (
      i,
      c.in_ok-yes.ensures.contents ∙ is,
      with_own i c.args.file,
      closed_so c.args.file i (g.D.Device.may_leave c.settle_gate.new.device) c.in_ok-yes.yes (search rules)
          (told o _ i is c.requires.gate i (g.met.D.Device.told_now d i is)) (told o _ i is c.in_ok-yes.ensures.answer),
    ))

pub returns-in_err-write_and_sync-clause-images : goal.returns-in_err-write_and_sync-clause-images
returns-in_err-write_and_sync-clause-images g c =
    let d = c.args.device.now in let o = g.D.Device.contents d in let mid = g.D.Device.may_leave c.settle_gate.new.device in
    if_told o _ (λ i is. let settled = told o _ i is c.in_ok-yes.ensures.answer in
    let one = one_first c.args.file i mid c.in_ok-yes.yes (search rules) (told o _ i is c.requires.gate i (g.met.D.Device.told_now d i is)) settled in
    λ k left. moved_in_part c.args.file i one.0 one.1 (g.D.Device.may_leave d) mid c.settle_gate.ensures.images settled.synced k
    (c.write_and_sync.ensures.images k left))

pub returns-in_err-write_and_sync-clause-any_moment : goal.returns-in_err-write_and_sync-clause-any_moment
returns-in_err-write_and_sync-clause-any_moment g c = let d = c.args.device.now in let o = g.D.Device.contents d in let mid = c.settle_gate.new.device in
    let old = g.D.Device.may_leave d in
    if_told o _ (λ i is. let settled = told o _ i is c.in_ok-yes.ensures.answer in let has = told o _ i is c.requires.gate in
    let one = one_first c.args.file i (g.D.Device.may_leave mid) c.in_ok-yes.yes (search rules) (has i (g.met.D.Device.told_now d i is)) settled in
    joined g.D.Device.moment g.D.Device.left_since d mid c.write_and_sync.new.device _ _ (From (GateMoved c.args.file) old) c.settle_gate.ensures.any_moment
    c.write_and_sync.ensures.any_moment (gates_still c.args.file old has)
    (moved_in_part c.args.file i one.0 one.1 old (g.D.Device.may_leave mid) c.settle_gate.ensures.images settled.synced))

pub returns-clause-images : goal.returns-clause-images
returns-clause-images g c = let d = c.args.device.now in let o = g.D.Device.contents d in let mid = g.D.Device.may_leave c.settle_gate.new.device in
    if_told o _ (λ i is. let settled = told o _ i is c.in_ok-yes.ensures.answer in
    let one = one_first c.args.file i mid c.in_ok-yes.yes (search rules) (told o _ i is c.requires.gate i (g.met.D.Device.told_now d i is)) settled in
    λ k left. moved_in_part c.args.file i one.0 one.1 (g.D.Device.may_leave d) mid c.settle_gate.ensures.images settled.synced k
    (c.write_and_sync.ensures.images k left))

pub returns-clause-any_moment : goal.returns-clause-any_moment
returns-clause-any_moment g c = let d = c.args.device.now in let o = g.D.Device.contents d in let mid = c.settle_gate.new.device in
    let old = g.D.Device.may_leave d in
    if_told o _ (λ i is. let settled = told o _ i is c.in_ok-yes.ensures.answer in let has = told o _ i is c.requires.gate in
    let one = one_first c.args.file i (g.D.Device.may_leave mid) c.in_ok-yes.yes (search rules) (has i (g.met.D.Device.told_now d i is)) settled in
    joined g.D.Device.moment g.D.Device.left_since d mid c.write_and_sync.new.device _ _ (From (GateMoved c.args.file) old) c.settle_gate.ensures.any_moment
    c.write_and_sync.ensures.any_moment (gates_still c.args.file old has)
    (moved_in_part c.args.file i one.0 one.1 old (g.D.Device.may_leave mid) c.settle_gate.ensures.images settled.synced))

pub returns-clause-contents : goal.returns-clause-contents
returns-clause-contents g c = let d = c.args.device.now in let o = g.D.Device.contents d in let mid = c.settle_gate.new.device in
    if_told o _ (λ i is. let settled = told o _ i is c.in_ok-yes.ensures.answer in
    let one = one_first c.args.file i (g.D.Device.may_leave mid) c.in_ok-yes.yes (search rules)
    (told o _ i is c.requires.gate i (g.met.D.Device.told_now d i is)) settled in
    let there = c.in_ok-yes.ensures.contents ∙ is in (
      _,
      told (g.D.Device.contents mid) _ i there c.in_ok-write_and_sync.ensures.contents,
      closed_others c.args.file i one.0 one.1,
      closed_now c.args.file i one.0 one.1 (g.D.Device.may_leave c.write_and_sync.new.device)
          (told (g.D.Device.contents mid) _ i there c.in_ok-write_and_sync.ensures.durable),
    ))
