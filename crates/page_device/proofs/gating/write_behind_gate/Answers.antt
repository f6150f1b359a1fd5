use Rattle.std.proofs.Common.{◌+◌, Some, length, ap, ◌∙◌}
use Rattle.page_device.specs.Image.{with_bytes}
use Rattle.page_device.specs.Run.{InPart}
use Rattle.page_device.specs.Gate.{AtAnyMoment}
use Rattle.page_device.proofs.Told.{if_told, if_still_told, told}
use Rattle.page_device.proofs.Runs.{weaker, joined, with_bytes-twice, keeps_others-twice, others_from, others_from-twice}
use Rattle.page_device.proofs.Gate.{lacks, has_body, gated_is, any_before, any_after, rests_again, in_doubt}
use Rattle.page_device.proofs.gating.write_behind_gate.Goals as goal

pub returns-in_default-clause-failed : goal.returns-in_default-clause-failed
returns-in_default-clause-failed g c _ = let d = c.args.device.now in let o = g.D.Device.contents d in
    if_told o _ (λ i is. let r = told o _ i is c.requires.rest in
    λ k left. lacks c.args.file c.args.at c.args.body.now i (g.D.Device.may_leave d) (g.met.D.Device.told_now d i is) r k
    (c.write_and_sync.ensures.images k left))

pub returns-in_default-clause-again : goal.returns-in_default-clause-again
returns-in_default-clause-again g c _ = let d = c.args.device.now in let o = g.D.Device.contents d in
    let new = c.write_and_sync.new.device in let p = g.D.Device.contents new in
    if_still_told o p _ c.write_and_sync.ensures.told (λ i is. let r = told o _ i is c.requires.rest in
    if_told p _ (λ j there. rests_again c.args.file c.args.at c.args.body.now i (g.D.Device.may_leave d) (g.met.D.Device.told_now d i is) r
    (g.D.Device.may_leave new) j (g.met.D.Device.told_now new j there)
    c.write_and_sync.ensures.images))

pub returns-in_default-clause-any_moment : goal.returns-in_default-clause-any_moment
returns-in_default-clause-any_moment g c = let d = c.args.device.now in let o = g.D.Device.contents d in let old = g.D.Device.may_leave d in
    if_told o _ (λ i is. let r = told o _ i is c.requires.rest in
    weaker g.D.Device.moment g.D.Device.left_since d c.write_and_sync.new.device (InPart c.args.file (c.args.at + 1) (length c.args.body.now) old)
    (AtAnyMoment c.args.file c.args.at c.args.body.now i old)
    c.write_and_sync.ensures.any_moment (any_before c.args.file c.args.at c.args.body.now i old (g.met.D.Device.told_now d i is) r))

pub returns-in_default-clause-others_from : goal.returns-in_default-clause-others_from
returns-in_default-clause-others_from g c k left =
    others_from c.args.file (c.args.at + 1) (length c.args.body.now) (g.D.Device.may_leave c.args.device.now) k (c.write_and_sync.ensures.images k left)

pub returns-in_default-write_and_sync-clause-doubt : goal.returns-in_default-write_and_sync-clause-doubt
returns-in_default-write_and_sync-clause-doubt g c _ = let d = c.args.device.now in let o = g.D.Device.contents d in let mid = c.write_and_sync.new.device in
    if_told o _ (λ i is. let r = told o _ i is c.requires.rest in
    λ k left. has_body c.args.file c.args.at c.args.body.now i (g.D.Device.may_leave d) (g.met.D.Device.told_now d i is) r (g.D.Device.may_leave mid)
    (told o _ i is c.in-Ok.ensures.durable) k
    (c.write_and_sync-2.ensures.images k left))

pub returns-in_default-write_and_sync-clause-to_settle : goal.returns-in_default-write_and_sync-clause-to_settle
returns-in_default-write_and_sync-clause-to_settle g c _ = let d = c.args.device.now in let o = g.D.Device.contents d in let mid =
    c.write_and_sync.new.device in
    let new = c.write_and_sync-2.new.device in let p = g.D.Device.contents new in let old = g.D.Device.may_leave d in
    if_still_told o p _ (c.write_and_sync-2.ensures.told ∙ c.write_and_sync.ensures.told) (λ i is. let r = told o _ i is c.requires.rest in let here =
    g.met.D.Device.told_now d i is in
    if_told p _ (λ j there. in_doubt c.args.file c.args.at c.args.body.now i old here r (g.D.Device.may_leave new)
    (λ k left. has_body c.args.file c.args.at c.args.body.now i old here r (g.D.Device.may_leave mid) (told o _ i is c.in-Ok.ensures.durable) k
    (c.write_and_sync-2.ensures.images k left))))

pub returns-in_default-write_and_sync-clause-any_moment : goal.returns-in_default-write_and_sync-clause-any_moment
returns-in_default-write_and_sync-clause-any_moment g c = let d = c.args.device.now in let o = g.D.Device.contents d in let mid = c.write_and_sync.new.device in
    let new = c.write_and_sync-2.new.device in let old = g.D.Device.may_leave d in
    if_told o _ (λ i is. let r = told o _ i is c.requires.rest in let here = g.met.D.Device.told_now d i is in
    joined g.D.Device.moment g.D.Device.left_since d mid new _ _
    (AtAnyMoment c.args.file c.args.at c.args.body.now i old) c.write_and_sync.ensures.any_moment c.write_and_sync-2.ensures.any_moment
    (any_before c.args.file c.args.at c.args.body.now i old here r)
    (any_after c.args.file c.args.at c.args.body.now i old here r (g.D.Device.may_leave mid)
    (told o _ i is c.in-Ok.ensures.durable) c.write_and_sync.ensures.images))

pub returns-in_default-write_and_sync-clause-others_from : goal.returns-in_default-write_and_sync-clause-others_from
returns-in_default-write_and_sync-clause-others_from g c k left = let d = c.args.device.now in let mid = c.write_and_sync.new.device in
    others_from-twice c.args.file (c.args.at + 1) (length c.args.body.now) (g.D.Device.may_leave d) (g.D.Device.may_leave mid) c.write_and_sync.ensures.images k
    (others_from c.args.file c.args.at 1 (g.D.Device.may_leave mid) k (c.write_and_sync-2.ensures.images k left))

pub returns-in_default-write_and_sync-clause-others : goal.returns-in_default-write_and_sync-clause-others
returns-in_default-write_and_sync-clause-others g c =
    keeps_others-twice c.args.file (g.D.Device.may_leave c.args.device.now) (g.D.Device.may_leave c.write_and_sync.new.device)
    (g.D.Device.may_leave c.write_and_sync-2.new.device)
    c.write_and_sync.ensures.others c.write_and_sync-2.ensures.others

pub returns-clause-done : goal.returns-clause-done
returns-clause-done g c = let d = c.args.device.now in let o = g.D.Device.contents d in let mid = c.write_and_sync.new.device in
    if_told o _ (λ i is. let r = told o _ i is c.requires.rest in
    let only = told (g.D.Device.contents mid) _ _ (told o _ i is c.in-Ok.ensures.contents) c.in-Ok-write_and_sync.ensures.durable in
    λ k left. only k left ∙ gated_is c.args.file c.args.at c.args.body.now i (g.D.Device.may_leave d) (g.met.D.Device.told_now d i is) r)

pub returns-clause-contents : goal.returns-clause-contents
returns-clause-contents g c = let d = c.args.device.now in let o = g.D.Device.contents d in let mid = c.write_and_sync.new.device in
    if_told o _ (λ i is. let r = told o _ i is c.requires.rest in
    told (g.D.Device.contents mid) _ _ (told o _ i is c.in-Ok.ensures.contents) c.in-Ok-write_and_sync.ensures.contents
    ∙ ap Some (with_bytes-twice i c.args.file _ _
    ∙ ap (with_bytes i c.args.file) (gated_is c.args.file c.args.at c.args.body.now i (g.D.Device.may_leave d) (g.met.D.Device.told_now d i is) r)))

pub returns-clause-any_moment : goal.returns-clause-any_moment
returns-clause-any_moment g c = let d = c.args.device.now in let o = g.D.Device.contents d in let mid = c.write_and_sync.new.device in
    let new = c.write_and_sync-2.new.device in let old = g.D.Device.may_leave d in
    if_told o _ (λ i is. let r = told o _ i is c.requires.rest in let here = g.met.D.Device.told_now d i is in
    joined g.D.Device.moment g.D.Device.left_since d mid new _ _
    (AtAnyMoment c.args.file c.args.at c.args.body.now i old) c.write_and_sync.ensures.any_moment c.write_and_sync-2.ensures.any_moment
    (any_before c.args.file c.args.at c.args.body.now i old here r)
    (any_after c.args.file c.args.at c.args.body.now i old here r (g.D.Device.may_leave mid)
    (told o _ i is c.in-Ok.ensures.durable) c.write_and_sync.ensures.images))

pub returns-clause-others_from : goal.returns-clause-others_from
returns-clause-others_from g c k left = let d = c.args.device.now in let mid = c.write_and_sync.new.device in
    others_from-twice c.args.file (c.args.at + 1) (length c.args.body.now) (g.D.Device.may_leave d) (g.D.Device.may_leave mid) c.write_and_sync.ensures.images k
    (others_from c.args.file c.args.at 1 (g.D.Device.may_leave mid) k (c.write_and_sync-2.ensures.images k left))

pub returns-clause-others : goal.returns-clause-others
returns-clause-others g c =
    keeps_others-twice c.args.file (g.D.Device.may_leave c.args.device.now) (g.D.Device.may_leave c.write_and_sync.new.device)
    (g.D.Device.may_leave c.write_and_sync-2.new.device)
    c.write_and_sync.ensures.others c.write_and_sync-2.ensures.others
