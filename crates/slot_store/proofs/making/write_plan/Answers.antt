use Rattle.std.proofs.Common.{◌≡◌, ◌∷◌, [], subst, rules}
use Rattle.page_device.specs.declared.device.Which.{Which}
use Rattle.page_device.specs.Image.{bytes_of}
use Rattle.page_device.specs.Write.{overlay}
use Rattle.page_device.specs.Device.{FileIs}
use Rattle.page_device.specs.Run.{Each, LeavesOnly, InPart}
use Rattle.page_device.proofs.Told.{if_told, told}
use Rattle.page_device.proofs.Runs.{weaker, joined}
use Rattle.slot_store.specs.Logs.{other_file}
use Rattle.slot_store.specs.Opens.{Opens}
use Rattle.slot_store.specs.Planned.{opened_of, head_of}
use Rattle.slot_store.specs.Checkpoint.{IsPlanned}
use Rattle.slot_store.proofs.Preparing.{at_opens, doubt_opens, torn_open, opened_now, stand_on}
use Rattle.slot_store.proofs.making.write_plan.Goals as goal

pub returns-in_default-clause-any_moment : goal.returns-in_default-clause-any_moment
returns-in_default-clause-any_moment g c =
    let d = c.args.device.now in let o = g.D.Device.contents d in let st = c.args.state.now in let pl = c.args.plan.now in
    if_told o _ (λ i is. weaker g.D.Device.moment g.D.Device.left_since d c.prepare.new.device (IsPlanned st pl i) (Opens (opened_of pl i))
    (told o _ i is c.prepare.ensures.any_moment) (λ k planned. at_opens st (opened_of pl i) k planned.at_rest))

pub returns-in_default-write_and_sync-clause-doubt : goal.returns-in_default-write_and_sync-clause-doubt
returns-in_default-write_and_sync-clause-doubt g c _ =
    let d = c.args.device.now in let o = g.D.Device.contents d in let st = c.args.state.now in let pl = c.args.plan.now in
    let mid = g.D.Device.may_leave c.prepare.new.device in let new = g.D.Device.may_leave c.write_and_sync.new.device in
    let fv : c.file.result ≡ other_file st.log = search rules in
    let torn = subst (λ (f : Which). Each new (InPart f 0 1 mid)) fv c.write_and_sync.ensures.images in
    if_told o _ (λ i is. let done = told o _ i is c.in-Ok.ensures.done in (
      done.2.rest,
      λ k left. torn_open st pl c.requires.made i (told o _ i is c.requires.ready).right done.0 mid done.2 (told o _ i is c.prepare.ensures.images) k
          (torn k left),
    ))

pub returns-in_default-write_and_sync-clause-any_moment : goal.returns-in_default-write_and_sync-clause-any_moment
returns-in_default-write_and_sync-clause-any_moment g c =
    let d = c.args.device.now in let o = g.D.Device.contents d in let st = c.args.state.now in let pl = c.args.plan.now in
    let mid = c.prepare.new.device in let new = c.write_and_sync.new.device in
    let fv : c.file.result ≡ other_file st.log = search rules in
    let run = subst (λ (f : Which). LeavesOnly g.D.Device.moment g.D.Device.left_since mid new (InPart f 0 1 (g.D.Device.may_leave mid))) fv
    c.write_and_sync.ensures.any_moment in
    if_told o _ (λ i is. let done = told o _ i is c.in-Ok.ensures.done in
    joined g.D.Device.moment g.D.Device.left_since d mid new (IsPlanned st pl i) _ (Opens (opened_of pl i)) (told o _ i is c.prepare.ensures.any_moment) run
    (λ k planned. at_opens st (opened_of pl i) k planned.at_rest)
    (λ k part. doubt_opens st (head_of pl) done.2.rest (opened_of pl i) k
    (torn_open st pl c.requires.made i (told o _ i is c.requires.ready).right done.0 (g.D.Device.may_leave mid) done.2
    (told o _ i is c.prepare.ensures.images) k part)))

pub returns-in_default-write_and_sync-clause-stand : goal.returns-in_default-write_and_sync-clause-stand
returns-in_default-write_and_sync-clause-stand g c =
    let d = c.args.device.now in let o = g.D.Device.contents d in let st = c.args.state.now in let pl = c.args.plan.now in
    let mid = g.D.Device.may_leave c.prepare.new.device in let new = g.D.Device.may_leave c.write_and_sync.new.device in
    let fv : c.file.result ≡ other_file st.log = search rules in
    let torn = subst (λ (f : Which). Each new (InPart f 0 1 mid)) fv c.write_and_sync.ensures.images in
    if_told o _ (λ i is. λ k left. let part = torn k left in
    stand_on st pl c.requires.made i (g.D.Device.may_leave d) mid (told o _ i is c.prepare.ensures.stand) part.was k part.is_old part.torn.others)

pub returns-clause-done : goal.returns-clause-done
returns-clause-done g c =
    let d = c.args.device.now in let o = g.D.Device.contents d in let st = c.args.state.now in let pl = c.args.plan.now in
    let mid = c.prepare.new.device in let new = g.D.Device.may_leave c.write_and_sync.new.device in
    let fv : c.file.result ≡ other_file st.log = search rules in
    let torn = subst (λ (f : Which). Each new (InPart f 0 1 (g.D.Device.may_leave mid))) fv c.write_and_sync.ensures.images in
    if_told o _ (λ i is. let done = told o _ i is c.in-Ok.ensures.done in
    let synced = subst (λ (f : Which). FileIs f (overlay (bytes_of done.0 f) 0 (1 ∷ [])) new) fv
    (told (g.D.Device.contents mid) _ done.0 done.1 c.in-Ok-write_and_sync.ensures.durable) in
    λ k left. opened_now st pl c.requires.made i (told o _ i is c.requires.ready).right done.0 (g.D.Device.may_leave mid) done.2
    (told o _ i is c.prepare.ensures.images) new synced k left (torn k left))

pub returns-clause-any_moment : goal.returns-clause-any_moment
returns-clause-any_moment g c =
    let d = c.args.device.now in let o = g.D.Device.contents d in let st = c.args.state.now in let pl = c.args.plan.now in
    let mid = c.prepare.new.device in let new = c.write_and_sync.new.device in
    let fv : c.file.result ≡ other_file st.log = search rules in
    let run = subst (λ (f : Which). LeavesOnly g.D.Device.moment g.D.Device.left_since mid new (InPart f 0 1 (g.D.Device.may_leave mid))) fv
    c.write_and_sync.ensures.any_moment in
    if_told o _ (λ i is. let done = told o _ i is c.in-Ok.ensures.done in
    joined g.D.Device.moment g.D.Device.left_since d mid new (IsPlanned st pl i) _ (Opens (opened_of pl i)) (told o _ i is c.prepare.ensures.any_moment) run
    (λ k planned. at_opens st (opened_of pl i) k planned.at_rest)
    (λ k part. doubt_opens st (head_of pl) done.2.rest (opened_of pl i) k
    (torn_open st pl c.requires.made i (told o _ i is c.requires.ready).right done.0 (g.D.Device.may_leave mid) done.2
    (told o _ i is c.prepare.ensures.images) k part)))

pub returns-clause-stand : goal.returns-clause-stand
returns-clause-stand g c =
    let d = c.args.device.now in let o = g.D.Device.contents d in let st = c.args.state.now in let pl = c.args.plan.now in
    let mid = g.D.Device.may_leave c.prepare.new.device in let new = g.D.Device.may_leave c.write_and_sync.new.device in
    let fv : c.file.result ≡ other_file st.log = search rules in
    let torn = subst (λ (f : Which). Each new (InPart f 0 1 mid)) fv c.write_and_sync.ensures.images in
    if_told o _ (λ i is. λ k left. let part = torn k left in
    stand_on st pl c.requires.made i (g.D.Device.may_leave d) mid (told o _ i is c.prepare.ensures.stand) part.was k part.is_old part.torn.others)
