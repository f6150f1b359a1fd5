use Rattle.std.proofs.Common.{◌≡◌, ◌∷◌, [], ◌*◌, Some, length, refl, sym, ap, ◌∙◌, rules}
use Rattle.page_device.specs.declared.device.Which.TheVariants.{Slots}
use Rattle.page_device.specs.Run.{InPart}
use Rattle.page_device.proofs.Told.{if_told, told}
use Rattle.page_device.proofs.Replay.{on_ok}
use Rattle.page_device.proofs.Runs.{started, written, after_a_write, weaker}
use Rattle.slot_store.specs.Planned.{written_slots}
use Rattle.slot_store.specs.Steps.{From, SlotsWritten}
use Rattle.slot_store.proofs.Steps.{from_itself, from_part, slots_still, none_written, one_written, one_torn}
use Rattle.slot_store.proofs.images.write_one.Goals as goal

pub returns-in-None-clause-contents : goal.returns-in-None-clause-contents
returns-in-None-clause-contents g c = if_told (g.D.Device.contents c.args.device.now) _ (λ i is. (i, is, none_written c.args.placed.now i c.in-None.is))

pub returns-in-None-clause-images : goal.returns-in-None-clause-images
returns-in-None-clause-images g c i left =
    let w = written_slots (c.args.placed.now ∷ []) in from_itself (SlotsWritten w) (slots_still w) (g.D.Device.may_leave c.args.device.now) i left

pub returns-in-None-clause-any_moment : goal.returns-in-None-clause-any_moment
returns-in-None-clause-any_moment g c =
    let d = c.args.device.now in let w = written_slots (c.args.placed.now ∷ []) in
    started g.D.Device.moment g.D.Device.left_since d (From (SlotsWritten w) (g.D.Device.may_leave d))
    (λ i left. from_itself (SlotsWritten w) (slots_still w) (g.D.Device.may_leave d) i (g.met.D.Device.only_now d i left))

pub returns-in-Some-clause-contents : goal.returns-in-Some-clause-contents
returns-in-Some-clause-contents g c =
    let o = g.D.Device.contents c.args.device.now in let p = c.args.placed.now in let b = c.bytes.result.now in
    let long : length b ≡ 4096 = search rules in
    on_ok c.write_at.result _ _ (λ wrote. if_told o _ (λ i is. (
      _,
      told o _ i is wrote,
      one_written p b i _
          (c.in-Some.is ∙ ap Some (sym c.bytes.ensures)) long refl,
    )))
    c.write_at.ensures.written

pub returns-in-Some-clause-images : goal.returns-in-Some-clause-images
returns-in-Some-clause-images g c i left =
    let d = c.args.device.now in let p = c.args.placed.now in let b = c.bytes.result.now in
    let long : length b ≡ 4096 = search rules in
    from_part (SlotsWritten (written_slots (p ∷ []))) Slots (p.slot * 4096) (length b)
    (one_torn p b (length b) (c.in-Some.is ∙ ap Some (sym c.bytes.ensures)) long) (g.D.Device.may_leave d) i
    (written Slots (p.slot * 4096) (length b) (g.D.Device.may_leave d) _ _ c.write_at.ensures.crash i left)

pub returns-in-Some-clause-any_moment : goal.returns-in-Some-clause-any_moment
returns-in-Some-clause-any_moment g c =
    let d = c.args.device.now in let p = c.args.placed.now in let b = c.bytes.result.now in
    let long : length b ≡ 4096 = search rules in
    weaker g.D.Device.moment g.D.Device.left_since d c.write_at.new.self (InPart Slots (p.slot * 4096) (length b) (g.D.Device.may_leave d))
    (From (SlotsWritten (written_slots (p ∷ []))) (g.D.Device.may_leave d))
    (after_a_write g.D.Device.moment g.D.Device.left_since g.D.Device.may_leave g.met.D.Device.only_now Slots (p.slot * 4096) (length b) d _ _
    c.write_at.ensures.crash c.write_at.ensures.time)
    (from_part (SlotsWritten (written_slots (p ∷ []))) Slots (p.slot * 4096) (length b)
    (one_torn p b (length b) (c.in-Some.is ∙ ap Some (sym c.bytes.ensures)) long) (g.D.Device.may_leave d))
