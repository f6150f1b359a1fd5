use Rattle.std.proofs.Common.{◌++◌, ◌∷◌, [], take, refl, sym, ap, ◌∙◌, subst, arith}
use Rattle.std.proofs.lemmas.List.{take_more}
use Rattle.page_device.proofs.Told.{if_told, told}
use Rattle.page_device.proofs.Runs.{started, joined}
use Rattle.slot_store.specs.Planned.{written_slots, HasRoom}
use Rattle.slot_store.specs.Steps.{From, SlotsWritten}
use Rattle.slot_store.proofs.Steps.{from_itself, from_twice, slots_still, slots_twice}
use Rattle.slot_store.proofs.Writing.{WroteSome, all_at, wrote_more, images_of_some, one_of_many}
use Rattle.slot_store.proofs.images.write_all.Goals as goal

pub loop-page-init : goal.loop-page-init
loop-page-init g c = let d = c.args.device.now in let w = written_slots c.args.placed.now in record {
  told = refl;
  done = if_told (g.D.Device.contents d) _ (λ i is. record { image = i; told = is; step = slots_still w i; each = tt });
  images = λ i left. from_itself (SlotsWritten w) (slots_still w) (g.D.Device.may_leave d) i left;
  run = started g.D.Device.moment g.D.Device.left_since d (From (SlotsWritten w) (g.D.Device.may_leave d))
      (λ i left. from_itself (SlotsWritten w) (slots_still w) (g.D.Device.may_leave d) i (g.met.D.Device.only_now d i left));
  later = omega arith;
}

pub write_one-requires : goal.write_one-requires
write_one-requires g c = record {
  slot = subst HasRoom (sym c.page-item.is)
      (all_at HasRoom c.args.placed.now c.loop-page.page-index c.page-item.result c.requires.slots c.loop-page-test.true);
}

pub loop-page-preserved : goal.loop-page-preserved
loop-page-preserved g c =
    let d = c.args.device.now in let mid = c.loop-page.device in let new = c.write_one.new.device in let ps = c.args.placed.now in let w = written_slots ps in
    let k = c.loop-page.page-index in let p = c.page-item.result in let inv = c.loop-page.invariant in
    let wide = one_of_many ps k p c.loop-page-test.true c.page-item.is in
    record {
      told = c.write_one.ensures.told ∙ inv.told;
      done = if_told (g.D.Device.contents d) _ (λ i is.
          subst (λ done. WroteSome ps done i (g.D.Device.contents new))
          (sym (take_more ps k p c.loop-page-test.true ∙ ap (λ x. take k ps ++ x ∷ []) (sym c.page-item.is)))
          (wrote_more ps k p i (g.D.Device.contents mid) (g.D.Device.contents new) c.requires.apart c.loop-page-test.true c.page-item.is
          (told (g.D.Device.contents d) _ i is inv.done)
          (λ a there. told (g.D.Device.contents mid) _ a there c.in_ok-write_one.ensures.contents)));
      images = λ i left. from_twice (SlotsWritten w) (slots_twice w) (g.D.Device.may_leave d) (g.D.Device.may_leave mid) inv.images i
          (wide (g.D.Device.may_leave mid) i (c.write_one.ensures.images i left));
      run = joined g.D.Device.moment g.D.Device.left_since d mid new _ _ (From (SlotsWritten w) (g.D.Device.may_leave d)) inv.run c.write_one.ensures.any_moment
          (λ i from. from)
          (λ i from. from_twice (SlotsWritten w) (slots_twice w) (g.D.Device.may_leave d) (g.D.Device.may_leave mid) inv.images i
          (wide (g.D.Device.may_leave mid) i from));
      later = omega (arith, inv.later, c.write_one.ensures.cause.later);
    }

pub returns-in_err-write_one-clause-images : goal.returns-in_err-write_one-clause-images
returns-in_err-write_one-clause-images g c i left =
    let d = c.args.device.now in let mid = c.loop-page.device in let ps = c.args.placed.now in let w = written_slots ps in
    from_twice (SlotsWritten w) (slots_twice w) (g.D.Device.may_leave d) (g.D.Device.may_leave mid) c.loop-page.invariant.images i
    (one_of_many ps c.loop-page.page-index c.page-item.result c.loop-page-test.true c.page-item.is (g.D.Device.may_leave mid) i
    (c.write_one.ensures.images i left))

pub returns-in_err-write_one-clause-any_moment : goal.returns-in_err-write_one-clause-any_moment
returns-in_err-write_one-clause-any_moment g c =
    let d = c.args.device.now in let mid = c.loop-page.device in let new = c.write_one.new.device in let ps = c.args.placed.now in let w = written_slots ps in
    joined g.D.Device.moment g.D.Device.left_since d mid new _ _ (From (SlotsWritten w) (g.D.Device.may_leave d))
    c.loop-page.invariant.run c.write_one.ensures.any_moment
    (λ i from. from)
    (λ i from. from_twice (SlotsWritten w) (slots_twice w) (g.D.Device.may_leave d) (g.D.Device.may_leave mid) c.loop-page.invariant.images i
    (one_of_many ps c.loop-page.page-index c.page-item.result c.loop-page-test.true c.page-item.is (g.D.Device.may_leave mid) i from))

pub returns-clause-contents : goal.returns-clause-contents
returns-clause-contents g c = let ps = c.args.placed.now in
    if_told (g.D.Device.contents c.args.device.now) _ (λ i is. images_of_some ps c.loop-page.page-index i (g.D.Device.contents c.loop-page.device)
    c.loop-page-test.false (told (g.D.Device.contents c.args.device.now) _ i is c.loop-page.invariant.done))
