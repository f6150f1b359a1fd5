use Rattle.std.proofs.Common.{◌≡◌, ◌≤◌, ◌+◌, ◌*◌, ◌-◌, ◌++◌, List, ℕ, length, take, drop, refl, sym, ap, ◌∙◌, subst, arith, rules, length-append, length-take, append_assoc}
use Rattle.std.specs.List.{flat_map}
use Rattle.std.proofs.lemmas.List.{append-nil, take_all}
use Rattle.page_device.proofs.Told.{if_told, told}
use Rattle.page_device.proofs.Runs.{started, joined}
use Rattle.page_device.proofs.Replay.{with_own}
use Rattle.slot_store.specs.Planned.{placed_bytes}
use Rattle.slot_store.specs.Steps.{From, BehindGate, BeginsWith}
use Rattle.slot_store.proofs.Steps.{from_itself, behind_still}
use Rattle.slot_store.proofs.Writing.{behind_again, rows_more, length-placed, begins_twice}
use Rattle.slot_store.proofs.head.write_rows.Goals as goal

pub loop-place-init : goal.loop-place-init
loop-place-init g c = let d = c.args.device.now in let f = c.args.file in record {
  within = search rules;
  buffer = refl;
  told = refl;
  begins = if_told (g.D.Device.contents d) _ (λ i is. λ front rest long starts. record {
    image = i;
    told = is;
    others = with_own i f;
    rest = rest;
    is = starts ∙ ap (λ (l : List ℕ). l ++ rest) (sym (append-nil front));
  });
  images = λ i left. from_itself (BehindGate f) (behind_still f) (g.D.Device.may_leave d) i left;
  run = started g.D.Device.moment g.D.Device.left_since d (From (BehindGate f) (g.D.Device.may_leave d))
      (λ i left. from_itself (BehindGate f) (behind_still f) (g.D.Device.may_leave d) i (g.met.D.Device.only_now d i left));
  later = omega arith;
}

pub loop-place-preserved : goal.loop-place-preserved
loop-place-preserved g c =
    let d = c.args.device.now in let mid = c.loop-place.device in let new = c.write_some.new.device in let f = c.args.file in let rows = c.args.rows.now in
    let k = c.loop-place.place in let next = c.min-next.result in let inv = c.loop-place.invariant in let o = g.D.Device.contents d in
    let le : k ≤ next = search rules in
    let within : next ≤ length rows = search rules in
    let one = flat_map placed_bytes (take k rows) in let two = flat_map placed_bytes (take (next - k) (drop k rows)) in
    record {
      within = within;
      buffer = c.write_some.ensures.buffer ∙ inv.buffer;
      told = c.write_some.ensures.told ∙ inv.told;
      begins = if_told o _ (λ i is. λ front rest long starts.
          let was = told o _ i is inv.begins front rest long starts in
          let here : length (front ++ one) ≡ c.args.at + k * 32 =
          omega (arith, long, length-append front one, length-placed (take k rows), length-take k rows, inv.within) in
          let step = told (g.D.Device.contents mid) _ was.image was.told c.in_ok-write_some.ensures.begins (front ++ one) was.rest here was.is in
          begins_twice f (front ++ one) (front ++ flat_map placed_bytes (take next rows)) i (g.D.Device.contents mid) (g.D.Device.contents new) was
          (subst (λ (l : List ℕ). BeginsWith f l was.image (g.D.Device.contents new))
          (append_assoc front one two ∙ ap (λ (l : List ℕ). front ++ l) (sym (rows_more rows k next le))) step));
      images = λ i left. behind_again f (g.D.Device.may_leave d) (g.D.Device.may_leave mid) inv.images i (c.write_some.ensures.images i left);
      run = joined g.D.Device.moment g.D.Device.left_since d mid new _ _ (From (BehindGate f) (g.D.Device.may_leave d)) inv.run c.write_some.ensures.any_moment
          (λ i from. from) (behind_again f (g.D.Device.may_leave d) (g.D.Device.may_leave mid) inv.images);
      later = omega (arith, inv.later, c.write_some.ensures.cause.later);
    }

pub returns-in_err-write_some-clause-images : goal.returns-in_err-write_some-clause-images
returns-in_err-write_some-clause-images g c i left =
    behind_again c.args.file (g.D.Device.may_leave c.args.device.now) (g.D.Device.may_leave c.loop-place.device) c.loop-place.invariant.images i
    (c.write_some.ensures.images i left)

pub returns-in_err-write_some-clause-any_moment : goal.returns-in_err-write_some-clause-any_moment
returns-in_err-write_some-clause-any_moment g c = let d = c.args.device.now in let mid = c.loop-place.device in let f = c.args.file in
    joined g.D.Device.moment g.D.Device.left_since d mid c.write_some.new.device _ _ (From (BehindGate f) (g.D.Device.may_leave d)) c.loop-place.invariant.run
    c.write_some.ensures.any_moment (λ i from. from)
    (behind_again f (g.D.Device.may_leave d) (g.D.Device.may_leave mid) c.loop-place.invariant.images)

pub returns-clause-begins : goal.returns-clause-begins
returns-clause-begins g c = let d = c.args.device.now in
    if_told (g.D.Device.contents d) _ (λ i is. λ front rest long starts.
    subst (λ rows. BeginsWith c.args.file (front ++ flat_map placed_bytes rows) i (g.D.Device.contents c.loop-place.device))
    (take_all c.loop-place.place c.args.rows.now (search rules)) (told (g.D.Device.contents d) _ i is c.loop-place.invariant.begins front rest long starts))
