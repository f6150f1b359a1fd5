use Rattle.std.proofs.Common.{◌++◌, ◌∷◌, [], get_or, refl, ◌∙◌, arith, rules, length-append}
use Rattle.std.specs.List.{flat_map}
use Rattle.page_device.specs.Image.{bytes_of}
use Rattle.page_device.proofs.Told.{if_told, told}
use Rattle.page_device.proofs.Runs.{joined, goes_on}
use Rattle.slot_store.specs.Planned.{placed_bytes}
use Rattle.slot_store.specs.Steps.{From, BehindGate}
use Rattle.slot_store.proofs.Gates.{first_of}
use Rattle.slot_store.proofs.Writing.{behind_again, behind_all, length-placed, begins_thrice, both_ok}
use Rattle.slot_store.proofs.head.write_head.Goals as goal

pub returns-in_err-end-clause-any_moment : goal.returns-in_err-end-clause-any_moment
returns-in_err-end-clause-any_moment g c =
    let d = c.args.device.now in let d1 = c.put.new.device in let f = c.args.file in let old = g.D.Device.may_leave d in
    joined g.D.Device.moment g.D.Device.left_since d d1 c.write_rows.new.device _ _
    (From (BehindGate f) old) c.put.ensures.any_moment c.write_rows.ensures.any_moment
    (λ i from. from) (behind_again f old (g.D.Device.may_leave d1) c.put.ensures.images)

pub returns-in_err-put-2-clause-any_moment : goal.returns-in_err-put-2-clause-any_moment
returns-in_err-put-2-clause-any_moment g c =
    let d = c.args.device.now in let d1 = c.put.new.device in let d2 = c.write_rows.new.device in let f = c.args.file in let old = g.D.Device.may_leave d in
    let two = behind_all f old (g.D.Device.may_leave d1) (g.D.Device.may_leave d2) c.put.ensures.images c.write_rows.ensures.images in
    joined g.D.Device.moment g.D.Device.left_since d d2 c.put-2.new.device _ _ (From (BehindGate f) old)
    (joined g.D.Device.moment g.D.Device.left_since d d1 d2 _ _ (From (BehindGate f) old) c.put.ensures.any_moment c.write_rows.ensures.any_moment
    (λ i from. from) (behind_again f old (g.D.Device.may_leave d1) c.put.ensures.images)) c.put-2.ensures.any_moment
    (λ i from. from) (behind_again f old (g.D.Device.may_leave d2) two)

pub returns-clause-images : goal.returns-clause-images
returns-clause-images g c i left =
    let d = c.args.device.now in let d1 = c.put.new.device in let d2 = c.write_rows.new.device in let f = c.args.file in let old = g.D.Device.may_leave d in
    let two = behind_all f old (g.D.Device.may_leave d1) (g.D.Device.may_leave d2) c.put.ensures.images c.write_rows.ensures.images in
    behind_again f old (g.D.Device.may_leave d2) two i (c.put-2.ensures.images i (c.sync.ensures.crash i left))

pub returns-clause-any_moment : goal.returns-clause-any_moment
returns-clause-any_moment g c =
    let d = c.args.device.now in let d1 = c.put.new.device in let d2 = c.write_rows.new.device in let d3 = c.put-2.new.device in let f = c.args.file in
    let old = g.D.Device.may_leave d in
    let two = behind_all f old (g.D.Device.may_leave d1) (g.D.Device.may_leave d2) c.put.ensures.images c.write_rows.ensures.images in
    goes_on g.D.Device.moment g.D.Device.left_since d d3 c.sync.new.self (From (BehindGate f) old) (g.D.Device.may_leave c.sync.new.self)
    (joined g.D.Device.moment g.D.Device.left_since d d2 d3 _ _ (From (BehindGate f) old)
    (joined g.D.Device.moment g.D.Device.left_since d d1 d2 _ _ (From (BehindGate f) old) c.put.ensures.any_moment c.write_rows.ensures.any_moment
    (λ i from. from) (behind_again f old (g.D.Device.may_leave d1) c.put.ensures.images)) c.put-2.ensures.any_moment
    (λ i from. from) (behind_again f old (g.D.Device.may_leave d2) two)) c.sync.ensures.time
    (λ i left. behind_again f old (g.D.Device.may_leave d2) two i (c.put-2.ensures.images i (c.sync.ensures.crash i left)))

pub returns-clause-contents : goal.returns-clause-contents
returns-clause-contents g c =
    let d = c.args.device.now in let d1 = c.put.new.device in let d2 = c.write_rows.new.device in let d3 = c.put-2.new.device in let f = c.args.file in
    let o = g.D.Device.contents d in let fr = c.args.front.now in let rows = flat_map placed_bytes c.args.rows.now in
    both_ok c.sync.result _ _ _ (λ durable same. if_told o _ (λ i is.
    let first = first_of (bytes_of i f) (told o _ i is c.requires.gate) in let gate = get_or (bytes_of i f) 0 0 in
    let b1 = told o _ i is c.in_ok-put.ensures.begins (gate ∷ []) first.0 refl first.1 in
    let b2 = told (g.D.Device.contents d1) _ b1.image b1.told c.in_ok-end.ensures.begins (gate ∷ fr) b1.rest (search rules) b1.is in
    let b3 = told (g.D.Device.contents d2) _ b2.image b2.told c.in_ok-put-2.ensures.begins (gate ∷ (fr ++ rows)) b2.rest
    (omega (arith, length-append fr rows, length-placed c.args.rows.now, c.in_ok-end.ensures.end)) b2.is in
    let three = begins_thrice f (gate ∷ fr) (gate ∷ (fr ++ rows)) (gate ∷ ((fr ++ rows) ++ 0 ∷ [])) i (g.D.Device.contents d1) (g.D.Device.contents d2)
    (g.D.Device.contents d3) b1 b2 b3 in (
      three.image,
      same ∙ three.told,
      record {
        others = three.others;
        gate = gate;
        before = first.0;
        was_so = first.1;
        rest = three.rest;
        is = three.is;
      },
      told (g.D.Device.contents d3) _ three.image three.told durable,
    ))) c.sync.ensures.durable c.sync.ensures.contents
