use Rattle.std.proofs.Common.{◌≡◌, ◌++◌, ◌∷◌, [], length, map, sym, ap, subst, ◌∙◌, arith, refl, rules}
use Rattle.std.specs.List.{flat_map}
use Rattle.std.proofs.lemmas.List.{length-map}
use Rattle.page_device.specs.Image.{Image}
use Rattle.page_device.proofs.Told.{if_told, told}
use Rattle.slot_store.specs.Logs.{other_file}
use Rattle.slot_store.proofs.Preparing.{first_planned, first_stand, first_run, second_planned, second_stand, second_run, third_planned, third_stand, third_run, third_prepared, head_fits}
use Rattle.slot_store.specs.Head.{row_bytes}
use Rattle.slot_store.specs.Planned.{placed_bytes, row_of}
use Rattle.slot_store.specs.Steps.{Stands}
use Rattle.slot_store.proofs.Writing.{bytes_placed}
use Rattle.slot_store.proofs.prepare.prepare.Goals as goal

pub returns-in_err-write_images-clause-images : goal.returns-in_err-write_images-clause-images
returns-in_err-write_images-clause-images g c =
    let d = c.args.device.now in let o = g.D.Device.contents d in let old = g.D.Device.may_leave d in
    let d1 = c.write_images.new.device in let mid = g.D.Device.may_leave d1 in let st = c.args.state.now in let pl = c.args.plan.now in
    let ps = c.as_slice-placed.result.now in let pv : ps ≡ pl.placed.items = search rules in
    if_told o _ (λ i is. first_planned g.D.Device.moment g.D.Device.left_since st pl c.requires.made i ps pv (other_file st.log) refl old mid mid mid
    (told o _ i is c.requires.ready).each c.write_images.ensures.images)

pub returns-in_err-write_images-clause-any_moment : goal.returns-in_err-write_images-clause-any_moment
returns-in_err-write_images-clause-any_moment g c =
    let d = c.args.device.now in let o = g.D.Device.contents d in let old = g.D.Device.may_leave d in
    let d1 = c.write_images.new.device in let mid = g.D.Device.may_leave d1 in let st = c.args.state.now in let pl = c.args.plan.now in
    let ps = c.as_slice-placed.result.now in let pv : ps ≡ pl.placed.items = search rules in
    if_told o _ (λ i is. first_run g.D.Device.moment g.D.Device.left_since st pl c.requires.made i ps pv (other_file st.log) refl old mid mid mid
    (told o _ i is c.requires.ready).each c.write_images.ensures.images d d1 c.write_images.ensures.any_moment)

pub returns-in_err-write_images-clause-stand : goal.returns-in_err-write_images-clause-stand
returns-in_err-write_images-clause-stand g c =
    let d = c.args.device.now in let o = g.D.Device.contents d in let old = g.D.Device.may_leave d in
    let d1 = c.write_images.new.device in let mid = g.D.Device.may_leave d1 in let st = c.args.state.now in let pl = c.args.plan.now in
    let ps = c.as_slice-placed.result.now in let pv : ps ≡ pl.placed.items = search rules in
    if_told o _ (λ i is. first_stand g.D.Device.moment g.D.Device.left_since st pl c.requires.made i ps pv (other_file st.log) refl old mid mid mid
    (told o _ i is c.requires.ready).each c.write_images.ensures.images)

pub returns-in_err-close_gate-clause-images : goal.returns-in_err-close_gate-clause-images
returns-in_err-close_gate-clause-images g c =
    let d = c.args.device.now in let o = g.D.Device.contents d in let old = g.D.Device.may_leave d in
    let d1 = c.write_images.new.device in let mid = g.D.Device.may_leave d1 in let st = c.args.state.now in let pl = c.args.plan.now in
    let ps = c.as_slice-placed.result.now in let pv : ps ≡ pl.placed.items = search rules in
    let d2 = c.close_gate.new.device in let mid' = g.D.Device.may_leave d2 in let f = c.file-file.result in let fv : f ≡ other_file st.log = search rules in
    if_told o _ (λ i is. second_planned g.D.Device.moment g.D.Device.left_since st pl c.requires.made i ps pv f fv old mid mid' mid'
    (told o _ i is c.requires.ready).each c.write_images.ensures.images
    (told (g.D.Device.contents d1) _ _ (told o _ i is c.in_ok-write_images.ensures.contents).1 c.close_gate.ensures.images))

pub returns-in_err-close_gate-clause-any_moment : goal.returns-in_err-close_gate-clause-any_moment
returns-in_err-close_gate-clause-any_moment g c =
    let d = c.args.device.now in let o = g.D.Device.contents d in let old = g.D.Device.may_leave d in
    let d1 = c.write_images.new.device in let mid = g.D.Device.may_leave d1 in let st = c.args.state.now in let pl = c.args.plan.now in
    let ps = c.as_slice-placed.result.now in let pv : ps ≡ pl.placed.items = search rules in
    let d2 = c.close_gate.new.device in let mid' = g.D.Device.may_leave d2 in let f = c.file-file.result in let fv : f ≡ other_file st.log = search rules in
    if_told o _ (λ i is. second_run g.D.Device.moment g.D.Device.left_since st pl c.requires.made i ps pv f fv old mid mid' mid'
    (told o _ i is c.requires.ready).each c.write_images.ensures.images
    (told (g.D.Device.contents d1) _ _ (told o _ i is c.in_ok-write_images.ensures.contents).1 c.close_gate.ensures.images)
    d d1 d2 c.write_images.ensures.any_moment
    (told (g.D.Device.contents d1) _ _ (told o _ i is c.in_ok-write_images.ensures.contents).1 c.close_gate.ensures.any_moment))

pub returns-in_err-close_gate-clause-stand : goal.returns-in_err-close_gate-clause-stand
returns-in_err-close_gate-clause-stand g c =
    let d = c.args.device.now in let o = g.D.Device.contents d in let old = g.D.Device.may_leave d in
    let d1 = c.write_images.new.device in let mid = g.D.Device.may_leave d1 in let st = c.args.state.now in let pl = c.args.plan.now in
    let ps = c.as_slice-placed.result.now in let pv : ps ≡ pl.placed.items = search rules in
    let d2 = c.close_gate.new.device in let mid' = g.D.Device.may_leave d2 in let f = c.file-file.result in let fv : f ≡ other_file st.log = search rules in
    if_told o _ (λ i is. second_stand g.D.Device.moment g.D.Device.left_since st pl c.requires.made i ps pv f fv old mid mid' mid'
    (told o _ i is c.requires.ready).each c.write_images.ensures.images
    (told (g.D.Device.contents d1) _ _ (told o _ i is c.in_ok-write_images.ensures.contents).1 c.close_gate.ensures.images))

pub returns-in_err-write_head-clause-images : goal.returns-in_err-write_head-clause-images
returns-in_err-write_head-clause-images g c =
    let d = c.args.device.now in let o = g.D.Device.contents d in let old = g.D.Device.may_leave d in
    let d1 = c.write_images.new.device in let mid = g.D.Device.may_leave d1 in let st = c.args.state.now in let pl = c.args.plan.now in
    let ps = c.as_slice-placed.result.now in let pv : ps ≡ pl.placed.items = search rules in
    let d2 = c.close_gate.new.device in let mid' = g.D.Device.may_leave d2 in let f = c.file-file.result in let fv : f ≡ other_file st.log = search rules in
    let d3 = c.write_head.new.device in let new = g.D.Device.may_leave d3 in
    if_told o _ (λ i is. third_planned g.D.Device.moment g.D.Device.left_since st pl c.requires.made i ps pv f fv old mid mid' new
    (told o _ i is c.requires.ready).each c.write_images.ensures.images
    (told (g.D.Device.contents d1) _ _ (told o _ i is c.in_ok-write_images.ensures.contents).1 c.close_gate.ensures.images)
    (told (g.D.Device.contents d1) _ _ (told o _ i is c.in_ok-write_images.ensures.contents).1 c.in_ok-close_gate.ensures.contents).0
    (told (g.D.Device.contents d1) _ _ (told o _ i is c.in_ok-write_images.ensures.contents).1 c.in_ok-close_gate.ensures.contents).3
    c.write_head.ensures.images)

pub returns-in_err-write_head-clause-any_moment : goal.returns-in_err-write_head-clause-any_moment
returns-in_err-write_head-clause-any_moment g c =
    let d = c.args.device.now in let o = g.D.Device.contents d in let old = g.D.Device.may_leave d in
    let d1 = c.write_images.new.device in let mid = g.D.Device.may_leave d1 in let st = c.args.state.now in let pl = c.args.plan.now in
    let ps = c.as_slice-placed.result.now in let pv : ps ≡ pl.placed.items = search rules in
    let d2 = c.close_gate.new.device in let mid' = g.D.Device.may_leave d2 in let f = c.file-file.result in let fv : f ≡ other_file st.log = search rules in
    let d3 = c.write_head.new.device in let new = g.D.Device.may_leave d3 in
    if_told o _ (λ i is. third_run g.D.Device.moment g.D.Device.left_since st pl c.requires.made i ps pv f fv old mid mid' new
    (told o _ i is c.requires.ready).each c.write_images.ensures.images
    (told (g.D.Device.contents d1) _ _ (told o _ i is c.in_ok-write_images.ensures.contents).1 c.close_gate.ensures.images)
    (told (g.D.Device.contents d1) _ _ (told o _ i is c.in_ok-write_images.ensures.contents).1 c.in_ok-close_gate.ensures.contents).0
    (told (g.D.Device.contents d1) _ _ (told o _ i is c.in_ok-write_images.ensures.contents).1 c.in_ok-close_gate.ensures.contents).3
    c.write_head.ensures.images d d1 d2 d3 c.write_images.ensures.any_moment
    (told (g.D.Device.contents d1) _ _ (told o _ i is c.in_ok-write_images.ensures.contents).1 c.close_gate.ensures.any_moment) c.write_head.ensures.any_moment)

pub returns-in_err-write_head-clause-stand : goal.returns-in_err-write_head-clause-stand
returns-in_err-write_head-clause-stand g c =
    let d = c.args.device.now in let o = g.D.Device.contents d in let old = g.D.Device.may_leave d in
    let d1 = c.write_images.new.device in let mid = g.D.Device.may_leave d1 in let st = c.args.state.now in let pl = c.args.plan.now in
    let ps = c.as_slice-placed.result.now in let pv : ps ≡ pl.placed.items = search rules in
    let d2 = c.close_gate.new.device in let mid' = g.D.Device.may_leave d2 in let f = c.file-file.result in let fv : f ≡ other_file st.log = search rules in
    let d3 = c.write_head.new.device in let new = g.D.Device.may_leave d3 in
    if_told o _ (λ i is. third_stand g.D.Device.moment g.D.Device.left_since st pl c.requires.made i ps pv f fv old mid mid' new
    (told o _ i is c.requires.ready).each c.write_images.ensures.images
    (told (g.D.Device.contents d1) _ _ (told o _ i is c.in_ok-write_images.ensures.contents).1 c.close_gate.ensures.images)
    (told (g.D.Device.contents d1) _ _ (told o _ i is c.in_ok-write_images.ensures.contents).1 c.in_ok-close_gate.ensures.contents).0
    (told (g.D.Device.contents d1) _ _ (told o _ i is c.in_ok-write_images.ensures.contents).1 c.in_ok-close_gate.ensures.contents).3
    c.write_head.ensures.images)

pub returns-clause-images : goal.returns-clause-images
returns-clause-images g c =
    let d = c.args.device.now in let o = g.D.Device.contents d in let old = g.D.Device.may_leave d in
    let d1 = c.write_images.new.device in let mid = g.D.Device.may_leave d1 in let st = c.args.state.now in let pl = c.args.plan.now in
    let ps = c.as_slice-placed.result.now in let pv : ps ≡ pl.placed.items = search rules in
    let d2 = c.close_gate.new.device in let mid' = g.D.Device.may_leave d2 in let f = c.file-file.result in let fv : f ≡ other_file st.log = search rules in
    let d3 = c.write_head.new.device in let new = g.D.Device.may_leave d3 in
    if_told o _ (λ i is. third_planned g.D.Device.moment g.D.Device.left_since st pl c.requires.made i ps pv f fv old mid mid' new
    (told o _ i is c.requires.ready).each c.write_images.ensures.images
    (told (g.D.Device.contents d1) _ _ (told o _ i is c.in_ok-write_images.ensures.contents).1 c.close_gate.ensures.images)
    (told (g.D.Device.contents d1) _ _ (told o _ i is c.in_ok-write_images.ensures.contents).1 c.in_ok-close_gate.ensures.contents).0
    (told (g.D.Device.contents d1) _ _ (told o _ i is c.in_ok-write_images.ensures.contents).1 c.in_ok-close_gate.ensures.contents).3
    c.write_head.ensures.images)

pub returns-clause-any_moment : goal.returns-clause-any_moment
returns-clause-any_moment g c =
    let d = c.args.device.now in let o = g.D.Device.contents d in let old = g.D.Device.may_leave d in
    let d1 = c.write_images.new.device in let mid = g.D.Device.may_leave d1 in let st = c.args.state.now in let pl = c.args.plan.now in
    let ps = c.as_slice-placed.result.now in let pv : ps ≡ pl.placed.items = search rules in
    let d2 = c.close_gate.new.device in let mid' = g.D.Device.may_leave d2 in let f = c.file-file.result in let fv : f ≡ other_file st.log = search rules in
    let d3 = c.write_head.new.device in let new = g.D.Device.may_leave d3 in
    if_told o _ (λ i is. third_run g.D.Device.moment g.D.Device.left_since st pl c.requires.made i ps pv f fv old mid mid' new
    (told o _ i is c.requires.ready).each c.write_images.ensures.images
    (told (g.D.Device.contents d1) _ _ (told o _ i is c.in_ok-write_images.ensures.contents).1 c.close_gate.ensures.images)
    (told (g.D.Device.contents d1) _ _ (told o _ i is c.in_ok-write_images.ensures.contents).1 c.in_ok-close_gate.ensures.contents).0
    (told (g.D.Device.contents d1) _ _ (told o _ i is c.in_ok-write_images.ensures.contents).1 c.in_ok-close_gate.ensures.contents).3
    c.write_head.ensures.images d d1 d2 d3 c.write_images.ensures.any_moment
    (told (g.D.Device.contents d1) _ _ (told o _ i is c.in_ok-write_images.ensures.contents).1 c.close_gate.ensures.any_moment) c.write_head.ensures.any_moment)

pub returns-clause-stand : goal.returns-clause-stand
returns-clause-stand g c =
    let d = c.args.device.now in let o = g.D.Device.contents d in let old = g.D.Device.may_leave d in
    let d1 = c.write_images.new.device in let mid = g.D.Device.may_leave d1 in let st = c.args.state.now in let pl = c.args.plan.now in
    let ps = c.as_slice-placed.result.now in let pv : ps ≡ pl.placed.items = search rules in
    let d2 = c.close_gate.new.device in let mid' = g.D.Device.may_leave d2 in let f = c.file-file.result in let fv : f ≡ other_file st.log = search rules in
    let d3 = c.write_head.new.device in let new = g.D.Device.may_leave d3 in
    if_told o _ (λ i is. third_stand g.D.Device.moment g.D.Device.left_since st pl c.requires.made i ps pv f fv old mid mid' new
    (told o _ i is c.requires.ready).each c.write_images.ensures.images
    (told (g.D.Device.contents d1) _ _ (told o _ i is c.in_ok-write_images.ensures.contents).1 c.close_gate.ensures.images)
    (told (g.D.Device.contents d1) _ _ (told o _ i is c.in_ok-write_images.ensures.contents).1 c.in_ok-close_gate.ensures.contents).0
    (told (g.D.Device.contents d1) _ _ (told o _ i is c.in_ok-write_images.ensures.contents).1 c.in_ok-close_gate.ensures.contents).3
    c.write_head.ensures.images)

pub returns-clause-done : goal.returns-clause-done
returns-clause-done g c =
    let d = c.args.device.now in let o = g.D.Device.contents d in let old = g.D.Device.may_leave d in
    let d1 = c.write_images.new.device in let mid = g.D.Device.may_leave d1 in let st = c.args.state.now in let pl = c.args.plan.now in
    let ps = c.as_slice-placed.result.now in let pv : ps ≡ pl.placed.items = search rules in
    let d2 = c.close_gate.new.device in let mid' = g.D.Device.may_leave d2 in let f = c.file-file.result in let fv : f ≡ other_file st.log = search rules in
    let d3 = c.write_head.new.device in let new = g.D.Device.may_leave d3 in
    let front = c.as_slice-front.result.now in let front_is : front ≡ pl.front.items = search rules in
    let rows = pl.table in let bytes : flat_map placed_bytes ps ≡ flat_map row_bytes rows =
    bytes_placed ps ∙ ap (λ l. flat_map row_bytes (map row_of l)) pv ∙ ap (flat_map row_bytes) (sym c.requires.made.table) in
    if_told o _ (λ i is. let one = told o _ i is c.in_ok-write_images.ensures.contents in let two = (told (g.D.Device.contents d1) _ _
    (told o _ i is c.in_ok-write_images.ensures.contents).1 c.in_ok-close_gate.ensures.contents)
    in let three = (told (g.D.Device.contents d2) _ _ (told (g.D.Device.contents d1) _ _
    (told o _ i is c.in_ok-write_images.ensures.contents).1 c.in_ok-close_gate.ensures.contents).1 c.in_ok-write_head.ensures.contents) in (
      three.0,
      three.1,
      third_prepared g.D.Device.moment g.D.Device.left_since st pl c.requires.made i ps pv f fv old mid mid' new
          (told o _ i is c.requires.ready).each c.write_images.ensures.images
          (told (g.D.Device.contents d1) _ _ (told o _ i is c.in_ok-write_images.ensures.contents).1 c.close_gate.ensures.images)
          (told (g.D.Device.contents d1) _ _ (told o _ i is c.in_ok-write_images.ensures.contents).1 c.in_ok-close_gate.ensures.contents).0
          (told (g.D.Device.contents d1) _ _ (told o _ i is c.in_ok-write_images.ensures.contents).1 c.in_ok-close_gate.ensures.contents).3
          c.write_head.ensures.images
          one.0 three.0 front rows front_is refl one.2 one.3 two.2
          (subst (λ l. Stands f ((front ++ l) ++ 0 ∷ []) two.0 three.0) bytes three.2) three.3,
    ))

no_image : Image
no_image = record { slots = []; log_a = []; log_b = [] }

pub write_head-requires-clause-fits : goal.write_head-requires-clause-fits
write_head-requires-clause-fits g c =
    let pl = c.args.plan.now in
    let long : length pl.table ≡ length pl.placed.items = ap length c.requires.made.table ∙ length-map pl.placed.items row_of in
    let placed : length c.as_slice-placed.result.now ≡ length pl.placed.items = search rules in
    omega (arith, long, placed, head_fits c.args.state.now pl c.requires.made no_image c.as_slice-front.result.now pl.table (search rules) refl)
