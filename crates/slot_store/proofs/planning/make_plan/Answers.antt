use Rattle.std.proofs.Common.{◌≡◌, ◌+◌, ◌≤◌, ℕ, true, List, map, refl, sym, ap, ◌∙◌, subst, rules, arith, length}
use Rattle.std.specs.List.{AllByRecursion}
use Rattle.std.specs.FinMap as maps
use Rattle.page_bytes.specs.declared.ids.PageId.{PageId}
use Rattle.page_device.specs.declared.device.TheConstants.{LONGEST}
use Rattle.page_versions.specs.declared.version.Image.{Image as PageImage}
use Rattle.redo_log.specs.declared.change.LogName.{LogName}
use Rattle.xq_ast.specs.declared.code.SpentKind.TheVariants.{Generation, Slot, Log}
use Rattle.slot_store.specs.declared.planning.TheConstants.{LAST_SLOT}
use Rattle.slot_store.specs.Head.{EachPair, front_bytes, head_bytes}
use Rattle.slot_store.specs.Spent.{last_generation}
use Rattle.slot_store.specs.Used.{is_used, used_slots}
use Rattle.slot_store.specs.Planned.{newest_images, written_slots, is_in_table, IsTabled, AreInTwo, row_of, with_written, without_gone}
use Rattle.slot_store.proofs.Giving.{slots_has}
use Rattle.slot_store.proofs.Fitting.{least_by, spent_by, slot_end_only, all_placed, all_apart, state_used, fits_from}
use Rattle.slot_store.proofs.Changing.{changed, staying, gone_all, stay_rise}
use Rattle.slot_store.proofs.Fits.{walk_sorted, walk_covers, walk_stays, walk_tabled, walk_apart}
use Rattle.slot_store.proofs.planning.make_plan.Goals as goal

pub returns-in_err-placed-clause-spent_generation : goal.returns-in_err-placed-clause-spent_generation
returns-in_err-placed-clause-spent_generation c = (
  λ is. absurd (c.place_pages.ensures.spent Generation last_generation (search rules)).0,
  λ last. absurd (omega (arith, last)),
)

pub returns-in_err-placed-clause-spent_slot : goal.returns-in_err-placed-clause-spent_slot
returns-in_err-placed-clause-spent_slot c is =
    let st = c.args.state.now in let es = maps.entries c.args.versions.now.chains in let used = c.in_ok-used.used in
    spent_by (λ s. maps.contains_key used s) (is_used st c.args.commit es)
    (λ s. ap (λ m. maps.contains_key m s) c.in_ok-used.ensures ∙ slots_has (used_slots st c.args.commit es) s)
    (newest_images c.args.commit es) (c.place_pages.ensures.spent Slot LAST_SLOT (search rules)).1

pub returns-in_err-placed-clause-spent_log : goal.returns-in_err-placed-clause-spent_log
returns-in_err-placed-clause-spent_log c is = absurd (c.place_pages.ensures.spent Log LONGEST (search rules)).0

pub returns-in_err-placed-clause-spent_only : goal.returns-in_err-placed-clause-spent_only
returns-in_err-placed-clause-spent_only c kind n is = slot_end_only kind n (c.place_pages.ensures.spent kind n (search rules)).0

pub returns-clause-least : goal.returns-clause-least
returns-clause-least c =
    let st = c.args.state.now in let es = maps.entries c.args.versions.now.chains in let used = c.in_ok-used.used in
    least_by (λ s. maps.contains_key used s) (is_used st c.args.commit es)
    (λ s. ap (λ m. maps.contains_key m s) c.in_ok-used.ensures ∙ slots_has (used_slots st c.args.commit es) s)
    (written_slots c.in_ok-placed.placed.items) 0 c.in_ok-placed.ensures.least

pub returns-clause-made : goal.returns-clause-made
returns-clause-made c =
    let st = c.args.state.now in let kept = c.args.versions.now in let es = maps.entries c.args.versions.now.chains in let used = c.in_ok-used.used in
    let placed = c.in_ok-placed.placed.items in let next = st.generation + 1 in let names = sym c.of.ensures in
    let in_use : (s : ℕ) → is_in_table st.table s ≡ true → maps.contains_key used s ≡ true =
    λ s is. ap (λ m. maps.contains_key m s) c.in_ok-used.ensures ∙ slots_has (used_slots st c.args.commit es) s ∙ state_used st c.args.commit es s is in
    let tabled = subst (AllByRecursion (λ (x : PageId × PageImage). IsTabled st.table x.1)) (sym c.in_ok-placed.ensures.pages) (walk_tabled st kept c.args.commit c.requires.fits) in
    let two = subst (EachPair (λ (x y : PageId × PageImage). AreInTwo x.1 y.1)) (sym c.in_ok-placed.ensures.pages) (walk_apart st kept c.args.commit c.requires.fits) in
    let all = all_placed st.table (λ s. maps.contains_key used s) in_use placed 0 tabled c.in_ok-placed.ensures.least c.in_ok-placed.ensures.within in
    let sliced : c.as_slice.result.now ≡ placed = search rules in
    let spelled : c.in_ok-front.front.items ≡ front_bytes next c.args.commit c.args.entries.now (length placed) = search rules in
    let fits = fits_from next c.args.commit c.args.entries.now placed c.in_ok-front.front.items spelled (search rules) in
    record {
      log = refl;
      generation = refl;
      table = c.in_ok-table.ensures ∙ ap (λ ps. with_written ps (without_gone kept c.args.commit st.table st.table)) sliced
          ∙ (ap (with_written placed) (gone_all kept c.args.commit st.table c.rises.ensures)
          ∙ changed c.args.commit es placed (staying kept c.args.commit st.table) (walk_sorted kept.chains) (stay_rise kept c.args.commit st.table c.rises.ensures)
          (walk_covers kept c.args.commit st.table) (walk_stays st kept c.args.commit c.requires.fits) c.in_ok-placed.ensures.pages);
      front = spelled ∙ ap (λ (es : List LogName). front_bytes next c.args.commit es (length placed)) names;
      placed = all;
      apart = all_apart st.table (λ s. maps.contains_key used s) in_use placed 0 c.in_ok-placed.ensures.least all two;
      fits = subst (λ (es : List LogName). length (head_bytes (record {
        generation = next;
        commit = c.args.commit;
        entries = es;
        rows = map row_of placed;
      })) + 2 ≤ LONGEST) names fits;
      buffer = search rules;
    }
