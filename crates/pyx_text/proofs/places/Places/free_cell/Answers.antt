use Rattle.std.proofs.Common.{◌≡◌, ◌<◌, ◌≤◌, ◌+◌, ◌-◌, ◌*◌, ◌%◌, ◌∙◌, ℕ, suc, add-one, length, get_or, refl, sym, ap, subst, arith}
use mathlib.Core.Logic.{∥∥₁_map, ∥∥₁_elim}
use Rattle.xml_model.specs.Trees.{has_attribute}
use Rattle.pyx_text.specs.Ways.{cell_of, next_of, Leads, name_at, IsMarked, IsLed, IsFree}
use Rattle.pyx_text.proofs.Ways.{word_read, cell_of-later, has-at, led_on, led_after, Leads-more, free_fits, is-false}
use Rattle.pyx_text.proofs.places.Places.free_cell.Goals as goal

pub is_at-requires-clause-some : goal.is_at-requires-clause-some
is_at-requires-clause-some c =
    let word : c.index-in-loop-from.result.now ≡ get_or c.args.self.now.cells.items c.loop-from.cell 0 =
    word_read c.args.attrs.now c.args.self.now.heads c.args.self.now.cells.items c.args.name.now c.loop-from.depth c.loop-from.from c.loop-from.cell
    c.index-in-loop-from.result.now c.requires.headed c.requires.tied c.loop-from.invariant.inside c.loop-from.invariant.at c.index-in-loop-from.ensures in
    subst (λ (k : ℕ). 0 < k % 8388608) (sym word) (omega (arith, c.loop-from.invariant.held, c.loop-from-test.true))

pub returns-then-is_at-clause-has : goal.returns-then-is_at-clause-has
returns-then-is_at-clause-has c =
    let word : c.index-in-loop-from.result.now ≡ get_or c.args.self.now.cells.items c.loop-from.cell 0 =
    word_read c.args.attrs.now c.args.self.now.heads c.args.self.now.cells.items c.args.name.now c.loop-from.depth c.loop-from.from c.loop-from.cell
    c.index-in-loop-from.result.now c.requires.headed c.requires.tied c.loop-from.invariant.inside c.loop-from.invariant.at c.index-in-loop-from.ensures in
    let some : 0 < c.index-in-loop-from.result.now % 8388608 =
    subst (λ (k : ℕ). 0 < k % 8388608) (sym word) (omega (arith, c.loop-from.invariant.held, c.loop-from-test.true)) in
    let marked : IsMarked c.args.attrs.now c.index-in-loop-from.result.now =
    subst (IsMarked c.args.attrs.now) (sym word) (c.requires.tied.marked c.loop-from.cell) in
    let within : c.index-in-loop-from.result.now % 8388608 ≤ length c.args.attrs.now = (marked some).0 in
    sym (has-at c.args.attrs.now (c.index-in-loop-from.result.now % 8388608 - 1) c.args.name.now (omega (arith, some, within)) c.if-is_at.ensures)

pub loop-from-preserved : goal.loop-from-preserved
loop-from-preserved c =
    let word : c.index-in-loop-from.result.now ≡ get_or c.args.self.now.cells.items c.loop-from.cell 0 =
    word_read c.args.attrs.now c.args.self.now.heads c.args.self.now.cells.items c.args.name.now c.loop-from.depth c.loop-from.from c.loop-from.cell
    c.index-in-loop-from.result.now c.requires.headed c.requires.tied c.loop-from.invariant.inside c.loop-from.invariant.at c.index-in-loop-from.ensures in
    let number : c.index-in-loop-from.result.now % 8388608 ≡ c.loop-from.next = ap (λ k. k % 8388608) word ∙ sym c.loop-from.invariant.held in
    let inside : c.loop-from.next ≤ length c.args.attrs.now =
    subst (λ (k : ℕ). k ≤ length c.args.attrs.now) (sym c.loop-from.invariant.held)
    (c.requires.tied.marked c.loop-from.cell (omega (arith, c.loop-from.invariant.held, c.loop-from-test.true))).0 in
    let value : next_of c.args.self.now.heads c.args.self.now.cells.items c.args.name.now c.loop-from.depth c.loop-from.from ≡ c.loop-from.next =
    sym (c.loop-from.invariant.held ∙ ap (λ k. get_or c.args.self.now.cells.items k 0 % 8388608) c.loop-from.invariant.at) in
    let at : c.args.self.now.heads + (c.loop-from.next - 1) * 2 + c.way.result
    ≡ cell_of c.args.self.now.heads c.args.name.now (c.loop-from.depth + 1) c.loop-from.next =
    cell_of-later c.args.self.now.heads c.args.name.now c.loop-from.depth c.loop-from.next c.way.result (omega (arith, c.loop-from-test.true))
    c.way.ensures.same in
    record {
      inside = inside;
      shallow = omega (arith, c.loop-from.invariant.shallow, c.loop-from-test.true);
      at = at;
      held = c.number_in-next-in-loop-from.ensures ∙ ap (λ k. k % 8388608) (word_read c.args.attrs.now c.args.self.now.heads
          c.args.self.now.cells.items c.args.name.now (c.loop-from.depth + 1) c.loop-from.next
          (c.args.self.now.heads + (c.loop-from.next - 1) * 2 + c.way.result) c.index-in-loop-from-2.result.now c.requires.headed c.requires.tied
          inside at c.index-in-loop-from-2.ensures);
      came = rw add-one (subst (λ (m : ℕ). Leads c.args.self.now.heads c.args.self.now.cells.items c.args.name.now (suc c.loop-from.depth) 0 0 m) value
          (Leads-more c.args.self.now.heads c.args.self.now.cells.items c.args.name.now c.loop-from.depth 0 0 c.loop-from.from c.loop-from.depth
          (omega arith) c.loop-from.invariant.came (omega (arith, value, c.loop-from-test.true))));
      other = λ more same. c.if-is_at.ensures (ap (λ k. name_at c.args.attrs.now (k - 1)) number ∙ same);
      onward = λ has. ∥∥₁_map (c.loop-from.invariant.onward has) (λ led.
          subst (λ (m : ℕ). IsLed c.args.attrs.now c.args.self.now.heads c.args.self.now.cells.items c.args.name.now (c.loop-from.depth + 1) m) value
          (led_on c.args.attrs.now c.args.self.now.heads c.args.self.now.cells.items c.args.name.now c.loop-from.depth c.loop-from.from led
          c.loop-from.invariant.other));
    }

pub returns-clause-has : goal.returns-clause-has
returns-clause-has c =
    let value : next_of c.args.self.now.heads c.args.self.now.cells.items c.args.name.now c.loop-from.depth c.loop-from.from ≡ c.loop-from.next =
    sym (c.loop-from.invariant.held ∙ ap (λ k. get_or c.args.self.now.cells.items k 0 % 8388608) c.loop-from.invariant.at) in
    is-false (has_attribute c.args.name.now c.args.attrs.now) (λ has. ∥∥₁_elim (c.loop-from.invariant.onward has) (λ x y. absurd x) (λ led.
    let after : c.loop-from.from < next_of c.args.self.now.heads c.args.self.now.cells.items c.args.name.now c.loop-from.depth c.loop-from.from =
    led_after c.args.attrs.now c.args.self.now.heads c.args.self.now.cells.items c.args.name.now c.loop-from.depth c.loop-from.from led
    c.loop-from.invariant.other in
    omega (arith, value, after, c.loop-from-test.false)))

pub returns-clause-free : goal.returns-clause-free
returns-clause-free c =
    let value : next_of c.args.self.now.heads c.args.self.now.cells.items c.args.name.now c.loop-from.depth c.loop-from.from ≡ c.loop-from.next =
    sym (c.loop-from.invariant.held ∙ ap (λ k. get_or c.args.self.now.cells.items k 0 % 8388608) c.loop-from.invariant.at) in
    subst (IsFree c.args.attrs.now c.args.self.now.heads c.args.self.now.cells.items c.args.name.now) (sym c.loop-from.invariant.at)
    (free_fits c.args.attrs.now c.args.self.now.heads c.args.self.now.cells.items c.args.name.now c.loop-from.depth c.loop-from.from
    c.requires.headed c.requires.tied c.loop-from.invariant.inside c.loop-from.invariant.came
    (λ more. omega (arith, more, value, c.loop-from-test.false)))
