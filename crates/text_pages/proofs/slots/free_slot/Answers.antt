use Rattle.std.proofs.Common.{◌≡◌, ◌-◌, ◌+◌, ◌==◌, false, ap, ◌∙◌, if◌then◌else◌, arith}
use Rattle.std.proofs.lemmas.Bool.Decides.{nat_tests}
use Rattle.page_bytes.specs.Texts.{piece_at}
use Rattle.text_pages.specs.Slots.{free_from}
use Rattle.text_pages.proofs.SlotWalks.{free_step}
use Rattle.text_pages.proofs.slots.free_slot.Goals as goal

pub loop-slot-preserved : goal.loop-slot-preserved
loop-slot-preserved c =
    let count = c.read_u16-count.result in let slot = c.loop-slot.slot in let page = c.args.page.now in
    let taken : (piece_at slot page == 0) ≡ false = grind (arith, nat_tests) in
    c.loop-slot.invariant ∙ free_step count slot page (omega arith) ∙ ap (λ b. if b then slot else free_from (count - (slot + 1)) (slot + 1) page) taken
