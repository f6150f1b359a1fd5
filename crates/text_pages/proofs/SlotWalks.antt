-- How the slots of a page are walked, one after another.
use Rattle.std.proofs.Common.{◌≡◌, ℕ, suc, ◌+◌, ◌-◌, ◌<◌, ◌==◌, List, ap, if◌then◌else◌, arith}
use Rattle.page_bytes.specs.Texts.{piece_at}
use Rattle.text_pages.specs.Slots.{free_from}

-- the first free slot from a slot on is that slot, or the first one from the next slot on
pub free_step : (count slot : ℕ) (page : List ℕ) → slot < count
    → free_from (count - slot) slot page ≡ (if piece_at slot page == 0 then slot else free_from (count - (slot + 1)) (slot + 1) page)
free_step count slot page below =
    let more : count - slot ≡ suc (count - (slot + 1)) = omega (arith, below) in ap (λ n. free_from n slot page) more
