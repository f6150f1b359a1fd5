use Rattle.std.proofs.Common.{◌≡◌, ℕ, ◌≤◌, List, length, false, arith}
use Rattle.std.specs.Prelude.{◌↔◌, IsTrue, slice_index}
use Rattle.std.proofs.lemmas.List.{get_or_past}
use Rattle.page_device.specs.Image.{bytes_of}
use Rattle.page_device.proofs.Told.{if_told}
use Rattle.page_device.proofs.gating.is_open.Goals as goal

-- no byte stands past the end
pub none_past : (bytes : List ℕ) (at : ℕ) → length bytes ≤ at → IsTrue false ↔ (slice_index bytes at ≡ 1)
none_past bytes at past = (λ t. absurd (cc t), λ one. absurd (omega (arith, one, get_or_past bytes at 0 past)))

pub returns-then-at-ge-LONGEST-clause-answer : goal.returns-then-at-ge-LONGEST-clause-answer
returns-then-at-ge-LONGEST-clause-answer g c = let d = c.args.device.now in
    if_told (g.D.Device.contents d) _ (λ i is. none_past (bytes_of i c.args.file) c.args.at
    (let bound = g.met.D.Device.bounded d (g.D.Device.moment d) i
    (g.met.D.Device.counts_now d (g.D.Device.moment d) i (omega arith) (g.met.D.Device.told_now d i is)) c.args.file in omega arith))
