use Rattle.std.proofs.Common.{◌≡◌, ℕ, ◌+◌, ◌<◌, List, ◌++◌, length, take, drop, ap, ◌∙◌, rules}
use Rattle.page_device.proofs.Bytes.{overlaid, written_back}
use Rattle.page_device.proofs.memory.write_over.Goals as goal

pub returns : goal.returns
returns c =
    let at = c.args.at in let bytes = c.args.bytes.now in
    let some : 0 < length bytes = search rules in
    let same : length c.put.new.file ≡ length c.grow.new.file.items = c.put.auto.file ∙ ap length c.as_mut_slice.ensures.value in
    let long : c.grow.new.file.len ≡ length c.grow.new.file.items = search rules in
    written_back c.grow.new.file.len c.put.new.file c.grow.new.file.items same long
    ∙ (c.put.ensures
    ∙ (ap (λ (l : List ℕ). take at l ++ bytes ++ drop (at + length bytes) l) (c.as_mut_slice.ensures.value ∙ c.grow.ensures)
    ∙ overlaid c.args.file.now.items at bytes some))
