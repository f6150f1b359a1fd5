use Rattle.std.proofs.Common.{◌≡◌, ℕ, ◌+◌, ◌<◌, List, ◌++◌, length, take, drop, replicate, ap, ◌∙◌, rules, arith}
use Rattle.page_device.proofs.Bytes.{filled_in, written_back}
use Rattle.page_device.proofs.memory.fill_over.Goals as goal

pub returns : goal.returns
returns c =
    let at = c.args.at in let count = c.args.count in
    let some : 0 < count = omega arith in
    let same : length c.fill.new.file ≡ length c.grow.new.file.items = c.fill.auto.file ∙ ap length c.as_mut_slice.ensures.value in
    let long : c.grow.new.file.len ≡ length c.grow.new.file.items = search rules in
    written_back c.grow.new.file.len c.fill.new.file c.grow.new.file.items same long
    ∙ (c.fill.ensures
    ∙ (ap (λ (l : List ℕ). take at l ++ replicate count 255 ++ drop (at + count) l) (c.as_mut_slice.ensures.value ∙ c.grow.ensures)
    ∙ filled_in c.args.file.now.items at count some))
