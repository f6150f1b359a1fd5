use Rattle.std.proofs.Common.{◌≡◌, ℕ, List, ◌++◌, length, drop, ap, ◌∙◌, rules}
use Rattle.page_device.proofs.Bytes.{written_back}
use Rattle.redo_log.specs.Record.{number}
use Rattle.redo_log.proofs.body.set_length.Goals as goal

pub returns : goal.returns
returns c =
    let same : length c.put_number.new.bytes ≡ length c.args.tail.now.items = c.put_number.auto.bytes ∙ ap length c.as_mut_slice.ensures.value in
    let long : c.args.tail.now.len ≡ length c.args.tail.now.items = search rules in
    written_back c.args.tail.now.len c.put_number.new.bytes c.args.tail.now.items same long
    ∙ (c.put_number.ensures ∙ ap (λ (l : List ℕ). number c.args.long ++ drop 8 l) c.as_mut_slice.ensures.value)
