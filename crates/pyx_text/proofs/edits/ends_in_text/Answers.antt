use Rattle.std.proofs.Common.{◌<◌, length, arith, ◌∙◌, sym}
use Rattle.pyx_text.proofs.Nodes.{ends_in_text-at}
use Rattle.pyx_text.proofs.edits.ends_in_text.Goals as goal

pub returns-in-len1-up : goal.returns-in-len1-up
returns-in-len1-up c =
    let some : 0 < length c.args.nodes.now = omega arith in
    c.is_text.ensures ∙ sym (ends_in_text-at c.args.nodes.now c.last-item.result some c.last-item.is)
