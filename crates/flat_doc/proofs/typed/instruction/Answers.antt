use Rattle.flat_doc.proofs.TextLines.{instruction_utf8}
use Rattle.flat_doc.proofs.typed.instruction.Goals as goal

pub returns : goal.returns
returns c = instruction_utf8 c.args.target.now c.args.value.now c.string.ensures c.string-2.ensures
