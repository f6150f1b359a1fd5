use Rattle.flat_doc.proofs.TextLines.{attribute_utf8}
use Rattle.flat_doc.proofs.typed.attribute.Goals as goal

pub returns : goal.returns
returns c = attribute_utf8 c.args.attr.now c.string.ensures c.string-2.ensures
