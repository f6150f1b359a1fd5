use Rattle.std.proofs.Common.{rules}
use Rattle.std.proofs.lemmas.Str.{IsUtf8-nil}
use Rattle.flat_doc.proofs.TextLines.{attributes_more}
use Rattle.flat_doc.proofs.typed.attributes.Goals as goal

pub loop-attr-init : goal.loop-attr-init
loop-attr-init c = IsUtf8-nil

pub loop-attr-preserved : goal.loop-attr-preserved
loop-attr-preserved c =
    attributes_more c.args.attrs.now c.loop-attr.attr-index c.attr-item.result c.attr-item.result (search rules) (search rules) c.loop-attr.invariant
    c.attribute.ensures
