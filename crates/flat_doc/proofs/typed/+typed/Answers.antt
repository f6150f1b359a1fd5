use Rattle.std.proofs.Common.{rules, map}
use Rattle.std.proofs.lemmas.Str.{IsUtf8-nil}
use Rattle.xml_model.specs.Pyx.{attribute_line, pyx_of}
use Rattle.flat_doc.proofs.TextLines.{nodes_more, element_utf8}
use Rattle.flat_doc.proofs.typed.+typed.Goals as goal

pub nodes-loop-one-init : goal.nodes-loop-one-init
nodes-loop-one-init k c = IsUtf8-nil

pub nodes-loop-one-preserved : goal.nodes-loop-one-preserved
nodes-loop-one-preserved k c =
    nodes_more c.args.all.now c.loop-one.one-index c.one-item.result c.one-item.result (search rules) (search rules) c.loop-one.invariant c.node.ensures

pub element-returns : goal.element-returns
element-returns k c =
    element_utf8 c.args.name.now (map attribute_line c.args.attrs.now) (pyx_of c.args.kids.now) c.string.ensures c.attributes.ensures c.nodes.ensures
