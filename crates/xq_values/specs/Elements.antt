-- A new element of a name and closed content.
use Rattle.std.specs.Prelude.{ℕ, List, Result, Err, if◌then◌else◌}
use Rattle.xq_ast.specs.declared.code.Code.{Code}
use Rattle.xq_ast.specs.declared.code.Code.TheVariants.{XQTY0024, XQDY0025}
use Rattle.xml_model.specs.declared.node.Node.{Node}
use Rattle.xml_model.specs.declared.node.Node.TheVariants.{Element}
use Rattle.xml_model.specs.Constructors.{has_name_twice, limited}
use Rattle.xq_values.specs.declared.content.Content.{Content}

abbrev pub element_with : List ℕ → Content → Result Node Code
element_with name c =
    if c.late then Err XQTY0024 else (if has_name_twice c.attrs then Err XQDY0025 else limited (Element name c.attrs c.kids))
