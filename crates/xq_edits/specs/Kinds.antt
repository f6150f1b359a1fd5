-- Kinds of nodes.
use Rattle.std.specs.Prelude.{Bool, true, false}
use Rattle.xq_ast.specs.declared.kind.Kind.{Kind}
use Rattle.xq_ast.specs.declared.kind.Kind.TheVariants as kind

abbrev pub is_of_documents : Kind → Bool
is_of_documents kind.Document = true
is_of_documents kind.Element = false
is_of_documents kind.Attribute = false
is_of_documents kind.Text = false
is_of_documents kind.Pi = false

-- whether a node of this kind can get a name
abbrev pub is_of_names : Kind → Bool
is_of_names kind.Document = false
is_of_names kind.Element = true
is_of_names kind.Attribute = true
is_of_names kind.Text = false
is_of_names kind.Pi = true
