-- What the statements of the worked histories say of no documents, and of one.
use Rattle.std.proofs.Common.{◌≡◌, List, [], ◌∷◌, None, Some, Ok, refl, sym, ap, ◌∙◌}
use Rattle.std.specs.Prelude.{codes}
use Rattle.std.specs.FinMap as forests
use Rattle.std.specs.Ordering.{nat_cmp}
use Rattle.std.specs.Cmp.Lexicographic.{slice_cmp}
use Rattle.xq_ast.specs.declared.call.Call.TheVariants.{Create, Load, Export}
use Rattle.xq_ast.specs.declared.code.Code.TheVariants as codes_of
use Rattle.xml_model.specs.declared.node.Doc.{Doc}
use Rattle.xml_model.specs.declared.node.Node.TheVariants.{Element}
use Rattle.xml_model.specs.Forest.{no_documents}
use Rattle.xml_model.specs.Pyx.{Line, read, pyx, pyx_step}
use Rattle.xml_model.specs.Statement.{stmt, added_where_free, answer_of, exported}
use Rattle.xml_model.proofs.Framing.{get-put}
use Rattle.xml_model.proofs.Nodes.{fold-Element}
use Rattle.session_core.specs.declared.history.event.Says.TheVariants as says
use Rattle.session_core.specs.History.Transactions.{says_of}
use Rattle.session_core.proofs.Worked.Calls.{d, element}

-- the document of the lines
abbrev pub document : Doc
document = record { kids = Element (codes "a") [] [] ∷ [] }

absent : forests.get no_documents d ≡ None
absent = forests.get-empty (slice_cmp nat_cmp) d

-- to load a document that is not there is done
pub load_says : says.Done ≡ says_of (stmt no_documents (Load d element)).says
load_says = sym (ap (λ o. says_of (added_where_free o d (read element) no_documents).says) absent)

-- to export a document that is not there is an error
pub export_before : says.Error codes_of.FODC0002 ≡ says_of (stmt no_documents (Export d)).says
export_before = sym (ap (λ o. says_of (exported o)) absent)

-- to load a document leaves it alone in the forest
pub load_leaves : (stmt no_documents (Load d element)).forest ≡ forests.insert no_documents d document
load_leaves = ap (λ o. (added_where_free o d (read element) no_documents).forest) absent

present : forests.get (stmt no_documents (Load d element)).forest d ≡ Some document
present = ap (λ F. forests.get F d) load_leaves ∙ get-put no_documents d document

written : pyx document ≡ element
written = rw (fold-Element (List Line) pyx_step (codes "a") [] []) refl

-- to export the document that was loaded gives its lines
pub export_behind : says.Lines element ≡ says_of (exported (forests.get (stmt no_documents (Load d element)).forest d))
export_behind = sym (ap (λ o. says_of (exported o)) present ∙ ap (λ all. says_of (answer_of all)) written)

-- to create a document that is not there is done
pub create_says : says.Done ≡ says_of (stmt no_documents (Create d)).says
create_says = sym (ap (λ o. says_of (added_where_free o d (Ok (record { kids = [] })) no_documents).says) absent)

-- to create a document leaves it alone in the forest, without nodes
pub create_leaves : (stmt no_documents (Create d)).forest ≡ forests.insert no_documents d (record { kids = [] })
create_leaves = ap (λ o. (added_where_free o d (Ok (record { kids = [] })) no_documents).forest) absent
