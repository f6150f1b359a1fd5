-- Which names a call may have: names of documents wherever one is named, and names where a new element or attribute
-- gets its name and where `rename` gives one. The text of a call spells these with the characters of a name already,
-- so that what is refused of them is more than 255 bytes; the whole test stands here, since it is what documents ask.
use Rattle.std.specs.Prelude.{Bool, true, ◌&&◌}
use Rattle.std.specs.List.{list_all}
use Rattle.xq_ast.specs.declared.tree.Expr.{Expr}
use Rattle.xq_ast.specs.declared.update.Update.{Update}
use Rattle.xq_ast.specs.declared.update.Update.TheVariants as update
use Rattle.xq_ast.specs.declared.call.Call.{Call}
use Rattle.xq_ast.specs.declared.call.Call.TheVariants as call
use Rattle.xq_ast.specs.Names.{is_name, is_document_name}
use Rattle.xq_ast.specs.Documents.{documents}
use Rattle.xq_ast.specs.Everywhere.{Tests, everywhere}

-- the names of new nodes are names, and nothing is asked of functions
abbrev pub naming : Tests
naming = record { made = is_name; called = λ name arguments. true }

-- the names in an expression are names
abbrev pub are_good_in : Expr → Bool
are_good_in expr = list_all is_document_name (documents expr) && everywhere naming expr

-- the names in the expressions of an update are names, and so is the one that `rename` gives
abbrev pub are_good_in_update : Update → Bool
are_good_in_update (update.Into source target) = are_good_in source && are_good_in target
are_good_in_update (update.Preceding source target) = are_good_in source && are_good_in target
are_good_in_update (update.Following source target) = are_good_in source && are_good_in target
are_good_in_update (update.Delete target) = are_good_in target
are_good_in_update (update.DeleteUndeep target) = are_good_in target
are_good_in_update (update.Replace name target by) = are_good_in target && are_good_in by
are_good_in_update (update.Rename target name) = are_good_in target && is_name name

-- the names in a call are names; each row says its own, so that a new one cannot pass unseen
abbrev pub has_good_names : Call → Bool
has_good_names call.Begin = true
has_good_names call.BeginRead = true
has_good_names call.Commit = true
has_good_names call.Rollback = true
has_good_names call.Checkpoint = true
has_good_names call.ShowDocuments = true
has_good_names (call.Create name) = is_document_name name
has_good_names (call.Drop name) = is_document_name name
has_good_names (call.Load name pyx) = is_document_name name
has_good_names (call.Export name) = is_document_name name
has_good_names (call.Update what) = are_good_in_update what
has_good_names (call.Query expr) = are_good_in expr
