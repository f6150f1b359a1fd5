-- The locks that a call needs: names of documents in byte order, each once, with the stronger mode. What a call
-- says and does depends on the documents of these names alone, and it changes those with the mode X alone.
use Rattle.std.specs.Prelude.{◌≡◌, ℕ, Bool, false, ◌&&◌, ◌||◌, List, [], ◌∷◌, ◌++◌, map}
use Rattle.std.specs.Str.{bytes_eq}
use Rattle.std.specs.FinMap as forests
use Rattle.xq_ast.specs.declared.call.Call.{Call}
use Rattle.xq_ast.specs.declared.call.Call.TheVariants.{Begin, BeginRead, Commit, Rollback, Checkpoint, ShowDocuments, Create, Drop, Load, Export, Update, Query}
use Rattle.xq_ast.specs.declared.tree.Expr.{Expr}
use Rattle.xq_ast.specs.declared.update.Update.{Update as UpdateCall}
use Rattle.xq_ast.specs.declared.update.Update.TheVariants as update
use Rattle.xq_ast.specs.declared.need.LockMode.{LockMode}
use Rattle.xq_ast.specs.declared.need.LockMode.TheVariants.{S, X}
use Rattle.xq_ast.specs.declared.need.Need.{Need}
use Rattle.xq_ast.specs.Modes.{is_exclusive}
use Rattle.doc_locks.specs.Locks.{with_needs, needs_of}
use Rattle.xq_ast.specs.Documents.{documents}
use Rattle.xml_model.specs.Forest.{Forest}
use Rattle.xml_model.specs.Statement.{stmt}

-- one need: this name with this mode
abbrev pub need : List ℕ → LockMode → List Need
need name mode = record { name = name; mode = mode } ∷ []

-- each document of an expression with this mode
abbrev pub all_in : LockMode → Expr → List Need
all_in mode expr = map (λ name. record { name = name; mode = mode }) (documents expr)

-- what an update asks for: X on each document of its target, the expression whose nodes it changes, and S on each
-- document of its other expression
abbrev pub asked_by_update : UpdateCall → List Need
asked_by_update (update.Into source target) = all_in S source ++ all_in X target
asked_by_update (update.Preceding source target) = all_in S source ++ all_in X target
asked_by_update (update.Following source target) = all_in S source ++ all_in X target
asked_by_update (update.Delete target) = all_in X target
asked_by_update (update.DeleteUndeep target) = all_in X target
asked_by_update (update.Replace name target by) = all_in X target ++ all_in S by
asked_by_update (update.Rename target name) = all_in X target

-- the names in byte order, each once, with the stronger of its modes
abbrev pub each_once : List Need → List Need
each_once asked = needs_of (with_needs asked forests.empty)

-- the locks that a call needs: X on the document that it makes or takes away, S on the one that it exports,
-- those of its expressions for an update or a query, and none for any other call
abbrev pub needs : Call → List Need
needs Begin = []
needs BeginRead = []
needs Commit = []
needs Rollback = []
needs Checkpoint = []
needs ShowDocuments = []
needs (Create name) = need name X
needs (Drop name) = need name X
needs (Load name pyx_lines) = need name X
needs (Export name) = need name S
needs (Update what) = each_once (asked_by_update what)
needs (Query expr) = each_once (all_in S expr)

-- the name stands in the list with the mode X
abbrev pub has_exclusive : List ℕ → List Need → Bool
has_exclusive name [] = false
has_exclusive name (n ∷ more) = (is_exclusive n.mode && bytes_eq n.name name) || has_exclusive name more

-- the name stands in the list
abbrev pub has_need : List ℕ → List Need → Bool
has_need name [] = false
has_need name (n ∷ more) = bytes_eq n.name name || has_need name more

-- the two forests have the same documents, or none, at the names of the list
abbrev pub AgreeAt : List Need → Forest → Forest → Type 0
AgreeAt [] F G = Unit {0}
AgreeAt (n ∷ more) F G = (forests.get F n.name ≡ forests.get G n.name) × AgreeAt more F G

-- the call keeps to its needs
pub record KeepsToNeeds (call : Call) : Type 0 where
  pub says : (F G : Forest) → AgreeAt (needs call) F G → (stmt F call).says ≡ (stmt G call).says
  pub after : (F G : Forest) → AgreeAt (needs call) F G → AgreeAt (needs call) (stmt F call).forest (stmt G call).forest
  pub elsewhere : (F : Forest) (name : List ℕ) → has_exclusive name (needs call) ≡ false → forests.get (stmt F call).forest name ≡ forests.get F name
