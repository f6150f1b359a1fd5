-- What a statement says and which forest it leaves. Statements are the calls that read or change documents;
-- the calls that begin and end transactions and CHECKPOINT are none. Want of memory, faults of a device and the
-- last numbers are not in it.
use Rattle.std.specs.Prelude.{ℕ, Bool, true, false, List, [], ◌∷◌, map, length, nat_lt, if◌then◌else◌, Option, Some, None, Result, Ok, Err}
use Rattle.std.specs.FinMap as forests
use Rattle.xq_ast.specs.declared.call.Call.{Call}
use Rattle.xq_ast.specs.declared.call.Call.TheVariants.{Begin, BeginRead, Commit, Rollback, Checkpoint, ShowDocuments, Create, Drop, Load, Export, Update, Query}
use Rattle.xq_ast.specs.declared.code.Code.{Code}
use Rattle.xq_ast.specs.declared.code.Code.TheVariants.{Exists, FODC0002, ReplyTooLong, Pyx}
use Rattle.xml_model.specs.declared.limits.TheConstants.{REPLY_BYTES_MAX}
use Rattle.xml_model.specs.declared.node.Doc.{Doc}
use Rattle.xml_model.specs.declared.node.RefusedLine.{RefusedLine}
use Rattle.xml_model.specs.Forest.{Forest}
use Rattle.xml_model.specs.Pyx.{Line, read, pyx, text_of}
use Rattle.xq_ast.specs.declared.tree.Expr.{Expr}
use Rattle.xml_model.specs.Items.{Documents, Items, Made}
use Rattle.xml_model.specs.Evaluation.{eval}
use Rattle.xml_model.specs.ItemLines.{lines_of}
use Rattle.xml_model.specs.Edits.{updated}

-- what a statement says: that it is done, lines, or an error with its code
pub data Answer : Type 0 where
  done : Answer
  lines : List Line → Answer
  error : Code → Answer

-- what a statement says, and the forest that it leaves
pub record Outcome : Type 0 where
  pub says : Answer
  pub forest : Forest

-- the call reads or changes documents: it neither begins nor ends a transaction, nor is it CHECKPOINT
abbrev pub is_statement : Call → Bool
is_statement Begin = false
is_statement BeginRead = false
is_statement Commit = false
is_statement Rollback = false
is_statement Checkpoint = false
is_statement ShowDocuments = true
is_statement (Create name) = true
is_statement (Drop name) = true
is_statement (Load name pyx_lines) = true
is_statement (Export name) = true
is_statement (Update what) = true
is_statement (Query expr) = true

-- these lines, unless they and their newlines have more bytes than an answer may have
abbrev pub answer_of : List Line → Answer
answer_of all = if nat_lt REPLY_BYTES_MAX (length (text_of all)) then error ReplyTooLong else lines all

-- an answer that changes nothing
abbrev pub unchanged : Answer → Forest → Outcome
unchanged says F = record { says = says; forest = F }

-- the document is new in the forest, or its lines are refused
abbrev pub added : List ℕ → Result Doc RefusedLine → Forest → Outcome
added name (Ok doc) F = record { says = done; forest = forests.insert F name doc }
added name (Err refused) F = unchanged (error (Pyx refused.why refused.line)) F

-- a document of a name that must be free; whether it is free is told first
abbrev pub added_where_free : Option Doc → List ℕ → Result Doc RefusedLine → Forest → Outcome
added_where_free (Some there) name made F = unchanged (error Exists) F
added_where_free None name made F = added name made F

-- the forest without the document, or an error where there is none of this name
abbrev pub dropped : Option Doc → List ℕ → Forest → Outcome
dropped (Some there) name F = record { says = done; forest = forests.remove F name }
dropped None name F = unchanged (error FODC0002) F

-- the canonical lines of the document, or an error where there is none
abbrev pub exported : Option Doc → Answer
exported (Some doc) = answer_of (pyx doc)
exported None = error FODC0002

-- a line for each document, `=` and its name as it is, in the order of the names' bytes
abbrev pub name_lines : Forest → List Line
name_lines F = map (λ name. 61 ∷ name) (forests.keys F)

-- the lines of the items that a query gives, or its code
abbrev pub said_by : Documents → Result (Items × Made) Code → Answer
said_by docs (Ok found) = answer_of (lines_of docs found.1 found.0)
said_by docs (Err code) = error code

-- what a query says of a forest
abbrev pub query_answer : Forest → Expr → Answer
query_answer F expr = said_by (forests.get F) (eval F expr)

-- an update is done, or it has its code and changes nothing
abbrev pub changed : Result Forest Code → Forest → Outcome
changed (Ok G) F = record { says = done; forest = G }
changed (Err code) F = unchanged (error code) F

-- what a call says of a forest, and the forest after it
abbrev pub stmt : Forest → Call → Outcome
stmt F Begin = unchanged done F
stmt F BeginRead = unchanged done F
stmt F Commit = unchanged done F
stmt F Rollback = unchanged done F
stmt F Checkpoint = unchanged done F
stmt F ShowDocuments = unchanged (answer_of (name_lines F)) F
stmt F (Create name) = added_where_free (forests.get F name) name (Ok (record { kids = [] })) F
stmt F (Drop name) = dropped (forests.get F name) name F
stmt F (Load name pyx_lines) = added_where_free (forests.get F name) name (read pyx_lines) F
stmt F (Export name) = unchanged (exported (forests.get F name)) F
stmt F (Update what) = changed (updated F what) F
stmt F (Query expr) = unchanged (query_answer F expr) F
