-- The calls of the worked histories, and what their texts are.
use Rattle.std.proofs.Common.{ℕ, List, [], ◌∷◌, Ok, refl, arith}
use Rattle.std.specs.Prelude.{codes}
use Rattle.xq_ast.specs.declared.call.Call.TheVariants.{Begin, BeginRead, Commit, Rollback, Create, Load, Export}
use Rattle.xq_ast.specs.declared.call.CallText.{CallText}
use Rattle.xq_ast.specs.declared.need.LockMode.TheVariants.{S, X}
use Rattle.xq_ast.specs.declared.need.Need.{Need}
use Rattle.xq_ast.specs.Grammar as grammar
use Rattle.xq_ast.specs.Parsed.{Parsed}
use Rattle.xq_ast.specs.Parsed as parsing

-- the name of the document
abbrev pub d : List ℕ
d = codes "d"

-- a call's text without PYX
abbrev pub plain : List ℕ → CallText
plain text = record { text = text; pyx = [] }

-- `(a`, `)a`
abbrev pub element : List (List ℕ)
element = codes "(a" ∷ codes ")a" ∷ []

-- the text that begins an updating transaction
abbrev pub begin : CallText
begin = plain (codes "BEGIN")

-- the text that begins a read-only transaction
abbrev pub begin_read : CallText
begin_read = plain (codes "BEGIN READ-ONLY")

-- the text that commits
abbrev pub commit : CallText
commit = plain (codes "COMMIT")

-- the text that rolls back
abbrev pub rollback : CallText
rollback = plain (codes "ROLLBACK")

-- the text that creates `d`
abbrev pub create : CallText
create = plain (codes "CREATE DOCUMENT 'd'")

-- the text that loads `d` from the lines of one element
abbrev pub load : CallText
load = record { text = codes "LOAD 'd'"; pyx = element }

-- the text that exports `d`
abbrev pub export : CallText
export = plain (codes "EXPORT 'd'")

-- `BEGIN` is read as the call that begins an updating transaction
pub begin_is : Parsed begin (Ok Begin)
begin_is = parsing.read (omega arith) refl (parsing.a_call refl grammar.begin refl refl refl)

-- `BEGIN READ-ONLY` is read as the call that begins a read-only transaction
pub begin_read_is : Parsed begin_read (Ok BeginRead)
begin_read_is = parsing.read (omega arith) refl (parsing.a_call refl grammar.begin_read refl refl refl)

-- `COMMIT` is read as the call that commits
pub commit_is : Parsed commit (Ok Commit)
commit_is = parsing.read (omega arith) refl (parsing.a_call refl grammar.commit refl refl refl)

-- `ROLLBACK` is read as the call that rolls back
pub rollback_is : Parsed rollback (Ok Rollback)
rollback_is = parsing.read (omega arith) refl (parsing.a_call refl grammar.rollback refl refl refl)

-- the text that creates is read as the call, of the document `d`
pub create_is : Parsed create (Ok (Create d))
create_is = parsing.read (omega arith) refl (parsing.a_call refl grammar.create refl refl refl)

-- the text that loads is read as the call, of the document `d` and the lines of one element
pub load_is : Parsed load (Ok (Load d element))
load_is = parsing.read (omega arith) refl (parsing.a_call refl grammar.load refl refl refl)

-- the text that exports is read as the call, of the document `d`
pub export_is : Parsed export (Ok (Export d))
export_is = parsing.read (omega arith) refl (parsing.a_call refl grammar.export refl refl refl)

-- the need to read `d`
abbrev pub shared : List Need
shared = record { name = d; mode = S } ∷ []

-- the need to change `d`
abbrev pub exclusive : List Need
exclusive = record { name = d; mode = X } ∷ []
