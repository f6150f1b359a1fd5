-- The table of a journal's lines, row by row: the words after the session's number, and what follows them.
use Rattle.std.specs.Prelude.{◌≡◌, ◌≢◌, ℕ, ◌<◌, ◌^◌, Bool, List, [], ◌∷◌, ◌++◌, length, codes, IsUtf8, None}
use Rattle.std.specs.Fmt.{decimal}
use Rattle.xq_ast.specs.CodeText.{code_text, InRange, HasNoMark, no_mark}
use Rattle.xq_ast.specs.declared.code.Code.{Code}
use Rattle.xq_ast.specs.declared.need.Need.{Need}
use Rattle.xml_model.specs.Pyx.{Line}
use Rattle.session_core.specs.declared.history.event.BeginKind.TheVariants.{Updating, Reading}
use Rattle.session_core.specs.declared.history.event.Says.{Says}
use Rattle.session_core.specs.declared.history.event.Says.TheVariants as says
use Rattle.session_core.specs.declared.history.event.Event.{Event}
use Rattle.session_core.specs.declared.history.event.Event.TheVariants.{Began, Granted, Refused, Answered, Committed, Ended, RolledBack, Doubt, Settled, Left}
use Rattle.script_text.specs.declared.journals.rows.Row.{Row}
use Rattle.script_text.specs.declared.journals.rows.Row.TheVariants as rows
use Rattle.script_text.specs.JournalText.{quoted, needs_text, stands_text, AreLines, IsSession}

-- the words of a row, up to where events of one row differ
abbrev pub row_word : Row → List ℕ
row_word rows.BeganUpdate = codes "began update"
row_word rows.BeganRead = codes "began read "
row_word rows.Granted = codes "granted "
row_word rows.Refused = codes "refused "
row_word rows.Done = codes "done"
row_word rows.Answer = codes "answer "
row_word rows.Error = codes "error "
row_word rows.Committed = codes "committed "
row_word rows.Ended = codes "ended"
row_word rows.RolledBack = codes "rolled back"
row_word rows.Doubt = codes "doubt "
row_word rows.Settled = codes "settled "
row_word rows.Left = codes "left"

-- the words begin with those of none of these rows
abbrev pub MissesRows : List ℕ → List Row → Type 0
MissesRows words [] = Unit {0}
MissesRows words (row ∷ more) = ((rest : List ℕ) → words ≢ row_word row ++ rest) × MissesRows words more

-- an answer without its call
abbrev pub answer_event : ℕ → Says → Event
answer_event s what = Answered s (record { call = None; says = what })

-- the lines that an answer has after its first line: those that it says
abbrev pub says_behind : Says → List Line
says_behind (says.Lines all) = all
says_behind _ = []

-- the lines after the first line of an event
abbrev pub lines_behind : Event → List Line
lines_behind (Answered s reply) = says_behind reply.says
lines_behind _ = []

-- the names of the needs are UTF-8
abbrev pub AreUtf8 : List Need → Type 0
AreUtf8 [] = Unit {0}
AreUtf8 (n ∷ more) = IsUtf8 n.name × AreUtf8 more

-- the row's words are followed by nothing
abbrev pub IsWhole : List ℕ → Event → Event → Type 0
IsWhole rest made e = (rest ≡ []) × (e ≡ made)

-- the row's words are followed by a number
abbrev pub IsNumbered : List ℕ → (ℕ → Event) → Event → Type 0
IsNumbered rest made e = (n : ℕ) × (n < 2 ^ 64) × (decimal n ≡ rest) × (e ≡ made n)

-- an event by the row of its first line, its session, and what follows the row's words
abbrev pub IsRow : Row → ℕ → List ℕ → Event → Type 0
IsRow rows.BeganUpdate s rest e = IsWhole rest (Began s Updating) e
IsRow rows.BeganRead s rest e = IsNumbered rest (λ n. Began s (Reading n)) e
IsRow rows.Granted s rest e = (needs : List Need) × (0 < length needs) × AreUtf8 needs × (needs_text needs ≡ rest) × (e ≡ Granted s needs)
IsRow rows.Refused s rest e =
    (name : List ℕ) × (holder : ℕ) × IsUtf8 name × IsSession holder × (quoted name ++ (codes " by " ++ decimal holder) ≡ rest) × (e ≡ Refused s name holder [])
IsRow rows.Done s rest e = IsWhole rest (answer_event s says.Done) e
IsRow rows.Answer s rest e = (all : List Line) × AreLines all × (length all < 2 ^ 64) × (decimal (length all) ≡ rest) × (e ≡ answer_event s (says.Lines all))
IsRow rows.Error s rest e = (code : Code) × InRange code × HasNoMark code × (code_text code ≡ rest) × (e ≡ answer_event s (says.Error code))
IsRow rows.Committed s rest e = IsNumbered rest (λ n. Committed s n) e
IsRow rows.Ended s rest e = IsWhole rest (Ended s) e
IsRow rows.RolledBack s rest e = IsWhole rest (RolledBack s) e
IsRow rows.Doubt s rest e = IsNumbered rest (λ n. Doubt s n no_mark) e
IsRow rows.Settled s rest e =
    (other : ℕ) × (stands : Bool) × IsSession other × (decimal other ++ (codes " " ++ stands_text stands) ≡ rest) × (e ≡ Settled s other stands)
IsRow rows.Left s rest e = IsWhole rest (Left s) e
