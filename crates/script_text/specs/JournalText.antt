-- The text of a journal: one line an event, and after an answer its lines.
use Rattle.std.specs.Prelude.{ℕ, ◌<◌, ◌^◌, ◌==◌, None, Bool, true, false, if◌then◌else◌, List, [], ◌∷◌, ◌++◌, length, codes, IsUtf8}
use Rattle.std.specs.Fmt.{decimal}
use Rattle.xq_ast.specs.CodeText.{code_text, InRange, no_mark, without_mark}
use Rattle.xq_ast.specs.declared.need.LockMode.{LockMode}
use Rattle.xq_ast.specs.declared.need.LockMode.TheVariants.{S, X}
use Rattle.xq_ast.specs.declared.need.Need.{Need}
use Rattle.xml_model.specs.Pyx.{Line, text_of, IsPlain}
use Rattle.session_core.specs.declared.history.event.BeginKind.{BeginKind}
use Rattle.session_core.specs.declared.history.event.BeginKind.TheVariants.{Updating, Reading}
use Rattle.session_core.specs.declared.history.event.Says.{Says}
use Rattle.session_core.specs.declared.history.event.Says.TheVariants as says
use Rattle.session_core.specs.declared.history.event.Event.{Event}
use Rattle.session_core.specs.declared.history.event.Event.TheVariants.{Began, Granted, Refused, Answered, Committed, Ended, RolledBack, Doubt, Settled, Left}

-- each quote twice
abbrev pub doubled : List ℕ → List ℕ
doubled [] = []
doubled (b ∷ bs) = if b == 39 then b ∷ b ∷ doubled bs else b ∷ doubled bs

-- a name between single quotes
abbrev pub quoted : List ℕ → List ℕ
quoted name = 39 ∷ (doubled name ++ 39 ∷ [])

-- `S` or `X`
abbrev pub mode_text : LockMode → List ℕ
mode_text S = codes "S"
mode_text X = codes "X"

-- `'a' S`
abbrev pub need_text : Need → List ℕ
need_text n = quoted n.name ++ (codes " " ++ mode_text n.mode)

-- `'a' S, 'b' X`
abbrev pub needs_text : List Need → List ℕ
needs_text [] = []
needs_text (n ∷ []) = need_text n
needs_text (n ∷ m ∷ more) = need_text n ++ (codes ", " ++ needs_text (m ∷ more))

-- the session's number, a space and some words
abbrev pub line_of : ℕ → List ℕ → Line
line_of session words = decimal session ++ (codes " " ++ words)

-- `began update`, or `began read` and the number of the commit
abbrev pub kind_text : BeginKind → List ℕ
kind_text Updating = codes "began update"
kind_text (Reading n) = codes "began read " ++ decimal n

-- `yes` or `no`
abbrev pub stands_text : Bool → List ℕ
stands_text true = codes "yes"
stands_text false = codes "no"

-- what an answer is printed as: Done, its number of lines and the lines, or its code; nothing else is an answer
abbrev pub answer_lines : ℕ → Says → List Line
answer_lines s says.Done = line_of s (codes "done") ∷ []
answer_lines s (says.Lines all) = line_of s (codes "answer " ++ decimal (length all)) ∷ all
answer_lines s (says.Error code) = line_of s (codes "error " ++ code_text code) ∷ []
answer_lines s _ = []

-- the lines of an event: one, and after an answer of lines these
abbrev pub event_lines : Event → List Line
event_lines (Began s kind) = line_of s (kind_text kind) ∷ []
event_lines (Granted s needs) = line_of s (codes "granted " ++ needs_text needs) ∷ []
event_lines (Refused s name holder needs) = line_of s (codes "refused " ++ (quoted name ++ (codes " by " ++ decimal holder))) ∷ []
event_lines (Answered s reply) = answer_lines s reply.says
event_lines (Committed s n) = line_of s (codes "committed " ++ decimal n) ∷ []
event_lines (Ended s) = line_of s (codes "ended") ∷ []
event_lines (RolledBack s) = line_of s (codes "rolled back") ∷ []
event_lines (Doubt s n mark) = line_of s (codes "doubt " ++ decimal n) ∷ []
event_lines (Settled by s stands) = line_of by (codes "settled " ++ (decimal s ++ (codes " " ++ stands_text stands))) ∷ []
event_lines (Left s) = line_of s (codes "left") ∷ []

-- the lines of a journal's events, one event after another
abbrev pub journal_lines : List Event → List Line
journal_lines [] = []
journal_lines (e ∷ more) = event_lines e ++ journal_lines more

-- the text, each line with its newline
abbrev pub text : List Event → List ℕ
text journal = text_of (journal_lines journal)

-- ---- what a text tells of a journal

-- an answer without its mark
abbrev pub told_answer : Says → Says
told_answer (says.Error code) = says.Error (without_mark code)
told_answer answer = answer

-- what the text tells of an event: no call of an answer, no needs of a refusal, and marks from 0 to 0
abbrev pub told : Event → Event
told (Refused s name holder needs) = Refused s name holder []
told (Answered s reply) = Answered s (record { call = None; says = told_answer reply.says })
told (Doubt s n mark) = Doubt s n no_mark
told e = e

-- UTF-8 without a newline
abbrev pub IsOneLine : List ℕ → Type 0
IsOneLine bytes = IsUtf8 bytes × IsPlain bytes

-- each line is UTF-8 without a newline
abbrev pub AreLines : List Line → Type 0
AreLines [] = Unit {0}
AreLines (line ∷ more) = IsOneLine line × AreLines more

-- the name of each need is UTF-8 without a newline
abbrev pub HaveNames : List Need → Type 0
HaveNames [] = Unit {0}
HaveNames (n ∷ more) = IsOneLine n.name × HaveNames more

-- the answer has a line: Done, lines of UTF-8 without newlines, or an error
abbrev pub IsAnswer : Says → Type 0
IsAnswer says.Done = Unit {0}
IsAnswer (says.Lines all) = AreLines all × (length all < 2 ^ 64)
IsAnswer (says.Error code) = InRange code
IsAnswer _ = ⊥

-- a commit's number, where the kind has one, has 64 bits
abbrev pub IsKind : BeginKind → Type 0
IsKind Updating = Unit {0}
IsKind (Reading n) = n < 2 ^ 64

-- a session's number has 32 bits
abbrev pub IsSession : ℕ → Type 0
IsSession s = s < 2 ^ 32

-- an event as programs print them: numbers of sessions have 32 bits and others 64, names and lines of an answer
-- are UTF-8 without a newline, and a grant has needs
abbrev pub IsPrinted : Event → Type 0
IsPrinted (Began s kind) = IsSession s × IsKind kind
IsPrinted (Granted s needs) = IsSession s × (0 < length needs) × HaveNames needs
IsPrinted (Refused s name holder needs) = IsSession s × IsOneLine name × IsSession holder
IsPrinted (Answered s reply) = IsSession s × IsAnswer reply.says
IsPrinted (Committed s n) = IsSession s × (n < 2 ^ 64)
IsPrinted (Ended s) = IsSession s
IsPrinted (RolledBack s) = IsSession s
IsPrinted (Doubt s n mark) = IsSession s × (n < 2 ^ 64)
IsPrinted (Settled by s stands) = IsSession by × IsSession s
IsPrinted (Left s) = IsSession s

-- a journal as programs print them
abbrev pub ArePrinted : List Event → Type 0
ArePrinted [] = Unit {0}
ArePrinted (e ∷ more) = IsPrinted e × ArePrinted more
