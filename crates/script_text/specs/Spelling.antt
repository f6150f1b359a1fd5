-- How a script is spelled, line by line: sessions, each with its calls, and between them any lines that are skipped or that
-- add to the order.
use Rattle.std.specs.Prelude.{◌≡◌, ◌+◌, ◌<◌, ◌≤◌, ℕ, true, false, List, [], ◌∷◌, ◌++◌, length, codes, IsUtf8, Ok}
use Rattle.std.specs.Fmt.{decimal}
use Rattle.xq_ast.specs.declared.call.CallText.{CallText}
use Rattle.xml_model.specs.Pyx.{Line}
use Rattle.script_text.specs.declared.limits.TheConstants.{SESSIONS_MAX, CALLS_MAX}
use Rattle.script_text.specs.declared.scripts.session_calls.Script.{Script}
use Rattle.script_text.specs.declared.scripts.kinds.LineKind.TheVariants.{Skipped, Continuation, Call}
use Rattle.script_text.specs.Scripts.{is_end, kind_of, opens_load, script}

-- ---- lines beside the calls

-- a line that is skipped, blank or a comment; or a line of an order with its numbers
pub data Aside : Type 0 where
  skipped : Line → Aside
  ordered : List ℕ → Aside

-- each number after a space
abbrev pub spaced : List ℕ → Line
spaced [] = []
spaced (n ∷ ns) = 32 ∷ (decimal n ++ spaced ns)

-- the line as it stands, or `ORDER` and the numbers
abbrev pub line_of_aside : Aside → Line
line_of_aside (skipped line) = line
line_of_aside (ordered ns) = codes "ORDER" ++ spaced ns

-- their lines, one after another
abbrev pub lines_of_asides : List Aside → List Line
lines_of_asides [] = []
lines_of_asides (a ∷ more) = line_of_aside a ∷ lines_of_asides more

-- the numbers that they add to the order
abbrev pub numbers_of : Aside → List ℕ
numbers_of (skipped line) = []
numbers_of (ordered ns) = ns

-- the numbers that all of them add to the order
abbrev pub order_of : List Aside → List ℕ
order_of [] = []
order_of (a ∷ more) = numbers_of a ++ order_of more

-- numbers of some of these sessions
abbrev pub AreNumbers : ℕ → List ℕ → Type 0
AreNumbers most [] = Unit {0}
AreNumbers most (n ∷ ns) = (0 < n) × (n ≤ most) × AreNumbers most ns

-- the line is skipped in a script, or its numbers, one at least, are those of sessions
abbrev pub IsAside : ℕ → Aside → Type 0
IsAside most (skipped line) = IsUtf8 line × (kind_of line ≡ Skipped)
IsAside most (ordered ns) = (0 < length ns) × AreNumbers most ns

-- each may stand beside the calls
abbrev pub AreAsides : ℕ → List Aside → Type 0
AreAsides most [] = Unit {0}
AreAsides most (a ∷ more) = IsAside most a × AreAsides most more

-- ---- calls

-- A line that continues a call, and the lines between.
pub record MoreLine : Type 0 where
  pub between : List Aside
  pub line : Line

-- a call by its lines: a LOAD with its PYX lines, or another with the lines that continue it
pub data CallLines : Type 0 where
  load : Line → List Line → CallLines
  other : Line → List MoreLine → CallLines

-- the lines that continue a call, each after the lines between
abbrev pub lines_of_more : List MoreLine → List Line
lines_of_more [] = []
lines_of_more (x ∷ more) = lines_of_asides x.between ++ x.line ∷ lines_of_more more

-- the lines of a call: a LOAD ends with the line `.`
abbrev pub lines_of_call : CallLines → List Line
lines_of_call (load first pyx) = first ∷ (pyx ++ codes "." ∷ [])
lines_of_call (other first more) = first ∷ lines_of_more more

-- the text with each of these lines after a newline
abbrev pub joined_by_newlines : List ℕ → List MoreLine → List ℕ
joined_by_newlines text [] = text
joined_by_newlines text (x ∷ more) = joined_by_newlines (text ++ 10 ∷ x.line) more

-- the call that these lines spell
abbrev pub call_spelled : CallLines → CallText
call_spelled (load first pyx) = record { text = first; pyx = pyx }
call_spelled (other first more) = record { text = joined_by_newlines first more; pyx = [] }

-- the numbers that the lines between add to the order
abbrev pub order_of_more : List MoreLine → List ℕ
order_of_more [] = []
order_of_more (x ∷ more) = order_of x.between ++ order_of_more more

-- the numbers that the lines between those of a call add to the order; a LOAD has none between
abbrev pub order_of_call : CallLines → List ℕ
order_of_call (load first pyx) = []
order_of_call (other first more) = order_of_more more

-- each line is UTF-8, and none ends a LOAD
abbrev pub ArePyx : List Line → Type 0
ArePyx [] = Unit {0}
ArePyx (line ∷ more) = IsUtf8 line × (is_end line ≡ false) × ArePyx more

-- each line continues a call, and those before it may stand beside the calls
abbrev pub AreContinuations : ℕ → List MoreLine → Type 0
AreContinuations most [] = Unit {0}
AreContinuations most (x ∷ more) = AreAsides most x.between × IsUtf8 x.line × (kind_of x.line ≡ Continuation) × AreContinuations most more

-- each line may stand where it stands
abbrev pub IsCall : ℕ → CallLines → Type 0
IsCall most (load first pyx) = IsUtf8 first × (kind_of first ≡ Call) × (opens_load first ≡ true) × ArePyx pyx
IsCall most (other first more) = IsUtf8 first × (kind_of first ≡ Call) × (opens_load first ≡ false) × AreContinuations most more

-- ---- sessions

-- A call, and the lines after it that are no call.
pub record CallPart : Type 0 where
  pub call : CallLines
  pub after : List Aside

-- A session: the lines after its first that are no call, and its calls.
pub record SessionPart : Type 0 where
  pub before : List Aside
  pub calls : List CallPart

-- the lines of calls, each with those after it that are no call
abbrev pub lines_of_calls : List CallPart → List Line
lines_of_calls [] = []
lines_of_calls (c ∷ cs) = lines_of_call c.call ++ (lines_of_asides c.after ++ lines_of_calls cs)

-- the calls that these parts spell
abbrev pub calls_spelled : List CallPart → List CallText
calls_spelled [] = []
calls_spelled (c ∷ cs) = call_spelled c.call ∷ calls_spelled cs

-- the numbers that the lines of these calls, and those after them, add to the order
abbrev pub order_of_calls : List CallPart → List ℕ
order_of_calls [] = []
order_of_calls (c ∷ cs) = order_of_call c.call ++ (order_of c.after ++ order_of_calls cs)

-- each line of each call may stand where it stands
abbrev pub AreCalls : ℕ → List CallPart → Type 0
AreCalls most [] = Unit {0}
AreCalls most (c ∷ cs) = IsCall most c.call × AreAsides most c.after × AreCalls most cs

-- the lines of sessions, each after the line `SESSION`
abbrev pub lines_of_sessions : List SessionPart → List Line
lines_of_sessions [] = []
lines_of_sessions (s ∷ ss) = codes "SESSION" ∷ (lines_of_asides s.before ++ (lines_of_calls s.calls ++ lines_of_sessions ss))

-- the calls of each session that these parts spell
abbrev pub sessions_spelled : List SessionPart → List (List CallText)
sessions_spelled [] = []
sessions_spelled (s ∷ ss) = calls_spelled s.calls ∷ sessions_spelled ss

-- the numbers that the lines of these sessions add to the order
abbrev pub order_of_sessions : List SessionPart → List ℕ
order_of_sessions [] = []
order_of_sessions (s ∷ ss) = order_of s.before ++ (order_of_calls s.calls ++ order_of_sessions ss)

-- each line of each session may stand where it stands
abbrev pub AreSessions : ℕ → List SessionPart → Type 0
AreSessions most [] = Unit {0}
AreSessions most (s ∷ ss) = AreAsides most s.before × AreCalls most s.calls × AreSessions most ss

-- the number of calls of all sessions
abbrev pub calls_in : List SessionPart → ℕ
calls_in [] = 0
calls_in (s ∷ ss) = length s.calls + calls_in ss

-- ---- scripts

-- lines before the first session, and sessions, within the limits; an order names sessions of the whole script
pub record IsSpelled (before : List Aside) (sessions : List SessionPart) : Type 0 where
  pub asides : AreAsides (length sessions) before
  pub calls : AreSessions (length sessions) sessions
  pub few_sessions : length sessions ≤ SESSIONS_MAX
  pub few_calls : calls_in sessions ≤ CALLS_MAX

-- the lines of a script: those before its first session, and its sessions
abbrev pub lines_of_script : List Aside → List SessionPart → List Line
lines_of_script before sessions = lines_of_asides before ++ lines_of_sessions sessions

-- the script that these parts spell
abbrev pub script_spelled : List Aside → List SessionPart → Script
script_spelled before sessions = record { sessions = sessions_spelled sessions; order = order_of before ++ order_of_sessions sessions }

-- what is spelled is read
abbrev pub IsReadAgain : Type 0
IsReadAgain = (before : List Aside) (sessions : List SessionPart) → IsSpelled before sessions
    → script (lines_of_script before sessions) ≡ Ok (script_spelled before sessions)
