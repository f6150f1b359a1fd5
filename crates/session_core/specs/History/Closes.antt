-- The clause `closes` of a legal history: the events of each session are those of the calls of its script, in order. Here
-- stand its sentences that need the scripts. In which order the events of one call come stands in `CallOrder`. That
-- Committed and Doubt close a COMMIT in an updating transaction, Ended one in a read-only transaction, and that Began comes
-- outside of one, is told by the state and stands in `Refusals`. `TextRefusalsAt` is the sentence of the clause `refusals`
-- on texts that are no calls, since it needs the scripts too.
use Rattle.std.specs.Prelude.{◌≡◌, ℕ, zero, suc, ◌+◌, ◌==◌, Bool, false, ◌&&◌, ◌||◌, if◌then◌else◌, IsTrue, List, [], ◌∷◌, length, slice_get, Option, Some, None, IfSome, Result, Ok, Err, ◌⊎◌}
use Rattle.xq_ast.specs.declared.call.Call.{Call}
use Rattle.xq_ast.specs.declared.call.Call.TheVariants.{Begin, BeginRead, Commit, Rollback}
use Rattle.xq_ast.specs.declared.call.CallText.{CallText}
use Rattle.xq_ast.specs.declared.code.Code.{Code}
use Rattle.xq_ast.specs.declared.code.Code.TheVariants as codes
use Rattle.xq_ast.specs.Parsed.{Parsed}
use Rattle.xq_ast.specs.declared.need.Need.{Need}
use Rattle.xml_model.specs.Needs.{needs}
use Rattle.session_core.specs.declared.history.event.BeginKind.TheVariants as kinds
use Rattle.session_core.specs.declared.history.event.State.{State}
use Rattle.session_core.specs.declared.history.event.State.TheVariants.{InDoubt}
use Rattle.session_core.specs.declared.history.event.Reply.{Reply}
use Rattle.session_core.specs.declared.history.event.Says.{Says}
use Rattle.session_core.specs.declared.history.event.Says.TheVariants as says
use Rattle.session_core.specs.declared.history.event.Event.{Event}
use Rattle.session_core.specs.declared.history.event.Event.TheVariants.{Began, Granted, Refused, Answered, Committed, Ended, RolledBack, Doubt, Settled, Left}
use Rattle.session_core.specs.History.{session_of, is_closing}
use Rattle.session_core.specs.History.States.{state, is_open}
use Rattle.session_core.specs.History.Settling.{writes_store}

-- the calls of the sessions from 1 on
abbrev pub Scripts : Type 0
Scripts = List (List CallText)

-- the calls of a script, or none where there is no script
abbrev pub or_none : Option (List CallText) → List CallText
or_none None = []
or_none (Some calls) = calls

-- the calls of a session; a number without a script has none
abbrev pub calls_of : Scripts → ℕ → List CallText
calls_of P zero = []
calls_of P (suc s) = or_none (slice_get P s)

-- how many calls of the session the event closes: one or none
abbrev pub more_closed : ℕ → Event → ℕ
more_closed s e = if is_closing e && (session_of e == s) then 1 else 0

-- how many calls of the session are closed
abbrev pub closed_of : ℕ → List Event → ℕ
closed_of s [] = 0
closed_of s (e ∷ past) = more_closed s e + closed_of s past

-- the session's next call
abbrev pub next_call : Scripts → ℕ → List Event → Option CallText
next_call P s past = slice_get (calls_of P s) (closed_of s past)

-- the event says that the session has left
abbrev pub is_left_by : ℕ → Event → Bool
is_left_by s (Left t) = t == s
is_left_by s _ = false

-- the session has left
abbrev pub has_left : ℕ → List Event → Bool
has_left s [] = false
has_left s (e ∷ past) = is_left_by s e || has_left s past

-- a reply keeps the reading of its call; for want of memory it may be lost
abbrev pub KeepsReading : Result Call Code → Reply → Type 0
KeepsReading (Ok call) reply = (reply.call ≡ Some call) ⊎ ((reply.call ≡ None) × (reply.says ≡ says.Error codes.NoMemory))
KeepsReading (Err code) reply = reply.call ≡ None

-- the event may close this call; a grant, a settling and the session's leaving close none
abbrev pub ClosesCall : Call → Event → Type 0
ClosesCall call (Began s kinds.Updating) = call ≡ Begin
ClosesCall call (Began s (kinds.Reading n)) = call ≡ BeginRead
ClosesCall call (Committed s n) = call ≡ Commit
ClosesCall call (Doubt s n mark) = call ≡ Commit
ClosesCall call (Ended s) = call ≡ Commit
ClosesCall call (RolledBack s) = call ≡ Rollback
ClosesCall call (Refused s name holder asked) = asked ≡ needs call
ClosesCall call (Answered s reply) = KeepsReading (Ok call) reply
ClosesCall call (Granted s asked) = ⊥
ClosesCall call (Settled by s stands) = ⊥
ClosesCall call (Left s) = ⊥

-- a text that is no call is closed by an answer alone
abbrev pub ClosesText : Code → Event → Type 0
ClosesText code (Answered s reply) = KeepsReading (Err code) reply
ClosesText code _ = ⊥

-- the event may close what a text is: a call, or no call with its refusal
abbrev pub Closes : Result Call Code → Event → Type 0
Closes (Ok call) e = ClosesCall call e
Closes (Err code) e = ClosesText code e

-- the event closes a call of this text, by what the text is
pub record ClosesBy (text : CallText) (e : Event) : Type 0 where
  pub what : Result Call Code
  pub parsed : Parsed text what
  pub closes : Closes what e

-- a text of which locks are granted: a call that needs them
pub record NeedsThese (asked : List Need) (text : CallText) : Type 0 where
  pub call : Call
  pub parsed : Parsed text (Ok call)
  pub needs_are : needs call ≡ asked

-- a text for which another session's commit is settled: a COMMIT in an updating transaction, or a CHECKPOINT
-- outside of one
pub record SettlesFor (state' : State) (text : CallText) : Type 0 where
  pub call : Call
  pub parsed : Parsed text (Ok call)
  pub writes : IsTrue (writes_store state' (Some call))

-- there is a text, and this holds of it
abbrev pub IsSomeText : Option CallText → (CallText → Type 0) → Type 0
IsSomeText None Fact = ⊥
IsSomeText (Some text) Fact = Fact text

-- an event for a call: it is the session's next one
abbrev pub IsForCall : Scripts → Event → List Event → Type 0
IsForCall P (Granted s asked) past = IsSomeText (next_call P s past) (NeedsThese asked)
IsForCall P (Settled by s stands) past = IsSomeText (next_call P by past) (λ text. (by ≡ s) ⊎ SettlesFor (state by past) text)
IsForCall P (Left s) past = (closed_of s past ≡ length (calls_of P s)) × IsTrue (is_open (state s past))
IsForCall P e past = IsSomeText (next_call P (session_of e) past) (λ text. ClosesBy text e)

-- the event is for the next call of its session, and that session has not left before
abbrev pub ClosesAt : Scripts → Event → List Event → Type 0
ClosesAt P e past = IsForCall P e past × (has_left (session_of e) past ≡ false)

-- at the end each call is closed, and no transaction is open but those in doubt
abbrev pub ClosesAtEnd : Scripts → List Event → Type 0
ClosesAtEnd P past = (s : ℕ) → (closed_of s past ≡ length (calls_of P s)) × (is_open (state s past) ≡ false)

-- the answer says that the device failed
abbrev pub IsFailure : Says → Type 0
IsFailure (says.Error (codes.Failed mark)) = Unit {0}
IsFailure _ = ⊥

-- a text that is no call is answered with its refusal; before that a session in doubt is settled, where the device may fail
abbrev pub IsTextAnswer : Result Call Code → State → Says → Type 0
IsTextAnswer (Ok call) state' answer = Unit {0}
IsTextAnswer (Err code) state' answer = (answer ≡ says.Error code) ⊎ ((answer ≡ says.Error codes.NoMemory) ⊎ ((state' ≡ InDoubt) × IsFailure answer))

-- the answer is right for the text, by what the text is; a text that is a call is not judged here
pub record IsAnswerTo (text : CallText) (state' : State) (answer : Says) : Type 0 where
  pub what : Result Call Code
  pub parsed : Parsed text what
  pub answers : IsTextAnswer what state' answer

-- an answer to a text that is no call is that text's refusal; other events are not judged here
abbrev pub TextRefusalsAt : Scripts → Event → List Event → Type 0
TextRefusalsAt P (Answered s reply) past = IfSome (next_call P s past) (λ text. IsAnswerTo text (state s past) reply.says)
TextRefusalsAt P _ past = Unit {0}
