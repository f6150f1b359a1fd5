-- The clause `refusals` of a legal history: each call is answered by the order of refusals. Here stands what the session's
-- state and the call tell: that a session in doubt is settled first, that a text that is no call is answered with a refusal
-- of texts, and the table of states; and that a number at its last value is answered only where the table lets the call
-- pass. Which texts are refused, and with which refusal, needs the scripts and stands in `Closes` (`TextRefusalsAt`). Whose
-- locks are not free stands in `Locks`, what the documents tell in `Replies`, when a device may fail in `Marks`, and which
-- number is at its last value in `Settling`. Want of memory may stand for any answer.
use Rattle.std.specs.Prelude.{◌≡◌, Bool, true, false, not, ◌||◌, IsTrue, List, Option, Some, None, ◌⊎◌}
use Rattle.xq_ast.specs.declared.call.Call.{Call}
use Rattle.xq_ast.specs.declared.call.Call.TheVariants.{Begin, BeginRead, Commit, Rollback, Checkpoint, ShowDocuments, Create, Drop, Load, Export, Update, Query}
use Rattle.xq_ast.specs.declared.code.Code.{Code}
use Rattle.xq_ast.specs.declared.code.Code.TheVariants as codes
use Rattle.session_core.specs.declared.history.event.State.{State}
use Rattle.session_core.specs.declared.history.event.State.TheVariants.{Idle, Updating, Reading, InDoubt}
use Rattle.session_core.specs.declared.history.event.Says.{Says}
use Rattle.session_core.specs.declared.history.event.Says.TheVariants as says
use Rattle.session_core.specs.declared.history.event.Event.{Event}
use Rattle.session_core.specs.declared.history.event.Event.TheVariants.{Began, Granted, Refused, Answered, Committed, Ended, RolledBack, Doubt, Settled, Left}
use Rattle.session_core.specs.History.States.{state, is_open, is_reading}

-- What a call does: it begins a transaction, ends one, makes a checkpoint, reads documents, shows their names, or
-- changes them.
pub data Work : Type 0 where
  begins : Work
  ends : Work
  checkpoints : Work
  reads : Work
  shows : Work
  changes : Work

-- what each call does
abbrev pub work_of : Call → Work
work_of Begin = begins
work_of BeginRead = begins
work_of Commit = ends
work_of Rollback = ends
work_of Checkpoint = checkpoints
work_of ShowDocuments = shows
work_of (Create name) = changes
work_of (Drop name) = changes
work_of (Load name pyx) = changes
work_of (Export name) = reads
work_of (Update what) = changes
work_of (Query expr) = reads

-- outside of a transaction one may begin, or make a checkpoint; all else is refused
abbrev pub in_idle : Work → Option Code
in_idle begins = None
in_idle checkpoints = None
in_idle _ = Some codes.NoTransaction

-- an updating transaction refuses to begin, to make a checkpoint and to show the names
abbrev pub in_updating : Work → Option Code
in_updating begins = Some codes.InTransaction
in_updating checkpoints = Some codes.InTransaction
in_updating shows = Some codes.Updating
in_updating _ = None

-- a read-only transaction refuses to begin, to make a checkpoint and to change documents
abbrev pub in_reading : Work → Option Code
in_reading begins = Some codes.InTransaction
in_reading checkpoints = Some codes.InTransaction
in_reading changes = Some codes.ReadOnly
in_reading _ = None

-- the table: why the state refuses a call, if it does; a session in doubt is settled before
abbrev pub refused_in : State → Work → Option Code
refused_in Idle work = in_idle work
refused_in Updating work = in_updating work
refused_in (Reading n) work = in_reading work
refused_in InDoubt work = None

-- these answers have rules of their own in each state: want of memory, and a failing device
abbrev pub is_apart : Says → Bool
is_apart (says.Error codes.NoMemory) = true
is_apart (says.Error (codes.Failed mark)) = true
is_apart _ = false

-- a number is at its last value
abbrev pub is_spent : Says → Bool
is_spent (says.Error (codes.Spent kind number)) = true
is_spent _ = false

-- the refusals of a text that is no call
abbrev pub is_text_refusal : Code → Bool
is_text_refusal codes.TooLong = true
is_text_refusal codes.XPST0003 = true
is_text_refusal codes.NestedTooDeep = true
is_text_refusal codes.BadName = true
is_text_refusal codes.XPST0017 = true
is_text_refusal codes.XPST0008 = true
is_text_refusal _ = false

-- the refusals by a state
abbrev pub is_state_refusal : Code → Bool
is_state_refusal codes.NoTransaction = true
is_state_refusal codes.InTransaction = true
is_state_refusal codes.ReadOnly = true
is_state_refusal codes.Updating = true
is_state_refusal _ = false

-- the answer is a refusal of a text that is no call
abbrev pub refuses_text : Says → Bool
refuses_text (says.Error code) = is_text_refusal code
refuses_text _ = false

-- what a statement may say that neither its text nor the state refuses; which of these it says is told by the forest
abbrev pub answers_statement : Says → Bool
answers_statement says.Done = true
answers_statement (says.Lines all) = true
answers_statement (says.Error code) = not (is_text_refusal code || is_state_refusal code)
answers_statement _ = false

-- Done, or whether the checkpoint stands is not known, or a number is at its last value
abbrev pub is_checkpoint_answer : Says → Bool
is_checkpoint_answer says.Done = true
is_checkpoint_answer (says.Error (codes.InDoubt mark)) = true
is_checkpoint_answer answer = is_spent answer

-- what is answered to a call that the state lets pass; where it begins or ends a transaction it has another event, but one
-- that ends a transaction may find a number at its last value
abbrev pub passes_with : Work → Says → Bool
passes_with begins answer = false
passes_with ends answer = is_spent answer
passes_with checkpoints answer = is_checkpoint_answer answer
passes_with reads answer = answers_statement answer
passes_with shows answer = answers_statement answer
passes_with changes answer = answers_statement answer

-- the answer is the state's refusal where there is one, and else one that the call may have
abbrev pub IsByTable : Option Code → Work → Says → Type 0
IsByTable (Some code) work answer = answer ≡ says.Error code
IsByTable None work answer = IsTrue (passes_with work answer)

-- the answer is by the table of the state for a call, and a refusal of texts for a text that is none
abbrev pub IsInOrder : State → Option Call → Says → Type 0
IsInOrder state' None answer = IsTrue (refuses_text answer)
IsInOrder state' (Some call) answer = IsByTable (refused_in state' (work_of call)) (work_of call) answer

-- a session in doubt is settled first, so its call gets no other answer before
abbrev pub IsBehindSettling : State → Option Call → Says → Type 0
IsBehindSettling InDoubt call answer = ⊥
IsBehindSettling Idle call answer = IsInOrder Idle call answer
IsBehindSettling Updating call answer = IsInOrder Updating call answer
IsBehindSettling (Reading n) call answer = IsInOrder (Reading n) call answer

-- the clause `refusals` of one event: the state of its session lets it come, and an answer is by the table
abbrev pub RefusalsAt : Event → List Event → Type 0
RefusalsAt (Began s kind) past = state s past ≡ Idle
RefusalsAt (Answered s reply) past = IsTrue (is_apart reply.says) ⊎ IsBehindSettling (state s past) reply.call reply.says
RefusalsAt (Refused s name holder needs) past = state s past ≡ Updating
RefusalsAt (Committed s n) past = state s past ≡ Updating
RefusalsAt (Doubt s n mark) past = state s past ≡ Updating
RefusalsAt (Ended s) past = IsTrue (is_reading (state s past))
RefusalsAt (RolledBack s) past = IsTrue (is_open (state s past))
RefusalsAt (Left s) past = IsTrue (is_open (state s past))
RefusalsAt (Granted s needs) past = Unit {0}
RefusalsAt (Settled by s stands) past = Unit {0}
