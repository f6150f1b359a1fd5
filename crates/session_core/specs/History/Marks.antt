-- The clause `marks` of a legal history: a failing device raised its count of faults. All its sentences stand here but one:
-- where no commit number is left, a COMMIT fails by settling alone, which stands in `Settling` (`FailsBySettling`).
use Rattle.std.specs.Prelude.{◌≡◌, ◌<◌, ◌≤◌, Bool, true, false, IsTrue, List, [], ◌∷◌, Option, Some, None, IfSome, ◌⊎◌}
use Rattle.xq_ast.specs.declared.call.Call.{Call}
use Rattle.xq_ast.specs.declared.code.Mark.{Mark}
use Rattle.xq_ast.specs.declared.code.Code.{Code}
use Rattle.xq_ast.specs.declared.code.Code.TheVariants as codes
use Rattle.xml_model.specs.Statement.{is_statement}
use Rattle.session_core.specs.declared.history.event.State.{State}
use Rattle.session_core.specs.declared.history.event.State.TheVariants.{Idle, Updating, Reading, InDoubt}
use Rattle.session_core.specs.declared.history.event.Says.{Says}
use Rattle.session_core.specs.declared.history.event.Says.TheVariants as says
use Rattle.session_core.specs.declared.history.event.Event.{Event}
use Rattle.session_core.specs.declared.history.event.Event.TheVariants.{Answered, Doubt}
use Rattle.session_core.specs.History.States.{state}
use Rattle.session_core.specs.History.Refusals.{refused_in, work_of}
use Rattle.session_core.specs.History.Settling.{last_number, writes_store}

-- the mark that an answer keeps, if the device failed under its call or left it in doubt
abbrev pub mark_in : Says → Option Mark
mark_in (says.Error (codes.Failed mark)) = Some mark
mark_in (says.Error (codes.InDoubt mark)) = Some mark
mark_in _ = None

-- the mark that an event keeps
abbrev pub mark_of : Event → Option Mark
mark_of (Answered s reply) = mark_in reply.says
mark_of (Doubt s n mark) = Some mark
mark_of _ = None

-- the mark, or the one before where there is none
abbrev pub or_before : Option Mark → Option Mark → Option Mark
or_before None before = before
or_before (Some mark) before = Some mark

-- the newest mark
abbrev pub last_mark : List Event → Option Mark
last_mark [] = None
last_mark (e ∷ past) = or_before (mark_of e) (last_mark past)

-- the count rose, or stands at its last value
abbrev pub HasRisen : Mark → Type 0
HasRisen mark = (mark.before < mark.after) ⊎ ((mark.before ≡ last_number) × (mark.after ≡ last_number))

-- the mark begins where the one before has ended, or later
abbrev pub IsNextMark : List Event → Mark → Type 0
IsNextMark past mark = HasRisen mark × IfSome (last_mark past) (λ before. before.after ≤ mark.before)

-- the state has no refusal for the call
abbrev pub is_passed : Option Code → Bool
is_passed None = true
is_passed (Some code) = false

-- a statement that the state lets pass, or what writes the store
abbrev pub MayFailBy : State → Call → Type 0
MayFailBy state' call = (IsTrue (is_statement call) × IsTrue (is_passed (refused_in state' (work_of call)))) ⊎ IsTrue (writes_store state' (Some call))

-- the device may fail under the call, where the text is one and the state lets it
abbrev pub MayFailWith : State → Option Call → Type 0
MayFailWith state' None = ⊥
MayFailWith state' (Some call) = MayFailBy state' call

-- the device may fail under the call: under any call of a session in doubt, since it settles first
abbrev pub MayFail : State → Option Call → Type 0
MayFail InDoubt call = Unit {0}
MayFail Idle call = MayFailWith Idle call
MayFail Updating call = MayFailWith Updating call
MayFail (Reading n) call = MayFailWith (Reading n) call

-- an answer that the device failed is given only where it may fail
abbrev pub FailsRightly : State → Option Call → Says → Type 0
FailsRightly state' call (says.Error (codes.Failed mark)) = MayFail state' call
FailsRightly state' call _ = Unit {0}

-- an answer that the device failed is given only to a call under which it may, in its session's state
abbrev pub IsFailureOf : Event → List Event → Type 0
IsFailureOf (Answered s reply) past = FailsRightly (state s past) reply.call reply.says
IsFailureOf _ past = Unit {0}

-- the clause `marks` of one event: its mark begins where the last one ended, or later, and it fails only where it may
abbrev pub MarksAt : Event → List Event → Type 0
MarksAt e past = IfSome (mark_of e) (IsNextMark past) × IsFailureOf e past
