-- The clause `locks` of a legal history: locks are granted exactly where no other session holds a conflicting one. All its
-- sentences stand here. A call is known by its answer or by the needs that its event keeps; that these are the needs of the
-- call in the session's script stands in `Closes`. That a refusal comes only for a call in an updating transaction that
-- passed the state's test is in `IsRefused`; that it comes wherever such a call meets a conflict is in `MeetsNoConflict`,
-- as what any other answer asks for.
use Rattle.std.specs.Prelude.{◌≡◌, ℕ, ◌<◌, true, false, List, [], ◌∷◌, ◌++◌, length, Option, Some, None}
use Rattle.xq_ast.specs.declared.call.Call.{Call}
use Rattle.xq_ast.specs.declared.code.Code.TheVariants as codes
use Rattle.xq_ast.specs.declared.need.Need.{Need}
use Rattle.xml_model.specs.Needs.{needs}
use Rattle.session_core.specs.declared.history.event.State.{State}
use Rattle.session_core.specs.declared.history.event.State.TheVariants.{Idle, Updating, Reading, InDoubt}
use Rattle.session_core.specs.declared.history.event.Reply.{Reply}
use Rattle.session_core.specs.declared.history.event.Says.{Says}
use Rattle.session_core.specs.declared.history.event.Says.TheVariants as says
use Rattle.session_core.specs.declared.history.event.Event.{Event}
use Rattle.session_core.specs.declared.history.event.Event.TheVariants.{Began, Granted, Refused, Answered, Committed, Ended, RolledBack, Doubt, Settled, Left}
use Rattle.session_core.specs.History.{session_of, last_of}
use Rattle.session_core.specs.History.Transactions.{Ran, ran}
use Rattle.session_core.specs.History.States.{state, blocks}
use Rattle.session_core.specs.History.Refusals.{refused_in, work_of}

-- no other session holds a lock that conflicts with the need
abbrev pub IsFree : ℕ → Need → List Event → Type 0
IsFree s n past = (t : ℕ) → (t ≡ s → ⊥) → blocks t n past ≡ false

-- no other session holds a lock that conflicts with one of the needs
abbrev pub AllFree : ℕ → List Need → List Event → Type 0
AllFree s [] past = Unit {0}
AllFree s (n ∷ more) past = IsFree s n past × AllFree s more past

-- the locks are granted: all needs of a call at once, some at least, to an updating transaction
pub record IsGranted (s : ℕ) (asked : List Need) (past : List Event) : Type 0 where
  pub updating : state s past ≡ Updating
  pub call : Call
  pub needs_are : needs call ≡ asked
  pub some : 0 < length asked
  pub free : AllFree s asked past

-- the locks are refused: of a call's needs, `name` is the first of which another session holds a conflicting lock,
-- and `holder` the least such session
pub record IsRefused (s : ℕ) (name : List ℕ) (holder : ℕ) (asked : List Need) (past : List Event) : Type 0 where
  pub updating : state s past ≡ Updating
  pub call : Call
  pub needs_are : needs call ≡ asked
  pub passes : refused_in Updating (work_of call) ≡ None
  pub before : List Need
  pub blocked : Need
  pub behind : List Need
  pub asked_are : asked ≡ before ++ blocked ∷ behind
  pub before_free : AllFree s before past
  pub name_is : name ≡ blocked.name
  pub other : holder ≡ s → ⊥
  pub holds : blocks holder blocked past ≡ true
  pub least : (t : ℕ) → t < holder → (t ≡ s → ⊥) → blocks t blocked past ≡ false

-- a call that ran and that needs locks comes directly behind their grant
abbrev pub AreGranted : ℕ → List Need → List Event → Type 0
AreGranted s [] past = Unit {0}
AreGranted s (n ∷ more) past = last_of s past ≡ Some (Granted s (n ∷ more))

-- each call that ran comes directly after the grant of the locks that it needs
abbrev pub RanGranted : ℕ → List Ran → List Event → Type 0
RanGranted s [] past = Unit {0}
RanGranted s (r ∷ more) past = AreGranted s (needs r.call) past × RanGranted s more past

-- a call that is answered in an updating transaction, where it passed the state's test and was not refused, meets no
-- conflict: but for want of memory
abbrev pub MeetsNoConflict : ℕ → Option Call → Says → List Event → Type 0
MeetsNoConflict s None answer past = Unit {0}
MeetsNoConflict s (Some call) answer past = refused_in Updating (work_of call) ≡ None → (answer ≡ says.Error codes.NoMemory → ⊥) → AllFree s (needs call) past

-- a reply in an updating transaction is after the grant of the call's locks and meets no conflict;
-- a reply in any other state needs no locks
abbrev pub IsAnsweredWithLocks : State → ℕ → Reply → List Event → Type 0
IsAnsweredWithLocks Updating s reply past = RanGranted s (ran reply) past × MeetsNoConflict s reply.call reply.says past
IsAnsweredWithLocks Idle s reply past = Unit {0}
IsAnsweredWithLocks (Reading n) s reply past = Unit {0}
IsAnsweredWithLocks InDoubt s reply past = Unit {0}

-- the locks that an event gives, refuses or needs
abbrev pub LocksOf : Event → List Event → Type 0
LocksOf (Granted s asked) past = IsGranted s asked past
LocksOf (Refused s name holder asked) past = IsRefused s name holder asked past
LocksOf (Answered s reply) past = IsAnsweredWithLocks (state s past) s reply past
LocksOf (Began s kind) past = Unit {0}
LocksOf (Committed s n) past = Unit {0}
LocksOf (Ended s) past = Unit {0}
LocksOf (RolledBack s) past = Unit {0}
LocksOf (Doubt s n mark) past = Unit {0}
LocksOf (Settled by s stands) past = Unit {0}
LocksOf (Left s) past = Unit {0}

-- a grant's locks are the needs of the call that its session closes next; for want of memory the call may be lost
abbrev pub AreNeedsOf : List Need → Option Call → Says → Type 0
AreNeedsOf granted (Some call) answer = needs call ≡ granted
AreNeedsOf granted None answer = answer ≡ says.Error codes.NoMemory

-- the event is an answer to the call whose needs were granted
abbrev pub ClosesGrant : List Need → Event → Type 0
ClosesGrant granted (Answered s reply) = AreNeedsOf granted reply.call reply.says
ClosesGrant granted _ = ⊥

-- where the session's last event granted locks, this one answers the call that needs them
abbrev pub IsBehindGrant : Option Event → Event → Type 0
IsBehindGrant (Some (Granted s granted)) e = ClosesGrant granted e
IsBehindGrant _ e = Unit {0}

-- the clause `locks` of one event: its own locks are right, and it answers the call that a grant before it was for
abbrev pub LocksAt : Event → List Event → Type 0
LocksAt e past = LocksOf e past × IsBehindGrant (last_of (session_of e) past) e
