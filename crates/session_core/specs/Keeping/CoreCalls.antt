-- The calls of a `Core` as values: what each asks for and what it leaves, and the same of a list of calls that are made
-- one after another.
use Rattle.std.specs.Prelude.{◌≡◌, ℕ, ◌<◌, IsTrue, List, [], ◌∷◌, ◌++◌, length, None}
use Rattle.xq_ast.specs.declared.call.Call.{Call}
use Rattle.xq_ast.specs.declared.code.Mark.{Mark}
use Rattle.xq_ast.specs.declared.need.Need.{Need}
use Rattle.xml_model.specs.Forest.{Forest}
use Rattle.xml_model.specs.Needs.{needs}
use Rattle.session_core.specs.declared.history.event.BeginKind.TheVariants as kinds
use Rattle.session_core.specs.declared.history.event.State.TheVariants.{Idle, Updating}
use Rattle.session_core.specs.declared.history.event.Event.{Event}
use Rattle.session_core.specs.declared.history.event.Event.TheVariants.{Began, Granted, Refused, Answered, Committed, Ended, RolledBack, Doubt}
use Rattle.session_core.specs.declared.history.event.Event.TheVariants as events
use Rattle.session_core.specs.declared.keeping.calls.CoreCall.{CoreCall}
use Rattle.session_core.specs.declared.keeping.calls.CoreCall.TheVariants as calls
use Rattle.session_core.specs.History.States.{state, is_open, is_reading, in_doubt}
use Rattle.session_core.specs.History.Locks.{AllFree, IsRefused}
use Rattle.session_core.specs.History.Marks.{IsNextMark}
use Rattle.session_core.specs.History.Legal.{SoFar}
use Rattle.session_core.specs.Keeping.Kept.{Kept, with_event, past, Follows, forest_behind, CanSettle, IsSettled}
use Rattle.session_core.specs.History.Settling.{HasCommitLeft}
use Rattle.session_core.specs.History.Transactions.{newest_number, next_number}

-- ---- the events that keep a number

-- a read-only transaction begins at the newest commit
abbrev pub began_read : ℕ → Kept → Event
began_read s k = Began s (kinds.Reading (newest_number k.base.numbers (past k)))

-- a commit takes the next number
abbrev pub committed : ℕ → Kept → Event
committed s k = Committed s (next_number k.base.numbers (past k))

-- a commit that comes into doubt takes the next number too
abbrev pub doubted : ℕ → Mark → Kept → Event
doubted s mark k = Doubt s (next_number k.base.numbers (past k)) mark

-- ---- one call

-- The session may ask for these locks: they are what a call needs, one at least.
pub record CanAsk (s : ℕ) (asked : List Need) (k : Kept) : Type 0 where
  pub updating : state s (past k) ≡ Updating
  pub some : 0 < length asked
  pub of_call : (call : Call) × (needs call ≡ asked)
  pub follows : Follows (Granted s asked) (past k)

-- The session's transaction may be committed, and the documents behind it are these.
pub record CanCommit (s : ℕ) (forest : Forest) (k : Kept) : Type 0 where
  pub updating : state s (past k) ≡ Updating
  pub settled : in_doubt (past k) ≡ None
  pub left : HasCommitLeft k.base.numbers (past k)
  pub forest_is : forest ≡ forest_behind k.base s (past k)

-- what the call asks for
abbrev pub Meets : CoreCall → Kept → Type 0
Meets (calls.BeginUpdate s) k = (state s (past k) ≡ Idle) × Follows (Began s kinds.Updating) (past k)
Meets (calls.BeginRead s) k = (state s (past k) ≡ Idle) × Follows (began_read s k) (past k)
Meets (calls.Ask s asked) k = CanAsk s asked k
Meets (calls.Post s reply) k = SoFar k.base (k.journal ++ Answered s reply ∷ [])
Meets (calls.Commit s forest) k = CanCommit s forest k × Follows (committed s k) (past k)
Meets (calls.Doubt s forest mark) k = CanCommit s forest k × IsNextMark (past k) mark × Follows (doubted s mark k) (past k)
Meets (calls.Settled by stands) k = CanSettle by stands (past k)
Meets (calls.EndRead s) k = IsTrue (is_reading (state s (past k))) × Follows (Ended s) (past k)
Meets (calls.RollBack s) k = IsTrue (is_open (state s (past k))) × Follows (RolledBack s) (past k)
Meets (calls.Left s) k = IsTrue (is_open (state s (past k))) × Follows (events.Left s) (past k)

-- The locks are granted where all are free, and else refused.
pub data IsAsked (s : ℕ) (asked : List Need) (old new : Kept) : Type 0 where
  granted : AllFree s asked (past old) → new ≡ with_event (Granted s asked) old → IsAsked s asked old new
  refused : (name : List ℕ) (holder : ℕ) → IsRefused s name holder asked (past old) → new ≡ with_event (Refused s name holder asked) old
      → IsAsked s asked old new

-- what the call leaves, where there is memory
abbrev pub Makes : CoreCall → Kept → Kept → Type 0
Makes (calls.BeginUpdate s) old new = new ≡ with_event (Began s kinds.Updating) old
Makes (calls.BeginRead s) old new = new ≡ with_event (began_read s old) old
Makes (calls.Ask s asked) old new = IsAsked s asked old new
Makes (calls.Post s reply) old new = new ≡ with_event (Answered s reply) old
Makes (calls.Commit s forest) old new = new ≡ with_event (committed s old) old
Makes (calls.Doubt s forest mark) old new = new ≡ with_event (doubted s mark old) old
Makes (calls.Settled by stands) old new = IsSettled by stands old new
Makes (calls.EndRead s) old new = new ≡ with_event (Ended s) old
Makes (calls.RollBack s) old new = new ≡ with_event (RolledBack s) old
Makes (calls.Left s) old new = new ≡ with_event (events.Left s) old

-- ---- calls one after another

-- each makes its event behind those before
abbrev pub AreMade : List CoreCall → Kept → Kept → Type 0
AreMade [] old new = new ≡ old
AreMade (call ∷ more) old new = (between : Kept) × (Makes call old between × AreMade more between new)

-- the first meets its conditions, and whatever it makes, the others can be made from there
abbrev pub CanMake : List CoreCall → Kept → Type 0
CanMake [] k = Unit {0}
CanMake (call ∷ more) k = Meets call k × ((behind : Kept) → Makes call k behind → CanMake more behind)

-- The calls before one of them are made, and that one and those behind it are not.
pub record AreCutShort (all : List CoreCall) (old new : Kept) : Type 0 where
  pub front : List CoreCall
  pub missed : CoreCall
  pub behind : List CoreCall
  pub all_are : all ≡ front ++ missed ∷ behind
  pub made : AreMade front old new
