-- What contracts see of a `Core`, and what its calls ask for and leave.
use Rattle.std.specs.Prelude.{◌≡◌, ℕ, ◌-◌, Bool, List, [], ◌∷◌, ◌++◌, IsSomeAnd, refl}
use Rattle.std.specs.Coded.{Coded, code_by, coded×, coded_ℕ, coded_list}
use Rattle.xq_ast.specs.declared.need.Need.{Need}
use Rattle.xml_model.specs.Forest.{Forest, forest_code}
use Rattle.doc_locks.specs.declared.end.AskEnd.{AskEnd}
use Rattle.doc_locks.specs.declared.end.AskEnd.TheVariants.{Held, NoMemory}
use Rattle.session_core.specs.contracts.history.event.Event as the_event
use Rattle.session_core.specs.declared.history.event.State.{State}
use Rattle.session_core.specs.declared.history.event.State.TheVariants.{Idle, Updating, Reading, InDoubt}
use Rattle.session_core.specs.declared.history.event.Event.{Event}
use Rattle.session_core.specs.declared.history.event.Event.TheVariants.{Refused, Settled}
use Rattle.session_core.specs.History.{past_of, session_of, last_of}
use Rattle.session_core.specs.History.Transactions.{Base, open_of, updating, serial, after, newest}
use Rattle.session_core.specs.History.States.{state, in_doubt}
use Rattle.session_core.specs.History.Locks.{IsRefused, IsBehindGrant}
use Rattle.session_core.specs.History.Settling.{MaySettle, IsBehindSettled}

-- A journal over its base.
pub record Kept : Type 0 where
  pub base : Base
  pub journal : List Event

-- how a journal over its base is written as one value: by its two numbers, its documents and its events
abbrev pub kept_code : Coded Kept
kept_code = code_by (((ℕ × ℕ) × Forest) × List Event)
    (coded× (coded× (coded× coded_ℕ coded_ℕ) forest_code) (coded_list the_event.the_row.coded))
    (λ k. (((k.base.numbers.commit, k.base.numbers.generation), k.base.forest), k.journal))
    (λ p. record { base = record { numbers = record { commit = p.0.0.0; generation = p.0.0.1 }; forest = p.0.1 }; journal = p.1 })
    (λ _. refl)

-- a journal over its base, by its parts
abbrev pub kept_of : ℕ → ℕ → Forest → List Event → Kept
kept_of commit generation forest journal =
    record { base = record { numbers = record { commit = commit; generation = generation }; forest = forest }; journal = journal }

-- one event more, and all else as it is
abbrev pub with_event : Event → Kept → Kept
with_event e k = record { base = k.base; journal = k.journal ++ e ∷ [] }

-- the events so far, the newest first
abbrev pub past : Kept → List Event
past k = past_of k.journal

-- the session's last event lets this one follow: behind a grant comes the answer, and behind the settling of another's
-- commit what closes the COMMIT or the CHECKPOINT
abbrev pub Follows : Event → List Event → Type 0
Follows e before = IsBehindGrant (last_of (session_of e) before) e × IsBehindSettled (last_of (session_of e) before) e before

-- the documents once the session's transaction has run behind all commits
abbrev pub forest_behind : Base → ℕ → List Event → Forest
forest_behind B s before = serial (newest B before) (updating (open_of s before))

-- the documents that a session in this state sees: its snapshot's, or the newest
abbrev pub forest_in : Base → List Event → State → Forest
forest_in B before (Reading n) = after B before (n - B.numbers.commit)
forest_in B before Idle = newest B before
forest_in B before Updating = newest B before
forest_in B before InDoubt = newest B before

-- why locks were not granted: another session's lock, which becomes an event, or want of memory, which leaves all
abbrev pub AskEnds : ℕ → List Need → Kept → Kept → AskEnd → Type 0
AskEnds s asked old new (Held name holder) = IsRefused s name holder asked (past old) × (new ≡ with_event (Refused s name holder asked) old)
AskEnds s asked old new NoMemory = new ≡ old

-- a commit is in doubt, and this session may settle it
abbrev pub CanSettle : ℕ → Bool → List Event → Type 0
CanSettle by stands before = IsSomeAnd (in_doubt before) (λ s. MaySettle by s (state by before) × Follows (Settled by s stands) before)

-- the commit in doubt is settled
abbrev pub IsSettled : ℕ → Bool → Kept → Kept → Type 0
IsSettled by stands old new = IsSomeAnd (in_doubt (past old)) (λ s. new ≡ with_event (Settled by s stands) old)
