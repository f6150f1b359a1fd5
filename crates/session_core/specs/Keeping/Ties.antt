-- What the type of a `Core` keeps: its journal is legal so far, and all else that it holds is what the journal tells.
use Rattle.std.specs.Prelude.{◌≡◌, ℕ, ◌+◌, ◌≤◌, ◌<◌, true, List, [], ◌∷◌, length, Option, Some, None}
use Rattle.std.specs.FinMap as fin
use Rattle.xml_model.specs.Forest.{Forest, IsForest}
use Rattle.doc_locks.specs.Names.{Locks}
use Rattle.doc_locks.specs.Locks.{mode_held}
use Rattle.session_core.specs.declared.history.event.BeginKind.TheVariants as kinds
use Rattle.session_core.specs.declared.history.event.Event.{Event}
use Rattle.session_core.specs.History.{past_of}
use Rattle.session_core.specs.History.Transactions.{Base, Transaction, open_of, commits, commit_count, ran_all, run_calls, newest}
use Rattle.session_core.specs.History.States.{state, held, in_doubt}
use Rattle.session_core.specs.History.Settling.{last_number}
use Rattle.session_core.specs.History.Legal.{SoFar}
use Rattle.session_core.specs.Keeping.Table.{States, entry_of}

-- the forest before some transactions, and behind each of them
abbrev pub forests_of : Forest → List Transaction → List Forest
forests_of F [] = F ∷ []
forests_of F (t ∷ more) = F ∷ forests_of (run_calls F (ran_all t.replies)) more

-- a session's commit is in doubt: its transaction is open still, and this is the forest behind it
pub record IsDoubt (B : Base) (past : List Event) (whose : ℕ) (forest : Forest) : Type 0 where
  pub in_doubt_is : in_doubt past ≡ Some whose
  pub transaction : Transaction
  pub open_is : open_of whose past ≡ Some transaction
  pub kind_is : transaction.kind ≡ kinds.Updating
  pub marked : transaction.in_doubt ≡ true
  pub forest_is : forest ≡ run_calls (newest B past) (ran_all transaction.replies)
  pub left : B.numbers.commit + commit_count past < last_number

-- the commit in doubt is what the events tell: none, or this session's with this forest after it
abbrev pub DoubtIs : Base → List Event → Option (ℕ × Forest) → Type 0
DoubtIs B past None = in_doubt past ≡ None
DoubtIs B past (Some d) = IsDoubt B past d.0 d.1

-- the table of states, the locks, the forests and the commit in doubt are what the events tell
pub record Ties (B : Base) (past : List Event) (states : States) (locks : Locks) (forests : List Forest) (doubt : Option (ℕ × Forest)) : Type 0 where
  pub states_are : (s : ℕ) → fin.get states s ≡ entry_of (state s past)
  pub locks_are : (s : ℕ) (name : List ℕ) → mode_held locks s name ≡ held s name past
  pub forests_are : forests ≡ forests_of B.forest (commits past)
  pub doubt_is : DoubtIs B past doubt

-- all documents are valid: those behind each commit, and those of the commit in doubt
abbrev pub AllForests : List Forest → Type 0
AllForests [] = Unit {0}
AllForests (F ∷ more) = IsForest F × AllForests more

-- the documents of the commit in doubt are valid, where there is one
abbrev pub DoubtIsForest : Option (ℕ × Forest) → Type 0
DoubtIsForest None = Unit {0}
DoubtIsForest (Some d) = IsForest d.1

-- What a `Core` holds besides its base: its journal and the room for it, the table of states and how many stand in it, the
-- newest commit number, the locks, the documents before and behind each commit, and the commit in doubt.
pub record Holdings : Type 0 where
  pub journal : List Event
  pub capacity : ℕ
  pub states : States
  pub opened : ℕ
  pub number : ℕ
  pub locks : Locks
  pub forests : List Forest
  pub doubt : Option (ℕ × Forest)

-- what a core holds, by its parts
abbrev pub holding : List Event → ℕ → States → ℕ → ℕ → Locks → List Forest → Option (ℕ × Forest) → Holdings
holding journal capacity states opened number locks forests doubt =
    record { journal = journal; capacity = capacity; states = states; opened = opened; number = number; locks = locks; forests = forests; doubt = doubt }

-- besides, there is room in the journal for the event that ends each transaction
pub record IsCore (B : Base) (h : Holdings) : Type 0 where
  pub legal : SoFar B h.journal
  pub ties : Ties B (past_of h.journal) h.states h.locks h.forests h.doubt
  pub opened_is : h.opened ≡ fin.len h.states
  pub room : length h.journal + h.opened ≤ h.capacity
  pub number_is : h.number ≡ B.numbers.commit + commit_count (past_of h.journal)
  pub valid : AllForests h.forests
  pub doubt_valid : DoubtIsForest h.doubt
