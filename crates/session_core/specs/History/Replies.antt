-- The clauses `serial`, `snapshots` and `unfinished` of a legal history: which documents the replies tell, and which numbers
-- commits and snapshots have. All their sentences stand here. The numbers alone are `IsNumbered`, which takes no documents.
use Rattle.std.specs.Prelude.{◌≡◌, ℕ, ◌-◌, true, false, List, [], ◌∷◌}
use Rattle.xml_model.specs.Forest.{Forest}
use Rattle.session_core.specs.declared.history.event.BeginKind.TheVariants as kinds
use Rattle.session_core.specs.declared.history.event.State.{State}
use Rattle.session_core.specs.declared.history.event.State.TheVariants.{Idle, Updating, Reading, InDoubt}
use Rattle.session_core.specs.declared.history.event.Event.{Event}
use Rattle.session_core.specs.declared.history.event.Event.TheVariants.{Began, Granted, Refused, Answered, Committed, Ended, RolledBack, Doubt, Settled, Left}
use Rattle.session_core.specs.History.Transactions.{Numbers, Base, Transaction, Ran, open_of, updating, newest_number, next_number, ran, ran_all, after, newest, AnsweredInTurn, AnsweredAt}
use Rattle.session_core.specs.History.States.{state}

-- each of the transactions was answered as if its calls ran in turn on this forest
abbrev pub AllInTurn : Forest → List Transaction → Type 0
AllInTurn F [] = Unit {0}
AllInTurn F (t ∷ more) = AnsweredInTurn F (ran_all t.replies) × AllInTurn F more

-- the session's open transaction, where it is an updating one, was answered as if it had run, whole, behind all
-- commits so far
abbrev pub RunsNext : Base → ℕ → List Event → Type 0
RunsNext B s past = AllInTurn (newest B past) (updating (open_of s past))

-- the numbers that events keep, which no documents tell: a commit has the next one, also in doubt, and a read-only
-- transaction begins at the newest
abbrev pub IsNumbered : Numbers → Event → List Event → Type 0
IsNumbered N (Committed s n) past = n ≡ next_number N past
IsNumbered N (Doubt s n mark) past = n ≡ next_number N past
IsNumbered N (Began s (kinds.Reading n)) past = n ≡ newest_number N past
IsNumbered N _ past = Unit {0}

-- `serial`: a commit takes the next number, and its transaction runs next
abbrev pub SerialAt : Base → Event → List Event → Type 0
SerialAt B (Committed s n) past = IsNumbered B.numbers (Committed s n) past × RunsNext B s past
SerialAt B (Doubt s n mark) past = IsNumbered B.numbers (Doubt s n mark) past
SerialAt B (Settled by s true) past = RunsNext B s past
SerialAt B (Settled by s false) past = Unit {0}
SerialAt B (Began s kind) past = Unit {0}
SerialAt B (Granted s needs) past = Unit {0}
SerialAt B (Refused s name holder needs) past = Unit {0}
SerialAt B (Answered s reply) past = Unit {0}
SerialAt B (Ended s) past = Unit {0}
SerialAt B (RolledBack s) past = Unit {0}
SerialAt B (Left s) past = Unit {0}

-- the calls of a read-only transaction were answered from the forest at its commit; no others are judged here
abbrev pub AnsweredFrom : Base → State → List Ran → List Event → Type 0
AnsweredFrom B (Reading n) calls past = AnsweredAt (after B past (n - B.numbers.commit)) calls
AnsweredFrom B Idle calls past = Unit {0}
AnsweredFrom B Updating calls past = Unit {0}
AnsweredFrom B InDoubt calls past = Unit {0}

-- `snapshots`: a read-only transaction begins at the newest commit, and answers from it
abbrev pub SnapshotsAt : Base → Event → List Event → Type 0
SnapshotsAt B (Began s (kinds.Reading n)) past = IsNumbered B.numbers (Began s (kinds.Reading n)) past
SnapshotsAt B (Began s kinds.Updating) past = Unit {0}
SnapshotsAt B (Answered s reply) past = AnsweredFrom B (state s past) (ran reply) past
SnapshotsAt B (Granted s needs) past = Unit {0}
SnapshotsAt B (Refused s name holder needs) past = Unit {0}
SnapshotsAt B (Committed s n) past = Unit {0}
SnapshotsAt B (Ended s) past = Unit {0}
SnapshotsAt B (RolledBack s) past = Unit {0}
SnapshotsAt B (Doubt s n mark) past = Unit {0}
SnapshotsAt B (Settled by s stands) past = Unit {0}
SnapshotsAt B (Left s) past = Unit {0}

-- `unfinished`: a transaction that ends without a commit was answered as if it had run next
abbrev pub UnfinishedAt : Base → Event → List Event → Type 0
UnfinishedAt B (RolledBack s) past = RunsNext B s past
UnfinishedAt B (Left s) past = RunsNext B s past
UnfinishedAt B (Settled by s false) past = RunsNext B s past
UnfinishedAt B (Settled by s true) past = Unit {0}
UnfinishedAt B (Began s kind) past = Unit {0}
UnfinishedAt B (Granted s needs) past = Unit {0}
UnfinishedAt B (Refused s name holder needs) past = Unit {0}
UnfinishedAt B (Answered s reply) past = Unit {0}
UnfinishedAt B (Committed s n) past = Unit {0}
UnfinishedAt B (Ended s) past = Unit {0}
UnfinishedAt B (Doubt s n mark) past = Unit {0}

-- and so was each that is open, or in doubt, at the end
abbrev pub UnfinishedAtEnd : Base → List Event → Type 0
UnfinishedAtEnd B past = (s : ℕ) → RunsNext B s past
