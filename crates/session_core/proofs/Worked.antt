-- What the worked histories share: their base, how session 1 begins, and what holds of every session but two.
mod Calls
mod Statements
mod ReaderBesideLoader
mod RefusedLock
mod SettledYes
mod SettledNo
pub mod MadeHistories
mod NotLegal
use Rattle.std.proofs.Common.{◌≡◌, ℕ, ◌==◌, false, List, [], ◌∷◌, length, None, Some, refl, sym, ap, subst}
use Rattle.xq_ast.specs.declared.call.Call.{Call}
use Rattle.xq_ast.specs.declared.code.Mark.{Mark}
use Rattle.xq_ast.specs.declared.need.Need.{Need}
use Rattle.xml_model.specs.Forest.{no_documents}
use Rattle.session_core.specs.declared.history.event.BeginKind.TheVariants as kinds
use Rattle.session_core.specs.declared.history.event.Reply.{Reply}
use Rattle.session_core.specs.declared.history.event.Says.{Says}
use Rattle.session_core.specs.declared.history.event.Event.{Event}
use Rattle.session_core.specs.declared.history.event.Event.TheVariants.{Began, Granted}
use Rattle.session_core.specs.History.Transactions.{Base, updating, open_of, newest}
use Rattle.session_core.specs.History.States.{state, state_with, is_open}
use Rattle.session_core.specs.History.Locks.{IsFree}
use Rattle.session_core.specs.History.Replies.{RunsNext, AllInTurn, UnfinishedAtEnd}
use Rattle.session_core.specs.History.Closes.{Scripts, ClosesAtEnd, calls_of, closed_of}
use Rattle.session_core.proofs.Sessions.{by_session, free_where_none}

-- nothing is there, the commit number is 0
abbrev pub B : Base
B = record { numbers = record { commit = 0; generation = 1 }; forest = no_documents }

-- a reply to this call
abbrev pub answer : Call → Says → Reply
answer call what = record { call = Some call; says = what }

-- the device failed once
abbrev pub first_failure : Mark
first_failure = record { before = 0; after = 1 }

-- ---- session 1 has begun, and was granted locks

-- session 1 has begun an updating transaction
abbrev pub begun : List Event
begun = Began 1 kinds.Updating ∷ []

-- session 1 was granted these locks
abbrev pub granted : List Need → List Event
granted asked = Granted 1 asked ∷ begun

-- no other session has an open transaction where session 1 has begun
pub none_begun : (t : ℕ) → (1 == t) ≡ false → open_of t begun ≡ None
none_begun t apart = rw (apart) refl

none_granted : (asked : List Need) (t : ℕ) → (1 == t) ≡ false → open_of t (granted asked) ≡ None
none_granted asked t apart = rw (apart) refl

-- any need of session 1 is free where it alone has begun
pub free_begun : (n : Need) → IsFree 1 n begun
free_begun n = free_where_none 1 n begun none_begun

-- any need of session 1 is free where it alone has begun and has its locks
pub free_granted : (asked : List Need) (n : Need) → IsFree 1 n (granted asked)
free_granted asked n = free_where_none 1 n (granted asked) (none_granted asked)

-- ---- every session but two

-- no session but 1 and 2 has an open transaction
abbrev pub OthersIdle : List Event → Type 0
OthersIdle past = (s : ℕ) → (1 == s) ≡ false → (2 == s) ≡ false → open_of s past ≡ None

-- the transactions of the two run next, and the others have none
pub all_run : (past : List Event) → OthersIdle past → RunsNext B 1 past → RunsNext B 2 past → UnfinishedAtEnd B past
all_run past idle first second = by_session (λ s. RunsNext B s past) first second
    (λ s not_first not_second. subst (λ o. AllInTurn (newest B past) (updating o)) (sym (idle s not_first not_second)) tt)

abbrev IsAtEnd : Scripts → List Event → ℕ → Type 0
IsAtEnd P past s = (closed_of s past ≡ length (calls_of P s)) × (is_open (state s past) ≡ false)

-- the two are at their ends, and the others have closed as many calls as they have
pub all_end : (P : Scripts) (past : List Event) → OthersIdle past → ((s : ℕ) → (1 == s) ≡ false → (2 == s) ≡ false → closed_of s past ≡ length (calls_of P s))
    → IsAtEnd P past 1 → IsAtEnd P past 2 → ClosesAtEnd P past
all_end P past idle closed first second = by_session (IsAtEnd P past) first second
    (λ s not_first not_second. (closed s not_first not_second, ap (λ o. is_open (state_with o)) (idle s not_first not_second)))
