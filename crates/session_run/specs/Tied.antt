-- When a session may make its next call, and what ties its changes to the journal.
use Rattle.std.specs.Prelude.{◌≡◌, ℕ, List, [], ◌∷◌, Option, None, Some}
use Rattle.xml_model.specs.Forest.{Forest}
use Rattle.xml_model.specs.Needs.{AgreeAt}
use Rattle.session_core.specs.declared.history.event.Event.{Event}
use Rattle.session_core.specs.declared.history.event.Event.TheVariants.{Granted, Settled}
use Rattle.session_core.specs.History.{last_of}
use Rattle.session_core.specs.History.Transactions.{Base, Transaction, open_of, updating, ran_all, run_calls, newest}
use Rattle.session_core.specs.History.States.{in_doubt}
use Rattle.session_core.specs.Keeping.Kept.{Kept, past}
use Rattle.xml_model.specs.Changes.{ChangeMap, no_changes, laid_over}

-- outside of an updating transaction there are no changes; within one, they make of every forest that has the newest
-- documents under the transaction's locks what its calls leave of that forest
abbrev pub AreChangesOf : Base → List Event → ChangeMap → List Transaction → Type 0
AreChangesOf B before changes [] = changes ≡ no_changes
AreChangesOf B before changes (t ∷ more) = (G : Forest) → AgreeAt t.locks (newest B before) G → run_calls G (ran_all t.replies) ≡ laid_over changes G

-- the changes are those of the session's open transaction
abbrev pub IsTied : Base → ℕ → ChangeMap → List Event → Type 0
IsTied B s changes before = AreChangesOf B before changes (updating (open_of s before))

-- the event is no grant and no settling, after which a call is still to be closed; and so is no event at all
abbrev pub EndsCall : Option Event → Type 0
EndsCall (Some (Granted s asked)) = ⊥
EndsCall (Some (Settled by s stands)) = ⊥
EndsCall _ = Unit {0}

-- the session has made no event yet for a call that is still to be closed
abbrev pub IsBetweenCalls : ℕ → List Event → Type 0
IsBetweenCalls s before = EndsCall (last_of s before)

-- The session may make its next call.
pub record IsReady (s : ℕ) (changes : ChangeMap) (k : Kept) : Type 0 where
  pub tied : IsTied k.base s changes (past k)
  pub between : IsBetweenCalls s (past k)
  pub settled : in_doubt (past k) ≡ None

-- whichever changes were tied before: with them the session may make its next call
abbrev pub StaysReady : ℕ → Kept → Kept → Type 0
StaysReady s old new = (changes : ChangeMap) → IsTied old.base s changes (past old) → IsReady s changes new
