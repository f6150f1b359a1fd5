-- Worked histories as calls of a core, each with its event: they can be made, one after another.
use Rattle.std.proofs.Common.{◌≡◌, ℕ, ◌==◌, true, false, true≢false, List, [], ◌∷◌, ◌++◌, None, Some, refl, sym, ap, subst, ◌∙◌, arith}
use mathlib.Core.Logic.{inl, inr}
use Rattle.std.specs.FinMap as forests
use Rattle.xq_ast.specs.declared.call.Call.{Call}
use Rattle.xq_ast.specs.declared.call.Call.TheVariants.{Create, Load, Export}
use Rattle.xq_ast.specs.declared.call.Call.TheVariants as requests
use Rattle.xq_ast.specs.declared.code.Code.TheVariants as codes_of
use Rattle.xq_ast.specs.declared.code.Mark.{Mark}
use Rattle.xq_ast.specs.declared.need.Need.{Need}
use Rattle.xml_model.specs.Forest.{Forest, no_documents}
use Rattle.session_core.specs.declared.history.event.BeginKind.TheVariants as kinds
use Rattle.session_core.specs.declared.history.event.Says.{Says}
use Rattle.session_core.specs.declared.history.event.Says.TheVariants as says
use Rattle.session_core.specs.declared.history.event.Event.{Event}
use Rattle.session_core.specs.declared.history.event.Event.TheVariants.{Began, Granted, Answered, Committed, Ended, Doubt, Settled}
use Rattle.session_core.specs.declared.keeping.calls.CoreCall.{CoreCall}
use Rattle.session_core.specs.declared.keeping.calls.CoreCall.TheVariants as calls
use Rattle.session_core.specs.History.Transactions.{open_of}
use Rattle.session_core.specs.History.Locks.{IsFree, AllFree, IsRefused}
use Rattle.session_core.specs.Keeping.Kept.{Kept, kept_of, with_event, past}
use Rattle.session_core.specs.Keeping.CoreCalls.{Meets, IsAsked, granted, refused, Makes, CanMake}
use Rattle.session_core.proofs.Sessions.{◌⊳◌, free_where_none}
use Rattle.session_core.proofs.Worked.{first_failure}
use Rattle.session_core.proofs.Worked.Calls.{d, element, exclusive}
use Rattle.session_core.proofs.Worked.Statements.{document, load_leaves, create_leaves}
use Rattle.session_core.proofs.Worked.ReaderBesideLoader as beside
use Rattle.session_core.proofs.Worked.SettledYes as with_yes
use Rattle.session_core.proofs.Worked.SettledNo as with_no

-- ---- calls, each with the event that it makes

-- calls of a core, each with the event that it makes
abbrev pub Steps : Type 0
Steps = List (CoreCall × Event)

-- the calls of the steps, without their events
abbrev pub calls_of : Steps → List CoreCall
calls_of [] = []
calls_of (step ∷ more) = step.0 ∷ calls_of more

-- each may be made behind those before, and makes its event alone
abbrev Go : Steps → Kept → Type 0
Go [] k = Unit {0}
Go (step ∷ more) k = (Meets step.0 k × ((behind : Kept) → Makes step.0 k behind → behind ≡ with_event step.1 k)) × Go more (with_event step.1 k)

can_make : (steps : Steps) (k : Kept) → Go steps k → CanMake (calls_of steps) k
can_make [] k go = tt
can_make (step ∷ more) k go = (go.0.0, λ behind makes. subst (CanMake (calls_of more)) (sym (go.0.1 behind makes)) (can_make more (with_event step.1 k) go.1))

free_at : (s : ℕ) (before : List Need) (n : Need) (behind : List Need) (events : List Event) → AllFree s (before ++ n ∷ behind) events → IsFree s n events
free_at s [] n behind events free = free.0
free_at s (m ∷ before) n behind events free = free_at s before n behind events free.1

-- locks that are all free are not refused
not_refused : (s : ℕ) (name : List ℕ) (holder : ℕ) (asked : List Need) (events : List Event) → AllFree s asked events → IsRefused s name holder asked events → ⊥
not_refused s name holder asked events free is =
    true≢false (sym is.holds ∙ free_at s is.before is.blocked is.behind events (subst (λ l. AllFree s l events) is.asked_are free) holder is.other)

only_granted : (s : ℕ) (asked : List Need) (k : Kept) → AllFree s asked (past k) → (behind : Kept) → IsAsked s asked k behind
    → behind ≡ with_event (Granted s asked) k
only_granted s asked k free behind (granted all is) = is
only_granted s asked k free behind (refused name holder not is) = absurd (not_refused s name holder asked (past k) free not)

-- ---- what the histories share

-- a store without documents and a journal without events, at commit number 0
abbrev pub nothing : Kept
nothing = kept_of 0 1 no_documents []

abbrev begun : Kept
begun = with_event (Began 1 kinds.Updating) nothing

none_begun : (t : ℕ) → (1 == t) ≡ false → open_of t (past begun) ≡ None
none_begun t apart = rw (apart) refl

gets_lock : (behind : Kept) → IsAsked 1 exclusive begun behind → behind ≡ with_event (Granted 1 exclusive) begun
gets_lock = only_granted 1 exclusive begun (free_where_none 1 _ (past begun) none_begun, tt)

-- session 1 begins and asks for the lock on the name
abbrev begins : CoreCall × Event
begins = (calls.BeginUpdate 1, Began 1 kinds.Updating)

abbrev asks : CoreCall × Event
asks = (calls.Ask 1 exclusive, Granted 1 exclusive)

abbrev posts : ℕ → Call → Says → CoreCall × Event
posts s call answer = (calls.Post s (record { call = Some call; says = answer }), Answered s (record { call = Some call; says = answer }))

-- ---- a commit in doubt

-- the documents once `d` has been created
abbrev pub created : Forest
created = forests.insert no_documents d (record { kids = [] })

abbrev doubts : CoreCall × Event
doubts = (calls.Doubt 1 created first_failure, Doubt 1 1 first_failure)

-- settled with yes
abbrev pub yes_steps : Steps
yes_steps =
    begins ∷ asks ∷ posts 1 (Create d) says.Done ∷ doubts
    ∷ (calls.BeginUpdate 2, Began 2 kinds.Updating)
    ∷ (calls.Settled 2 true, Settled 2 1 true)
    ∷ (calls.Commit 2 created, Committed 2 2)
    ∷ []

yes_go : Go yes_steps nothing
yes_go =
    ((refl, (tt, tt)), λ k is. is)
    ⊳ (record { updating = refl; some = omega arith; of_call = (Create d, refl); follows = (tt, tt) }, gets_lock)
    ⊳ (with_yes.so_far, λ k is. is)
    ⊳ ((record { updating = refl; settled = refl; left = omega arith; forest_is = sym create_leaves }, (inl (omega arith), tt), (tt, tt)), λ k is. is)
    ⊳ ((refl, (tt, tt)), λ k is. is)
    ⊳ ((inr (inl refl), (tt, tt)), λ k is. is)
    ⊳ ((record { updating = refl; settled = refl; left = omega arith; forest_is = sym create_leaves }, (tt, tt)), λ k is. is)
    ⊳ tt

-- the calls of the history that is settled with yes can be made, one after another
pub yes_can : CanMake (calls_of yes_steps) nothing
yes_can = can_make yes_steps nothing yes_go

-- settled with no
abbrev pub no_steps : Steps
no_steps =
    begins ∷ asks ∷ posts 1 (Create d) says.Done ∷ doubts
    ∷ (calls.Settled 1 false, Settled 1 1 false)
    ∷ posts 1 requests.Commit (says.Error codes_of.NoTransaction)
    ∷ []

no_go : Go no_steps nothing
no_go =
    ((refl, (tt, tt)), λ k is. is)
    ⊳ (record { updating = refl; some = omega arith; of_call = (Create d, refl); follows = (tt, tt) }, gets_lock)
    ⊳ (with_yes.so_far, λ k is. is)
    ⊳ ((record { updating = refl; settled = refl; left = omega arith; forest_is = sym create_leaves }, (inl (omega arith), tt), (tt, tt)), λ k is. is)
    ⊳ ((inl refl, (tt, tt)), λ k is. is)
    ⊳ (with_no.so_far, λ k is. is)
    ⊳ tt

-- the calls of the history that is settled with no can be made, one after another
pub no_can : CanMake (calls_of no_steps) nothing
no_can = can_make no_steps nothing no_go

-- ---- a reader beside a loader

-- the documents once `d` has been loaded
abbrev pub loaded : Forest
loaded = forests.insert no_documents d document

-- a session loads and commits, and another reads before and after that commit
abbrev pub beside_steps : Steps
beside_steps =
    begins ∷ asks ∷ posts 1 (Load d element) says.Done
    ∷ (calls.BeginRead 2, Began 2 (kinds.Reading 0))
    ∷ (calls.Commit 1 loaded, Committed 1 1)
    ∷ posts 2 (Export d) (says.Error codes_of.FODC0002)
    ∷ (calls.EndRead 2, Ended 2)
    ∷ (calls.BeginRead 2, Began 2 (kinds.Reading 1))
    ∷ posts 2 (Export d) (says.Lines element)
    ∷ (calls.EndRead 2, Ended 2)
    ∷ []

beside_go : Go beside_steps nothing
beside_go =
    ((refl, (tt, tt)), λ k is. is)
    ⊳ (record { updating = refl; some = omega arith; of_call = (Load d element, refl); follows = (tt, tt) }, gets_lock)
    ⊳ (beside.so_far_loaded, λ k is. is)
    ⊳ ((refl, (tt, tt)), λ k is. is)
    ⊳ ((record { updating = refl; settled = refl; left = omega arith; forest_is = sym load_leaves }, (tt, tt)), λ k is. is)
    ⊳ (beside.so_far_read, λ k is. is)
    ⊳ ((refl, (tt, tt)), λ k is. is)
    ⊳ ((refl, (tt, tt)), λ k is. is)
    ⊳ (beside.so_far_read_again, λ k is. is)
    ⊳ ((refl, (tt, tt)), λ k is. is)
    ⊳ tt

-- the calls of the history of a reader beside a loader can be made, one after another
pub beside_can : CanMake (calls_of beside_steps) nothing
beside_can = can_make beside_steps nothing beside_go
