-- What ties a session's changes to the journal, after each event.
use Rattle.std.proofs.Common.{◌≡◌, ℕ, List, [], ◌∷◌, ◌++◌, Option, None, Some, refl, sym, ap, subst, ◌∙◌}
use Rattle.xq_ast.specs.declared.need.Need.{Need}
use Rattle.xml_model.specs.Forest.{Forest}
use Rattle.xml_model.specs.Needs.{AgreeAt}
use Rattle.xml_model.specs.Statement.{stmt}
use Rattle.session_core.specs.declared.history.event.BeginKind.{BeginKind}
use Rattle.session_core.specs.declared.history.event.BeginKind.TheVariants as kinds
use Rattle.session_core.specs.declared.history.event.State.TheVariants.{Idle}
use Rattle.session_core.specs.declared.history.event.Reply.{Reply}
use Rattle.session_core.specs.declared.history.event.Event.{Event}
use Rattle.session_core.specs.declared.history.event.Event.TheVariants.{Began, Granted, Refused, Answered}
use Rattle.session_core.specs.History.{AtEach}
use Rattle.session_core.specs.History.Transactions.{Base, Transaction, Ran, open_of, begun, with_locks, with_reply, updating, where_updating, committed_by, ran, ran_all, run_calls, serial, newest}
use Rattle.session_core.specs.History.States.{state}
use Rattle.session_core.specs.History.Locks.{LocksAt}
use Rattle.session_core.specs.History.Refusals.{RefusalsAt}
use Rattle.session_core.proofs.Covering.{ran_all-one}
use Rattle.session_core.proofs.Growing.{newest-more}
use Rattle.session_core.proofs.Tying.{here, idle_none}
use Rattle.session_core.proofs.Holding.{locks_by, locks_in}
use Rattle.session_core.proofs.Turning.{Agree}
use Rattle.session_core.proofs.Beside.{whose, open-beside, agree_at, agree_of, newest_agrees}
use Rattle.xml_model.specs.Changes.{ChangeMap, no_changes, laid_over}
use Rattle.session_run.specs.Tied.{AreChangesOf, IsTied}
use Rattle.xml_model.proofs.Laying.{laid-none}

-- ---- forests that agree

-- a forest agrees with itself at any locks
pub agree_itself : (locks : List Need) (F : Forest) → AgreeAt locks F F
agree_itself [] F = tt
agree_itself (n ∷ more) F = (refl, agree_itself more F)

agree_first : (locks more : List Need) (F G : Forest) → AgreeAt (locks ++ more) F G → AgreeAt locks F G
agree_first [] more F G agree = tt
agree_first (n ∷ locks) more F G agree = (agree.0, agree_first locks more F G agree.1)

run_calls-append : (F : Forest) (xs ys : List Ran) → run_calls F (xs ++ ys) ≡ run_calls (run_calls F xs) ys
run_calls-append F [] ys = refl
run_calls-append F (x ∷ xs) ys = run_calls-append (stmt F x.call).forest xs ys

-- ---- no open updating transaction

tied_none : (B : Base) (before : List Event) (changes : ChangeMap) (o : Option Transaction) → o ≡ None → changes ≡ no_changes
    → AreChangesOf B before changes (updating o)
tied_none B before changes o none is = subst (λ z. AreChangesOf B before changes (updating z)) (sym none) is

module _ (B : Base) (s : ℕ) (past : List Event) where
  -- an event that ends the session's transaction leaves it no changes
  pub tied_ended : (e : Event) → open_of s (e ∷ past) ≡ None → IsTied B s no_changes (e ∷ past)
  tied_ended e none = tied_none B (e ∷ past) no_changes (open_of s (e ∷ past)) none refl

  -- an idle session has changed nothing
  pub none_idle : (changes : ChangeMap) → state s past ≡ Idle → IsTied B s changes past → changes ≡ no_changes
  none_idle changes idle tied = subst (λ o. AreChangesOf B past changes (updating o)) (idle_none (open_of s past) idle) tied

  begun_tied : (e : Event) (kind : BeginKind) (changes : ChangeMap) → changes ≡ no_changes
      → AreChangesOf B (e ∷ past) changes (where_updating (begun kind) kind)
  begun_tied e kinds.Updating changes none = λ G agree. sym (ap (λ c. laid_over c G) none ∙ laid-none G)
  begun_tied e (kinds.Reading n) changes none = none

  -- a transaction begins
  pub tied_began : (kind : BeginKind) (changes : ChangeMap) → state s past ≡ Idle → IsTied B s changes past → IsTied B s changes (Began s kind ∷ past)
  tied_began kind changes idle tied = subst (λ o. AreChangesOf B (Began s kind ∷ past) changes (updating o)) (sym (here s (open_of s past) (Some (begun kind))))
      (begun_tied (Began s kind) kind changes (none_idle changes idle tied))

  -- an event that commits nothing leaves the newest documents
  pub newest_stays : (e : Event) → committed_by e past ≡ [] → newest B (e ∷ past) ≡ newest B past
  newest_stays e none = newest-more B e past ∙ ap (serial (newest B past)) none

  agreed : (e : Event) → committed_by e past ≡ [] → (locks : List Need) (G : Forest) → AgreeAt locks (newest B (e ∷ past)) G → AgreeAt locks (newest B past) G
  agreed e none locks G agree = subst (λ F. AgreeAt locks F G) (newest_stays e none) agree

  -- an event that commits nothing and leaves the transactions
  same_by : (e : Event) (changes : ChangeMap) (ts : List Transaction) → committed_by e past ≡ [] → AreChangesOf B past changes ts
      → AreChangesOf B (e ∷ past) changes ts
  same_by e changes [] none tied = tied
  same_by e changes (t ∷ more) none tied = λ G agree. tied G (agreed e none t.locks G agree)

  -- after a refusal of locks the changes are tied still
  pub tied_refused : (changes : ChangeMap) (name : List ℕ) (holder : ℕ) (asked : List Need) → IsTied B s changes past
      → IsTied B s changes (Refused s name holder asked ∷ past)
  tied_refused changes name holder asked tied = same_by (Refused s name holder asked) changes (updating (open_of s past)) refl tied

  locked_by : (e : Event) (changes : ChangeMap) (asked : List Need) (t : Transaction) (kind : BeginKind) → committed_by e past ≡ []
      → AreChangesOf B past changes (where_updating t kind) → AreChangesOf B (e ∷ past) changes (where_updating (record t { locks = t.locks ++ asked }) kind)
  locked_by e changes asked t kinds.Updating none tied =
      λ G agree. tied G (agree_first t.locks asked (newest B past) G (agreed e none (t.locks ++ asked) G agree))
  locked_by e changes asked t (kinds.Reading n) none tied = tied

  locked_in : (e : Event) (changes : ChangeMap) (asked : List Need) (o : Option Transaction) → committed_by e past ≡ []
      → AreChangesOf B past changes (updating o) → AreChangesOf B (e ∷ past) changes (updating (with_locks asked o))
  locked_in e changes asked None none tied = tied
  locked_in e changes asked (Some t) none tied = locked_by e changes asked t t.kind none tied

  -- after a grant of locks the changes are tied still
  pub tied_granted : (changes : ChangeMap) (asked : List Need) → IsTied B s changes past → IsTied B s changes (Granted s asked ∷ past)
  tied_granted changes asked tied =
      subst (λ o. AreChangesOf B (Granted s asked ∷ past) changes (updating o)) (sym (here s (open_of s past) (with_locks asked (open_of s past))))
      (locked_in (Granted s asked) changes asked (open_of s past) refl tied)

  -- ---- answers

  module _ (r : Reply) (changes after : ChangeMap) where
    -- what the answer's call makes of forests in an updating transaction with these locks
    abbrev pub MakesOf : List Transaction → Type 0
    MakesOf [] = after ≡ changes
    MakesOf (t ∷ more) = (G : Forest) → AgreeAt t.locks (newest B past) G → run_calls (laid_over changes G) (ran r) ≡ laid_over after G

    replied_by : (t : Transaction) (kind : BeginKind) → MakesOf (where_updating t kind) → AreChangesOf B past changes (where_updating t kind)
        → AreChangesOf B (Answered s r ∷ past) after (where_updating (record t { replies = t.replies ++ r ∷ [] }) kind)
    replied_by t kinds.Updating makes tied = λ G agree. let same = agreed (Answered s r) refl t.locks G agree in
        ap (run_calls G) (ran_all-one t.replies r) ∙ run_calls-append G (ran_all t.replies) (ran r)
        ∙ ap (λ F. run_calls F (ran r)) (tied G same) ∙ makes G same
    replied_by t (kinds.Reading n) makes tied = makes ∙ tied

    replied_in : (o : Option Transaction) → MakesOf (updating o) → AreChangesOf B past changes (updating o)
        → AreChangesOf B (Answered s r ∷ past) after (updating (with_reply r o))
    replied_in None makes tied = makes ∙ tied
    replied_in (Some t) makes tied = replied_by t t.kind makes tied

    -- after an answer whose call makes these changes of those, these are tied
    pub tied_answered : MakesOf (updating (open_of s past)) → IsTied B s changes past → IsTied B s after (Answered s r ∷ past)
    tied_answered makes tied =
        subst (λ o. AreChangesOf B (Answered s r ∷ past) after (updating o)) (sym (here s (open_of s past) (with_reply r (open_of s past))))
        (replied_in (open_of s past) makes tied)

  makes_nothing : (r : Reply) (changes : ChangeMap) (ts : List Transaction) → ran r ≡ [] → MakesOf r changes changes ts
  makes_nothing r changes [] none = refl
  makes_nothing r changes (t ∷ more) none = λ G agree. ap (run_calls (laid_over changes G)) none

  -- an answer to a call that did not run
  pub tied_unrun : (r : Reply) (changes : ChangeMap) → ran r ≡ [] → IsTied B s changes past → IsTied B s changes (Answered s r ∷ past)
  tied_unrun r changes none tied = tied_answered r changes changes (makes_nothing r changes (updating (open_of s past)) none) tied

-- ---- other sessions

module _ (B : Base) (past : List Event) (locks : AtEach LocksAt past) (refusals : AtEach RefusalsAt past) (t : ℕ) (changes : ChangeMap) (e : Event)
    (other : whose e ≡ t → ⊥) where
  -- a forest with the newest documents at the names of an open updating transaction's locks had them before the event
  agreed_before : (u : Transaction) → open_of t past ≡ Some u → u.kind ≡ kinds.Updating → (G : Forest) → AgreeAt u.locks (newest B (e ∷ past)) G
      → AgreeAt u.locks (newest B past) G
  agreed_before u open_is kind_is G agree =
      agree_at u.locks (newest B past) G (λ name there. kept name there ∙ agree_of u.locks (newest B (e ∷ past)) G agree name there)
    where
      kept : Agree u.locks (newest B past) (newest B (e ∷ past))
      kept = subst (λ l. Agree l (newest B past) (newest B (e ∷ past))) (ap locks_in open_is ∙ ap (locks_by u) kind_is)
          (newest_agrees B past locks refusals t e other)

  beside_kind : (u : Transaction) → open_of t past ≡ Some u → (kind : BeginKind) → u.kind ≡ kind → AreChangesOf B past changes (where_updating u kind)
      → AreChangesOf B (e ∷ past) changes (where_updating u kind)
  beside_kind u is kinds.Updating kind_is tied = λ G agree. tied G (agreed_before u is kind_is G agree)
  beside_kind u is (kinds.Reading n) kind_is tied = tied

  beside_by : (o : Option Transaction) → open_of t past ≡ o → AreChangesOf B past changes (updating o) → AreChangesOf B (e ∷ past) changes (updating o)
  beside_by None is tied = tied
  beside_by (Some u) is tied = beside_kind u is u.kind refl tied

  -- an event of another session's transaction leaves the tie
  pub tied_beside : IsTied B t changes past → IsTied B t changes (e ∷ past)
  tied_beside tied = subst (λ o. AreChangesOf B (e ∷ past) changes (updating o)) (sym (open-beside t e past other)) (beside_by (open_of t past) refl tied)
