-- What a call needs and leaves, by its session's state.
use Rattle.std.proofs.Common.{◌≡◌, ℕ, Bool, true, false, not, true≢false, List, [], ◌∷◌, Option, None, Some, IsTrue, refl, sym, ap, subst, ◌∙◌, arith}
use Rattle.std.specs.Prelude.{if◌then◌else◌}
use Rattle.xq_ast.specs.declared.call.Call.{Call}
use Rattle.xq_ast.specs.declared.call.Call.TheVariants.{Begin, BeginRead, Commit, Rollback, Checkpoint, ShowDocuments, Create, Drop, Load, Export, Update, Query}
use Rattle.xq_ast.specs.declared.code.Code.{Code}
use Rattle.xq_ast.specs.declared.need.Need.{Need}
use Rattle.xml_model.specs.Forest.{Forest}
use Rattle.xml_model.specs.Needs.{needs, AgreeAt}
use Rattle.xml_model.specs.Statement.{is_statement, stmt}
use Rattle.session_core.specs.declared.history.event.BeginKind.{BeginKind}
use Rattle.session_core.specs.declared.history.event.BeginKind.TheVariants as kinds
use Rattle.session_core.specs.declared.history.event.Says.{Says}
use Rattle.session_core.specs.declared.history.event.Says.TheVariants as says
use Rattle.session_core.specs.declared.history.event.State.{State}
use Rattle.session_core.specs.declared.history.event.State.TheVariants.{Idle, Updating, Reading, InDoubt}
use Rattle.session_core.specs.declared.history.event.Event.{Event}
use Rattle.session_core.specs.declared.history.event.Event.TheVariants.{Granted}
use Rattle.session_core.specs.History.Answering as answers
use Rattle.session_core.specs.History.{last_of}
use Rattle.session_core.specs.History.Transactions.{Base, Transaction, open_of, with_locks, updating, where_updating, ran_by, run_calls, serial, newest, says_of, says_run, newest_number}
use Rattle.session_core.specs.History.States.{state, state_with, state_in, is_open, is_reading, in_doubt}
use Rattle.session_core.specs.History.Refusals.{refused_in, work_of, begins, ends, checkpoints}
use Rattle.session_core.specs.History.Locks.{AreGranted}
use Rattle.session_core.specs.Keeping.Kept.{Kept, with_event, past, Follows, forest_behind, forest_in}
use Rattle.session_core.specs.History.Settling.{last_number, HasNoCommitLeft}
use Rattle.session_core.proofs.Covering.{AreHeld, none_ran}
use Rattle.session_core.proofs.Holding.{locks_by, locks_in}
use Rattle.session_core.proofs.Turning.{agree_needs}
use Rattle.session_core.proofs.Growing.{past-more}
use Rattle.session_core.proofs.Tying.{here, opened, updating_is, state-with_locks}
use Rattle.session_core.proofs.Beside.{agree_of}
use Rattle.session_core.proofs.Answering.{stmt_told, told_runs, one_ran, state_unrun, refused_code, held_where_granted, granted_as}
use Rattle.session_run.specs.declared.statement.Effect.{Effect}
use Rattle.session_run.specs.Answers.{answered}
use Rattle.session_run.specs.Calls.{HasPlainLines, IsAnswerInMemory}
use Rattle.session_run.proofs.Memory.{ran_right}
use Rattle.session_run.specs.Called.{behind_grant}
use Rattle.session_run.proofs.Closing.{follows_grant}
use Rattle.xml_model.specs.Changes.{ChangeMap, no_changes, laid_over}
use Rattle.session_run.specs.Effects.{with_changes, IsEffect}
use Rattle.session_run.specs.Tied.{AreChangesOf, IsTied, IsReady}
use Rattle.xml_model.proofs.Laying.{laid-none}
use Rattle.session_run.proofs.Tying.{MakesOf, agree_itself, tied_granted, tied_answered}

-- ---- states

-- a session that may begin is idle
pub begins_idle : (x : State) → (x ≡ InDoubt → ⊥) → refused_in x begins ≡ None → x ≡ Idle
begins_idle Idle certain passes = refl
begins_idle Updating certain passes = cc
begins_idle (Reading n) certain passes = cc
begins_idle InDoubt certain passes = absurd (certain refl)

-- a session that may make a checkpoint is idle
pub checkpoints_idle : (x : State) → (x ≡ InDoubt → ⊥) → refused_in x checkpoints ≡ None → x ≡ Idle
checkpoints_idle Idle certain passes = refl
checkpoints_idle Updating certain passes = cc
checkpoints_idle (Reading n) certain passes = cc
checkpoints_idle InDoubt certain passes = absurd (certain refl)

-- one that may end its transaction has one
pub ends_open : (x : State) → (x ≡ InDoubt → ⊥) → refused_in x ends ≡ None → IsTrue (is_open x)
ends_open Idle certain passes = cc
ends_open Updating certain passes = refl
ends_open (Reading n) certain passes = refl
ends_open InDoubt certain passes = absurd (certain refl)

-- and so has one that may run a statement
pub statement_open : (x : State) (call : Call) → (x ≡ InDoubt → ⊥) → IsTrue (is_statement call) → refused_in x (work_of call) ≡ None → IsTrue (is_open x)
statement_open Idle ShowDocuments certain statement passes = cc
statement_open Idle (Create name) certain statement passes = cc
statement_open Idle (Drop name) certain statement passes = cc
statement_open Idle (Load name lines) certain statement passes = cc
statement_open Idle (Export name) certain statement passes = cc
statement_open Idle (Update what) certain statement passes = cc
statement_open Idle (Query expr) certain statement passes = cc
statement_open Idle call certain statement passes = absurd (true≢false (sym statement))
statement_open Updating call certain statement passes = refl
statement_open (Reading n) call certain statement passes = refl
statement_open InDoubt call certain statement passes = absurd (certain refl)

-- a call that begins and ends nothing and makes no checkpoint is a statement
pub statement_of : (call : Call) → (call ≡ Begin → ⊥) → (call ≡ BeginRead → ⊥) → (call ≡ Commit → ⊥) → (call ≡ Rollback → ⊥) → (call ≡ Checkpoint → ⊥)
    → IsTrue (is_statement call)
statement_of Begin a b c d e = absurd (a refl)
statement_of BeginRead a b c d e = absurd (b refl)
statement_of Commit a b c d e = absurd (c refl)
statement_of Rollback a b c d e = absurd (d refl)
statement_of Checkpoint a b c d e = absurd (e refl)
statement_of ShowDocuments a b c d e = refl
statement_of (Create name) a b c d e = refl
statement_of (Drop name) a b c d e = refl
statement_of (Load name lines) a b c d e = refl
statement_of (Export name) a b c d e = refl
statement_of (Update what) a b c d e = refl
statement_of (Query expr) a b c d e = refl

-- a session with an open transaction that is not an updating one reads
pub open_reading : (x : State) → IsTrue (is_open x) → (x ≡ Updating → ⊥) → IsTrue (is_reading x)
open_reading Idle inside other = inside
open_reading Updating inside other = absurd (other refl)
open_reading (Reading n) inside other = refl
open_reading InDoubt inside other = inside

-- a reading transaction at the commit of some number
pub record IsReading (x : State) : Type 0 where
  pub number : ℕ
  pub is : x ≡ Reading number

-- a session that reads does so at some number
pub reading_at : (x : State) → IsTrue (is_reading x) → IsReading x
reading_at Idle is = absurd (true≢false (sym is))
reading_at Updating is = absurd (true≢false (sym is))
reading_at (Reading n) is = record { number = n; is = refl }
reading_at InDoubt is = absurd (true≢false (sym is))

-- a call that its state refuses does not run
pub refused_unrun : (x : State) (call : Call) (code : Code) → refused_in x (work_of call) ≡ Some code → ran_by (Some call) (says.Error code) ≡ []
refused_unrun x call code is = none_ran (Some call) (says.Error code) (ap not (state_unrun code (refused_code x (work_of call) code is)))

-- the newest number is the last one
pub none_left : (B : Base) (before : List Event) (n : ℕ) → n ≡ newest_number B.numbers before → n ≡ last_number → HasNoCommitLeft B.numbers before
none_left B before n is full = omega arith

-- ---- a reader

not_updating_by : (doubt : Bool) (t : Transaction) (kind : BeginKind) → IsTrue (is_reading (if doubt then InDoubt else state_in kind))
    → where_updating t kind ≡ []
not_updating_by true t kind is = absurd (true≢false (sym is))
not_updating_by false t kinds.Updating is = absurd (true≢false (sym is))
not_updating_by false t (kinds.Reading n) is = refl

not_updating : (o : Option Transaction) → IsTrue (is_reading (state_with o)) → updating o ≡ []
not_updating None is = refl
not_updating (Some t) is = not_updating_by t.in_doubt t t.kind is

module _ (B : Base) (s : ℕ) (before : List Event) (changes : ChangeMap) (tied : IsTied B s changes before) where
  -- a session that reads has changed nothing
  pub none_reading : IsTrue (is_reading (state s before)) → changes ≡ no_changes
  none_reading reading = subst (AreChangesOf B before changes) (not_updating (open_of s before) reading) tied

  -- what a reader is answered
  pub read_right : (call : Call) (effect : Effect) (F : Forest) → F ≡ forest_in B before (state s before) → IsTrue (is_reading (state s before))
      → IsTrue (is_statement call)
      → refused_in (state s before) (work_of call) ≡ None → IsEffect call changes F effect → HasPlainLines effect.says
      → IsAnswerInMemory B s before (Some call) effect.says
  read_right call effect F is reading statement passes so plain = let at = reading_at (state s before) reading in
      ran_right B s before (Reading at.number) call effect.says at.is statement
      (λ told. answers.AnswersInOrder.runs_reading
      (record {
        statement = statement;
        number = at.number;
        reading = at.is;
        passes = subst (λ x. refused_in x (work_of call) ≡ None) at.is passes;
        told =
            told;
      }))
      (so.says ∙ ap (λ G. says_of (stmt G call).says) (ap (λ c. laid_over c F) (none_reading reading) ∙ laid-none F ∙ is ∙ ap (forest_in B before) at.is)) plain

  -- ---- an updating transaction

  updating_tied : (t : Transaction) → updating (open_of s before) ≡ t ∷ [] → AreChangesOf B before changes (t ∷ [])
  updating_tied t are = subst (AreChangesOf B before changes) are tied

  -- what its calls leave of the newest documents
  pub behind_changes : state s before ≡ Updating → forest_behind B s before ≡ laid_over changes (newest B before)
  behind_changes is = let o = opened (open_of s before) is in
      let are : updating (open_of s before) ≡ o.transaction ∷ [] = updating_is (open_of s before) o.transaction o.is o.kind_is in
      ap (serial (newest B before)) are ∙ updating_tied o.transaction are (newest B before) (agree_itself o.transaction.locks (newest B before))

  module _ (call : Call) (effect : Effect) (is : state s before ≡ Updating) (granted : AreGranted s (needs call) before)
      (statement : IsTrue (is_statement call))
      (so : IsEffect call changes (newest B before) effect) where
    -- what a statement is answered there
    pub update_right : refused_in Updating (work_of call) ≡ None → HasPlainLines effect.says → IsAnswerInMemory B s before (Some call) effect.says
    update_right passes plain = ran_right B s before Updating call effect.says is statement
        (λ told. answers.AnswersInOrder.runs_updating (record { statement = statement; updating = is; passes = passes; granted = granted; told = told }))
        (so.says ∙ ap (λ G. says_of (stmt G call).says) (sym (behind_changes is))) plain

    runs : says_run effect.says ≡ true
    runs = ap says_run so.says
        ∙ told_runs (says_of (stmt (laid_over changes (newest B before)) call).says) (stmt_told (laid_over changes (newest B before)) call)

    ran_alone : ran_by (Some call) effect.says ≡ record { call = call; says = effect.says } ∷ []
    ran_alone = one_ran call effect.says statement runs

    agree_call : (t : Transaction) → open_of s before ≡ Some t → t.kind ≡ kinds.Updating → (G : Forest) → AgreeAt t.locks (newest B before) G
        → AgreeAt (needs call) (newest B before) G
    agree_call t open_is kind_is G agree = agree_needs (needs call) t.locks (newest B before) G
        (subst (AreHeld (needs call)) (ap locks_in open_is ∙ ap (locks_by t) kind_is) (held_where_granted before s (needs call) is granted))
        (agree_of t.locks (newest B before) G agree)

    -- and its changes are tied after the answer
    pub tied_effect : IsTied B s (with_changes effect.changes changes) (answered s (Some call) effect.says ∷ before)
    tied_effect = let o = opened (open_of s before) is in
        let are : updating (open_of s before) ≡ o.transaction ∷ [] = updating_is (open_of s before) o.transaction o.is o.kind_is in
        tied_answered B s before (record { call = Some call; says = effect.says }) changes (with_changes effect.changes changes)
        (subst (MakesOf B s before (record { call = Some call; says = effect.says }) changes (with_changes effect.changes changes)) (sym are)
        (λ G agree. ap (run_calls (laid_over changes G)) ran_alone ∙ sym (so.leaves G (agree_call o.transaction o.is o.kind_is G agree)))) tied

-- a session whose locks were granted
pub record IsGrantedHere (s : ℕ) (changes : ChangeMap) (call : Call) (k : Kept) : Type 0 where
  pub tied : IsTied k.base s changes (past k)
  pub settled : in_doubt (past k) ≡ None
  pub updating_is : state s (past k) ≡ Updating
  pub granted : AreGranted s (needs call) (past k)
  pub follows : (answer : Says) → Follows (answered s (Some call) answer) (past k)

module _ (s : ℕ) (changes : ChangeMap) (call : Call) (old : Kept) (ready : IsReady s changes old) (is : state s (past old) ≡ Updating) where
  granted_at : IsGrantedHere s changes call (behind_grant s call old)
  granted_at = let e = Granted s (needs call) in let more = past-more old.journal e in record {
    tied = subst (IsTied old.base s changes) (sym more) (tied_granted old.base s (past old) changes (needs call) ready.tied);
    settled = ap in_doubt more ∙ ready.settled;
    updating_is = ap (state s) more ∙ ap state_with (here s (open_of s (past old)) (with_locks (needs call) (open_of s (past old))))
        ∙ state-with_locks (needs call) (open_of s (past old)) ∙ is;
    granted = granted_as s (needs call) (past (behind_grant s call old)) last;
    follows = λ answer. follows_grant s call answer (past (behind_grant s call old)) last;
  }
    where
      last : last_of s (past (behind_grant s call old)) ≡ Some (Granted s (needs call))
      last = ap (last_of s) (past-more old.journal (Granted s (needs call))) ∙ here s (last_of s (past old)) (Some (Granted s (needs call)))

  -- after the grant of a call's locks the session's changes are tied still, the locks are held, and the call's answer may follow
  pub granted_here : (mid : Kept) (asked : List Need) → asked ≡ needs call → mid ≡ with_event (Granted s asked) old → IsGrantedHere s changes call mid
  granted_here mid asked same grown = subst (IsGrantedHere s changes call) (sym (grown ∙ ap (λ l. with_event (Granted s l) old) same)) granted_at
