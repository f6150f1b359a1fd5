-- What a session's call is answered, by the order of refusals: the answers that keep a journal legal so far. The steps by
-- the text, the state and the locks (`AnswersInOrder`) take the numbers of the base alone, and are told where no documents
-- are. The step by the documents (`IsToldBy`) is one equation. For want of memory any call may be answered so, and may be
-- lost. A COMMIT and a CHECKPOINT of a store have more answers: its other numbers at their end, and a checkpoint in doubt.
use Rattle.std.specs.Prelude.{◌≡◌, ℕ, ◌-◌, ◌++◌, Bool, true, false, not, ◌||◌, IsTrue, List, [], ◌∷◌, Option, None, Some}
use Rattle.xq_ast.specs.declared.call.Call.{Call}
use Rattle.xq_ast.specs.declared.call.Call.TheVariants.{Commit, Checkpoint}
use Rattle.xq_ast.specs.declared.code.Code.{Code}
use Rattle.xq_ast.specs.declared.code.Code.TheVariants as codes
use Rattle.xq_ast.specs.declared.code.Mark.{Mark}
use Rattle.xq_ast.specs.declared.code.SpentKind.TheVariants as spent
use Rattle.xml_model.specs.Forest.{Forest}
use Rattle.xml_model.specs.Needs.{needs}
use Rattle.xml_model.specs.Statement.{is_statement, stmt}
use Rattle.session_core.specs.declared.history.event.State.{State}
use Rattle.session_core.specs.declared.history.event.State.TheVariants.{Idle, Updating, Reading, InDoubt}
use Rattle.session_core.specs.declared.history.event.Reply.{Reply}
use Rattle.session_core.specs.declared.history.event.Says.{Says}
use Rattle.session_core.specs.declared.history.event.Says.TheVariants as says
use Rattle.session_core.specs.declared.history.event.Event.{Event}
use Rattle.session_core.specs.declared.history.event.Event.TheVariants.{Answered}
use Rattle.session_core.specs.History.{past_of}
use Rattle.session_core.specs.History.Transactions.{Numbers, Base, Ran, after, newest, says_of, ran_by}
use Rattle.session_core.specs.History.States.{state, in_doubt, is_open}
use Rattle.session_core.specs.History.Locks.{AreGranted}
use Rattle.session_core.specs.History.Refusals.{refused_in, work_of, is_text_refusal, is_state_refusal}
use Rattle.session_core.specs.History.Settling.{last_number, HasNoCommitLeft, FailsBySettling, makes_pages}
use Rattle.session_core.specs.History.Marks.{IsNextMark, MayFail}
use Rattle.session_core.specs.Keeping.Kept.{Follows, forest_behind}
use Rattle.session_core.specs.History.Legal.{SoFar}

-- ---- answers by what tells them

-- want of memory, and what a store alone answers
abbrev pub is_of_store : Code → Bool
is_of_store codes.NoMemory = true
is_of_store (codes.Failed mark) = true
is_of_store (codes.InDoubt mark) = true
is_of_store (codes.Spent kind number) = true
is_of_store (codes.Damaged commit ordinal page) = true
is_of_store _ = false

-- the documents may tell this answer: neither the text, nor the state, nor the store does
abbrev pub is_told : Says → Bool
is_told says.Done = true
is_told (says.Lines all) = true
is_told (says.Error code) = not (is_text_refusal code || (is_state_refusal code || is_of_store code))
is_told _ = false

-- the answer tells of a damaged page
abbrev pub is_damaged : Says → Bool
is_damaged (says.Error (codes.Damaged commit ordinal page)) = true
is_damaged _ = false

-- the answer has its cause in a device or in its pages
abbrev pub is_of_device : Says → Bool
is_of_device (says.Error (codes.Failed mark)) = true
is_of_device (says.Error (codes.Damaged commit ordinal page)) = true
is_of_device (says.Error (codes.Spent spent.Page number)) = true
is_of_device _ = false

-- ---- the steps by the text, the state and the locks

-- the text is no call, and the session is not in doubt
pub record RefusesText (s : ℕ) (answer : Says) (past : List Event) : Type 0 where
  pub code : Code
  pub refusal : IsTrue (is_text_refusal code)
  pub says_so : answer ≡ says.Error code
  pub not_in_doubt : state s past ≡ InDoubt → ⊥

-- the state refuses the call
pub record RefusesCall (s : ℕ) (call : Call) (answer : Says) (past : List Event) : Type 0 where
  pub code : Code
  pub refused : refused_in (state s past) (work_of call) ≡ Some code
  pub says_so : answer ≡ says.Error code

-- a checkpoint is made outside of a transaction, where no commit is in doubt
pub record MakesCheckpoint (s : ℕ) (call : Call) (answer : Says) (past : List Event) : Type 0 where
  pub is : call ≡ Checkpoint
  pub idle : state s past ≡ Idle
  pub settled : in_doubt past ≡ None
  pub says_so : answer ≡ says.Done

-- a commit finds no number left
pub record FindsNoNumber (N : Numbers) (s : ℕ) (call : Call) (answer : Says) (past : List Event) : Type 0 where
  pub is : call ≡ Commit
  pub updating : state s past ≡ Updating
  pub settled : in_doubt past ≡ None
  pub none_left : HasNoCommitLeft N past
  pub says_so : answer ≡ says.Error (codes.Spent spent.Commit last_number)

-- a statement runs in an updating transaction, directly behind the grant of its locks where it needs some
pub record RunsUpdating (s : ℕ) (call : Call) (answer : Says) (past : List Event) : Type 0 where
  pub statement : IsTrue (is_statement call)
  pub updating : state s past ≡ Updating
  pub passes : refused_in Updating (work_of call) ≡ None
  pub granted : AreGranted s (needs call) past
  pub told : IsTrue (is_told answer)

-- a statement runs in a read-only transaction
pub record RunsReading (s : ℕ) (call : Call) (answer : Says) (past : List Event) : Type 0 where
  pub statement : IsTrue (is_statement call)
  pub number : ℕ
  pub reading : state s past ≡ Reading number
  pub passes : refused_in (Reading number) (work_of call) ≡ None
  pub told : IsTrue (is_told answer)

-- the call comes directly after the grant of the locks that it needs; a text that is no call needs none
abbrev pub HasItsLocks : ℕ → Option Call → List Event → Type 0
HasItsLocks s None past = Unit {0}
HasItsLocks s (Some call) past = AreGranted s (needs call) past

-- the device fails under the call; in an updating transaction that is behind the grant of its locks
pub record FailsOnDevice (N : Numbers) (s : ℕ) (call : Option Call) (answer : Says) (past : List Event) : Type 0 where
  pub mark : Mark
  pub says_so : answer ≡ says.Error (codes.Failed mark)
  pub may : MayFail (state s past) call
  pub next : IsNextMark past mark
  pub locked : state s past ≡ Updating → HasItsLocks s call past
  pub settles : FailsBySettling N (state s past) call past

-- a call that makes pages finds no number for one
pub record FindsNoPage (s : ℕ) (call : Call) (answer : Says) (past : List Event) : Type 0 where
  pub makes : makes_pages call ≡ true
  pub updating : state s past ≡ Updating
  pub granted : AreGranted s (needs call) past
  pub says_so : answer ≡ says.Error (codes.Spent spent.Page last_number)

-- a statement finds a page that is damaged, which no legal journal has
pub record FindsDamage (s : ℕ) (call : Call) (answer : Says) (past : List Event) : Type 0 where
  pub statement : IsTrue (is_statement call)
  pub inside : IsTrue (is_open (state s past))
  pub passes : refused_in (state s past) (work_of call) ≡ None
  pub locked : state s past ≡ Updating → AreGranted s (needs call) past
  pub damaged : is_damaged answer ≡ true

-- the answer is one that the text, the state, the locks or the device give: for each of these one case
pub data AnswersInOrder (N : Numbers) (s : ℕ) (past : List Event) : Option Call → Says → Type 0 where
  lacks_memory : {call : Option Call} → AnswersInOrder N s past call (says.Error codes.NoMemory)
  refuses_text : {answer : Says} → RefusesText s answer past → AnswersInOrder N s past None answer
  refuses_call : {call : Call} {answer : Says} → RefusesCall s call answer past → AnswersInOrder N s past (Some call) answer
  makes_checkpoint : {call : Call} {answer : Says} → MakesCheckpoint s call answer past → AnswersInOrder N s past (Some call) answer
  finds_no_number : {call : Call} {answer : Says} → FindsNoNumber N s call answer past → AnswersInOrder N s past (Some call) answer
  runs_updating : {call : Call} {answer : Says} → RunsUpdating s call answer past → AnswersInOrder N s past (Some call) answer
  runs_reading : {call : Call} {answer : Says} → RunsReading s call answer past → AnswersInOrder N s past (Some call) answer
  fails : {call : Option Call} {answer : Says} → FailsOnDevice N s call answer past → AnswersInOrder N s past call answer
  finds_no_page : {call : Call} {answer : Says} → FindsNoPage s call answer past → AnswersInOrder N s past (Some call) answer
  finds_damage : {call : Call} {answer : Says} → FindsDamage s call answer past → AnswersInOrder N s past (Some call) answer

-- ---- the step by the documents

-- the documents on which a session in this state runs its next statement: those of its snapshot, or those behind all
-- commits and the calls of its transaction before it
abbrev pub forest_for : Base → ℕ → List Event → State → Forest
forest_for B s past (Reading n) = after B past (n - B.numbers.commit)
forest_for B s past Updating = forest_behind B s past
forest_for B s past Idle = newest B past
forest_for B s past InDoubt = newest B past

-- a call that ran is answered as on these documents
abbrev pub IsSaidOf : Forest → List Ran → Type 0
IsSaidOf F [] = Unit {0}
IsSaidOf F (r ∷ more) = (r.says ≡ says_of (stmt F r.call).says) × IsSaidOf F more

-- the call, where it ran, is answered as on the documents on which its session runs its next statement
abbrev pub IsToldBy : Base → ℕ → List Event → Option Call → Says → Type 0
IsToldBy B s past call answer = IsSaidOf (forest_for B s past (state s past)) (ran_by call answer)

-- ---- a right answer

-- the answer is one of the order of refusals and, where the documents tell it, the one that they tell
pub record IsRightAnswer (B : Base) (s : ℕ) (past : List Event) (call : Option Call) (answer : Says) : Type 0 where
  pub in_order : AnswersInOrder B.numbers s past call answer
  pub by_documents : IsToldBy B s past call answer

-- a right answer that its session's last event lets follow, and that tells of no damage, keeps the journal legal so far
abbrev pub AnswersKeepLegal : Type 0
AnswersKeepLegal = (B : Base) (journal : List Event) (s : ℕ) (reply : Reply) → SoFar B journal → IsRightAnswer B s (past_of journal) reply.call reply.says
    → is_damaged reply.says ≡ false → Follows (Answered s reply) (past_of journal) → SoFar B (journal ++ Answered s reply ∷ [])
