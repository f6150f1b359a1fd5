-- Texts of calls, and the events that close them.
use Rattle.std.proofs.Common.{◌≡◌, ℕ, List, [], ◌∷◌, None, IsTrue, Result, Ok, Err, OnErr, refl, subst, ◌∙◌, append_assoc}
use mathlib.Core.Logic.{inl, inr}
use Rattle.xq_ast.specs.declared.call.Call.{Call}
use Rattle.xq_ast.specs.declared.call.CallText.{CallText}
use Rattle.xq_ast.specs.declared.code.Code.{Code}
use Rattle.xq_ast.specs.declared.code.Code.TheVariants as codes
use Rattle.xq_ast.specs.Parsed.{Parsed, read, a_call}
use Rattle.xq_ast.specs.GoodNames.{has_good_names}
use Rattle.xq_ast.specs.Readings.{parsed}
use Rattle.xq_parse.proofs.Readings.{parsed_holds}
use Rattle.xq_parse.specs.Answers.{code_of}
use Rattle.xq_parse.specs.declared.answer.ParseEnd.{ParseEnd}
use Rattle.xq_parse.specs.declared.answer.ParseEnd.TheVariants.{TooLong, XPST0003, NestedTooDeep, BadName, XPST0017, XPST0008, NoMemory}
use Rattle.xml_model.specs.Needs.{needs}
use Rattle.session_core.specs.declared.history.event.Says.TheVariants as says
use Rattle.session_core.specs.declared.history.event.State.TheVariants.{InDoubt}
use Rattle.session_core.specs.declared.history.event.Event.{Event}
use Rattle.session_core.specs.declared.history.event.Event.TheVariants.{Began, Granted, Refused, Answered, Committed, Ended, RolledBack, Doubt, Settled, Left}
use Rattle.session_core.specs.History.Answering as answers
use Rattle.session_core.specs.History.Transactions.{Base}
use Rattle.session_core.specs.History.States.{state}
use Rattle.session_core.specs.Keeping.Kept.{Kept, with_event, past}
use Rattle.session_core.proofs.Growing.{past-more}
use Rattle.session_run.specs.Answers.{answered}
use Rattle.session_run.proofs.Memory.{lacking, unrun_here}
use Rattle.session_run.specs.Calls as calls
use Rattle.session_run.specs.Calls.{IsAnswerInMemory, AnswersText, TakesNoDevice, ClosesText, AreOfCall}
use Rattle.session_run.specs.Called.{IsCalled, IsUnclosed, AddsClosing, ClosesRead, LeavesRead, behind_grant}

-- ---- a text that is a call

-- its names are names of documents
pub good_names : (text : CallText) (call : Call) → Parsed text (Ok call) → IsTrue (has_good_names call)
good_names text call (read short spelled (a_call nested is good known bound)) = good

module _ (s : ℕ) (text : CallText) (call : Call) (is : Parsed text (Ok call)) where
  answers_read : (e : Event) (before : List Event) → AnswersText text e before
  answers_read (Answered t r) before = record { what = Ok call; parsed = is; answers = tt }
  answers_read (Began t kind) before = tt
  answers_read (Granted t asked) before = tt
  answers_read (Refused t name by asked) before = tt
  answers_read (Committed t n) before = tt
  answers_read (Ended t) before = tt
  answers_read (RolledBack t) before = tt
  answers_read (Doubt t n mark) before = tt
  answers_read (Settled by t stands) before = tt
  answers_read (Left t) before = tt

  closes_read : (old new : Kept) (a : AddsClosing s call old new) (before : List Event) → past old ≡ before → ClosesText old.base s text a.event before
  closes_read old new a before same = record {
    of_session = a.of_session;
    closing = a.closing;
    closes = record { what = Ok call; parsed = is; closes = a.closes };
    answers = answers_read a.event before;
    right = subst (TakesNoDevice old.base a.event) same a.right;
  }

  -- what closes the call that was read closes the call of the text
  pub called_read : (old new : Kept) → ClosesRead s call old new → IsCalled s text old new
  called_read old new (inl a) = record { events = a.event ∷ []; grown = a.grown; of_call = calls.AreOfCall.at_once (closes_read old new a (past old) refl) }
  called_read old new (inr a) = record {
    events = Granted s (needs call) ∷ a.closes.event ∷ [];
    grown = a.closes.grown ∙ (λ i. record { base = old.base; journal = append_assoc old.journal (Granted s (needs call) ∷ []) (a.closes.event ∷ []) i });
    of_call = calls.AreOfCall.behind_grant a.some (record { call = call; parsed = is; needs_are = refl })
        (closes_read (behind_grant s call old) new a.closes (Granted s (needs call) ∷ past old) (past-more old.journal (Granted s (needs call))));
  }

  -- where the call that was read is not closed, the call of the text is not
  pub left_read : (old new : Kept) → LeavesRead s call old new → IsUnclosed s text old new
  left_read old new (inl same) = inl same
  left_read old new (inr left) =
      inr (record { asked = needs call; some = left.0; needed = record { call = call; parsed = is; needs_are = refl }; grown = left.1 })

-- ---- a text that is none, or for which memory was wanting

module _ (s : ℕ) (text : CallText) (old new : Kept) where
  called_refused : (code : Code) → Parsed text (Err code) → IsAnswerInMemory old.base s (past old) None (says.Error code)
      → new ≡ with_event (answered s None (says.Error code)) old → IsCalled s text old new
  called_refused code is right grown = record {
    events = answered s None (says.Error code) ∷ [];
    grown = grown;
    of_call = calls.AreOfCall.at_once
        (record {
          of_session = refl;
          closing = refl;
          closes = record { what = Err code; parsed = is; closes = refl };
          answers =
              record { what = Err code; parsed = is; answers = inl refl };
          right = right;
        });
  }

  lost_by : (what : Result Call Code) → Parsed text what → ClosesText old.base s text (answered s None (says.Error codes.NoMemory)) (past old)
  lost_by (Ok call) is = record {
    of_session = refl;
    closing = refl;
    closes = record { what = Ok call; parsed = is; closes = inr (refl, refl) };
    answers =
        record { what = Ok call; parsed = is; answers = tt };
    right = lacking old.base s (past old) _;
  }
  lost_by (Err code) is = record {
    of_session = refl;
    closing = refl;
    closes = record { what = Err code; parsed = is; closes = refl };
    answers =
        record { what = Err code; parsed = is; answers = inr (inl refl) };
    right = lacking old.base s (past old) _;
  }

  called_lost : new ≡ with_event (answered s None (says.Error codes.NoMemory)) old → IsCalled s text old new
  called_lost grown = record {
    events = answered s None (says.Error codes.NoMemory) ∷ [];
    grown = grown;
    of_call =
        calls.AreOfCall.at_once (lost_by (parsed text) (parsed_holds text));
  }

  -- a text that the parser refuses is answered so
  pub called_end : (end : ParseEnd) → ((end ≡ NoMemory → ⊥) → Parsed text (Err (code_of end)))
      → IsAnswerInMemory old.base s (past old) None (says.Error (code_of end)) → new ≡ with_event (answered s None (says.Error (code_of end))) old
      → IsCalled s text old new
  called_end TooLong is right grown = called_refused codes.TooLong (is (λ e. cc)) right grown
  called_end XPST0003 is right grown = called_refused codes.XPST0003 (is (λ e. cc)) right grown
  called_end NestedTooDeep is right grown = called_refused codes.NestedTooDeep (is (λ e. cc)) right grown
  called_end BadName is right grown = called_refused codes.BadName (is (λ e. cc)) right grown
  called_end XPST0017 is right grown = called_refused codes.XPST0017 (is (λ e. cc)) right grown
  called_end XPST0008 is right grown = called_refused codes.XPST0008 (is (λ e. cc)) right grown
  called_end NoMemory is right grown = called_lost grown

-- which is right
pub right_end : (B : Base) (s : ℕ) (before : List Event) (end : ParseEnd) → (state s before ≡ InDoubt → ⊥)
    → IsAnswerInMemory B s before None (says.Error (code_of end))
right_end B s before TooLong certain =
    unrun_here B s before None (says.Error codes.TooLong)
    (answers.AnswersInOrder.refuses_text (record { code = codes.TooLong; refusal = refl; says_so = refl; not_in_doubt = certain })) refl refl tt
right_end B s before XPST0003 certain =
    unrun_here B s before None (says.Error codes.XPST0003)
    (answers.AnswersInOrder.refuses_text (record { code = codes.XPST0003; refusal = refl; says_so = refl; not_in_doubt = certain })) refl refl tt
right_end B s before NestedTooDeep certain =
    unrun_here B s before None (says.Error codes.NestedTooDeep)
    (answers.AnswersInOrder.refuses_text (record { code = codes.NestedTooDeep; refusal = refl; says_so = refl; not_in_doubt = certain })) refl refl tt
right_end B s before BadName certain =
    unrun_here B s before None (says.Error codes.BadName)
    (answers.AnswersInOrder.refuses_text (record { code = codes.BadName; refusal = refl; says_so = refl; not_in_doubt = certain })) refl refl tt
right_end B s before XPST0017 certain =
    unrun_here B s before None (says.Error codes.XPST0017)
    (answers.AnswersInOrder.refuses_text (record { code = codes.XPST0017; refusal = refl; says_so = refl; not_in_doubt = certain })) refl refl tt
right_end B s before XPST0008 certain =
    unrun_here B s before None (says.Error codes.XPST0008)
    (answers.AnswersInOrder.refuses_text (record { code = codes.XPST0008; refusal = refl; says_so = refl; not_in_doubt = certain })) refl refl tt
right_end B s before NoMemory certain = lacking B s before None

-- what follows from P holds of each Err answer, where P does
pub on_err : {T E P Q : Type 0} (r : Result T E) → (P → Q) → OnErr r P → OnErr r Q
on_err (Ok x) f fact = tt
on_err (Err e) f fact = f fact
