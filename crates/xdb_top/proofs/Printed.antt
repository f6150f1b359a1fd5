-- A journal of played scripts is one as programs print them: its types keep widths and UTF-8, names come from calls that
-- were read, and lines have no newlines.
use Rattle.std.proofs.Common.{◌≡◌, ℕ, true, true≢false, IsTrue, List, [], ◌∷◌, ◌++◌, reverse, Option, None, Some, Result, Ok, Err, sym, subst}
use Rattle.std.proofs.lemmas.List.{reverse-append, reverse-reverse}
use Rattle.xq_ast.specs.declared.call.Call.{Call}
use Rattle.xq_ast.specs.declared.call.Call.TheVariants.{Begin, BeginRead, Commit, Rollback, Checkpoint, ShowDocuments, Create, Drop, Load, Export, Update, Query}
use Rattle.xq_ast.specs.declared.call.CallText.{CallText}
use Rattle.xq_ast.specs.declared.code.Code.{Code}
use Rattle.xq_ast.specs.declared.need.Need.{Need}
use Rattle.xq_ast.specs.Parsed.{Parsed}
use Rattle.xq_ast.specs.GoodNames.{has_good_names}
use Rattle.xml_model.specs.Needs.{needs}
use Rattle.xml_model.specs.Pyx.{Line, IsPlain, ArePlain}
use Rattle.session_core.specs.declared.history.event.Says.{Says}
use Rattle.session_core.specs.declared.history.event.Says.TheVariants as says
use Rattle.session_core.specs.declared.history.event.Event.{Event}
use Rattle.session_core.specs.declared.history.event.Event.TheVariants.{Began, Granted, Refused, Answered, Committed, Ended, RolledBack, Doubt, Settled, Left}
use Rattle.session_core.specs.History.{past_of, AtEach}
use Rattle.session_core.specs.History.Transactions.{Base}
use Rattle.session_core.specs.History.Locks.{LocksAt, IsRefused}
use Rattle.session_core.specs.History.Closes.{Scripts, next_call, ClosesAt, ClosesBy, Closes, IsSomeText, NeedsThese}
use Rattle.session_run.specs.Calls.{TakesNoDevice, HasPlainLines}
use Rattle.session_run.specs.Outcomes.{is_answer}
use Rattle.session_run.proofs.Outcomes.{order_answers}
use Rattle.session_run.proofs.Plain.{plain_name}
use Rattle.session_run.proofs.Texts.{good_names}
use Rattle.script_text.specs.JournalText.{AreLines, HaveNames, IsAnswer, IsPrinted, ArePrinted}
use Rattle.xdb_top.proofs.Needed.{each-append, HavePlainNames, query_plain, update_plain}
use Rattle.xdb_top.specs.Typed.{Each, AreTexts, HaveTexts, IsTypedAnswer, IsTyped, AreTyped}

-- ---- a fact of each

each-reverse : {A : Type 0} (Fact : A → Type 0) (xs : List A) → Each Fact xs → Each Fact (reverse xs)
each-reverse Fact [] each = each
each-reverse Fact (x ∷ xs) each =
    subst (Each Fact) (sym (reverse-append (x ∷ []) xs)) (each-append Fact (reverse xs) (x ∷ []) (each-reverse Fact xs each.1) (each.0, tt))

each_at : {A : Type 0} (Fact : A → Type 0) (before behind : List A) (x : A) → Each Fact (before ++ x ∷ behind) → Fact x
each_at Fact [] behind x each = each.0
each_at Fact (y ∷ before) behind x each = each_at Fact before behind x each.1

-- ---- names and lines

have_names : (asked : List Need) → HaveTexts asked → HavePlainNames asked → HaveNames asked
have_names [] texts plain = tt
have_names (n ∷ more) texts plain = ((texts.0, plain.0), have_names more texts.1 plain.1)

are_lines : (lines : List Line) → AreTexts lines → ArePlain lines → AreLines lines
are_lines [] texts plain = tt
are_lines (line ∷ more) texts plain = ((texts.0, plain.0), are_lines more texts.1 plain.1)

plain_needs : (call : Call) → IsTrue (has_good_names call) → HavePlainNames (needs call)
plain_needs Begin good = tt
plain_needs BeginRead good = tt
plain_needs Commit good = tt
plain_needs Rollback good = tt
plain_needs Checkpoint good = tt
plain_needs ShowDocuments good = tt
plain_needs (Create name) good = (plain_name name good, tt)
plain_needs (Drop name) good = (plain_name name good, tt)
plain_needs (Load name pyx) good = (plain_name name good, tt)
plain_needs (Export name) good = (plain_name name good, tt)
plain_needs (Update what) good = update_plain what good
plain_needs (Query expr) good = query_plain expr good

-- locks are granted for names of a call that was read
granted_plain : (o : Option CallText) (asked : List Need) → IsSomeText o (NeedsThese asked) → HavePlainNames asked
granted_plain None asked is = absurd is
granted_plain (Some text) asked is = subst HavePlainNames is.needs_are (plain_needs is.call (good_names text is.call is.parsed))

closed_plain : (s : ℕ) (name : List ℕ) (holder : ℕ) (asked : List Need) (text : CallText) (what : Result Call Code) → Parsed text what
    → Closes what (Refused s name holder asked) → HavePlainNames asked
closed_plain s name holder asked text (Ok call) parsed is = subst HavePlainNames (sym is) (plain_needs call (good_names text call parsed))
closed_plain s name holder asked text (Err code) parsed is = absurd is

-- and so they are refused
refused_plain : (s : ℕ) (name : List ℕ) (holder : ℕ) (asked : List Need) (o : Option CallText)
    → IsSomeText o (λ text. ClosesBy text (Refused s name holder asked)) → HavePlainNames asked
refused_plain s name holder asked None is = absurd is
refused_plain s name holder asked (Some text) is = closed_plain s name holder asked text is.what is.parsed is.closes

refused_name : (s : ℕ) (name : List ℕ) (holder : ℕ) (asked : List Need) (past : List Event) → IsRefused s name holder asked past
    → HavePlainNames asked → IsPlain name
refused_name s name holder asked past r plain =
    subst IsPlain (sym r.name_is) (each_at (λ (n : Need). IsPlain n.name) r.before r.behind r.blocked (subst HavePlainNames r.asked_are plain))

printed_answer : (answer : Says) → is_answer answer ≡ true → IsTypedAnswer answer → HasPlainLines answer → IsAnswer answer
printed_answer says.Done is typed plain = tt
printed_answer (says.Lines all) is typed plain = (are_lines all typed.0 plain, typed.1)
printed_answer (says.Error code) is typed plain = typed
printed_answer (says.Began kind) is typed plain = absurd (true≢false (sym is))
printed_answer (says.LockHeld name holder) is typed plain = absurd (true≢false (sym is))
printed_answer (says.Committed n) is typed plain = absurd (true≢false (sym is))
printed_answer says.Ended is typed plain = absurd (true≢false (sym is))
printed_answer says.RolledBack is typed plain = absurd (true≢false (sym is))
printed_answer (says.Doubt n) is typed plain = absurd (true≢false (sym is))

-- ---- events

module _ (B : Base) (P : Scripts) where
  printed_event : (e : Event) (past : List Event) → IsTyped e → ClosesAt P e past → LocksAt e past → TakesNoDevice B e past → IsPrinted e
  printed_event (Began s kind) past typed closes locks right = typed
  printed_event (Granted s asked) past typed closes locks right =
      (typed.0, locks.0.some, have_names asked typed.1 (granted_plain (next_call P s past) asked closes.0))
  printed_event (Refused s name holder asked) past typed closes locks right = (
    typed.0,
    (typed.1, refused_name s name holder asked past locks.0 (refused_plain s name holder asked (next_call P s past) closes.0)),
    typed.2,
  )
  printed_event (Answered s reply) past typed closes locks right =
      (typed.0, printed_answer reply.says (order_answers B.numbers s past reply.call reply.says right.0.in_order) typed.1 right.2)
  printed_event (Committed s n) past typed closes locks right = typed
  printed_event (Ended s) past typed closes locks right = typed
  printed_event (RolledBack s) past typed closes locks right = typed
  printed_event (Doubt s n mark) past typed closes locks right = typed
  printed_event (Settled by s stands) past typed closes locks right = typed
  printed_event (Left s) past typed closes locks right = typed

  printed_past : (past : List Event) → Each IsTyped past → AtEach (ClosesAt P) past → AtEach LocksAt past → AtEach (TakesNoDevice B) past → Each IsPrinted past
  printed_past [] typed closes locks right = tt
  printed_past (e ∷ past) typed closes locks right =
      (printed_event e past typed.0 closes.0 locks.0 right.0, printed_past past typed.1 closes.1 locks.1 right.1)

are_printed : (journal : List Event) → Each IsPrinted journal → ArePrinted journal
are_printed [] each = tt
are_printed (e ∷ journal) each = (each.0, are_printed journal each.1)

-- the journal is one as programs print them
pub printed_journal : (B : Base) (P : Scripts) (journal : List Event) → AreTyped journal → AtEach (ClosesAt P) (past_of journal)
    → AtEach LocksAt (past_of journal) → AtEach (TakesNoDevice B) (past_of journal) → ArePrinted journal
printed_journal B P journal typed closes locks right =
    are_printed journal (subst (Each IsPrinted) (reverse-reverse journal)
    (each-reverse IsPrinted (reverse journal) (printed_past B P (reverse journal) (each-reverse IsTyped journal typed) closes locks right)))
