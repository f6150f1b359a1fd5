-- Right answers are Done, lines or an error.
use Rattle.std.proofs.Common.{◌≡◌, ℕ, true, true≢false, List, Option, Some, refl, sym, ap}
use Rattle.xq_ast.specs.declared.call.Call.{Call}
use Rattle.session_core.specs.declared.history.event.Says.{Says}
use Rattle.session_core.specs.declared.history.event.Says.TheVariants as says
use Rattle.session_core.specs.declared.history.event.Event.{Event}
use Rattle.session_core.specs.History.Transactions.{Numbers}
use Rattle.session_core.specs.Keeping.Kept.{Kept, with_event}
use Rattle.session_core.specs.History.Answering.{AnswersInOrder, is_told, is_damaged, lacks_memory, refuses_text, refuses_call, makes_checkpoint, finds_no_number, runs_updating, runs_reading, fails, finds_no_page, finds_damage}
use Rattle.session_run.specs.declared.outcome.Outcome.{Outcome}
use Rattle.session_run.specs.Outcomes.{is_answer, outcome_of, EndsWith}

told_answers : (answer : Says) → is_told answer ≡ true → is_answer answer ≡ true
told_answers says.Done is = refl
told_answers (says.Lines all) is = refl
told_answers (says.Error code) is = refl
told_answers (says.Began kind) is = absurd (true≢false (sym is))
told_answers (says.LockHeld name holder) is = absurd (true≢false (sym is))
told_answers (says.Committed n) is = absurd (true≢false (sym is))
told_answers says.Ended is = absurd (true≢false (sym is))
told_answers says.RolledBack is = absurd (true≢false (sym is))
told_answers (says.Doubt n) is = absurd (true≢false (sym is))

damage_answers : (answer : Says) → is_damaged answer ≡ true → is_answer answer ≡ true
damage_answers (says.Error code) is = refl
damage_answers says.Done is = refl
damage_answers (says.Lines all) is = refl
damage_answers (says.Began kind) is = absurd (true≢false (sym is))
damage_answers (says.LockHeld name holder) is = absurd (true≢false (sym is))
damage_answers (says.Committed n) is = absurd (true≢false (sym is))
damage_answers says.Ended is = absurd (true≢false (sym is))
damage_answers says.RolledBack is = absurd (true≢false (sym is))
damage_answers (says.Doubt n) is = absurd (true≢false (sym is))

-- what comes in the order of refusals is an answer
pub order_answers : (N : Numbers) (s : ℕ) (past : List Event) (call : Option Call) (answer : Says) → AnswersInOrder N s past call answer
    → is_answer answer ≡ true
order_answers N s past call _ lacks_memory = refl
order_answers N s past call answer (refuses_text r) = ap is_answer r.says_so
order_answers N s past call answer (refuses_call r) = ap is_answer r.says_so
order_answers N s past call answer (makes_checkpoint r) = ap is_answer r.says_so
order_answers N s past call answer (finds_no_number r) = ap is_answer r.says_so
order_answers N s past call answer (runs_updating r) = told_answers answer r.told
order_answers N s past call answer (runs_reading r) = told_answers answer r.told
order_answers N s past call answer (fails r) = ap is_answer r.says_so
order_answers N s past call answer (finds_no_page r) = ap is_answer r.says_so
order_answers N s past call answer (finds_damage r) = damage_answers answer r.damaged

-- one event more is the newest
pub ends_with : (e : Event) (outcome : Outcome) (old new : Kept) → new ≡ with_event e old → outcome_of e ≡ Some outcome → EndsWith outcome new
ends_with e outcome old new grown says = record { event = e; before = old; newest = grown; says = says }
