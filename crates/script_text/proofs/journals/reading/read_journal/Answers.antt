use Rattle.std.proofs.Common.{IfOk, subst}
use Rattle.script_text.specs.JournalRead.{Tells}
use Rattle.script_text.proofs.TextTells.{again_answered, no_utf8_tells}
use Rattle.script_text.proofs.journals.reading.read_journal.Goals as goal

pub returns-in-Ok-clause-again : goal.returns-in-Ok-clause-again
returns-in-Ok-clause-again c =
    again_answered c.read_events.result c.args.bytes.now
    (subst (λ text. IfOk c.read_events.result (λ read. Tells text read)) c.in-Ok.ensures.cases.0 c.read_events.ensures)

pub returns-in-Err-clause-none : goal.returns-in-Err-clause-none
returns-in-Err-clause-none c = λ none. no_utf8_tells c.args.bytes.now c.in-Err.ensures.cases.0

pub returns-in-Err-clause-again : goal.returns-in-Err-clause-again
returns-in-Err-clause-again c = λ journal printed same. absurd (no_utf8_tells c.args.bytes.now c.in-Err.ensures.cases.0 journal printed same)
