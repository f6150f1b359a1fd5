use Rattle.script_text.proofs.EventRows.{rows_missed}
use Rattle.script_text.proofs.journals.rows.row_of.Goals as goal

pub returns-clause-none : goal.returns-clause-none
returns-clause-none c = λ none. rows_missed c.args.words.now (c.row_among.ensures.none none)
