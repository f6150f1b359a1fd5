use Rattle.std.proofs.Common.{drop}
use Rattle.script_text.specs.JournalRows.{MissesRows}
use Rattle.script_text.proofs.journals.rows.row_among.Given as goal

-- words that begin as no row that is left begin as no row at all
abbrev pub invariant-loop-row : goal.invariant-loop-row
invariant-loop-row l = MissesRows l.words (drop l.row-index l.rows) → MissesRows l.words l.fn.rows
