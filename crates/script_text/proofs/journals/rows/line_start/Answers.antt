use Rattle.std.proofs.Common.{◌++◌, refl, sym}
use Rattle.std.specs.Fmt.{decimal}
use Rattle.xq_ast.proofs.Codes.{no_second, second_part}
use Rattle.xq_ast.proofs.Numbers.{has_space-decimal}
use Rattle.script_text.specs.JournalRows.{row_word}
use Rattle.script_text.proofs.EventRows.{sessions_fit}
use Rattle.script_text.proofs.journals.rows.line_start.Goals as goal

pub returns-in_err-digits-clause-none : goal.returns-in_err-digits-clause-none
returns-in_err-digits-clause-none c =
    λ none session row rest small e. no_second c.args.line.now (decimal session) (row_word row ++ rest) c.in_err-digits.ensures e

pub returns-in_err-session-clause-none : goal.returns-in_err-session-clause-none
returns-in_err-session-clause-none c = λ none session row rest small e.
    let parts = second_part c.args.line.now c.in_ok-digits.digits.now c.in_ok-digits.words.now (decimal session) (row_word row ++ rest) c.in_ok-digits.ensures
    (has_space-decimal session (sessions_fit session small)) e in
    c.in_err-session.ensures.none refl session small parts.0

pub returns-in_err-found-clause-none : goal.returns-in_err-found-clause-none
returns-in_err-found-clause-none c = λ none session row rest small e.
    let parts = second_part c.args.line.now c.in_ok-digits.digits.now c.in_ok-digits.words.now (decimal session) (row_word row ++ rest) c.in_ok-digits.ensures
    (has_space-decimal session (sessions_fit session small)) e in
    c.in_err-found.ensures.none refl row rest (sym parts.1)
