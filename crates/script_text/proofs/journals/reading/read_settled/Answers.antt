use Rattle.std.proofs.Common.{refl}
use Rattle.std.specs.Fmt.{decimal}
use Rattle.xq_ast.proofs.Codes.{no_second, second_part}
use Rattle.xq_ast.proofs.Numbers.{has_space-decimal}
use Rattle.script_text.specs.declared.journals.rows.Row.TheVariants as rows
use Rattle.script_text.specs.JournalText.{stands_text}
use Rattle.script_text.proofs.EventRows.{none_read, sessions_fit}
use Rattle.script_text.proofs.journals.reading.read_settled.Goals as goal

pub returns-in_err-digits : goal.returns-in_err-digits
returns-in_err-digits c =
    none_read c.from_residual.result rows.Settled c.args.session c.args.rest.now c.from_residual.ensures
    (λ e is. no_second c.args.rest.now (decimal is.0) (stands_text is.1) c.in_err-digits.ensures is.3)

pub returns-in_err-other : goal.returns-in_err-other
returns-in_err-other c =
    none_read c.from_residual-in_err-other.result rows.Settled c.args.session c.args.rest.now c.from_residual-in_err-other.ensures
    (λ e is.
    let parts = second_part c.args.rest.now c.in_ok-digits.digits.now c.in_ok-digits.word.now (decimal is.0) (stands_text is.1) c.in_ok-digits.ensures
    (has_space-decimal is.0 (sessions_fit is.0 is.2)) is.3 in
    c.in_err-other.ensures.none refl is.0 is.2 parts.0)

pub returns-in_err-stands : goal.returns-in_err-stands
returns-in_err-stands c =
    none_read c.from_residual-in_err-stands.result rows.Settled c.args.session c.args.rest.now c.from_residual-in_err-stands.ensures
    (λ e is.
    let parts = second_part c.args.rest.now c.in_ok-digits.digits.now c.in_ok-digits.word.now (decimal is.0) (stands_text is.1) c.in_ok-digits.ensures
    (has_space-decimal is.0 (sessions_fit is.0 is.2)) is.3 in
    c.in_err-stands.ensures.none refl is.1 parts.1)
