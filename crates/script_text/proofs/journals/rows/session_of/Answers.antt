use Rattle.std.proofs.Common.{◌≡◌, ◌<◌, ◌^◌, ◌∙◌, sym, arith}
use Rattle.std.proofs.lemmas.Fmt.{decimal_injective}
use Rattle.script_text.proofs.journals.rows.session_of.Goals as goal

pub returns-in-Err-clause-none : goal.returns-in-Err-clause-none
returns-in-Err-clause-none c = λ none session small e.
    let few : session < 2 ^ 64 = omega arith in
    let fits : c.in_ok-number.number < 2 ^ 64 = omega arith in
    let same : session ≡ c.in_ok-number.number = decimal_injective session c.in_ok-number.number few fits (e ∙ sym c.in_ok-number.ensures.found) in
    let less : c.in_ok-number.number < 4294967296 = omega arith in
    c.in-Err.ensures less
