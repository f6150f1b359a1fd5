use Rattle.std.proofs.Common.{refl}
use Rattle.std.specs.Fmt.{decimal}
use Rattle.xq_ast.proofs.Codes.{no_second, second_part}
use Rattle.xq_ast.proofs.code_reading.named_number.Goals as goal

pub returns-in_err-name-clause-none : goal.returns-in_err-name-clause-none
returns-in_err-name-clause-none c = λ none name n plain small e. no_second c.args.text.now name (decimal n) c.in_err-name.ensures e

pub returns-in_err-number-clause-none : goal.returns-in_err-number-clause-none
returns-in_err-number-clause-none c = λ none name n plain small e.
    c.in_err-number.ensures.none refl n small
    (second_part c.args.text.now c.in_ok-name.name.now c.in_ok-name.digits.now name (decimal n) c.in_ok-name.ensures plain e).1
