use Rattle.std.proofs.Common.{refl}
use Rattle.std.specs.Prelude.{codes}
use Rattle.std.specs.Fmt.{decimal}
use Rattle.xq_ast.specs.CodeText.{kind_name}
use Rattle.xq_ast.proofs.Codes.{other_name, has_space-kind_name}
use Rattle.xq_ast.proofs.code_reading.spent_code.Goals as goal

pub returns-in_err-kind-clause-none : goal.returns-in_err-kind-clause-none
returns-in_err-kind-clause-none c = λ none kind number small.
    let named = c.in_ok-named.named in
    other_name c.args.text.now (codes "Spent") c.in_ok-behind_word.field-0.now named.name.now (kind_name kind) (decimal named.number) (decimal number)
    c.in_ok-behind_word.ensures c.in_ok-named.ensures.found c.in_ok-named.ensures.apart (has_space-kind_name kind) (c.in_err-kind.ensures.none refl kind)
