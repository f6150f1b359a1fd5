use Rattle.std.proofs.Common.{refl}
use Rattle.std.specs.Prelude.{codes}
use Rattle.std.specs.Fmt.{decimal}
use Rattle.xq_ast.specs.CodeText.{refusal_name}
use Rattle.xq_ast.proofs.Codes.{other_name, has_space-refusal_name}
use Rattle.xq_ast.proofs.code_reading.pyx_code.Goals as goal

pub returns-in_err-why-clause-none : goal.returns-in_err-why-clause-none
returns-in_err-why-clause-none c = λ none why line small.
    let named = c.in_ok-named.named in
    other_name c.args.text.now (codes "Pyx") c.in_ok-behind_word.field-0.now named.name.now (refusal_name why) (decimal named.number) (decimal line)
    c.in_ok-behind_word.ensures c.in_ok-named.ensures.found c.in_ok-named.ensures.apart (has_space-refusal_name why) (c.in_err-why.ensures.none refl why)
