use Rattle.std.proofs.Common.{◌≡◌, drop}
use Rattle.std.specs.Prelude.{Ok}
use Rattle.std.specs.List.{concat}
use Rattle.xml_model.specs.Items.{◌>>?◌}
use Rattle.xml_model.specs.FunctionAnswers as spec
use Rattle.xq_values.specs.Words as words
use Rattle.xq_values.proofs.text.concat_arguments.Given as goal

abbrev pub invariant-loop-argument : goal.invariant-loop-argument
invariant-loop-argument l =
    words.concat_onto l.all (drop l.argument-index l.arguments) ≡ (spec.concat_arguments l.arguments >>? (λ texts. Ok (concat texts)))
