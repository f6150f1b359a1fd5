use Rattle.std.proofs.Common.{ap, ◌∙◌}
use Rattle.xml_model.specs.FunctionAnswers as spec
use Rattle.xq_values.proofs.Words.{starts_is}
use Rattle.xq_values.proofs.text.begins_with.Goals as goal

pub returns : goal.returns
returns c =
    c.starts_with.ensures.value ∙ (starts_is c.as_bytes.result.now c.as_bytes-2.result.now
    ∙ (ap (λ t. spec.begins_with t c.as_bytes-2.result.now) c.as_bytes.ensures.value ∙ ap (spec.begins_with c.args.text.now) c.as_bytes-2.ensures.value))
