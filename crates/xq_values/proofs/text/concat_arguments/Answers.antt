use Rattle.std.proofs.Common.{ap, ◌∙◌}
use Rattle.xq_values.specs.Words as words
use Rattle.xq_values.proofs.Words.{concat_is}
use Rattle.xq_values.proofs.text.concat_arguments.Goals as goal

pub loop-argument-init : goal.loop-argument-init
loop-argument-init c = ap (λ all. words.concat_onto all c.args.arguments.now) c.new-all.ensures ∙ concat_is c.args.arguments.now
