use Rattle.std.proofs.Common.{◌++◌, ap, ◌∙◌, false}
use Rattle.xq_values.specs.Words as words
use Rattle.xq_values.proofs.Words.{spaced_is}
use Rattle.xq_values.proofs.text.spaced.Goals as goal

pub loop-atom-init : goal.loop-atom-init
loop-atom-init c = ap (λ all. all ++ words.all_words false c.args.values.now) c.new-all.ensures ∙ spaced_is c.args.values.now
