use Rattle.xq_values.proofs.Words.{contains_is}
use Rattle.xq_values.proofs.text.has_within.Goals as goal

pub returns : goal.returns
returns c = contains_is c.args.text.now c.args.wanted.now c.contains.result c.contains.ensures.cases
