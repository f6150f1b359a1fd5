use Rattle.std.proofs.Common.{◌∙◌, arith}
use Rattle.xq_values.proofs.Keys.{no_keys}
use Rattle.xq_values.proofs.key.+keys_order.Goals as goal

pub returns-in_default : goal.returns-in_default
returns-in_default t c = c.before_keys.ensures c.args.descends.now ∙ no_keys c.args.descends.now c.args.a.now c.args.b.now (omega arith)
