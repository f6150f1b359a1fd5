use Rattle.std.proofs.Common.{arith}
use Rattle.xml_model.proofs.Laying.{no-layers}
use Rattle.xml_model.proofs.layers.below_of.Goals as goal

pub returns-in-empty : goal.returns-in-empty
returns-in-empty c = no-layers c.args.layers.now (omega arith)
