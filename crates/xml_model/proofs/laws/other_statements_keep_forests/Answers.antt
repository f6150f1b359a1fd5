use Rattle.xml_model.proofs.Forests.{leaves}
use Rattle.xml_model.proofs.laws.other_statements_keep_forests.Goals as goal

pub returns : goal.returns
returns c = λ F call forest named other. leaves F call forest named (λ what G is after. absurd (other what is))
