use Rattle.std.proofs.Common.{subst, IsTrue}
use Rattle.xq_ast.specs.GoodNames.{has_good_names}
use Rattle.xml_model.proofs.Forests.{leaves}
use Rattle.xq_edits.proofs.UpdateForests.{leaves_forest}
use Rattle.xq_edits.proofs.laws.statements_keep_forests.Goals as goal

pub returns : goal.returns
returns c = λ F call forest named. leaves F call forest named (λ what G is after. leaves_forest F G what forest (subst (λ k. IsTrue (has_good_names k)) is named) after)
