use Rattle.xq_edits.proofs.UpdateForests.{leaves_forest}
use Rattle.xq_edits.proofs.laws.updates_keep_forests.Goals as goal

pub returns : goal.returns
returns c = leaves_forest
