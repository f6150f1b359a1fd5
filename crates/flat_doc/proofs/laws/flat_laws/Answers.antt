use Rattle.flat_doc.proofs.Others.{others_kept}
use Rattle.flat_doc.proofs.laws.flat_laws.Goals as goal

pub returns-clause-others : goal.returns-clause-others
returns-clause-others c w space text = others_kept w space text
