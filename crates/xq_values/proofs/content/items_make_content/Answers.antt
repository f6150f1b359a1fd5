use Rattle.xq_values.proofs.Contents.{items_make}
use Rattle.xq_values.proofs.content.items_make_content.Goals as goal

pub returns : goal.returns
returns c = λ docs made items. items_make docs made items
