use Rattle.xq_values.proofs.NewElements.{gives_element}
use Rattle.xq_values.proofs.elements.element.Goals as goal

pub returns : goal.returns
returns c = gives_element c.args.name.now c.args.content c.element_of.result c.element_of.ensures
