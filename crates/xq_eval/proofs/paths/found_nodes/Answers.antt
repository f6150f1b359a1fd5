use Rattle.std.proofs.Common.{ap, ◌∙◌}
use Rattle.xq_eval.specs.Scopes.{items_seen}
use Rattle.xq_eval.proofs.paths.found_nodes.Goals as goal

pub returns : goal.returns
returns c = λ place. ap (items_seen place) c.owned.ensures ∙ c.in_ok-node_items.ensures place
