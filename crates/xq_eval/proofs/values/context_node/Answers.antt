use Rattle.std.proofs.Common.{map, sym, ap, ◌∙◌, subst}
use Rattle.xml_model.specs.Nodes.{nodes_or}
use Rattle.xq_values.specs.Seen.{node_seen}
use Rattle.xq_eval.specs.Scopes.{items_seen}
use Rattle.xml_model.specs.Items.{◌>>?◌}
use Rattle.xq_ast.specs.declared.code.Code.TheVariants.{XPTY0020}
use Rattle.xq_values.specs.Gives.{Gives}
use Rattle.xq_eval.proofs.values.context_node.Goals as goal

pub returns : goal.returns
returns c = λ place. subst (λ d. Gives (map (node_seen place)) c.nodes_or.result d)
    (ap (λ items. nodes_or XPTY0020 (items_seen place items)) c.as_slice.ensures ∙ ap (λ r. r >>? nodes_or XPTY0020) (sym (c.in_ok-found.ensures
    place))) (c.nodes_or.ensures place)
