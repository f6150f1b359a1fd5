use Rattle.std.proofs.Common.{ap, subst, ◌∙◌}
use Rattle.std.specs.Option.{option_map}
use Rattle.xml_model.specs.TreeNodes.{node_of_id}
use Rattle.xml_model.proofs.Turns.{root_told}
use Rattle.xml_model.proofs.tree_nav.TreeNavNav.root.Goals as goal
use Rattle.xml_model.specs.TreeNodes.{StandFor}

pub returns-clause-gives : goal.returns-clause-gives
returns-clause-gives c =
    λ valid. ap (option_map (node_of_id c.args.self.now)) c.root_of.ensures
    ∙ root_told c.self.inside.trees.items c.args.self.now c.self.inside.turns.entries c.args.name.now
    (subst (λ F. StandFor F c.self.inside.trees.items) c.self.view_is c.self.invariant.0) c.self.invariant.1
