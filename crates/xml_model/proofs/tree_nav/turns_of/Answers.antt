use Rattle.std.proofs.Common.{subst, ◌∙◌, arith}
use Rattle.xml_model.specs.TreeNodes.{TellsTurns}
use Rattle.xml_model.proofs.Turns.{none_told, one_told, turn_named}
use Rattle.xml_model.proofs.tree_nav.turns_of.Goals as goal

pub loop-turn-init : goal.loop-turn-init
loop-turn-init c = none_told c.args.trees.now c.in_ok-turns.turns.entries c.in_ok-turns.ensures.empty

pub loop-turn-preserved : goal.loop-turn-preserved
loop-turn-preserved c =
    one_told c.args.trees.now c.loop-turn.turns c.insert.new.self c.loop-turn.turn c.into_string.result
    (c.into_string.ensures ∙ c.in_ok-name.ensures ∙ turn_named c.args.trees.now c.loop-turn.turn c.index-trees-turn.result c.loop-turn-test.true c.index-trees-turn.is)
    c.in_ok-insert.ensures.updates c.loop-turn.invariant

pub returns : goal.returns
returns c = subst (λ count. TellsTurns c.args.trees.now count c.loop-turn.turns.entries) (omega arith) c.loop-turn.invariant
