use Rattle.xml_model.specs.TreeNodes.{TellsTurns}
use Rattle.xml_model.proofs.tree_nav.turns_of.Given as goal

abbrev pub invariant-loop-turn : goal.invariant-loop-turn
invariant-loop-turn l = TellsTurns l.trees l.turn l.turns.entries
