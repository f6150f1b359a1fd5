use Rattle.xml_model.proofs.QueryTrees.{answers_plain}
use Rattle.xml_model.proofs.laws.lines_of_answers_are_plain.Goals as goal

pub returns : goal.returns
returns c = answers_plain
