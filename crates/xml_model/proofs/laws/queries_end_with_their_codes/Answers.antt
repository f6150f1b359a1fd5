use Rattle.xml_model.proofs.QueryTrees.{ends_coded}
use Rattle.xml_model.proofs.laws.queries_end_with_their_codes.Goals as goal

pub returns : goal.returns
returns c = ends_coded
