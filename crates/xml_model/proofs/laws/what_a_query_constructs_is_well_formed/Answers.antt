use Rattle.xml_model.proofs.QueryTrees.{constructs_well_formed}
use Rattle.xml_model.proofs.laws.what_a_query_constructs_is_well_formed.Goals as goal

pub returns : goal.returns
returns c = constructs_well_formed
