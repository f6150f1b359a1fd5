use Rattle.xml_model.proofs.QueryNeeds.{query_same}
use Rattle.xml_model.proofs.laws.queries_keep_to_their_needs.Goals as goal

pub returns : goal.returns
returns c = query_same
