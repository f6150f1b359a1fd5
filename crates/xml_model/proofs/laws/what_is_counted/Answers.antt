use Rattle.xml_model.proofs.ReadIsValid.{read_is_counted}
use Rattle.xml_model.proofs.laws.what_is_counted.Goals as goal

pub returns : goal.returns
returns c = read_is_counted
