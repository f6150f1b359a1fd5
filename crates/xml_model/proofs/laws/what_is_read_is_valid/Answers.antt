use Rattle.xml_model.proofs.ReadIsValid.{read_is_valid}
use Rattle.xml_model.proofs.laws.what_is_read_is_valid.Goals as goal

pub returns : goal.returns
returns c = read_is_valid
