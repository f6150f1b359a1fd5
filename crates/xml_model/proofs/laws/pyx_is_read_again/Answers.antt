use Rattle.xml_model.proofs.ReadAgain.{read_again}
use Rattle.xml_model.proofs.laws.pyx_is_read_again.Goals as goal

pub returns : goal.returns
returns c = read_again
