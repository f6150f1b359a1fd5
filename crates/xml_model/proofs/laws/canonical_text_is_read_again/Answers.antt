use Rattle.xml_model.proofs.TextAgain.{text_again}
use Rattle.xml_model.proofs.laws.canonical_text_is_read_again.Goals as goal

pub returns : goal.returns
returns c = text_again
