use Rattle.xml_model.proofs.ReadIsSpelled.{read_is_spelled}
use Rattle.xml_model.proofs.SpelledIsRead.{spelled_is_read}
use Rattle.xml_model.proofs.laws.read_just_where_spelled.Goals as goal

pub returns : goal.returns
returns c = λ lines doc. (read_is_spelled lines doc, spelled_is_read lines doc)
