use Rattle.xml_model.proofs.RebuildValid.{stays_valid}
use Rattle.xml_model.proofs.edit_laws.edited_documents_are_valid.Goals as goal

pub returns : goal.returns
returns c = stays_valid
