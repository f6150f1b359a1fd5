use Rattle.xml_model.proofs.UpdateCodes.{update_ends_coded}
use Rattle.xml_model.proofs.laws.updates_end_with_their_codes.Goals as goal

pub returns : goal.returns
returns c = update_ends_coded
