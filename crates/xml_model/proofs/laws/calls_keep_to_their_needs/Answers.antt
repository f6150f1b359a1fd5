use Rattle.xml_model.proofs.CallFrame.{keeps}
use Rattle.xml_model.proofs.laws.calls_keep_to_their_needs.Goals as goal

pub returns : goal.returns
returns c = keeps
