use Rattle.session_core.proofs.Growing.{grows}
use Rattle.session_core.proofs.history.laws.a_legal_journal_grows.Goals as goal

pub returns : goal.returns
returns c = grows
