use Rattle.session_core.proofs.Growing.{begins}
use Rattle.session_core.proofs.history.laws.an_empty_journal_is_legal.Goals as goal

pub returns : goal.returns
returns c = begins
