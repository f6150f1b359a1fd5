use Rattle.session_core.proofs.Answering.{answers_keep_legal}
use Rattle.session_core.proofs.history.laws.right_answers_keep_a_journal_legal.Goals as goal

pub returns : goal.returns
returns c = answers_keep_legal
