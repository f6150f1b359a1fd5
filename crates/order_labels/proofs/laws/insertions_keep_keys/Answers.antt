use Rattle.order_labels.proofs.InsertionLemmas.{insertions_keep}
use Rattle.order_labels.proofs.laws.insertions_keep_keys.Goals as goal

pub returns : goal.returns
returns c = insertions_keep
