use Rattle.xdb_top.proofs.OnePlay.{one_play}
use Rattle.xdb_top.proofs.laws.plays_without_want_are_one.Goals as goal

pub returns : goal.returns
returns c = one_play
