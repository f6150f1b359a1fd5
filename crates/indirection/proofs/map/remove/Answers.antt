use Rattle.indirection.proofs.Ending.{remove_means}
use Rattle.indirection.proofs.map.remove.Goals as goal

pub returns-clause-meaning : goal.returns-clause-meaning
returns-clause-meaning c all numbers means =
    remove_means c.args.work.now all c.args.space numbers means c.args.no.0 c.take_number.result c.take_number.new.work c.take_number.ensures.pages
