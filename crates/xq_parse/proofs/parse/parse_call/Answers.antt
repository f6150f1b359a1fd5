use Rattle.xq_parse.proofs.Answered.{is_found, is_refused}
use Rattle.xq_parse.proofs.parse.parse_call.Goals as goal

pub returns-clause-found : goal.returns-clause-found
returns-clause-found c = is_found c.args.call.now c.read.result c.read.ensures

pub returns-clause-refused : goal.returns-clause-refused
returns-clause-refused c = is_refused c.args.call.now c.read.result c.read.ensures
