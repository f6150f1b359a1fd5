use Rattle.std.proofs.Common.{arith}
use Rattle.page_bytes.proofs.Keeping.{more_own}
use Rattle.indirection.specs.Owned.{number_pages}
use Rattle.indirection.proofs.numbers.give_number.Goals as goal

pub returns-clause-own : goal.returns-clause-own
returns-clause-own c = more_own number_pages c.args.work.now c.reuse.new.work c.args.space 0 3 c.reuse.result (omega arith) c.reuse.ensures.own
