use Rattle.std.proofs.Common.{◌-◌, ◌%◌, arith}
use Rattle.indirection.proofs.OwnPages.{entered_own}
use Rattle.indirection.proofs.numbers.set_address.Goals as goal

pub returns-clause-own : goal.returns-clause-own
returns-clause-own c =
    entered_own c.args.work.now c.write_entry.new.work c.args.space c.in_ok-leaf.leaf
    ((c.args.no.0 - 1) % 340) _ _ c.write_entry.result c.write_entry.ensures.answer
    c.in_ok-numbers.ensures.whole c.in_ok-leaf.ensures.page (omega arith)
