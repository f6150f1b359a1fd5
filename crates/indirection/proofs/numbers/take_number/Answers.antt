use Rattle.std.proofs.Common.{◌-◌, ◌%◌, inl, refl, arith}
use Rattle.indirection.proofs.OwnPages.{given_own}
use Rattle.indirection.proofs.numbers.take_number.Goals as goal

pub returns-clause-own : goal.returns-clause-own
returns-clause-own c =
    given_own c.args.work.now c.write_entry.new.work c.write_short.new.work c.args.space c.in_ok-leaf.leaf
    ((c.args.no.0 - 1) % 340) _ _ 34 _ c.in_ok-write_entry.ensures.answer.1
    c.in_ok-numbers.ensures.whole c.in_ok-leaf.ensures.page (omega arith) (inl refl) c.write_short.result c.write_short.ensures.answer
