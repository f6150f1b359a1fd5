use Rattle.std.proofs.Common.{◌-◌, ◌%◌, inl, refl, arith}
use Rattle.indirection.proofs.OwnPages.{given_kept}
use Rattle.indirection.proofs.numbers.reuse.Goals as goal

pub returns-clause-own : goal.returns-clause-own
returns-clause-own c =
    (given_kept c.args.work.now c.write_entry.new.work c.write_short.new.work c.args.space c.in_ok-leaf.leaf.number
    ((c.args.numbers.now.first_free - 1) % 340) _ _ 34 _ c.in_ok-write_entry.ensures.answer.1
    c.requires.head c.in_ok-leaf.ensures.page (omega arith) (inl refl) c.in_ok-write_short.ensures.answer.1).kept
