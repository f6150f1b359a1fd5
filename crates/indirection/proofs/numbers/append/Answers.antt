use Rattle.std.proofs.Common.{◌%◌, inr, refl, arith}
use Rattle.indirection.proofs.OwnPages.{given_kept}
use Rattle.page_bytes.proofs.Keeping.{kept_twice}
use Rattle.indirection.specs.Owned.{number_pages}
use Rattle.indirection.proofs.numbers.append.Goals as goal

pub returns-clause-own : goal.returns-clause-own
returns-clause-own c =
    (kept_twice number_pages c.args.work.now c.leaf_of_next.new.work c.write_short.new.work c.args.space 3 0 c.in_ok-leaf.ensures.kept
    (given_kept c.leaf_of_next.new.work c.write_entry.new.work c.write_short.new.work c.args.space c.in_ok-leaf.leaf
    (c.args.numbers.now.highest % 340) _ _ 38 _ c.in_ok-write_entry.ensures.answer.1
    c.in_ok-leaf.ensures.kept.head c.in_ok-leaf.ensures.page (omega arith) (inr refl) c.in_ok-write_short.ensures.answer.1)).kept
