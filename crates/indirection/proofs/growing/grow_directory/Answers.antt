use Rattle.std.proofs.Common.{ℕ}
use Rattle.page_bytes.specs.Work.{Work}
use Rattle.indirection.specs.Adding.{directory_for, leaf_for}
use Rattle.page_bytes.proofs.Answering.{went_on}
use Rattle.page_bytes.proofs.Keeping.{then_kept}
use Rattle.indirection.specs.Owned.{number_pages}
use Rattle.indirection.proofs.growing.grow_directory.Goals as goal

pub returns-clause-answer : goal.returns-clause-answer
returns-clause-answer c =
    let space = c.args.space in let root = c.args.root in let leaf = c.args.leaf in
    went_on (directory_for c.args.work.now space root leaf)
    (λ (directed : ℕ × Work). leaf_for directed.1 space root directed.0 leaf) c.in_ok-directory.directory c.directory_for_leaf.new.work
    c.new_leaf.result c.new_leaf.new.work c.in_ok-directory.ensures.answer c.new_leaf.ensures.answer

pub returns-clause-kept : goal.returns-clause-kept
returns-clause-kept c =
    then_kept number_pages c.args.work.now c.directory_for_leaf.new.work c.new_leaf.new.work c.args.space 1 1 c.new_leaf.result c.in_ok-directory.ensures.kept
    c.new_leaf.ensures.kept
