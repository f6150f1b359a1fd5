use Rattle.page_bytes.proofs.Keeping.{then_kept}
use Rattle.indirection.specs.Owned.{number_pages}
use Rattle.indirection.proofs.growing.grow.Goals as goal

pub returns-clause-kept : goal.returns-clause-kept
returns-clause-kept c =
    then_kept number_pages c.args.work.now c.root_for_leaf.new.work c.grow_directory.new.work c.args.space 1 2 c.grow_directory.result c.in_ok-root.ensures.kept
    c.grow_directory.ensures.kept
