use Rattle.indirection.proofs.OwnPages.{made_child}
use Rattle.indirection.proofs.writing.make_child.Goals as goal

pub returns-clause-kept : goal.returns-clause-kept
returns-clause-kept c =
    (made_child c.args.work.now c.new_page.new.work c.write_long.new.work c.args.space c.args.kind c.args.parent c.args.at c.in_ok-number.number
    c.in_ok-number.ensures.answer c.in_ok-write_long.ensures.answer.1
    c.in_ok-write_long.ensures.fits c.requires.head c.requires.kind c.requires.link c.requires.place).0

pub returns-clause-page : goal.returns-clause-page
returns-clause-page c =
    (made_child c.args.work.now c.new_page.new.work c.write_long.new.work c.args.space c.args.kind c.args.parent c.args.at c.in_ok-number.number
    c.in_ok-number.ensures.answer c.in_ok-write_long.ensures.answer.1
    c.in_ok-write_long.ensures.fits c.requires.head c.requires.kind c.requires.link c.requires.place).1
