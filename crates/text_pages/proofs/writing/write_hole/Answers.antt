use Rattle.page_bytes.specs.Links.{page_in}
use Rattle.page_bytes.proofs.PageWrites.{there_with_page}
use Rattle.text_pages.proofs.writing.write_hole.Goals as goal

pub returns-clause-kept : goal.returns-clause-kept
returns-clause-kept c id is = there_with_page c.args.work.now (page_in c.args.space c.args.number) id _ is
