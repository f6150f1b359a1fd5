use Rattle.page_bytes.specs.Links.{page_in}
use Rattle.page_bytes.proofs.PageWrites.{there_with_page}
use Rattle.indirection.proofs.writing.write_entry.Goals as goal

pub returns-clause-kept : goal.returns-clause-kept
returns-clause-kept c id is = there_with_page c.args.work.now (page_in c.args.space c.args.leaf) id _ is
