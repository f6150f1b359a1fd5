use Rattle.page_bytes.proofs.PageWrites.{there_with_page}
use Rattle.indirection.proofs.writing.write_kind.Goals as goal

pub returns-clause-kept : goal.returns-clause-kept
returns-clause-kept c id is = there_with_page c.args.work.now c.args.id id _ is
