use Rattle.std.proofs.Common.{sym}
use Rattle.page_bytes.proofs.Works.{nothing_absent}
use Rattle.page_bytes.proofs.pages.PageSetPages.absent.Goals as goal

pub returns : goal.returns
returns c = sym (nothing_absent c.args.self.now c.args._id)
