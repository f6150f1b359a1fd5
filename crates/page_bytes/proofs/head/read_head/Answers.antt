use Rattle.std.proofs.Common.{sym}
use Rattle.page_bytes.proofs.Keeping.{asked_head}
use Rattle.page_bytes.proofs.head.read_head.Goals as goal

pub returns-clause-whole : goal.returns-clause-whole
returns-clause-whole g c = asked_head (g.P.Pages.known c.args.pages.now) c.args.space _ (sym c.in_ok-head.ensures) c.tests_head.ensures.long
