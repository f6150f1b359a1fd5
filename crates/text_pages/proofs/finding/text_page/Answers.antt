use Rattle.std.proofs.Common.{sym}
use Rattle.page_bytes.proofs.Askings.{asked_long}
use Rattle.text_pages.proofs.finding.text_page.Goals as goal

pub returns-clause-long : goal.returns-clause-long
returns-clause-long g c = asked_long (g.P.Pages.known c.args.pages.now) _ _ _ (sym c.in_ok-page.ensures) c.tests_slots.ensures.long
