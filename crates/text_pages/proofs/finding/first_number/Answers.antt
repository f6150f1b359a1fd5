use Rattle.text_pages.proofs.finding.first_number.Goals as goal

pub returns-clause-long : goal.returns-clause-long
returns-clause-long g c = c.in_ok-head.ensures.whole.long
