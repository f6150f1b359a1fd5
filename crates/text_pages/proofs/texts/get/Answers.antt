use Rattle.text_pages.proofs.GetTexts.{get_means}
use Rattle.text_pages.proofs.texts.get.Goals as goal

pub returns-clause-meaning : goal.returns-clause-meaning
returns-clause-meaning g c all texts text means there =
    get_means (g.P.Pages.known c.args.pages.now) all c.args.space texts c.args.at text means there c.read_text.result c.read_text.ensures.text
