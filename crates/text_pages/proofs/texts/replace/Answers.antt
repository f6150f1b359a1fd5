use Rattle.text_pages.proofs.TakeTexts.{replace_means}
use Rattle.text_pages.proofs.texts.replace.Goals as goal

pub returns-clause-meaning : goal.returns-clause-meaning
returns-clause-meaning c all texts means there =
    replace_means c.args.work.now all c.args.space texts c.args.at means there c.args.bytes.now c.replace_text.result c.replace_text.new.work
    c.replace_text.ensures.pages
