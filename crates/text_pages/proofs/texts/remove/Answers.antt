use Rattle.text_pages.proofs.TakeTexts.{remove_means}
use Rattle.text_pages.proofs.texts.remove.Goals as goal

pub returns-clause-meaning : goal.returns-clause-meaning
returns-clause-meaning c all texts means there =
    remove_means c.args.work.now all c.args.space texts c.args.at means there c.remove_text.result c.remove_text.new.work c.remove_text.ensures.answer
