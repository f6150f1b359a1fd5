use Rattle.text_pages.proofs.PutTexts.{put_means}
use Rattle.text_pages.proofs.texts.put.Goals as goal

pub returns-clause-meaning : goal.returns-clause-meaning
returns-clause-meaning c all texts means =
    put_means c.args.work.now all c.args.space texts c.args.bytes.now means c.put_text.result c.put_text.new.work c.put_text.ensures.answer
