use Rattle.std.proofs.Common.{length, Option, List, ℕ}
use Rattle.page_bytes.specs.declared.ids.PageId.{PageId}
use Rattle.text_pages.specs.Keeping.{texts_own}
use Rattle.page_bytes.proofs.Owning.{own_behind}
use Rattle.page_bytes.proofs.Askings.{on_ok}
use Rattle.text_pages.proofs.TakeWalks.{replaced}
use Rattle.text_pages.proofs.replacing.replace_text.Goals as goal

pub returns-clause-pages : goal.returns-clause-pages
returns-clause-pages c =
    replaced c.args.work.now c.args.space c.args.at c.args.bytes.now c.in_ok-remove_text.field-0 c.remove_text.new.work c.put_text.result c.put_text.new.work
    c.in_ok-remove_text.ensures.answer c.put_text.ensures.answer

pub returns-clause-own : goal.returns-clause-own
returns-clause-own c =
    let old = c.args.work.now in let gone = c.remove_text.new.work in let new = c.put_text.new.work in let space = c.args.space in let most =
    length c.args.bytes.now in
    on_ok c.put_text.result (λ put (all : PageId → Option (List ℕ)). own_behind texts_own all space old gone new most (c.in_ok-remove_text.ensures.own all)
    (put all)) c.put_text.ensures.own
