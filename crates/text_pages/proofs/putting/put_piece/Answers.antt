use Rattle.std.proofs.Common.{ℕ, ◌<◌, Result, IfOk, subst}
use Rattle.page_bytes.specs.declared.end.PageEnd.{PageEnd}
use Rattle.page_bytes.specs.Links.{page_in}
use Rattle.text_pages.specs.Inside.{IsLong}
use Rattle.page_bytes.proofs.Askings.{on_any}
use Rattle.text_pages.proofs.putting.put_piece.Goals as goal

pub returns-clause-long_first : goal.returns-clause-long_first
returns-clause-long_first c =
    on_any c.put_where_tried.result
    (subst (λ (r : Result ℕ PageEnd). IfOk r (λ number. 0 < number → IsLong c.args.work.now.now (page_in c.args.space number))) c.in_ok-number.ensures.first
    c.in_ok-tried.ensures.long)
