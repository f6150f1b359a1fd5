use Rattle.std.proofs.Common.{sym, ap, ◌∙◌, arith}
use Rattle.flat_doc.specs.Pieces.{page_count}
use Rattle.flat_doc.specs.Reading.{pieces}
use Rattle.flat_doc.proofs.Looking.{stops, goes_on, text_refused, none_left}
use Rattle.flat_doc.proofs.pieces.text_length.Goals as goal

pub returns-in-Err-flat_page-clause-refused : goal.returns-in-Err-flat_page-clause-refused
returns-in-Err-flat_page-clause-refused g c =
    let k = g.P.Pages.known c.args.pages.now in let space = c.args.space in let first = c.in-Ok.first.now in
    text_refused k space first c.in-Err-flat_page.end (sym c.in-Ok.ensures.page)
    (ap (λ n. pieces k space 0 (page_count n)) (sym c.read_u64-length.ensures)
    ∙ stops k space (page_count c.read_u64-length.result) c.loop-left.number c.loop-left.left c.in-Err-flat_page.end c.loop-left.invariant (omega arith)
    (sym c.in-Err-flat_page.ensures.page))

pub loop-left-preserved : goal.loop-left-preserved
loop-left-preserved g c =
    goes_on (g.P.Pages.known c.args.pages.now) c.args.space (page_count c.read_u64-length.result) c.loop-left.number c.loop-left.left
    c.in-Ok-flat_page.field-0.now c.loop-left.invariant (omega arith) (sym c.in-Ok-flat_page.ensures.page) c.in-Ok-flat_page.ensures.long

pub returns-clause-length : goal.returns-clause-length
returns-clause-length g c =
    none_left (g.P.Pages.known c.args.pages.now) c.args.space c.in-Ok.first.now c.read_u64-length.result c.loop-left.number c.loop-left.left
    (sym c.in-Ok.ensures.page) (sym c.read_u64-length.ensures) c.loop-left.invariant (omega arith)
