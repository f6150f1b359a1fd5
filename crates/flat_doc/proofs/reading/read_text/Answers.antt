use Rattle.std.proofs.Common.{◌++◌, Err, sym, ◌∙◌, subst, arith}
use Rattle.page_bytes.specs.Fields.{bytes_at}
use Rattle.flat_doc.specs.Lines.{IsRead, Reads, GivesDoc}
use Rattle.flat_doc.proofs.UpTo.{none_up_to, never_refused, page_read, page_refused, all_up_to, next_fits, goes_down}
use Rattle.flat_doc.proofs.reading.read_text.Goals as goal

pub loop-left-init : goal.loop-left-init
loop-left-init g c =
    record {
      space = c.new-lines.ensures.space;
      up_to = none_up_to (g.P.Pages.known c.args.pages.now) c.args.space c.args.length c.new-lines.result.reader c.new-lines.result.line.items c.requires
          (omega (arith, c.ranges.length.fits)) c.new-lines.ensures.read;
    }

pub returns-in-Err : goal.returns-in-Err
returns-in-Err g c =
    absurd (never_refused (g.P.Pages.known c.args.pages.now) c.args.space c.loop-left.number c.loop-left.at c.loop-left.left c.loop-left.lines.reader
    c.loop-left.lines.line.items c.in-Err.end c.loop-left.invariant.up_to c.loop-left-test.true (sym c.in-Err.ensures.page))

pub returns-in-Err-read : goal.returns-in-Err-read
returns-in-Err-read g c =
    let l = c.loop-left in let up = l.invariant.up_to in let n = c.min-count.result in let page = c.in-Ok.page.now in
    let new = c.read.new.self.reader in let new_line = c.read.new.self.line.items in
    page_refused (g.P.Pages.known c.args.pages.now) c.args.space l.number l.at l.left n l.lines.reader new l.lines.line.items new_line page c.in-Err-read.end up
    c.loop-left-test.true (sym c.in-Ok.ensures.page) c.in-Ok.ensures.long c.min-count.ensures
    (subst (λ s. Reads {T = Unit {0}} s (up.text ++ bytes_at l.at n page) (Err c.in-Err-read.end) new new_line) l.invariant.space
    (subst (λ b. Reads {T = Unit {0}} l.lines.space (up.text ++ b) (Err c.in-Err-read.end) new new_line) c.read_bytes.ensures
    (c.in-Err-read.ensures.read up.text up.is_read)))

pub overflow_add-number : goal.overflow_add-number
overflow_add-number g c =
    let l = c.loop-left in
    let fits = next_fits (g.P.Pages.known c.args.pages.now) c.args.space l.number l.at l.left l.lines.reader l.lines.line.items l.invariant.up_to
    c.loop-left-test.true in
    omega (arith, fits)

pub loop-left-smaller : goal.loop-left-smaller
loop-left-smaller g c =
    let l = c.loop-left in
    goes_down (g.P.Pages.known c.args.pages.now) c.args.space l.number l.at l.left c.min-count.result l.lines.reader l.lines.line.items l.invariant.up_to
    c.loop-left-test.true c.min-count.ensures

pub loop-left-preserved : goal.loop-left-preserved
loop-left-preserved g c =
    let l = c.loop-left in let up = l.invariant.up_to in let n = c.min-count.result in let page = c.in-Ok.page.now in
    let new = c.read.new.self.reader in let new_line = c.read.new.self.line.items in
    record {
      space = c.in-Ok-read.ensures.space ∙ l.invariant.space;
      up_to = page_read (g.P.Pages.known c.args.pages.now) c.args.space l.number l.at l.left n l.lines.reader new l.lines.line.items new_line page up
          c.loop-left-test.true (sym c.in-Ok.ensures.page) c.in-Ok.ensures.long c.min-count.ensures
          (subst (λ b. IsRead (up.text ++ b) new new_line) c.read_bytes.ensures (c.in-Ok-read.ensures.read up.text up.is_read));
    }

pub returns : goal.returns
returns g c =
    let l = c.loop-left in let up = l.invariant.up_to in
    all_up_to (g.P.Pages.known c.args.pages.now) c.args.space l.number l.at l.left l.lines.reader l.lines.line.items up (omega (arith, c.loop-left-test.false))
    c.end.result (subst (λ s. GivesDoc s up.text c.end.result) l.invariant.space (c.end.ensures up.text up.is_read))
