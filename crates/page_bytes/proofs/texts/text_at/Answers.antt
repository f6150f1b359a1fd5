use Rattle.std.proofs.Common.{◌<◌, List, inl, inr, sym, subst, arith}
use Rattle.page_bytes.proofs.TextWalks.{HasJoined, joined_start, joined_next, joined_refused, joined_back}
use Rattle.page_bytes.proofs.texts.text_at.Goals as goal

pub loop-at-init : goal.loop-at-init
loop-at-init g c =
    let k = g.P.Pages.known c.args.pages.now in let first = c.args.first in
    subst (λ (text : List _). HasJoined k c.args.space first first first.page text first) (sym c.new-text.ensures.items) (joined_start k c.args.space first)

pub returns-in-Err : goal.returns-in-Err
returns-in-Err g c =
    let some : 0 < c.loop-at.at.page = omega arith in
    inr (inl (joined_refused
    (g.P.Pages.known c.args.pages.now) c.args.space c.args.first c.loop-at.at c.loop-at.from c.loop-at.text.items c.loop-at.mark.at c.in-Err.end
    c.loop-at.invariant some (sym c.in-Err.ensures.page)))

pub returns-then-is_same : goal.returns-then-is_same
returns-then-is_same g c =
    let some : 0 < c.loop-at.at.page = omega arith in let more : 0 < c.reference_behind-at.result.page = omega arith in
    inr (inr (joined_back (g.P.Pages.known c.args.pages.now) c.args.space c.args.first c.loop-at.at c.loop-at.from c.loop-at.text.items c.loop-at.mark.at
    c.in-Ok.page.now c.reference_behind-at.result c.loop-at.invariant some
    (sym c.in-Ok.ensures.page) c.reference_behind-at.ensures more (c.is_same.ensures c.if-is_same.true)))

pub loop-at-preserved : goal.loop-at-preserved
loop-at-preserved g c =
    let some : 0 < c.loop-at.at.page = omega arith in
    joined_next (g.P.Pages.known c.args.pages.now) c.args.space c.args.first c.loop-at.at c.loop-at.from c.loop-at.text.items c.loop-at.mark.at c.in-Ok.page.now
    c.reference_behind-at.result c.add_piece.new.text.items c.moved_mark-mark.result.at
    c.loop-at.invariant some (sym c.in-Ok.ensures.page) c.reference_behind-at.ensures c.in_ok-add_piece.ensures.ok c.moved_mark-mark.ensures
