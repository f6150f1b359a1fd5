use Rattle.std.proofs.Common.{◌<◌, refl, arith}
use Rattle.text_pages.specs.Keeping.{texts_own}
use Rattle.text_pages.specs.Taking.{piece_taken_in}
use Rattle.page_bytes.proofs.Answering.{answered}
use Rattle.page_bytes.proofs.Owning.{own_none, own_behind}
use Rattle.text_pages.proofs.TakeWalks.{taken_start, taken_next, taken_failed}
use Rattle.text_pages.proofs.Lighter.{taken_lighter}
use Rattle.text_pages.proofs.Ownings.{taken_own}
use Rattle.text_pages.proofs.taking.remove_text.Goals as goal

pub loop-at-init : goal.loop-at-init
loop-at-init c = record { taken = taken_start c.args.work.now c.args.space c.args.first; own = λ all. own_none texts_own all c.args.space c.args.work.now }

pub returns-in-Err-clause-answer : goal.returns-in-Err-clause-answer
returns-in-Err-clause-answer c =
    let some : 0 < c.loop-at.at.page = omega arith in
    taken_failed c.args.work.now c.args.space c.args.first c.loop-at.at c.loop-at.from c.loop-at.work c.in-Err.end c.take_piece.new.work
    c.loop-at.invariant.taken some c.in-Err.ensures.answer

pub loop-at-smaller : goal.loop-at-smaller
loop-at-smaller c =
    let some : 0 < c.loop-at.at.page = omega arith in
    taken_lighter c.loop-at.work c.args.space c.loop-at.from c.loop-at.at c.in-Ok.next c.take_piece.new.work some c.in-Ok.ensures.long_head
    c.in-Ok.ensures.long_page
    (answered (piece_taken_in c.loop-at.work c.args.space c.loop-at.from c.loop-at.at) c.in-Ok.next c.take_piece.new.work c.in-Ok.ensures.answer)

pub loop-at-preserved : goal.loop-at-preserved
loop-at-preserved c =
    let w = c.loop-at.work in let space = c.args.space in let at = c.loop-at.at in let new = c.take_piece.new.work in let some : 0 < at.page = omega arith in
    let is = answered (piece_taken_in w space c.loop-at.from at) c.in-Ok.next new c.in-Ok.ensures.answer in
    record {
      taken = taken_next c.args.work.now space c.args.first at c.loop-at.from w c.in-Ok.next new c.loop-at.invariant.taken some is;
      own = λ all. own_behind texts_own all space c.args.work.now w new 0 (c.loop-at.invariant.own all)
          (taken_own all space w at some c.in-Ok.ensures.long_head c.in-Ok.ensures.long_page c.loop-at.from c.in-Ok.next new is);
    }

pub returns-clause-answer : goal.returns-clause-answer
returns-clause-answer c = (c.loop-at.invariant.taken.0, (_, (c.loop-at.invariant.taken.1, omega arith, refl)))
