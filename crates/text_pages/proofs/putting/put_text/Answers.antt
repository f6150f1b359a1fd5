use Rattle.std.proofs.Common.{◌+◌, ◌-◌, length, Ok, Err, refl, ap, sym, subst, ◌∙◌, arith}
use Rattle.page_bytes.specs.Links.{and_then}
use Rattle.page_bytes.specs.Work.{Work}
use Rattle.page_bytes.specs.declared.texts.TextRef.{TextRef}
use Rattle.text_pages.specs.Keeping.{texts_own}
use Rattle.text_pages.specs.Putting.{piece_count, piece_of, piece_put_in, pieces_put_in}
use Rattle.page_bytes.specs.Answers.{Answers}
use Rattle.page_bytes.proofs.Answering.{refused, answered}
use Rattle.page_bytes.proofs.Owning.{own_none, own_more, own_twice}
use Rattle.text_pages.proofs.Ownings.{put_own}
use Rattle.text_pages.proofs.PutTexts.{piece_short}
use Rattle.text_pages.proofs.PutWalks.{put_step}
use Rattle.text_pages.proofs.putting.put_text.Goals as goal

pub loop-left-init : goal.loop-left-init
loop-left-init c = record {
  put = refl;
  own = λ all. own_more texts_own all c.args.space _ _ 0 _ (omega arith) (own_none texts_own all c.args.space c.args.work.now);
  within = omega arith;
}

pub returns-in-Err-clause-answer : goal.returns-in-Err-clause-answer
returns-in-Err-clause-answer c =
    let w = c.loop-left.work in let space = c.args.space in let bytes = c.args.bytes.now in let left = c.loop-left.left in
    subst (λ s. Answers s (Err c.in-Err.end) c.put_piece.new.work) (sym (put_step left w space c.loop-left.next bytes (omega arith))
    ∙ c.loop-left.invariant.put)
    (refused (piece_put_in w space c.loop-left.next (piece_of (left - 1) bytes))
    (λ (put : TextRef × Work). pieces_put_in (left - 1) put.1 space put.0 bytes) c.in-Err.end c.put_piece.new.work c.put_piece.new.work
    (subst (λ p. Answers (piece_put_in w space c.loop-left.next p) (Err c.in-Err.end) c.put_piece.new.work) c.piece.ensures.bytes c.in-Err.ensures.answer))

pub loop-left-preserved : goal.loop-left-preserved
loop-left-preserved c =
    let w = c.loop-left.work in let space = c.args.space in let bytes = c.args.bytes.now in let left = c.loop-left.left in
    let text = piece_of (left - 1) bytes in let new = c.put_piece.new.work in let more = piece_count bytes - left in
    let is = answered (piece_put_in w space c.loop-left.next text) c.in-Ok.put new
    (subst (λ p. Answers (piece_put_in w space c.loop-left.next p) (Ok c.in-Ok.put) new) c.piece.ensures.bytes c.in-Ok.ensures.answer) in
    record {
      put = sym (put_step left w space c.loop-left.next bytes (omega arith)
          ∙ ap (λ r. and_then r (λ (put : TextRef × Work). pieces_put_in (left - 1) put.1 space put.0 bytes)) is) ∙ c.loop-left.invariant.put;
      own = λ all.
          let put = put_own all space w c.loop-left.next text
          (piece_short (left - 1) bytes) c.in-Ok.ensures.long_head c.in-Ok.put c.in-Ok.ensures.number new c.in-Ok.ensures.long_first is in
          own_more texts_own all space _ new (more + 1) (piece_count bytes - (left - 1)) (omega arith)
          (own_twice texts_own all space _ w new more 1 (c.loop-left.invariant.own all) put.0 put.1);
      within = omega arith;
    }

pub returns-clause-own : goal.returns-clause-own
returns-clause-own c all = own_more texts_own all c.args.space _ _ _ (length c.args.bytes.now) (omega arith) (c.loop-left.invariant.own all)
