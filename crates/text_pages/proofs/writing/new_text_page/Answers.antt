use Rattle.std.proofs.Common.{IsTrue, Option, Ok, sym, subst, ap, ◌∙◌, [], ◌∷◌}
use Rattle.page_bytes.specs.declared.ids.PageId.{PageId}
use Rattle.page_bytes.specs.declared.end.PageEnd.{PageEnd}
use Rattle.page_bytes.specs.Fields.{with_bytes}
use Rattle.page_bytes.specs.Head.{head_of}
use Rattle.page_bytes.specs.Known.{is_there}
use Rattle.page_bytes.specs.Refusal.{fresh_refusal}
use Rattle.page_bytes.specs.Work.{Work, with_page, first_bytes, with_fresh, next_in}
use Rattle.text_pages.specs.Slots.{with_piece, only_place}
use Rattle.text_pages.specs.Putting.{with_new_page}
use Rattle.page_bytes.specs.Answers.{Answers, unless}
use Rattle.page_bytes.proofs.PageWrites.{not_refused, fresh_there, written_there, there_with_page}
use Rattle.text_pages.proofs.NewPages.{with_new_page-is}
use Rattle.text_pages.proofs.writing.new_text_page.Goals as goal

pub write_only_piece-requires-clause-there : goal.write_only_piece-requires-clause-there
write_only_piece-requires-clause-there c =
    let none = not_refused (fresh_refusal c.args.work.now.now c.args.space) c.in_ok-id.id c.in_ok-id.ensures.refused in
    subst (λ (p : Work × PageId). IsTrue (is_there p.0.now p.1)) (λ i. (sym c.in_ok-id.ensures.ok i, sym c.in_ok-id.ensures.page i))
    (fresh_there c.args.work.now c.args.space none)

pub returns-clause-answer : goal.returns-clause-answer
returns-clause-answer c =
    let w = c.args.work.now in let space = c.args.space in let text = c.args.text.now in
    let none = not_refused (fresh_refusal w.now space) c.in_ok-id.id c.in_ok-id.ensures.refused in
    subst (λ (r : Option PageEnd). Answers (unless r (next_in w space, with_new_page w space c.args.next text))
    (Ok c.in_ok-id.id.number) c.write_only_piece.new.work) (sym none) (
      ap (λ (id : PageId). id.number) c.in_ok-id.ensures.page,
      c.in_ok-write_only_piece.ensures.1
          ∙ (λ i. with_page (c.in_ok-id.ensures.ok i) (c.in_ok-id.ensures.page i)
          (with_piece (only_place text) c.args.next text (with_bytes (first_bytes (c.in_ok-id.ensures.ok i).now (c.in_ok-id.ensures.page i)) 0 (5 ∷ []))))
          ∙ with_new_page-is w space c.args.next text none,
    )

pub returns-clause-head : goal.returns-clause-head
returns-clause-head c =
    let w = c.args.work.now in let space = c.args.space in
    let head : IsTrue (is_there (with_fresh w space).now (head_of space)) = written_there (with_page w _ _) (head_of space) _ in
    subst (λ (w : Work). IsTrue (is_there w.now (head_of space))) (sym c.in_ok-write_only_piece.ensures.1)
    (there_with_page c.fresh.new.self c.in_ok-id.id (head_of space) _
    (subst (λ (w : Work). IsTrue (is_there w.now (head_of space))) (sym c.in_ok-id.ensures.ok) head))
