use Rattle.std.proofs.Common.{IsTrue, Option, Ok, sym, subst, ap, ◌∙◌}
use Rattle.page_bytes.specs.declared.ids.PageId.{PageId}
use Rattle.page_bytes.specs.declared.end.PageEnd.{PageEnd}
use Rattle.page_bytes.specs.Known.{is_there}
use Rattle.page_bytes.specs.Refusal.{fresh_refusal}
use Rattle.page_bytes.specs.Work.{Work, next_in}
use Rattle.indirection.specs.Writing.{with_kind, with_new}
use Rattle.page_bytes.specs.Answers.{unless, Answers}
use Rattle.page_bytes.proofs.PageWrites.{not_refused, fresh_there, there_with_fresh}
use Rattle.indirection.proofs.NewKinds.{with_new-is}
use Rattle.indirection.proofs.writing.new_page.Goals as goal

pub write_kind-requires : goal.write_kind-requires
write_kind-requires c =
    let none = not_refused (fresh_refusal c.args.work.now.now c.args.space) c.in_ok-id.id c.in_ok-id.ensures.refused in
    subst (λ (p : Work × PageId). IsTrue (is_there p.0.now p.1)) (λ i. (sym c.in_ok-id.ensures.ok i, sym c.in_ok-id.ensures.page i))
    (fresh_there c.args.work.now c.args.space none)

pub returns-clause-answer : goal.returns-clause-answer
returns-clause-answer c =
    let w = c.args.work.now in let space = c.args.space in
    let none = not_refused (fresh_refusal w.now space) c.in_ok-id.id c.in_ok-id.ensures.refused in
    subst (λ (r : Option PageEnd). Answers (unless r (next_in w space, with_new c.args.kind w space)) (Ok c.in_ok-id.id.number) c.write_kind.new.work)
    (sym none) (
      ap (λ (id : PageId). id.number) c.in_ok-id.ensures.page,
      c.in_ok-write_kind.ensures.answer.1 ∙ (λ i. with_kind c.args.kind (c.in_ok-id.ensures.ok i) (c.in_ok-id.ensures.page i))
          ∙ with_new-is c.args.kind w space none,
    )

pub returns-clause-kept : goal.returns-clause-kept
returns-clause-kept c id is =
    c.in_ok-write_kind.ensures.kept id
    (subst (λ (w : Work). IsTrue (is_there w.now id)) (sym c.in_ok-id.ensures.ok) (there_with_fresh c.args.work.now c.args.space id is))
