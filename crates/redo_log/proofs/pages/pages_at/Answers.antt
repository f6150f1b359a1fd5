use Rattle.std.proofs.Common.{◌≡◌, ◌-◌, ◌+◌, sym, ap, ◌∙◌, subst, arith, List, Ok}
use Rattle.std.proofs.lemmas.Result.{err_from_is_err_and}
use Rattle.redo_log.specs.Gives.{Fails}
use Rattle.redo_log.specs.Reading.{page_at, pages_at}
use Rattle.page_bytes.specs.declared.lists.PageChange.{PageChange}
use Rattle.redo_log.proofs.Loops.{page_more, page_fails, pages_end}
use Rattle.redo_log.proofs.pages.pages_at.Goals as goal

pub returns-in_err-page-clause-gives : goal.returns-in_err-page-clause-gives
returns-in_err-page-clause-gives c =
    let p = err_from_is_err_and c.from_residual.result c.from_residual.ensures.1 in
    rw (p.1, p.2) (subst (Fails c.in_err-page.field-0.0) c.loop.invariant.so_far
    (page_fails c.args.count c.loop.counter c.loop.pages.items c.args.store.now c.loop.rest.now c.in_err-page.field-0.0 c.loop-test.true
    (subst (λ (done : List PageChange). Fails c.in_err-page.field-0.0 (page_at done c.args.store.now c.loop.rest.now)) c.as_slice.ensures.value
    c.in_err-page.ensures.gives)))

pub loop-preserved : goal.loop-preserved
loop-preserved c = record {
  so_far = ap (λ done. pages_at (c.args.count - (c.loop.counter + 1)) done c.args.store.now c.in_ok-page.behind.now) c.in_ok-push.ensures.items
      ∙ (sym (page_more c.args.count c.loop.counter c.loop.pages.items c.args.store.now c.loop.rest.now c.in_ok-page.page c.in_ok-page.behind.now
      c.loop-test.true
      (subst (λ (done : List PageChange). page_at done c.args.store.now c.loop.rest.now
      ≡ Ok (c.in_ok-page.page, c.in_ok-page.behind.now)) c.as_slice.ensures.value c.in_ok-page.ensures.gives)) ∙ c.loop.invariant.so_far);
  shorter = omega (arith, c.loop.invariant.shorter, c.in_ok-page.ensures.shorter);
}

pub returns-clause-gives : goal.returns-clause-gives
returns-clause-gives c = sym c.loop.invariant.so_far
    ∙ pages_end c.args.count c.loop.counter c.loop.pages.items c.args.store.now c.loop.rest.now c.loop-test.false
