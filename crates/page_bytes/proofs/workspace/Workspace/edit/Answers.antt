use Rattle.std.proofs.Common.{◌≡◌, ℕ, List, Some, Ok, inl, inr, MutBor, sym, ap, ◌∙◌, subst, unwrap_or, is_some}
use Rattle.std.specs.FinMap as map
use Rattle.page_bytes.specs.Work.{Work, with_page, first_bytes}
use Rattle.page_bytes.specs.Inside.{work_of}
use Rattle.page_bytes.specs.Refusal.{RefusedBy, edit_refusal}
use Rattle.page_bytes.proofs.Works.{some_copied, work_of-draft, with_page-same, page-drafted, get-inserted, insert-inserted, there_is_known, first_bytes-there}
use Rattle.page_bytes.proofs.Refusals.{RefusedBy-ok, edit_allowed, edit_stopped, RefusedBy-stopped}
use Rattle.page_bytes.proofs.workspace.Workspace.edit.Goals as goal

pub returns-in-Ok : goal.returns-in-Ok
returns-in-Ok c =
    let i = c.self.inside in let id = c.args.id in let old = c.args.self.now in let draft = c.in-Ok.draft in
    let there : map.get old.now.pages id ≡ Some draft.now =
    sym (ap (λ (w : Work). map.get w.now.pages id) c.self.view_is)
    ∙ page-drafted i.below i.drafts i.gone i.whole id draft.now (c.lend.ensures.value ∙ ap Some (sym c.in-Ok.ensures.value)) in (
      (λ j. inl (draft.ghost_name, λ w. (work_of-draft i.below i.drafts i.gone i.whole id w ∙ ap (λ z. with_page z id w) c.self.view_is) j)),
      record {
        writes_back = tt;
        refused = edit_allowed old.now id draft (there_is_known old.now id draft.now there);
        first = first_bytes-there old.now id draft.now there;
      },
    )

pub returns-in-Err : goal.returns-in-Err
returns-in-Err c =
    let i = c.self.inside in let id = c.args.id in let old = c.args.self.now in let x = c.lend.result.now in
    let seen = page-drafted i.below i.drafts i.gone i.whole id x c.lend.ensures.value in
    let there : map.get old.now.pages id ≡ Some x = sym (ap (λ (w : Work). map.get w.now.pages id) c.self.view_is) ∙ seen in (
      (λ j. inr ((work_of-draft i.below i.drafts i.gone i.whole id x ∙ with_page-same (work_of i.below i.drafts i.gone i.whole) id x seen ∙ c.self.view_is) j)),
      record { writes_back = tt; refused = edit_stopped (MutBor (List ℕ)) old.now id (there_is_known old.now id x there); first = tt },
    )

pub returns-in-Ok-edit : goal.returns-in-Ok-edit
returns-in-Ok-edit c =
    let i = c.self.inside in let id = c.args.id in let page = c.in_ok-page.page in let d = c.of.result in let draft = c.in-Ok-edit.draft in
    let lent : Some c.lend-then-is_some.result.now ≡ Some d =
    sym c.lend-then-is_some.ensures.value ∙ ap (λ d. map.get d id) c.in_ok-insert.ensures.ok ∙ get-inserted i.drafts id d in (
      (λ j. inl (
        draft.ghost_name,
        λ w. (ap (λ d. work_of i.below (map.insert d id w) i.gone i.whole) c.in_ok-insert.ensures.ok
            ∙ ap (λ d. work_of i.below d i.gone i.whole) (insert-inserted i.drafts id d w)
            ∙ work_of-draft i.below i.drafts i.gone i.whole id w ∙ ap (λ z. with_page z id w) c.self.view_is) j,
      )),
      record {
        writes_back = tt;
        refused = RefusedBy-ok (edit_refusal c.args.self.now.now id) page draft
            (subst (λ (w : Work). RefusedBy {X = List ℕ} (edit_refusal w.now id) (Ok page)) c.self.view_is c.in_ok-page.ensures.refused);
        first = c.in-Ok-edit.ensures.value ∙ ap (λ o. unwrap_or o d) lent ∙ c.of.ensures ∙ c.in_ok-page.ensures.first
            ∙ ap (λ (w : Work). first_bytes w.now id) c.self.view_is;
      },
    )

pub returns-in-Err-edit : goal.returns-in-Err-edit
returns-in-Err-edit c =
    let i = c.self.inside in let id = c.args.id in let page = c.in_ok-page.page in let d = c.of.result in let x = c.lend-then-is_some.result.now in
    let all = work_of i.below i.drafts i.gone i.whole in
    let lent : Some x ≡ Some d = sym c.lend-then-is_some.ensures.value ∙ ap (λ d. map.get d id) c.in_ok-insert.ensures.ok ∙ get-inserted i.drafts id d in
    let there = some_copied c.page.result (sym c.is_some.ensures ∙ c.if-is_some.true) in
    let is : map.get all.now.pages id ≡ Some there.0 = sym c.page.ensures ∙ there.1 in
    let same : x ≡ there.0 = ap (λ o. unwrap_or o d) lent ∙ c.of.ensures ∙ c.in_ok-page.ensures.first ∙ sym (first_bytes-there all.now id there.0 is) in (
      (λ j. inr (
          (ap (λ d. work_of i.below (map.insert d id x) i.gone i.whole) c.in_ok-insert.ensures.ok
          ∙ ap (λ d. work_of i.below d i.gone i.whole) (insert-inserted i.drafts id d x)
          ∙ work_of-draft i.below i.drafts i.gone i.whole id x
          ∙ with_page-same all id x (is ∙ ap Some (sym same)) ∙ c.self.view_is) j
          )),
      record {
        writes_back = tt;
        refused = RefusedBy-stopped (MutBor (List ℕ)) (edit_refusal c.args.self.now.now id) page
            (subst (λ (w : Work). RefusedBy {X = List ℕ} (edit_refusal w.now id) (Ok page)) c.self.view_is c.in_ok-page.ensures.refused);
        first = tt;
      },
    )

pub lend-requires-then-is_some : goal.lend-requires-then-is_some
lend-requires-then-is_some c = ap (λ d. is_some (map.get d c.args.id)) c.in_ok-insert.ensures.ok ∙ ap is_some (get-inserted c.self.inside.drafts c.args.id c.of.result)

pub lend-requires-2 : goal.lend-requires-2
lend-requires-2 c =
    ap (λ d. is_some (map.get d c.args.id)) c.in_ok-insert-2.ensures.ok ∙ ap is_some (get-inserted c.settle.new.drafts c.args.id c.of-2.result)

pub returns : goal.returns
returns c =
    let i = c.self.inside in let id = c.args.id in let page = c.in_ok-page.page in let d = c.of-2.result in (
      (λ j. inl (
        c.renew.result.ghost_name,
        λ w. (ap (λ d. work_of i.below (map.insert d id w) i.gone i.whole) c.in_ok-insert-2.ensures.ok
            ∙ ap (λ d. work_of i.below d i.gone i.whole) (insert-inserted c.settle.new.drafts id d w)
            ∙ ap (λ d. work_of i.below (map.insert d id w) i.gone i.whole) c.settle.ensures
            ∙ work_of-draft i.below i.drafts i.gone i.whole id w ∙ ap (λ z. with_page z id w) c.self.view_is) j,
      )),
      record {
        writes_back = tt;
        refused = RefusedBy-ok (edit_refusal c.args.self.now.now id) page c.renew.result
            (subst (λ (w : Work). RefusedBy {X = List ℕ} (edit_refusal w.now id) (Ok page)) c.self.view_is c.in_ok-page.ensures.refused);
        first = c.renew.ensures.value ∙ c.in_ok-draft.ensures ∙ c.bytes.ensures ∙ c.in_ok-page.ensures.first ∙ ap (λ (w : Work). first_bytes w.now id) c.self.view_is;
      },
    )
