use Rattle.std.proofs.Common.{◌≡◌, ◌+◌, Some, Result, Ok, Err, OnErr, sym, ap, ◌∙◌, is_some}
use Rattle.std.specs.FinMap as map
use Rattle.page_bytes.specs.declared.ids.PageId.{PageId}
use Rattle.page_bytes.specs.Head.{head_of, next_page, with_next_page}
use Rattle.page_bytes.specs.Work.{Work, zeros, with_fresh}
use Rattle.page_bytes.specs.Inside.{pages_of, work_of}
use Rattle.page_bytes.proofs.Works.{some, there_kept, get-inserted, get-beside, head_apart, work_of-draft, with_page-same, work_of-fresh, first_bytes-there}
use Rattle.page_bytes.specs.Refusal.{fresh_refusal}
use Rattle.page_bytes.proofs.Refusals.{RefusedBy-ok, RefusedBy-handed}
use Rattle.page_bytes.proofs.workspace.Workspace.fresh.Goals as goal

-- what holds, holds after an error
on_err : {T E P : Type 0} (r : Result T E) → P → OnErr r P
on_err (Ok x) p = tt
on_err (Err e) p = p

pub own-requires : goal.own-requires
own-requires c =
    let i = c.self.inside in let head = head_of c.args.space in let there = some (map.get c.args.self.now.now.pages head) c.in_ok-number.ensures.there in
    ap is_some (there_kept i.below i.drafts i.gone i.whole head there.0 (ap (λ (w : Work). map.get w.now.pages head) c.self.view_is ∙ there.1))

pub returns-in_err-insert-clause-err : goal.returns-in_err-insert-clause-err
returns-in_err-insert-clause-err c =
    let i = c.self.inside in let head = head_of c.args.space in let there = some (map.get c.args.self.now.now.pages head) c.in_ok-number.ensures.there in
    let seen : map.get (pages_of i.below i.drafts i.gone i.whole) head ≡ Some there.0 = ap (λ (w : Work). map.get w.now.pages head) c.self.view_is ∙ there.1 in
    let own = c.in_ok-own.ensures.ok in
    let bytes : map.get (pages_of i.below i.drafts i.gone i.whole) head ≡ Some own.0 = seen ∙ sym (there_kept i.below i.drafts i.gone i.whole head there.0 seen)
    ∙ own.1 in
    on_err c.from_residual-in_err-insert.result
    (ap (λ d. work_of i.below d i.gone i.whole) (c.in_err-insert.ensures.err ∙ own.2) ∙ work_of-draft i.below i.drafts i.gone i.whole head own.0
    ∙ with_page-same (work_of i.below i.drafts i.gone i.whole) head own.0 bytes ∙ c.self.view_is)

pub lend-requires : goal.lend-requires
lend-requires c =
    let head = head_of c.args.space in let id : PageId = record { space = c.args.space; number = c.in_ok-number.number } in let own = c.in_ok-own.ensures.ok in
    ap is_some (ap (λ d. map.get d head) (c.in_ok-insert.ensures.ok ∙ ap (λ d. map.insert d id c.of.result) own.2)
    ∙ get-beside (map.insert c.self.inside.drafts head own.0) id head c.of.result
    (head_apart c.args.space c.in_ok-number.number c.in_ok-number.ensures.positive)
    ∙ get-inserted c.self.inside.drafts head own.0)

pub returns-clause-ok : goal.returns-clause-ok
returns-clause-ok c =
    let i = c.self.inside in let space = c.args.space in let head = head_of space in let n = c.in_ok-number.number in let id : PageId =
    record { space = space; number = n } in
    let there = some (map.get c.args.self.now.now.pages head) c.in_ok-number.ensures.there in
    let seen : map.get (pages_of i.below i.drafts i.gone i.whole) head ≡ Some there.0 = ap (λ (w : Work). map.get w.now.pages head) c.self.view_is ∙ there.1 in
    let own = c.in_ok-own.ensures.ok in
    let bytes : map.get (pages_of i.below i.drafts i.gone i.whole) head ≡ Some own.0 = seen ∙ sym (there_kept i.below i.drafts i.gone i.whole head there.0 seen)
    ∙ own.1 in
    let drafts : c.insert.new.self ≡ map.insert (map.insert i.drafts head own.0) id zeros = c.in_ok-insert.ensures.ok
    ∙ (λ j. map.insert (own.2 j) id ((c.of.ensures ∙ c.in_ok-page.ensures.bytes) j)) in
    let written : c.of-2.result ≡ with_next_page own.0 (n + 1) = c.of-2.ensures ∙ c.in_ok-raised.ensures
    ∙ ap (λ x. with_next_page x (n + 1)) (sym (first_bytes-there c.args.self.now.now head own.0 (sym (ap (λ (w : Work). map.get w.now.pages head) c.self.view_is) ∙ bytes))) in
    let number : n ≡ next_page own.0 = c.in_ok-number.ensures.number
    ∙ ap next_page (sym (first_bytes-there c.args.self.now.now head own.0 (sym (ap (λ (w : Work). map.get w.now.pages head) c.self.view_is) ∙ bytes))) in
    (λ j. work_of i.below (map.insert (drafts j) head (written j)) i.gone i.whole)
    ∙ work_of-fresh i.below i.drafts i.gone i.whole space n own.0 bytes number
    ∙ ap (λ w. with_fresh w space) c.self.view_is

pub returns-in_err-own-clause-refused : goal.returns-in_err-own-clause-refused
returns-in_err-own-clause-refused c =
    RefusedBy-handed (fresh_refusal c.args.self.now.now c.args.space) c.in_ok-number.number c.from_residual-in_err-own.result
    c.in_ok-number.ensures.refused c.from_residual-in_err-own.ensures.1

pub returns-in_err-insert-clause-refused : goal.returns-in_err-insert-clause-refused
returns-in_err-insert-clause-refused c =
    RefusedBy-handed (fresh_refusal c.args.self.now.now c.args.space) c.in_ok-number.number c.from_residual-in_err-insert.result
    c.in_ok-number.ensures.refused c.from_residual-in_err-insert.ensures.1

pub returns-clause-refused : goal.returns-clause-refused
returns-clause-refused c =
    let id : PageId = record { space = c.args.space; number = c.in_ok-number.number } in
    RefusedBy-ok (fresh_refusal c.args.self.now.now c.args.space) c.in_ok-number.number id c.in_ok-number.ensures.refused
