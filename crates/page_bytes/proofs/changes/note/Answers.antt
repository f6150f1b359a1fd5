use Rattle.std.proofs.Common.{◌≡◌, ◌≢◌, Some, None, true, false, not, ◌&&◌, sym, ap, ◌∙◌, subst, unwrap_or, true≢false, nat_eq, cond}
use Rattle.std.specs.Cmp.Lexicographic.{pointwise}
use Rattle.std.specs.FinMap as map
use Rattle.std.proofs.lemmas.Cmp.{nat_list_eq_equiv}
use Rattle.std.proofs.lemmas.Result.{on_ok_weaker}
use Rattle.page_bytes.specs.Inside.{stays, now_of, Notes, AreLong}
use Rattle.page_bytes.proofs.Listing.{Notes-inserted, AreLong-inserted, some_none}
use Rattle.page_bytes.proofs.changes.note.Goals as goal

pub returns-in-Some-clause-notes : goal.returns-in-Some-clause-notes
returns-in-Some-clause-notes c =
    let id = c.args.id in let page = c.args.page in let left = c.args.left.now in let draft = c.in-Some.draft in
    let now = now_of left.gone left.whole id c.args.draft (Some page) in
    let is : now ≡ Some draft = ap (λ o. now_of left.gone left.whole id o (Some page)) c.in-Some.is in
    let differs : Some page ≢ now = λ same.
    let equal : page ≡ draft = ap (λ o. unwrap_or o page) (same ∙ is) in
    true≢false (sym (c.if-eq.ensures ∙ ap (pointwise nat_eq c.bytes.result.now) (c.bytes-in-Some.ensures ∙ equal ∙ sym c.bytes.ensures)
    ∙ nat_list_eq_equiv.refl c.bytes.result.now)) in
    on_ok_weaker c.insert.result
    (λ put. subst (Notes c.args.changes.now id (Some page) now) (sym put)
    (Notes-inserted c.args.changes.now id (Some page) now (Some c.in_ok-page.page) (ap Some c.in_ok-page.ensures.bytes ∙ sym is) differs))
    c.insert.ensures.ok

pub returns-then-has-clause-notes : goal.returns-then-has-clause-notes
returns-then-has-clause-notes c =
    let id = c.args.id in let page = c.args.page in let left = c.args.left.now in
    let now = now_of left.gone left.whole id c.args.draft (Some page) in
    let out : stays left.gone left.whole id ≡ false = ap (λ b. not b && not (map.contains_key left.gone id)) (sym c.has.ensures ∙ c.if-has.true) in
    let is : now ≡ None = ap (λ o. now_of left.gone left.whole id o (Some page)) c.in_default.is ∙ ap (λ s. cond s (Some page) None) out in
    on_ok_weaker c.insert-then-has.result
    (λ put. subst (Notes c.args.changes.now id (Some page) now) (sym put)
    (Notes-inserted c.args.changes.now id (Some page) now None (sym is) (λ same. some_none page (same ∙ is))))
    c.insert-then-has.ensures.ok

pub returns-then-has-2-clause-notes : goal.returns-then-has-2-clause-notes
returns-then-has-2-clause-notes c =
    let id = c.args.id in let page = c.args.page in let left = c.args.left.now in
    let now = now_of left.gone left.whole id c.args.draft (Some page) in
    let whole : map.contains_key left.whole id.space ≡ false = sym c.has.ensures ∙ c.if-has.false in
    let gone : map.contains_key left.gone id ≡ true = sym c.has-2.ensures ∙ c.if-has-2.true in
    let out : stays left.gone left.whole id ≡ false = λ j. not (whole j) && not (gone j) in
    let is : now ≡ None = ap (λ o. now_of left.gone left.whole id o (Some page)) c.in_default.is ∙ ap (λ s. cond s (Some page) None) out in
    on_ok_weaker c.insert-then-has-2.result
    (λ put. subst (Notes c.args.changes.now id (Some page) now) (sym put)
    (Notes-inserted c.args.changes.now id (Some page) now None (sym is) (λ same. some_none page (same ∙ is))))
    c.insert-then-has-2.ensures.ok

pub returns-in-Some-clause-long : goal.returns-in-Some-clause-long
returns-in-Some-clause-long c = λ all.
    on_ok_weaker c.insert.result
    (λ put. subst AreLong (sym put) (AreLong-inserted c.args.changes.now c.args.id (Some c.in_ok-page.page) c.in_ok-page.ensures.long all))
    c.insert.ensures.ok

pub returns-then-has-clause-long : goal.returns-then-has-clause-long
returns-then-has-clause-long c = λ all.
    on_ok_weaker c.insert-then-has.result
    (λ put. subst AreLong (sym put) (AreLong-inserted c.args.changes.now c.args.id None tt all))
    c.insert-then-has.ensures.ok

pub returns-then-has-2-clause-long : goal.returns-then-has-2-clause-long
returns-then-has-2-clause-long c = λ all.
    on_ok_weaker c.insert-then-has-2.result
    (λ put. subst AreLong (sym put) (AreLong-inserted c.args.changes.now c.args.id None tt all))
    c.insert-then-has-2.ensures.ok
