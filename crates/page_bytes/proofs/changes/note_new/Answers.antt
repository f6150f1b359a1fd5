use Rattle.std.proofs.Common.{List, ℕ, Option, Some, sym, ap, ◌∙◌, subst}
use Rattle.std.specs.FinMap as map
use Rattle.page_bytes.specs.Order.{page_cmp}
use Rattle.page_bytes.specs.Known.{PageMap}
use Rattle.page_bytes.specs.Inside.{AreLong, IsListed}
use Rattle.page_bytes.proofs.Listing.{AreLong-inserted, IsListed-new}
use Rattle.page_bytes.proofs.changes.note_new.Goals as goal

pub loop-id-preserved : goal.loop-id-preserved
loop-id-preserved c =
    let at = c.loop-id.left in let known = c.loop-id.invariant in let id = c.in-Some.id in let draft = c.in-Some.draft in
    let put = c.in_ok-insert.ensures.ok ∙ ap (λ page. map.insert c.loop-id.changes id (Some page)) c.in_ok-page.ensures.bytes in (
      known.0,
      subst AreLong (sym c.in_ok-insert.ensures.ok) (AreLong-inserted c.loop-id.changes id (Some c.in_ok-page.page) c.in_ok-page.ensures.long known.1),
      λ b d g w listed. subst (λ (t : PageMap × map.FinMap page_cmp (Option (List ℕ))). IsListed b d g w map.empty t.0 t.1)
          (λ j. (sym c.in-Some.ensures.removed j, sym put j))
          (IsListed-new b d g w at.drafts c.loop-id.changes id draft (known.2 b d g w listed) c.in-Some.ensures.value),
    )

pub returns-clause-all : goal.returns-clause-all
returns-clause-all c = c.in_default.ensures.still ∙ c.in_default.ensures.none

pub returns-clause-noted : goal.returns-clause-noted
returns-clause-noted c = λ b d g w listed.
    subst (λ (m : PageMap). IsListed b d g w map.empty m c.loop-id.changes) (sym c.in_default.ensures.still) (c.loop-id.invariant.2 b d g w listed)
