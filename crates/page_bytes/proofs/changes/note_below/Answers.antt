use Rattle.std.proofs.Common.{List, ℕ, Option, Some, refl, sym, ◌∙◌, subst}
use Rattle.std.specs.FinMap as map
use Rattle.page_bytes.specs.Known.{PageMap, PageIds, Spaces}
use Rattle.page_bytes.specs.Inside.{now_of, Notes, IsListed}
use Rattle.page_bytes.proofs.Listing.{AreLong-empty, IsListed-start, IsListed-below}
use Rattle.page_bytes.proofs.changes.note_below.Goals as goal

pub loop-id-init : goal.loop-id-init
loop-id-init c = let l = c.args.left.now in
    (refl, refl, AreLong-empty c.args.changes.now c.requires, IsListed-start l.below l.drafts l.gone l.whole c.args.changes.now c.requires)

pub loop-id-preserved : goal.loop-id-preserved
loop-id-preserved c =
    let l = c.args.left.now in let at = c.loop-id.left in let known = c.loop-id.invariant in let id = c.in-Some.id in let page = c.in-Some.page in let new =
    c.note.new.changes in
    let notes : Notes c.loop-id.changes id (Some page) (now_of l.gone l.whole id (map.get at.drafts id) (Some page)) new =
    subst (λ (t : PageIds × (Spaces × Option (List ℕ))). Notes c.loop-id.changes id (Some page) (now_of t.0 t.1.0 id t.1.1 (Some page)) new)
    (λ j. (known.0 j, (known.1 j, c.take-draft.ensures.value j))) c.in_ok-note.ensures.notes in (
      known.0,
      known.1,
      c.in_ok-note.ensures.long known.2,
      subst (λ (t : PageMap × PageMap). IsListed l.below l.drafts l.gone l.whole t.0 t.1 new)
          (λ j. (sym c.in-Some.ensures.removed j, sym c.take-draft.ensures.removed j))
          (IsListed-below l.below l.drafts l.gone l.whole at.below at.drafts c.loop-id.changes new id page known.3 c.in-Some.ensures.value notes),
    )

pub returns-clause-all : goal.returns-clause-all
returns-clause-all c = c.in_default.ensures.still ∙ c.in_default.ensures.none

pub returns-clause-noted : goal.returns-clause-noted
returns-clause-noted c =
    let l = c.args.left.now in
    subst (λ (m : PageMap). IsListed l.below l.drafts l.gone l.whole m c.loop-id.left.drafts c.loop-id.changes)
    (sym c.in_default.ensures.still) c.loop-id.invariant.3
