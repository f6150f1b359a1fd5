use Rattle.std.proofs.Common.{◌≡◌, sym, ap, ◌∙◌, subst}
use Rattle.std.specs.FinMap as map
use Rattle.std.specs.FinMap.{find}
use Rattle.page_bytes.specs.declared.ids.PageId.{PageId}
use Rattle.page_bytes.specs.Order.{page_cmp}
use Rattle.page_bytes.proofs.Orders.{page_cmp-total}
use Rattle.page_bytes.proofs.Tables.{get-map_of}
use Rattle.page_bytes.proofs.Sharing.{IsShared, IsShared-start, IsShared-next, IsShared-end, AllFound, AllFound-from}
use Rattle.page_bytes.proofs.table.PageTable+Page.share_all.Goals as goal

pub loop-id-init : goal.loop-id-init
loop-id-init c =
    let tree = c.more.inside.entries in let more = c.args.more.now in let gives = c.into_iter-id-iterator.ensures.into_iter_gives in
    let seen : (q : PageId) → map.get more q ≡ map.get (map.from_entries {R = page_cmp} tree.entries) q = λ q. sym (ap (λ m. map.get m q) c.more.view_is) in (
      tt,
      tt,
      IsShared-start c.args.self.now more c.into_iter-id-iterator.result
          (λ q. seen q ∙ map.get-from_entries page_cmp-total tree.entries q ∙ ap (find page_cmp q) (sym gives.0))
          (subst (AllFound more) (sym gives.0)
          (AllFound-from more tree.entries (λ k d within. seen _ ∙ get-map_of page_cmp-total tree _ ∙ gives.6 k d within))),
    )

pub loop-id-preserved : goal.loop-id-preserved
loop-id-preserved c =
    let old = c.args.self.now in let more = c.args.more.now in let id = c.in-Some.id.now in let page = c.in-Some.page.now in (
      tt,
      tt,
      IsShared-next old more c.loop-id.self c.insert.new.self id page c.next.new.self
          (subst (IsShared old more c.loop-id.self) c.in-Some.ensures.steps c.loop-id.invariant.2)
          (c.in_ok-insert.ensures.ok ∙ ap (map.insert c.loop-id.self id) c.in_ok-copy.ensures),
    )

pub returns-clause-ok : goal.returns-clause-ok
returns-clause-ok c =
    IsShared-end c.args.self.now c.args.more.now c.loop-id.self
    (subst (IsShared c.args.self.now c.args.more.now c.loop-id.self) c.in-None.ensures.steps.0 c.loop-id.invariant.2)
