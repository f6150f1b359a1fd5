use Rattle.std.proofs.Common.{subst}
use Rattle.std.specs.FinMap as map
use Rattle.page_bytes.specs.Known.{PageMap}
use Rattle.page_bytes.specs.Inside.{IsListed}
use Rattle.page_bytes.proofs.Listing.{IsListed-end}
use Rattle.page_bytes.proofs.changes.changes.Goals as goal

pub returns-clause-changes : goal.returns-clause-changes
returns-clause-changes c =
    let l = c.args.left in let below = c.in_ok-note_below.ensures in let new = c.in_ok-note_new.ensures in
    IsListed-end l.below l.drafts l.gone l.whole c.note_new.new.changes
    (subst (λ (m : PageMap). IsListed l.below l.drafts l.gone l.whole map.empty m c.note_new.new.changes) new.all
    (new.noted l.below l.drafts l.gone l.whole
    (subst (λ (m : PageMap). IsListed l.below l.drafts l.gone l.whole m c.note_below.new.left.drafts c.note_below.new.changes) below.all below.noted)))
