use Rattle.page_bytes.proofs.Sharing.{IsShared}
use Rattle.page_bytes.proofs.table.PageTable+Page.share_all.Given as goal

abbrev pub invariant-loop-id : goal.invariant-loop-id
invariant-loop-id l =
    (goal.iterator-loop-id).can_next l.id-iterator × (goal.iterator-loop-id).is_finite l.id-iterator
    × IsShared l.fn.self l.more l.self l.id-iterator
