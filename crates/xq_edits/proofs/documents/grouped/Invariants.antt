use Rattle.std.specs.VecDeque.{deque_len}
use Rattle.xml_model.specs.declared.nav.Id.{Id}
use Rattle.xml_model.specs.Nav.{Stored}
use Rattle.xq_edits.proofs.Groups.{Goes}
use Rattle.xq_edits.proofs.documents.grouped.Given as goal

abbrev pub invariant-groups : goal.invariant-groups
invariant-groups l = (place : Id → Stored) → Goes place l.roots l.all l.left.items l.fn.changes

abbrev pub decreases-groups : goal.decreases-groups
decreases-groups l = deque_len l.left
