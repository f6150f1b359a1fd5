use Rattle.std.proofs.Common.{◌≡◌, ◌+◌}
use Rattle.std.specs.VecDeque.{deque_len}
use Rattle.xq_values.specs.Seen.{node_seen}
use Rattle.xq_nodes.specs.Uniting.{uniting}
use Rattle.xq_nodes.proofs.lists.united_lists.Given as goal

abbrev pub invariant-both : goal.invariant-both
invariant-both g l = g.N.Nav.honest l.nav →
    uniting (node_seen (g.N.Nav.place l.nav)) l.all l.left.items l.right.items ≡ uniting (node_seen (g.N.Nav.place l.nav)) l.initial.all l.initial.left.items l.initial.right.items

abbrev pub decreases-both : goal.decreases-both
decreases-both g l = deque_len l.left + deque_len l.right
