use Rattle.std.proofs.Common.{◌≤◌, length}
use Rattle.xq_edits.proofs.names.changes_up_to.Given as goal

abbrev pub invariant-back : goal.invariant-back
invariant-back g l = l.from ≤ length l.done

abbrev pub decreases-back : goal.decreases-back
decreases-back g l = l.from
