use Rattle.std.proofs.Common.{◌≡◌, ◌≤◌, ◌++◌, ◌∷◌}
use Rattle.std.specs.VecDeque.{deque_len}
use Rattle.xq_edits.specs.Groups.{edit_of, same_document, from_other}
use Rattle.xq_edits.proofs.documents.first_group.Given as goal

abbrev pub invariant-loop-change : goal.invariant-loop-change
invariant-loop-change l = record {
  edits : l.edits ++ same_document l.doc l.changes.items ≡ edit_of l.fn.first ∷ same_document l.doc l.initial.changes.items;
  others : from_other l.doc l.changes.items ≡ from_other l.doc l.initial.changes.items;
  fewer : deque_len l.changes ≤ deque_len l.initial.changes;
}

abbrev pub decreases-loop-change : goal.decreases-loop-change
decreases-loop-change l = deque_len l.changes
