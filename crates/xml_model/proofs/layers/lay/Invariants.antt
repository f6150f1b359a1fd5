use Rattle.std.proofs.Common.{◌≡◌, ◌≤◌, length, drop}
use Rattle.xml_model.specs.Forest.{Forest}
use Rattle.xml_model.specs.Changes.{with_documents, laid_over, changes_of_entries}
use Rattle.xml_model.specs.Below.{IsBelow}
use Rattle.xml_model.proofs.Entries.{pairs_of}
use Rattle.xml_model.proofs.layers.lay.Given as goal

abbrev pub invariant-loop-left : goal.invariant-loop-left
invariant-loop-left l = record {
  within : l.left ≤ length l.changes.entries;
  laid : (F : Forest) → IsBelow l.below F
      → laid_over (changes_of_entries l.all.entries) F
      ≡ with_documents (pairs_of (drop l.left l.changes.entries)) (laid_over (changes_of_entries l.initial.all.entries) F);
}

abbrev pub decreases-loop-left : goal.decreases-loop-left
decreases-loop-left l = l.left
