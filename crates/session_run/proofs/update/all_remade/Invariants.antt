use Rattle.std.proofs.Common.{◌≡◌, drop}
use Rattle.session_run.specs.Effects.{AreValidChanges}
use Rattle.session_run.specs.Updates.{AreThere, changed_by, remade_all}
use Rattle.session_run.proofs.update.all_remade.Given as goal

-- the changes so far, with what the edits that are left make, are what all make; they are valid, and of documents that are there
abbrev pub invariant-loop-at : goal.invariant-loop-at
invariant-loop-at l = record {
  all : remade_all l.docs (changed_by l.changes l.docs) (drop l.at-index l.edits) ≡ remade_all l.docs l.docs l.edits;
  there : AreThere l.docs l.changes;
  valid : AreValidChanges l.changes;
}
