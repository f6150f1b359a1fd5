use Rattle.std.proofs.Common.{◌≡◌, drop}
use Rattle.xq_edits.specs.Groups.{named_by}
use Rattle.xq_edits.proofs.documents.name_of.Given as goal

abbrev pub invariant-loop-root : goal.invariant-loop-root
invariant-loop-root l = named_by (drop l.root-index l.roots) l.doc ≡ named_by l.roots l.doc
