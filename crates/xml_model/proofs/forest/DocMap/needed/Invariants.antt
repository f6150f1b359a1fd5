use Rattle.std.proofs.Common.{take}
use Rattle.xml_model.specs.Changes.{laid_over}
use Rattle.xml_model.specs.Forest.{no_documents}
use Rattle.xml_model.proofs.Needed.{OnlyNeeded}
use Rattle.xml_model.proofs.forest.DocMap.needed.Given as goal

abbrev pub invariant-loop-need : goal.invariant-loop-need
invariant-loop-need l = OnlyNeeded (take l.need-index l.need-items) (laid_over l.changes.changes l.self) (laid_over l.named.changes no_documents)
