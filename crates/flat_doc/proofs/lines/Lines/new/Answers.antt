use Rattle.std.proofs.Common.{Ok, [], sym, subst}
use Rattle.xml_model.specs.Pyx.{start}
use Rattle.flat_doc.specs.Lines.{IsRead}
use Rattle.flat_doc.proofs.Spelled.{none_read}
use Rattle.flat_doc.proofs.lines.Lines.new.Goals as goal

pub returns-clause-read : goal.returns-clause-read
returns-clause-read c =
    subst (λ r. IsRead [] r c.new-2.result.items) (sym c.new.ensures) (subst (IsRead [] (Ok start)) (sym c.new-2.ensures.items) none_read)
