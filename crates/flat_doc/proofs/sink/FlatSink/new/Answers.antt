use Rattle.std.proofs.Common.{[], sym, subst}
use Rattle.flat_doc.specs.Sink.{IsWritten}
use Rattle.flat_doc.proofs.Running.{none_written}
use Rattle.flat_doc.proofs.sink.FlatSink.new.Goals as goal

pub invariant_of-result : goal.invariant_of-result
invariant_of-result c =
    subst (λ l. IsWritten l c.in_ok-empty_page.field-0 9) (sym c.new.ensures.items) (subst (λ p. IsWritten [] p 9) (sym c.in_ok-empty_page.ensures) none_written)
