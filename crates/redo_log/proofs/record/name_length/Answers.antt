use Rattle.std.proofs.Common.{sym, ap, ◌∙◌, length, ◌+◌}
use Rattle.redo_log.specs.Record.{named_bytes}
use Rattle.redo_log.proofs.Lengths.{length-set_of}
use Rattle.redo_log.proofs.record.name_length.Goals as goal

pub returns-in-Some : goal.returns-in-Some
returns-in-Some c = ap (λ (l : _). 19 + length l) c.as_bytes-in-Some.ensures
    ∙ sym (ap (λ e. length (named_bytes c.args.n.now.name e)) c.in-Some.is ∙ length-set_of c.args.n.now.name _)
