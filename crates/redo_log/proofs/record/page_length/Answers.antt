use Rattle.std.proofs.Common.{sym, ap, ◌∙◌, ◌++◌, length, ◌+◌, arith}
use Rattle.redo_log.specs.Record.{number, space_bytes, image_bytes}
use Rattle.redo_log.proofs.Lengths.{length-gone, length-image}
use Rattle.redo_log.proofs.record.page_length.Goals as goal

pub overflow_add-result : goal.overflow_add-result
overflow_add-result c = omega (arith, c.bytes_in.ensures.bound)

pub returns-in-None : goal.returns-in-None
returns-in-None c = sym (ap (λ p. length (space_bytes c.args.c.now.id.space ++ number c.args.c.now.id.number ++ image_bytes p)) c.in-None.is
    ∙ length-gone c.args.c.now.id)

pub returns-in-Some : goal.returns-in-Some
returns-in-Some c = ap (λ n. 25 + n) c.bytes_in.ensures.count
    ∙ sym (ap (λ p. length (space_bytes c.args.c.now.id.space ++ number c.args.c.now.id.number ++ image_bytes p)) c.in-Some.is ∙ length-image c.args.c.now.id _)
