use Rattle.std.proofs.Common.{inr, Err, subst}
use Rattle.pyx_text.specs.Reader.{TakesLine}
use Rattle.flat_doc.proofs.Spelled.{line_taken, line_refused}
use Rattle.flat_doc.proofs.lines.give.Goals as goal

pub returns-in-Ok : goal.returns-in-Ok
returns-in-Ok c text is =
    line_taken text c.args.reader.now c.line.new.self c.args.line.now is c.requires c.in-Ok.ensures.0 c.in-Ok.ensures.1

pub returns-in-Err-Refused : goal.returns-in-Err-Refused
returns-in-Err-Refused c text is =
    let refused = subst (λ f. TakesLine {T = Unit {0}} (Err f) c.args.line.now c.args.reader.now c.line.new.self) c.in-Err-Refused.field-0-is
    c.in-Err-Refused.ensures in
    inr (
      c.damaged.ensures,
      line_refused text c.args.reader.now c.line.new.self c.args.line.now c.in-Err-Refused.field-0-0 is refused.0 refused.1,
    )
