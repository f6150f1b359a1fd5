use Rattle.std.proofs.Common.{inr, Err, subst}
use Rattle.pyx_text.specs.Reader.{Ends, end_of}
use Rattle.flat_doc.proofs.Spelled.{all_read, none_given}
use Rattle.flat_doc.proofs.lines.Lines.finish.Goals as goal

pub returns-in-Ok : goal.returns-in-Ok
returns-in-Ok c text is = all_read text c.args.self.reader c.in-Ok.doc is c.in-Ok.ensures

pub returns-in-Err-Refused : goal.returns-in-Err-Refused
returns-in-Err-Refused c text is =
    let refused = subst (λ f. Ends (Err f) (end_of c.args.self.reader)) c.in-Err-Refused.field-0-is c.in-Err-Refused.ensures in
    inr (c.damaged.ensures, none_given text c.args.self.reader c.in-Err-Refused.field-0-0 is refused)
