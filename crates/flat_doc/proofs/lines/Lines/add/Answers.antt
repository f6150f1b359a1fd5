use Rattle.std.proofs.Common.{◌++◌, sym, subst}
use Rattle.flat_doc.specs.Lines.{IsRead}
use Rattle.flat_doc.proofs.Spelled.{bytes_read}
use Rattle.flat_doc.proofs.lines.Lines.add.Goals as goal

pub returns-in-Ok-clause-read : goal.returns-in-Ok-clause-read
returns-in-Ok-clause-read c text is =
    subst (IsRead (text ++ c.args.bytes.now) c.args.self.now.reader) (sym c.in-Ok.ensures.items)
    (bytes_read text c.args.self.now.reader c.args.self.now.line.items c.args.bytes.now is c.requires)
