use Rattle.std.proofs.Common.{◌∷◌, ◌++◌, [], refl, subst}
use Rattle.std.proofs.lemmas.List.{append_assoc}
use Rattle.flat_doc.specs.Lines.{Reads}
use Rattle.flat_doc.proofs.Spelled.{none_more}
use Rattle.flat_doc.proofs.lines.Lines.end_line.Goals as goal

pub returns-in-Ok-clause-read : goal.returns-in-Ok-clause-read
returns-in-Ok-clause-read c text is =
    let bytes = c.args.bytes.now in let new = c.take_line.new.self.reader in let new_line = c.take_line.new.self.line.items in
    subst (λ t. Reads c.args.self.now.space t c.take_line.result new new_line) (append_assoc text bytes (10 ∷ []))
    (subst (λ s. Reads s ((text ++ bytes) ++ 10 ∷ []) c.take_line.result new new_line) c.in-Ok.ensures.space
    (c.take_line.ensures.read (text ++ bytes) (c.in-Ok.ensures.read text is)))

pub returns-in-Err-clause-read : goal.returns-in-Err-clause-read
returns-in-Err-clause-read c text is =
    none_more c.args.self.now.space text (c.args.bytes.now ++ 10 ∷ []) c.args.bytes.now (10 ∷ []) c.in-Err.end c.add.new.self.reader
    c.add.new.self.reader c.add.new.self.line.items c.add.new.self.line.items refl (c.in-Err.ensures.read text is)
