use Rattle.std.proofs.Common.{◌<◌, ◌∷◌, ◌++◌, [], Err, length, rules, subst}
use Rattle.flat_doc.specs.Lines.{IsRead, GivesDoc}
use Rattle.flat_doc.proofs.Spelled.{last_given, none_goes_on}
use Rattle.flat_doc.proofs.lines.Lines.end.Goals as goal

pub returns-in-Ok : goal.returns-in-Ok
returns-in-Ok c text is =
    let some : 0 < length c.args.self.line.items = search rules in
    last_given c.args.self.space text c.args.self.reader c.args.self.line.items c.finish-in-Ok.result is some
    (subst (λ s. GivesDoc s (text ++ 10 ∷ []) c.finish-in-Ok.result) c.in-Ok.ensures.space
    (c.finish-in-Ok.ensures (text ++ 10 ∷ []) (subst (IsRead (text ++ 10 ∷ []) c.take_line.new.self.reader) c.in-Ok.ensures.empty (c.in-Ok.ensures.read text is))))

pub returns-in-Err : goal.returns-in-Err
returns-in-Err c text is =
    let some : 0 < length c.args.self.line.items = search rules in
    last_given c.args.self.space text c.args.self.reader c.args.self.line.items (Err c.in-Err.end) is some
    (none_goes_on c.args.self.space (text ++ 10 ∷ []) c.in-Err.end c.take_line.new.self.reader c.take_line.new.self.line.items (c.in-Err.ensures.read text is))
