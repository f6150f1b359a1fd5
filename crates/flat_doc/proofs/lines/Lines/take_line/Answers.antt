use Rattle.std.proofs.Common.{◌≡◌, ◌∷◌, ◌++◌, [], inr, IsUtf8, true≢false, sym, ap, ◌∙◌, subst}
use Rattle.std.proofs.lemmas.Str.{IsUtf8-string_bytes}
use Rattle.flat_doc.specs.Lines.{IsRead, Reads}
use Rattle.flat_doc.proofs.Spelled.{line_not_utf8}
use Rattle.flat_doc.proofs.lines.Lines.take_line.Goals as goal

pub returns-in_default-clause-read : goal.returns-in_default-clause-read
returns-in_default-clause-read c text is =
    inr (
      c.damaged.ensures,
      line_not_utf8 text c.args.self.now.reader c.args.self.now.line.items is
          (λ utf8. true≢false (sym (c.in_default.ensures.succeeds (subst IsUtf8 (ap (λ v. v.items) (sym c.replace-bytes.ensures.value)) utf8)))),
    )

pub give-taken-requires : goal.give-taken-requires
give-taken-requires c = subst IsUtf8 (sym c.from_string-line.ensures) (IsUtf8-string_bytes c.in-Ok.text)

pub returns-clause-read : goal.returns-clause-read
returns-clause-read c text is =
    let line : c.args.self.now.line.items ≡ c.from_string-line.result =
    sym (c.from_string-line.ensures ∙ ap (λ v. v.items) (c.in-Ok.ensures.ok ∙ c.replace-bytes.ensures.value)) in
    subst (Reads c.args.self.now.space (text ++ 10 ∷ []) c.give-taken.result c.give-taken.new.reader) (sym c.clear.ensures.items)
    (c.give-taken.ensures text (subst (IsRead text c.args.self.now.reader) line is))
