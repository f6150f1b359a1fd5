use Rattle.std.proofs.Common.{Ok, List, ℕ, sym, subst, ◌∙◌}
use Rattle.std.specs.Str.{IsUtf8}
use Rattle.std.proofs.lemmas.Str.{IsUtf8-had}
use Rattle.page_bytes.specs.Texts.{IsTextAt}
use Rattle.text_pages.proofs.reading.read_text.Goals as goal

pub returns-in-Ok-from_utf8 : goal.returns-in-Ok-from_utf8
returns-in-Ok-from_utf8 g c =
    let same = c.from_string.ensures ∙ (λ i. (c.in-Ok-from_utf8.ensures.ok i).items) ∙ c.into_vec.ensures in
    record {
      text = (
        subst (λ (t : List ℕ). IsTextAt (g.P.Pages.known c.args.pages.now) c.args.space c.args.at (Ok t)) (sym same) c.in-Ok.ensures,
        subst IsUtf8 (sym c.from_string.ensures) (IsUtf8-had _ c.in-Ok-from_utf8.text.ok),
      );
    }
