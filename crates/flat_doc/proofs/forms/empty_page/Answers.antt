use Rattle.std.proofs.Common.{[], ◌∷◌, ap, ◌∙◌}
use Rattle.page_bytes.specs.Fields.{with_bytes}
use Rattle.flat_doc.proofs.forms.empty_page.Goals as goal

pub returns : goal.returns
returns c = c.write_u8.ensures ∙ ap (λ page. with_bytes page 0 (1 ∷ [])) c.in_ok-page.ensures
