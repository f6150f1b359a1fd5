use Rattle.std.proofs.Common.{sym, ap, ◌∙◌, unwrap_or}
use Rattle.std.specs.Option.{option_copied}
use Rattle.page_bytes.specs.Work.{zeros}
use Rattle.page_bytes.proofs.workspace.Workspace.first_page.Goals as goal

pub returns-clause-first : goal.returns-clause-first
returns-clause-first c = c.in_ok-of.ensures.bytes ∙ c.in_ok-zeros.ensures ∙ ap (λ o. unwrap_or o zeros) (ap option_copied (sym c.in_default.is) ∙ c.page.ensures)
