use Rattle.std.proofs.Common.{sym, ◌∙◌, arith}
use Rattle.std.proofs.lemmas.Bool.{eqb-true}
use Rattle.page_bytes.proofs.Keeping.{asked_page}
use Rattle.indirection.specs.Owned.{number_pages}
use Rattle.indirection.proofs.reading.linked_page.Goals as goal

pub returns-clause-page : goal.returns-clause-page
returns-clause-page g c mine =
    asked_page number_pages (g.P.Pages.known c.args.pages.now) c.args.space _ c.args.kind c.args.number c.in_ok-bytes.bytes.now (sym c.in_ok-bytes.ensures)
    (omega arith) c.is_of_kind.ensures.long
    (eqb-true _ _ (sym c.is_of_kind.ensures.test ∙ c.if-not-is_of_kind.false)) mine
