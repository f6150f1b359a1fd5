use Rattle.std.proofs.Common.{Result, Option, sym, subst}
use Rattle.std.specs.FinMap as map
use Rattle.page_bytes.specs.declared.ids.Addr.{Addr}
use Rattle.page_bytes.specs.declared.end.PageEnd.{PageEnd}
use Rattle.page_bytes.specs.Answers.{GivesOrNeeds}
use Rattle.indirection.proofs.Findings.{address-is}
use Rattle.indirection.proofs.map.find.Goals as goal

pub returns-clause-meaning : goal.returns-clause-meaning
returns-clause-meaning g c all numbers means =
    subst (λ (r : Result (Option Addr) PageEnd). GivesOrNeeds (g.P.Pages.known c.args.pages.now) all c.args.space r (map.get numbers.taken c.args.no.0))
    (sym c.find_address.ensures)
    (address-is (g.P.Pages.known c.args.pages.now) all c.args.space numbers means c.args.no.0)
