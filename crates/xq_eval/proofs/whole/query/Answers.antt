use Rattle.std.proofs.Common.{sym, ap, ◌∙◌}
use Rattle.std.specs.FinMap as forests
use Rattle.xq_values.specs.Seen.{made_seen}
use Rattle.xq_eval.specs.Scopes.{items_seen}
use Rattle.xml_model.specs.ItemLines.{lines_of}
use Rattle.xml_model.specs.Statement.{answer_of, said_by, query_answer}
use Rattle.xq_eval.proofs.Endings.{says_same}
use Rattle.xq_eval.proofs.whole.query.Goals as goal

pub returns : goal.returns
returns g c =
    says_same (g.N.Nav.honest c.args.nav.now) (g.N.Nav.passes c.args.nav.now) c.item_lines.result (answer_of (lines_of (forests.get (g.N.Nav.forest
    c.args.nav.now)) (made_seen c.as_slice.result.now) (items_seen (g.N.Nav.place c.args.nav.now) c.as_slice-2.result.now))) (query_answer
    (g.N.Nav.forest c.args.nav.now) c.args.expr.now)
    (λ w. (λ i. answer_of (lines_of (forests.get (g.N.Nav.forest c.args.nav.now)) (made_seen (c.as_slice.ensures i)) (items_seen (g.N.Nav.place
    c.args.nav.now) (c.as_slice-2.ensures i)))) ∙ ap (said_by (forests.get (g.N.Nav.forest c.args.nav.now))) (sym (c.in_ok-value.ensures w)))
    c.item_lines.ensures
