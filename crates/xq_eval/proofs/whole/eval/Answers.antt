use Rattle.std.proofs.Common.{[], sym, ap, ◌∙◌, None}
use Rattle.std.specs.FinMap as forests
use Rattle.xml_model.specs.Evaluation as spec
use Rattle.xq_values.specs.Seen.{made_seen}
use Rattle.xq_eval.specs.Meanings.{means}
use Rattle.xq_eval.specs.Scopes.{items_seen}
use Rattle.xq_eval.proofs.Steps.{given}
use Rattle.xq_eval.proofs.Counted.{means_meaning}
use Rattle.xq_eval.proofs.Endings.{exits_whole}
use Rattle.xq_eval.specs.Queries.{value_seen}
use Rattle.xq_eval.proofs.whole.eval.Goals as goal

pub returns-in_err-found : goal.returns-in_err-found
returns-in_err-found g c =
    exits_whole (g.N.Nav.honest c.args.nav.now) (g.N.Nav.passes c.args.nav.now) (items_seen (g.N.Nav.place c.args.nav.now)) (value_seen
    (g.N.Nav.place c.args.nav.now)) c.from_residual.result c.in_err-found.field-0.0 (made_seen c.eval.new.made)
    (means (forests.get (g.N.Nav.forest c.args.nav.now)) c.args.expr.now [] None (made_seen c.new-made.result)) (spec.eval (g.N.Nav.forest
    c.args.nav.now) c.args.expr.now) c.from_residual.ensures.1
    (λ w code q. ap (λ m. m [] None []) (sym (means_meaning (forests.get (g.N.Nav.forest c.args.nav.now)) c.args.expr.now)) ∙ (ap (λ roots. means
    (forests.get (g.N.Nav.forest c.args.nav.now)) c.args.expr.now [] None (made_seen roots)) (sym c.new-made.ensures) ∙ (q)))
    c.in_err-found.ensures

pub returns : goal.returns
returns g c =
    λ w. ap (λ m. m [] None []) (sym (means_meaning (forests.get (g.N.Nav.forest c.args.nav.now)) c.args.expr.now)) ∙ (ap (λ roots. means
    (forests.get (g.N.Nav.forest c.args.nav.now)) c.args.expr.now [] None (made_seen roots)) (sym c.new-made.ensures) ∙ (c.in_ok-found.ensures w
    ∙ given (ap (items_seen (g.N.Nav.place c.args.nav.now)) (sym c.in_ok-items.ensures))))
