use Rattle.std.proofs.Common.{ap, ◌∙◌}
use Rattle.xq_eval.specs.Scopes.{items_seen}
use Rattle.xq_eval.proofs.Alone.{holds_or, holds_is}
use Rattle.xq_eval.proofs.predicates.holds_at.Goals as goal

pub returns-in-None : goal.returns-in-None
returns-in-None c = λ place. c.effective_boolean.ensures place
    ∙ (ap (λ o. holds_or (items_seen place c.args.value.now) o) (c.in-None.ensures place) ∙ holds_is c.args.position (items_seen place c.args.value.now))

pub returns-in-Some : goal.returns-in-Some
returns-in-Some c = λ place.
    ap (λ o. holds_or (items_seen place c.args.value.now) o) (c.in-Some.ensures place) ∙ holds_is c.args.position (items_seen place c.args.value.now)
