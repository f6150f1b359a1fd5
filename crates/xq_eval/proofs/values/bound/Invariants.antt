use Rattle.std.proofs.Common.{◌≡◌, drop}
use Rattle.std.specs.Option.{option_map, option_copied}
use Rattle.xml_model.specs.Nav.{Stored}
use Rattle.xml_model.specs.Evaluation.{bound_value, or_later}
use Rattle.xml_model.specs.declared.nav.Id.{Id}
use Rattle.xq_eval.specs.Scopes.{items_seen, variables_seen}
use Rattle.xq_eval.proofs.values.bound.Given as goal

abbrev pub invariant-loop-variable : goal.invariant-loop-variable
invariant-loop-variable l = (place : Id → Stored) →
    or_later (option_map (items_seen place) (option_copied l.found)) (bound_value l.name (variables_seen place (drop l.variable-index l.variables)))
    ≡ bound_value l.name (variables_seen place l.variables)
