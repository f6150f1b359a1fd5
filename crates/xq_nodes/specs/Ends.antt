-- Ends of calls below, as ends of evaluation.
use Rattle.xml_model.specs.declared.nav.NavEnd.{NavEnd}
use Rattle.xml_model.specs.declared.nav.NavEnd.TheVariants as nav_ends
use Rattle.xq_values.specs.declared.end.ValueEnd.{ValueEnd}
use Rattle.xq_values.specs.declared.end.ValueEnd.TheVariants as value_ends
use Rattle.xq_nodes.specs.declared.end.EvalEnd.{EvalEnd}
use Rattle.xq_nodes.specs.declared.end.EvalEnd.TheVariants as ends

abbrev pub end_of_nav : {F : Type 0} → NavEnd F → EvalEnd F
end_of_nav (nav_ends.Nav fault) = ends.Nav fault
end_of_nav nav_ends.NoMemory = ends.NoMemory

abbrev pub end_of_value : {F : Type 0} → ValueEnd → EvalEnd F
end_of_value (value_ends.Code code) = ends.Code code
end_of_value value_ends.NoMemory = ends.NoMemory
