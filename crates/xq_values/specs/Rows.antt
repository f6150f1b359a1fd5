-- Variables and tuples as the definitions of evaluation see them.
use Rattle.std.specs.Prelude.{map}
use Rattle.xml_model.specs.Nav.{Stored}
use Rattle.xml_model.specs.Tuples as tuples
use Rattle.xml_model.specs.declared.nav.Id.{Id}
use Rattle.xq_values.specs.declared.row.Variable.{Variable}
use Rattle.xq_values.specs.declared.row.Row.{Row}
use Rattle.xq_values.specs.Seen.{item_seen}

abbrev pub variable_seen : (Id → Stored) → Variable → tuples.Variable
variable_seen place v = record { name = v.name; value = map (item_seen place) v.value }

abbrev pub row_seen : (Id → Stored) → Row → tuples.Row
row_seen place row = record { keys = row.keys; bindings = map (variable_seen place) row.bindings }
