-- Tuples and keys as the definitions of evaluation see them.
use Rattle.std.specs.Prelude.{map}
use Rattle.xml_model.specs.declared.nav.Id.{Id}
use Rattle.xml_model.specs.Nav.{Stored}
use Rattle.xml_model.specs.Tuples as tuples
use Rattle.xq_values.specs.Rows.{row_seen}
use Rattle.xq_eval.specs.declared.tuples.Keyed.{Keyed}
use Rattle.xq_eval.specs.declared.tuples.Tuples.{Tuples}

abbrev pub keyed_seen : Keyed → tuples.Keyed
keyed_seen all = record { keys = all.keys; types = all.types }

abbrev pub tuples_seen : (Id → Stored) → Tuples → tuples.Tuples
tuples_seen place all = record { types = all.types; rows = map (row_seen place) all.rows }
