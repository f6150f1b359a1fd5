-- What an expression gives, as its definition sees it.
use Rattle.xml_model.specs.declared.nav.Id.{Id}
use Rattle.xml_model.specs.Nav.{Stored}
use Rattle.xml_model.specs.Items.{Items, Made}
use Rattle.xq_values.specs.Seen.{made_seen}
use Rattle.xq_eval.specs.declared.whole.Value.{Value}
use Rattle.xq_eval.specs.Scopes.{items_seen}

abbrev pub value_seen : (Id → Stored) → Value → Items × Made
value_seen place value = (items_seen place value.items, made_seen value.made)
