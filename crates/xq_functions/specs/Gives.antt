-- An item that a function answers, as a list.
use Rattle.std.specs.Prelude.{[], ◌∷◌}
use Rattle.xml_model.specs.Items.{Items}
use Rattle.xml_model.specs.Nav.{Stored}
use Rattle.xml_model.specs.declared.nav.Id.{Id}
use Rattle.xq_values.specs.Seen.{item_seen}
use Rattle.xq_values.specs.declared.item.Item.{Item}

-- the item alone, as a list
abbrev pub alone : (Id → Stored) → Item → Items
alone place item = item_seen place item ∷ []
