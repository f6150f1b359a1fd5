-- The items of a value, kept by themselves or shared.
use Rattle.std.specs.Prelude.{List}
use Rattle.xq_values.specs.declared.item.Item.{Item}
use Rattle.xq_eval.specs.declared.found.Kept.{Kept}
use Rattle.xq_eval.specs.declared.found.Kept.TheVariants.{Owned, Shared}

abbrev pub kept_items : Kept → List Item
kept_items (Owned items) = items
kept_items (Shared items) = items
