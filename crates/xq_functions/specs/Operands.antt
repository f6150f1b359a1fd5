-- Operators with their right operands, as the definitions see them.
use Rattle.std.specs.Prelude.{ℤ, Bool, map, List, [], ◌∷◌, Option, Some, None}
use Rattle.xq_ast.specs.declared.tree.ProductOp.{ProductOp}
use Rattle.xml_model.specs.Items.{Items}
use Rattle.xml_model.specs.Nav.{Stored}
use Rattle.xml_model.specs.declared.nav.Id.{Id}
use Rattle.xq_values.specs.Seen.{item_seen}
use Rattle.xq_values.specs.declared.item.Item.{Item}
use Rattle.xq_values.specs.declared.item.Item.TheVariants as item
use Rattle.xq_functions.specs.declared.operators.ProductValue.{ProductValue}
use Rattle.xq_functions.specs.declared.operators.SumValue.{SumValue}

abbrev pub sum_seen : (Id → Stored) → SumValue → Bool × Items
sum_seen place part = (part.minus, map (item_seen place) part.items)

abbrev pub product_seen : (Id → Stored) → ProductValue → ProductOp × Items
product_seen place part = (part.op, map (item_seen place) part.items)

-- nothing, or an integer, as a list
abbrev pub integer_items : Option ℤ → List Item
integer_items None = []
integer_items (Some n) = item.Int n ∷ []
