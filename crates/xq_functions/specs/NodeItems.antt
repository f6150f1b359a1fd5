-- Items that are nodes, and others.
use Rattle.xq_values.specs.declared.item.Item.{Item}
use Rattle.xq_values.specs.declared.item.Item.TheVariants as item

-- an item is an atomic value
abbrev pub IsNoNode : Item → Type 0
IsNoNode (item.Node id) = ⊥
IsNoNode (item.Text text) = Unit {0}
IsNoNode (item.Int value) = Unit {0}
IsNoNode (item.Truth value) = Unit {0}
