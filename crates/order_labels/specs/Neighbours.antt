-- A key's neighbours, each of which may be missing: which keys lie between them, and how long a key between them may be.
use Rattle.std.specs.Prelude.{ℕ, ◌+◌, max, length, Option, Some, None, IfSome}
use Rattle.order_labels.specs.KeyValue.{KeyValue}
use Rattle.order_labels.specs.LabelOrder.{code, IsKeyBelow}

-- where there are two, the low one is below the high one
abbrev pub AreInOrder : Option KeyValue → Option KeyValue → Type 0
AreInOrder (Some low) (Some high) = IsKeyBelow low high
AreInOrder _ _ = Unit {0}

-- strictly above the low neighbour and strictly below the high one
pub record LiesBetween (low high : Option KeyValue) (k : KeyValue) : Type 0 where
  pub above : IfSome low (λ l. IsKeyBelow l k)
  pub below : IfSome high (λ h. IsKeyBelow k h)

-- one byte more than the longer neighbour's code has, and 2 where there is no neighbour
abbrev pub length_bound : Option KeyValue → Option KeyValue → ℕ
length_bound None None = 2
length_bound None (Some high) = length (code high) + 1
length_bound (Some low) None = length (code low) + 1
length_bound (Some low) (Some high) = max (length (code low)) (length (code high)) + 1
