-- Labels: which bytes are one, a label's parent and its ancestors.
use Rattle.std.specs.Prelude.{◌≡◌, ◌≢◌, ℕ, List, [], ◌∷◌, ◌++◌, ◌⊎◌}
use Rattle.order_labels.specs.KeyValue.{KeyValue, IsKey}
use Rattle.order_labels.specs.LabelOrder.{code}

-- the label of the child or attribute with this key: its parent's label, the key's code and the byte 1
abbrev pub child_label : List ℕ → KeyValue → List ℕ
child_label parent k = parent ++ code k ++ 1 ∷ []

-- the document node's label is empty, and each other label is that of a child or attribute of a label
pub data IsLabel : List ℕ → Type 0 where
  document : IsLabel []
  child : (parent : List ℕ) (k : KeyValue) → IsLabel parent → IsKey k → IsLabel (child_label parent k)

-- an ancestor's label is a proper prefix
abbrev pub IsAncestor : List ℕ → List ℕ → Type 0
IsAncestor a b = (rest : List ℕ) × (rest ≢ []) × (b ≡ a ++ rest)

-- the parent is the nearest ancestor: each label that is an ancestor of the child is the parent or an ancestor of it
pub record IsParent (parent child : List ℕ) : Type 0 where
  pub ancestor : IsAncestor parent child
  pub nearest : (other : List ℕ) → IsLabel other → IsAncestor other child → (other ≡ parent) ⊎ IsAncestor other parent
