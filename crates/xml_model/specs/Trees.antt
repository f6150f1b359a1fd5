-- What trees have in them. Each is a fold: one node, with what its children have in their place.
use Rattle.std.specs.Prelude.{ℕ, ◌+◌, max, List, [], ◌∷◌, ◌++◌, map, length, Bool, false, ◌||◌}
use Rattle.std.specs.Str.{bytes_eq}
use Rattle.xml_model.specs.declared.node.Attr.{Attr}
use Rattle.xml_model.specs.declared.node.Node.{Node}
use Rattle.xml_model.specs.declared.node.Node.TheOpen.{Node-F, Element, Text, Pi}
use Rattle.xml_model.specs.declared.node.Node.TheFolds.{fold-Node}

-- the sum of the numbers
abbrev pub total : List ℕ → ℕ
total [] = 0
total (n ∷ ns) = n + total ns

-- the largest of the numbers: 0 of none
abbrev pub largest : List ℕ → ℕ
largest [] = 0
largest (n ∷ ns) = max n (largest ns)

-- the lists one after another
abbrev pub joined : {A : Type 0} → List (List A) → List A
joined [] = []
joined (x ∷ xs) = x ++ joined xs

-- how many nodes, attributes among them
abbrev pub count_step : Node-F ℕ → ℕ
count_step (Element name attrs kids) = 1 + length attrs + total kids
count_step (Text value) = 1
count_step (Pi target value) = 1

-- the number of nodes in this one: itself, its attributes and all that stands in it
abbrev pub count_node : Node → ℕ
count_node = fold-Node ℕ count_step

-- the number of all nodes in a list of nodes, attributes among them
abbrev pub count_of : List Node → ℕ
count_of nodes = total (map count_node nodes)

-- the number of bytes that the values of the attributes have
abbrev pub value_bytes : List Attr → ℕ
value_bytes [] = 0
value_bytes (a ∷ more) = length a.value + value_bytes more

-- how many bytes the values have
abbrev pub bytes_step : Node-F ℕ → ℕ
bytes_step (Element name attrs kids) = value_bytes attrs + total kids
bytes_step (Text value) = length value
bytes_step (Pi target value) = length value

-- the number of bytes that the values in a node have: of its texts, instructions and attributes
abbrev pub bytes_node : Node → ℕ
bytes_node = fold-Node ℕ bytes_step

-- the number of bytes that the values in a list of nodes have
abbrev pub bytes_of : List Node → ℕ
bytes_of nodes = total (map bytes_node nodes)

-- how many elements stand in one another
abbrev pub depth_step : Node-F ℕ → ℕ
depth_step (Element name attrs kids) = largest kids + 1
depth_step (Text value) = 0
depth_step (Pi target value) = 0

-- how many elements stand in one another in a node, itself counted: 0 of a text or an instruction
abbrev pub depth_node : Node → ℕ
depth_node = fold-Node ℕ depth_step

-- how many elements stand in one another in a list of nodes, at its deepest
abbrev pub depth_of : List Node → ℕ
depth_of nodes = largest (map depth_node nodes)

-- whether one of the attributes has this name
abbrev pub has_attribute : List ℕ → List Attr → Bool
has_attribute name [] = false
has_attribute name (a ∷ more) = bytes_eq a.name name || has_attribute name more
