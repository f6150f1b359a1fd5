-- Induction on nodes, by their variants and lists of children.
use Rattle.std.proofs.Common.{ℕ, List, [], ◌∷◌, subst}
use Rattle.xml_model.specs.declared.node.Attr.{Attr}
use Rattle.xml_model.specs.declared.node.Node.{Node, Element', Text, Pi, Row_of-Node, end_of-Node, more_of-Node, items-the_row-Node}
use Rattle.xml_model.specs.declared.node.Node.TheVariants.{Element}
use Rattle.xml_model.proofs.Nodes.{made-Element'}

-- each of the nodes has it
abbrev pub Each : (Node → Type 0) → List Node → Type 0
Each P [] = Unit {0}
Each P (n ∷ nodes) = P n × Each P nodes

module _ (P : Node → Type 0) (element : (name : List ℕ) (attrs : List Attr) (kids : List Node) → Each P kids → P (Element name attrs kids))
    (text : (value : List ℕ) → P (Text value)) (instruction : (target value : List ℕ) → P (Pi target value)) where
  mutual
    -- what an element has where its children have it, and texts and instructions have, each node has
    pub node_has : (n : Node) → P n
    node_has (Element' name attrs s row) = subst P (made-Element' name attrs s row) (element name attrs _ (row_has _ row))
    node_has (Text value) = text value
    node_has (Pi target value) = instruction target value

    row_has : (m : _) (row : Row_of-Node m) → Each P (items-the_row-Node m row)
    row_has _ end_of-Node = tt
    row_has _ (more_of-Node n row) = (node_has n, row_has _ row)

  pub nodes_have : (nodes : List Node) → Each P nodes
  nodes_have [] = tt
  nodes_have (n ∷ nodes) = (node_has n, nodes_have nodes)
