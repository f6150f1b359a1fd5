-- Children as they come: texts are joined, and empty ones are dropped.
use Rattle.std.specs.Prelude.{ℕ, List, [], ◌∷◌, ◌++◌, Option, None, Some}
use Rattle.xml_model.specs.declared.node.Attr.{Attr}
use Rattle.xml_model.specs.declared.node.Node.{Node, out-Node}
use Rattle.xml_model.specs.declared.node.Node.TheOpen.{Node-F}
use Rattle.xml_model.specs.declared.node.Node.TheVariants.{Element, Text, Pi}
use Rattle.xml_model.specs.declared.edit.EditKind.{EditKind}
use Rattle.xml_model.specs.declared.edit.EditKind.TheVariants as edit
use Rattle.tree_edit.specs.declared.kids.Kids.{Kids}

abbrev pub no_kids : Kids
no_kids = record { nodes = []; text = [] }

-- a text that is not empty is a child
abbrev pub text_child : List ℕ → List Node
text_child [] = []
text_child (b ∷ bytes) = Text (b ∷ bytes) ∷ []

-- the text at the end is a child
abbrev pub closed : Kids → Kids
closed k = record { nodes = k.nodes ++ text_child k.text; text = [] }

abbrev pub with_text : Kids → List ℕ → Kids
with_text k value = record { nodes = k.nodes; text = k.text ++ value }

-- one node more that is no text
abbrev pub with_other : Kids → Node → Kids
with_other k n = record { nodes = (closed k).nodes ++ n ∷ []; text = [] }

abbrev pub with_layer : Kids → Node-F Node → Node → Kids
with_layer k (Node-F.Element name attrs kids) n = with_other k n
with_layer k (Node-F.Text value) n = with_text k value
with_layer k (Node-F.Pi target value) n = with_other k n

-- one node more
abbrev pub with_node : Kids → Node → Kids
with_node k n = with_layer k (out-Node n) n

abbrev pub with_nodes : Kids → List Node → Kids
with_nodes k [] = k
with_nodes k (n ∷ nodes) = with_nodes (with_node k n) nodes

-- an element more, of these attributes and children
abbrev pub with_element : Kids → List ℕ → List Attr → Kids → Kids
with_element k name attrs kids = with_other k (Element name attrs (closed kids).nodes)

-- an instruction with another target; a text or an element stays what it is
abbrev pub renamed_layer : Node-F Node → Node → List ℕ → Node
renamed_layer (Node-F.Element old attrs kids) n name = n
renamed_layer (Node-F.Text value) n name = n
renamed_layer (Node-F.Pi target value) n name = Pi name value

abbrev pub renamed_leaf : Node → List ℕ → Node
renamed_leaf n name = renamed_layer (out-Node n) n name

-- the nodes that an edit of a document brings
abbrev pub into_document : Option EditKind → List Node
into_document None = []
into_document (Some (edit.Into attrs more)) = more
into_document (Some (edit.Before others)) = []
into_document (Some (edit.After others)) = []
into_document (Some edit.Delete) = []
into_document (Some edit.Undeep) = []
into_document (Some (edit.Put attrs others)) = []
into_document (Some (edit.Rename name)) = []
