-- What stored nodes tell, as evaluation sees it.
use Rattle.std.proofs.Common.{◌≡◌, [], Option, Some, None, Result, Ok, Err, IfOk, refl, sym, ap, ◌∙◌}
use Rattle.std.specs.FinMap as forests
use Rattle.std.specs.Option.{option_map_or}
use Rattle.std.specs.Prelude.{unwrap_or}
use Rattle.xml_model.specs.declared.node.Node.{Node, out-Node}
use Rattle.xml_model.specs.declared.node.Node.TheOpen.{Node-F}
use Rattle.xml_model.specs.Axes.{string_value, string_of_node}
use Rattle.xml_model.specs.Constructors.{pieces_of}
use Rattle.xml_model.specs.Forest.{Forest}
use Rattle.xml_model.specs.FunctionAnswers.{name_at}
use Rattle.xml_model.specs.Items.{Made, stored, node_at}
use Rattle.xml_model.specs.Nav.{Stored, stored_at, told_at, told_in}
use Rattle.xml_model.specs.Nodes.{value_at, name_in, no_nodes}
use Rattle.xml_model.specs.Place.{Placed, the_document, a_node, an_attribute}
use Rattle.xq_nodes.specs.Copies.{copied_as, standing_at}
use Rattle.xq_nodes.specs.declared.copies.Copied.{Copied}
use Rattle.xq_nodes.proofs.Stepping.{node_at_stored}

value_there : (o : Option Placed) → value_at o ≡ option_map_or string_value o []
value_there None = refl
value_there (Some it) = refl

layer_name : (x : Node-F Node) → name_in x ≡ (told_in x).name
layer_name (Node-F.Element name attrs kids) = refl
layer_name (Node-F.Text value) = refl
layer_name (Node-F.Pi target value) = refl

name_there : (o : Option Placed) → name_at o ≡ (told_at o).name
name_there None = refl
name_there (Some (the_document doc)) = refl
name_there (Some (a_node n)) = layer_name (out-Node n)
name_there (Some (an_attribute a)) = refl

pieces_there : (o : Option Placed) → pieces_of (Some (unwrap_or o no_nodes)) ≡ pieces_of o
pieces_there None = refl
pieces_there (Some it) = refl

module _ (F : Forest) (made : Made) (node : Stored) where
  -- its string value
  pub stored_value_is : value_at (node_at (forests.get F) made (record { tree = stored node.name; place = node.place })) ≡ string_of_node F node
  stored_value_is = ap value_at (node_at_stored F made node) ∙ value_there (stored_at F node)

  -- its name
  pub stored_name_is : name_at (node_at (forests.get F) made (record { tree = stored node.name; place = node.place })) ≡ (told_at (stored_at F node)).name
  stored_name_is = ap name_at (node_at_stored F made node) ∙ name_there (stored_at F node)

  -- what it is in content
  pub stored_pieces_are : pieces_of (Some (standing_at F node)) ≡ pieces_of (node_at (forests.get F) made (record { tree = stored node.name; place = node.place }))
  stored_pieces_are = pieces_there (stored_at F node) ∙ ap pieces_of (sym (node_at_stored F made node))

-- a copy of what stands somewhere is the same in content
pub copied_pieces : {E : Type 0} (h : Type 0) (r : Result Copied E) (it : Placed) (o : Option Placed) → pieces_of (Some it) ≡ pieces_of o → IfOk r (λ c. h → copied_as c ≡ it)
    → IfOk r (λ c. h → pieces_of (Some (copied_as c)) ≡ pieces_of o)
copied_pieces h (Ok c) it o e k = λ x. ap (λ p. pieces_of (Some p)) (k x) ∙ e
copied_pieces h (Err f) it o e k = tt
