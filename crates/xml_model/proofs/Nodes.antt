-- What definitions on trees say of each node.
use Rattle.std.proofs.Common.{◌≡◌, ℕ, ◌+◌, max, Bool, false, IsTrue, List, [], ◌∷◌, ◌++◌, map, refl, ap, sym, ◌∙◌, subst, arith}
use Rattle.std.proofs.lemmas.Bool.{and_right}
use Rattle.xml_model.specs.declared.node.Attr.{Attr}
use Rattle.xml_model.specs.declared.node.Node.{Node, Element', Text, Pi, Row_of-Node, end_of-Node, more_of-Node, items-the_row-Node, items_shown-the_row-Node-0, items_hidden-the_row-Node-0, out-Node, roll-Node, roll-out-Node, fold_out-Node, fold-Node}
use Rattle.xml_model.specs.declared.node.Node.TheBlock.{hidden-the_row-Node-0}
use Rattle.xml_model.specs.declared.node.Node.TheOpen.{Node-F}
use Rattle.xml_model.specs.declared.node.Node.TheVariants.{Element, outs-Element, outs-Element', outs-Text, outs-Pi, rolls-Element}
use Rattle.xq_ast.specs.Names.{is_name}
use Rattle.xml_model.specs.Trees.{count_node, count_of, bytes_node, bytes_of, depth_node, depth_of}
use Rattle.xml_model.proofs.Formed.{IsFormed, AreFormed, AllFormed, IsApart, AreAttributes, is_text}
use Rattle.xml_model.specs.Pyx.{is_text_layer}

-- a fold at each variant
module _ (A : Type 0) (meaning : Node-F A → A) where
  -- the fold of a text is the meaning of its layer
  pub fold-Text : (value : List ℕ) → fold-Node A meaning (Text value) ≡ meaning (Node-F.Text value)
  fold-Text value = fold_out-Node A meaning (Text value) ∙ rw (outs-Text value) refl

  -- the fold of an instruction is the meaning of its layer
  pub fold-Pi : (target value : List ℕ) → fold-Node A meaning (Pi target value) ≡ meaning (Node-F.Pi target value)
  fold-Pi target value = fold_out-Node A meaning (Pi target value) ∙ rw (outs-Pi target value) refl

  -- the fold of an element with a row is the meaning of its layer, with the folds of the row's nodes as children
  pub fold-Element' : (name : List ℕ) (attrs : List Attr) (s : _) (row : Row_of-Node _)
      → fold-Node A meaning (Element' name attrs s row) ≡ meaning (Node-F.Element name attrs (map (fold-Node A meaning) (items-the_row-Node _ row)))
  fold-Element' name attrs s row = fold_out-Node A meaning (Element' name attrs s row)
      ∙ rw (outs-Element' name attrs s row, items_shown-the_row-Node-0 s row) refl

  -- the fold of an element made of a list is the meaning of its layer, with the folds of the list's nodes as children
  pub fold-Element : (name : List ℕ) (attrs : List Attr) (kids : List Node)
      → fold-Node A meaning (Element name attrs kids) ≡ meaning (Node-F.Element name attrs (map (fold-Node A meaning) kids))
  fold-Element name attrs kids = fold_out-Node A meaning (Element name attrs kids) ∙ rw (outs-Element name attrs kids) refl

-- an element made of the list of a row's nodes is the element with that row
pub made-Element' : (name : List ℕ) (attrs : List Attr) (s : _) (row : Row_of-Node _)
    → Element name attrs (items-the_row-Node _ row) ≡ Element' name attrs s row
made-Element' name attrs s row =
    ap (λ kids. Element name attrs kids) (sym (items_shown-the_row-Node-0 s row))
    ∙ (sym (rolls-Element name attrs _) ∙ (ap roll-Node (sym (outs-Element' name attrs s row)) ∙ roll-out-Node (Element' name attrs s row)))

-- whether a node is a text, by its layer and by its variant
pub is_text-layer : (n : Node) → is_text_layer (out-Node n) ≡ is_text n
is_text-layer (Element' name attrs s row) = rw (outs-Element' name attrs s row) refl
is_text-layer (Text value) = rw (outs-Text value) refl
is_text-layer (Pi target value) = rw (outs-Pi target value) refl

-- a list of nodes with one more at the end

-- it adds its own number of nodes
pub count_of-push : (xs : List Node) (x : Node) → count_of (xs ++ x ∷ []) ≡ count_of xs + count_node x
count_of-push [] x = omega arith
count_of-push (y ∷ xs) x = omega (arith, count_of-push xs x)

-- it adds the bytes of its own values
pub bytes_of-push : (xs : List Node) (x : Node) → bytes_of (xs ++ x ∷ []) ≡ bytes_of xs + bytes_node x
bytes_of-push [] x = omega arith
bytes_of-push (y ∷ xs) x = omega (arith, bytes_of-push xs x)

-- the list is as deep as the deeper of both
pub depth_of-push : (xs : List Node) (x : Node) → depth_of (xs ++ x ∷ []) ≡ max (depth_of xs) (depth_node x)
depth_of-push [] x = omega arith
depth_of-push (y ∷ xs) x = omega (arith, depth_of-push xs x)

-- it stays well-formed, if the node is
pub AllFormed-push : (xs : List Node) (x : Node) → AllFormed xs → IsFormed x → AllFormed (xs ++ x ∷ [])
AllFormed-push [] x formed h = (h, tt)
AllFormed-push (y ∷ xs) x formed h = (formed.0, AllFormed-push xs x formed.1 h)

-- no two texts become neighbours, if the node is no text
pub IsApart-push : (after : Bool) (xs : List Node) (x : Node) → IsApart after xs → is_text x ≡ false → IsApart after (xs ++ x ∷ [])
IsApart-push after [] x apart h = (and_right after _ h, tt)
IsApart-push after (y ∷ xs) x apart h = (apart.0, IsApart-push (is_text y) xs x apart.1 h)

-- an element of well-formed parts is well-formed

-- a row of well-formed nodes is well-formed
row_formed : (m : _) (row : Row_of-Node m) → AllFormed (items-the_row-Node m row) → AreFormed row
row_formed _ end_of-Node formed = tt
row_formed _ (more_of-Node x row) formed = (formed.0, row_formed _ row formed.1)

-- so is an element, by its name, its attributes and its children
pub formed-Element : (name : List ℕ) (attrs : List Attr) (kids : List Node) → IsTrue (is_name name) → AreAttributes attrs → IsApart false kids → AllFormed kids
    → IsFormed (Element name attrs kids)
formed-Element name attrs kids named are apart formed =
    let whole = sym (items_hidden-the_row-Node-0 kids) in
    (named, are, subst (IsApart false) whole apart, row_formed _ (hidden-the_row-Node-0 kids) (subst AllFormed whole formed))
