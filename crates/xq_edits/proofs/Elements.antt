-- The element of an attribute: the node above it. No other node that is there has one.
use Rattle.std.proofs.Common.{◌≡◌, Bool, true, false, List, [], ◌∷◌, map, Option, Some, None, IsTrue, IfSome, refl}
use Rattle.std.proofs.Common.{sym, ap, ◌∙◌, subst, ◌≤◌, length, get_or, arith}
use Rattle.std.specs.Prelude.{bytes_eq, is_some}
use Rattle.std.specs.FinMap as forests
use Rattle.std.specs.List.{slice_get}
use Rattle.std.specs.Option.{option_map, option_and, option_and_then}
use Rattle.std.specs.Ordering.{is_eq}
use Rattle.std.proofs.lemmas.Bool.{false≢true, and_parts}
use Rattle.std.proofs.lemmas.Option.{none-some, same_Some}
use Rattle.std.proofs.lemmas.Slice.Eq.{bytes_eq-Decides}
use Rattle.xq_ast.specs.declared.kind.Kind.{Kind}
use Rattle.xml_model.specs.declared.node.Doc.{Doc}
use Rattle.xml_model.specs.declared.node.Node.{Node, out-Node}
use Rattle.xml_model.specs.declared.node.Node.TheOpen.{Node-F, Element, Text, Pi}
use Rattle.xml_model.specs.declared.nav.Id.{Id}
use Rattle.xml_model.specs.declared.place.PlaceStep.{PlaceStep}
use Rattle.xml_model.specs.declared.place.PlaceStep.TheVariants as steps
use Rattle.xml_model.specs.DocumentOrder.{node_cmp}
use Rattle.xml_model.specs.Edits.{element_by, element_of, is_same_element, goes_on}
use Rattle.xml_model.specs.Forest.{Forest}
use Rattle.xml_model.specs.Nav.{Ending, Stored, ending, behind_step, standing, stored_at, told_at, told_in, told_of, at_place, parent_place, parent_of_node}
use Rattle.xml_model.specs.Place.{Placed, the_document, a_node, an_attribute, attrs_of, kids_of, step_from, place_cmp}
use Rattle.xml_model.proofs.Numbered.{above_stands}
use Rattle.xml_model.proofs.Standing.{mapped}
use Rattle.xml_model.proofs.TreeNumbers.{ending_is}
use Rattle.xq_nodes.specs.Walks.{is_of_attributes, is_attribute}
use Rattle.xq_edits.specs.Inside.{IsThere}
use Rattle.xq_edits.specs.Kinds.{is_of_documents}
use Rattle.xq_edits.proofs.ByKind.{other_there}
use Rattle.xq_edits.proofs.Within.{same_node}

-- an attribute's element is the node above it, and no other node has one
abbrev pub ElementIs : Option Stored → Option Stored → Bool → Type 0
ElementIs parent element true = (e : Stored) × (parent ≡ Some e) × (element ≡ Some e)
ElementIs parent element false = element ≡ None

layer_is_none : (x : Node-F Node) → is_of_attributes (told_in x).kind ≡ false
layer_is_none (Element name attrs kids) = refl
layer_is_none (Text value) = refl
layer_is_none (Pi target value) = refl

module _ (n : Stored) where
  last_step : (above : List PlaceStep) (last : PlaceStep) (from w : Placed) → step_from from last ≡ Some w
      → ElementIs (Some (at_place n above)) (element_by n (Some (record { above = above; last = last }))) (is_of_attributes (told_of w).kind)
  last_step above (steps.Attr i) from w e =
      let m = mapped an_attribute (slice_get (attrs_of from) i) w e in
      subst (λ w. ElementIs (Some (at_place n above)) (Some (at_place n above)) (is_of_attributes (told_of w).kind)) m.is (at_place n above, refl, refl)
  last_step above (steps.Kid i) from w e =
      let m = mapped a_node (slice_get (kids_of from) i) w e in
      subst (λ w. ElementIs (Some (at_place n above)) None (is_of_attributes (told_of w).kind)) m.is
      (subst (ElementIs (Some (at_place n above)) None) (sym (layer_is_none (out-Node m.it))) refl)

  by_place : (doc : Doc) (p : List PlaceStep) → IsTrue (is_some (standing (the_document doc) p))
      → ElementIs (option_map (at_place n) (parent_place (the_document doc) p)) (element_by n (ending p))
      (is_of_attributes (told_at (standing (the_document doc) p)).kind)
  by_place doc [] h = refl
  by_place doc (s ∷ p) h = at (standing (the_document doc) (s ∷ p)) refl h
    where
      at : (o : Option Placed) → standing (the_document doc) (s ∷ p) ≡ o → IsTrue (is_some o)
          → ElementIs (option_map (at_place n) (option_and o (option_map (λ (e : Ending). e.above) (ending (s ∷ p))))) (element_by n (ending (s ∷ p)))
          (is_of_attributes (told_at o).kind)
      at None q k = absurd (false≢true k)
      at (Some w) q k =
          let end = behind_step s (ending p) in
          let up = above_stands end.above end.last (Some (the_document doc)) w (ap (standing (the_document doc)) (ending_is s p) ∙ q) in
          last_step end.above end.last up.0 w up.2

-- the element of a node that is there
pub element_is : (F : Forest) (n : Stored) → IsThere F n → ElementIs (parent_of_node F n) (element_of n) (is_attribute F n)
element_is F n there = in_document (forests.get F n.name) there
  where
    in_document : (o : Option Doc) → IsTrue (is_some (option_and_then (λ root. standing root n.place) (option_map the_document o)))
        → ElementIs (option_and_then (λ root. option_map (at_place n) (parent_place root n.place)) (option_map the_document o)) (element_of n)
        (is_of_attributes (told_at (option_and_then (λ root. standing root n.place) (option_map the_document o))).kind)
    in_document None h = absurd (false≢true h)
    in_document (Some doc) h = by_place n doc n.place h

-- an attribute is there
pub attribute_there : (F : Forest) (n : Stored) → is_attribute F n ≡ true → IsThere F n
attribute_there F n e = go (stored_at F n) e
  where
    go : (o : Option Placed) → is_of_attributes (told_at o).kind ≡ true → IsTrue (is_some o)
    go None e = absurd (false≢true e)
    go (Some it) e = refl

module _ (F : Forest) (n : Stored) where
  -- where the node above an attribute is this one, it is its element
  pub element_above : (o : Option Stored) → is_attribute F n ≡ true → o ≡ parent_of_node F n → element_of n ≡ o
  element_above o a e =
      let k = subst (ElementIs (parent_of_node F n) (element_of n)) a (element_is F n (attribute_there F n a)) in
      k.2 ∙ (sym k.1 ∙ sym e)

  -- another node that is there is of no element
  pub no_element : IsThere F n → is_attribute F n ≡ false → element_of n ≡ None
  no_element there a = subst (ElementIs (parent_of_node F n) (element_of n)) a (element_is F n there)

-- ---- nodes of other documents

element_name : (n e : Stored) → element_of n ≡ Some e → n.name ≡ e.name
element_name n e h = go (ending n.place) h
  where
    last : (above : List PlaceStep) (s : PlaceStep) → element_by n (Some (record { above = above; last = s })) ≡ Some e → n.name ≡ e.name
    last above (steps.Attr i) h = ap (λ (m : Stored). m.name) (same_Some (at_place n above) e h)
    last above (steps.Kid i) h = absurd (none-some e h)

    go : (o : Option Ending) → element_by n o ≡ Some e → n.name ≡ e.name
    go None h = absurd (none-some e h)
    go (Some ended) h = last ended.above ended.last h

-- two nodes of different documents are not of one element
pub elsewhere : (n m e : Stored) → element_of n ≡ Some e → (n.name ≡ m.name → ⊥) → is_same_element (Some e) (element_of m) ≡ false
elsewhere n m e h other = go (element_of m) refl
  where
    differs : (f : Stored) → m.name ≡ f.name → (b : Bool) → is_eq (node_cmp e f) ≡ b → is_eq (node_cmp e f) ≡ false
    differs f same true q =
        let names = and_parts (bytes_eq e.name f.name) (is_eq (place_cmp e.place f.place)) (sym (same_node e f) ∙ q) in
        absurd (other (element_name n e h ∙ ((bytes_eq-Decides e.name f.name).0 names.0 ∙ sym same)))
    differs f same false q = q

    go : (o : Option Stored) → element_of m ≡ o → is_same_element (Some e) o ≡ false
    go None q = refl
    go (Some f) q = differs f (element_name m f q) (is_eq (node_cmp e f)) refl

-- nodes of documents that have different numbers are of documents of different names
pub docs_apart : (F : Forest) (n m : Stored) (P : Type 0) → IsThere F n → (n.name ≡ m.name → IfSome (forests.get F n.name) (λ doc. P)) → (P → ⊥)
    → n.name ≡ m.name → ⊥
docs_apart F n m P there same other e = other (go (forests.get F n.name) there (same e))
  where
    go : (o : Option Doc) → IsTrue (is_some (option_and_then (λ root. standing root n.place) (option_map the_document o))) → IfSome o (λ doc. P) → P
    go None h k = absurd (false≢true h)
    go (Some doc) h k = k

-- where the next node is no attribute, the target does not go on
pub other_next : (F : Forest) (n e m : Stored) (rest : List Stored) (k : Kind) → k ≡ (told_at (stored_at F m)).kind → IsThere F m
    → is_of_attributes k ≡ false → element_of n ≡ Some e → false ≡ goes_on n (m ∷ rest)
other_next F n e m rest k is there a el =
    sym (ap (λ o. is_same_element o (element_of m)) el ∙ ap (is_same_element (Some e)) (no_element F m there (ap is_of_attributes (sym is) ∙ a)))

-- nor where it is of another document
pub elsewhere_next : (n e m : Stored) (rest : List Stored) → element_of n ≡ Some e → (n.name ≡ m.name → ⊥) → false ≡ goes_on n (m ∷ rest)
elsewhere_next n e m rest el other = sym (ap (λ o. is_same_element o (element_of m)) el ∙ elsewhere n m e el other)

-- the same of ids, the next of which is the first of those left
pub next_other : (F : Forest) (place : Id → Stored) (n e : Stored) (more : List Id) (k : Kind) → 1 ≤ length more
    → k ≡ (told_at (stored_at F (place (get_or more 0 (record { doc = 0; node = 0 }))))).kind → is_of_documents k ≡ false → is_of_attributes k ≡ false
    → element_of n ≡ Some e → false ≡ goes_on n (map place more)
next_other F place n e [] k some is d a el = absurd (omega arith)
next_other F place n e (m ∷ more) k some is d a el =
    other_next F n e (place m) (map place more) k is (other_there F (place m) (ap is_of_documents (sym is) ∙ d)) a el

-- and the same where the next one has another number of a document
pub next_elsewhere : (F : Forest) (place : Id → Stored) (t : Id) (e : Stored) (more : List Id) → 1 ≤ length more → IsThere F (place t)
    → ((m : Id) → (place t).name ≡ (place m).name → IfSome (forests.get F (place t).name) (λ doc. t.doc ≡ m.doc))
    → (t.doc ≡ (get_or more 0 (record { doc = 0; node = 0 })).doc → ⊥) → element_of (place t) ≡ Some e → false ≡ goes_on (place t) (map place more)
next_elsewhere F place t e [] some there same other el = absurd (omega arith)
next_elsewhere F place t e (m ∷ more) some there same other el =
    elsewhere_next (place t) e (place m) (map place more) el (docs_apart F (place t) (place m) (t.doc ≡ m.doc) there (same m) other)
