-- Attributes of an element that have names of content: the walk over them, and what two lists of attributes hold together.
use Rattle.std.proofs.Common.{◌≡◌, refl, sym, ap, subst, ◌∙◌}
use Rattle.std.proofs.Common.{ℕ, ◌+◌, Bool, true, false, ◌||◌, if◌then◌else◌, IfSome, List, [], ◌∷◌, ◌++◌, map, drop, Option, None, Some, Result, Ok, Err}
use Rattle.std.specs.FinMap as forests
use Rattle.std.specs.Option.{option_map, option_map_or, option_and_then}
use Rattle.std.specs.Prelude.{unwrap_or, IsErrAnd}
use Rattle.std.proofs.lemmas.List.{map-append}
use Rattle.xq_ast.specs.declared.code.Code.{Code}
use Rattle.xq_ast.specs.declared.code.Code.TheVariants.{XPTY0004, XQDY0025}
use Rattle.xq_ast.specs.declared.kind.Kind.{Kind}
use Rattle.xq_ast.specs.declared.kind.Kind.TheVariants as kind
use Rattle.xml_model.specs.declared.edit.EditKind.{EditKind}
use Rattle.xml_model.specs.declared.edit.EditKind.TheVariants as edit
use Rattle.xml_model.specs.declared.node.Attr.{Attr}
use Rattle.xml_model.specs.declared.node.Node.{Node, out-Node}
use Rattle.xml_model.specs.declared.node.Node.TheOpen.{Node-F, Element, Text, Pi}
use Rattle.xml_model.specs.declared.place.PlaceStep.{PlaceStep}
use Rattle.xml_model.specs.declared.place.PlaceStep.TheVariants as steps
use Rattle.xml_model.specs.Axes.{one_step_each, attribute_ways, child_ways, held_places, held_nodes}
use Rattle.xml_model.specs.Constructors.{has_name_twice}
use Rattle.xml_model.specs.Edits.{Content, standing_at, into, into_layer, without_attributes}
use Rattle.xml_model.specs.Forest.{Forest, IsForest}
use Rattle.xml_model.specs.Items.{stored, ◌>>?◌}
use Rattle.xml_model.specs.Nav.{Stored, standing, tree_of, stored_at, at_place, first_of_node, next_of_node, told_at, told_in, told_of}
use Rattle.xml_model.specs.Nodes.{no_nodes}
use Rattle.xml_model.specs.Place.{Placed, the_document, a_node, an_attribute, attrs_in, attrs_of, kids_of, step_from, placed_from}
use Rattle.xml_model.specs.Trees.{has_attribute}
use Rattle.xml_model.proofs.Numbered.{placed_more}
use Rattle.xml_model.proofs.WellFormed.{IsWellFormed, forest_documents, well_at}
use Rattle.xq_edits.specs.SharedNames.{attribute_name, share_name, into_attributes}
use Rattle.xq_edits.proofs.TargetKinds.{stands_there, kind_there}
use Rattle.xq_edits.proofs.UpdateNames.{neither, placed_distinct}
use Rattle.xq_nodes.specs.Answers.{Looks}
use Rattle.xq_nodes.specs.Ends.{end_of_value}
use Rattle.xq_nodes.specs.declared.end.EvalEnd.{EvalEnd}
use Rattle.xq_values.specs.Gives.{Gives}
use Rattle.xq_values.specs.declared.end.ValueEnd.{ValueEnd}
use Rattle.xq_values.specs.declared.end.ValueEnd.TheVariants as values
use Rattle.xq_nodes.proofs.Chain.{seen_nodes, held_seen, later_seen}
use Rattle.xq_nodes.proofs.Parts.{drop_first}

-- ---- the attributes of a node stand first in its chain

-- the attributes that stand before all else
abbrev pub front : List (Option Placed) → List Attr
front [] = []
front (None ∷ more) = []
front (Some (the_document doc) ∷ more) = []
front (Some (a_node n) ∷ more) = []
front (Some (an_attribute a) ∷ more) = a ∷ front more

module _ (F : Forest) (node : Stored) (root : Placed) (e : tree_of F node ≡ Some root) (from : Placed) (h : standing root node.place ≡ Some from) where
  -- the nodes that these ways lead to
  abbrev led_to : List (List PlaceStep) → List Stored
  led_to ways = map (at_place node) (map (λ way. node.place ++ way) ways)

  one_on : (s : PlaceStep) (w : Placed) → step_from from s ≡ Some w → stored_at F (at_place node (node.place ++ s ∷ [])) ≡ Some w
  one_on s w q = ap (option_and_then (λ root. standing root (node.place ++ s ∷ []))) e ∙ (placed_more node.place s (Some root) from h ∙ q)

  front_kids : (left : List Node) → drop 0 (kids_of from) ≡ left → front (map (stored_at F) (led_to (one_step_each steps.Kid 0 left))) ≡ []
  front_kids [] d = refl
  front_kids (k ∷ left) d =
      ap (λ o. front (o ∷ map (stored_at F) (led_to (one_step_each steps.Kid 1 left))))
      (one_on (steps.Kid 0) (a_node k) (ap (option_map a_node) (drop_first (kids_of from) 0 k left d).0))

  front_attrs : (tail : List Stored) → front (map (stored_at F) tail) ≡ [] → (i : ℕ) (left : List Attr) → drop i (attrs_of from) ≡ left
      → front (map (stored_at F) (led_to (one_step_each steps.Attr i left) ++ tail)) ≡ left
  front_attrs tail none i [] d = none
  front_attrs tail none i (a ∷ left) d =
      let one = drop_first (attrs_of from) i a left d in
      ap (λ o. front (o ∷ map (stored_at F) (led_to (one_step_each steps.Attr (i + 1) left) ++ tail)))
      (one_on (steps.Attr i) (an_attribute a) (ap (option_map an_attribute) one.0))
      ∙ ap (λ l. a ∷ l) (front_attrs tail none (i + 1) left one.1)

  held_parts : held_nodes F node ≡ led_to (attribute_ways from) ++ led_to (child_ways from)
  held_parts =
      ap (λ o. option_map_or (λ root. map (at_place node) (held_places root node.place)) o []) e
      ∙ ap (λ o. map (at_place node) (option_map_or (λ from. map (λ way. node.place ++ way) (attribute_ways from)) o []
      ++ option_map_or (λ from. map (λ way. node.place ++ way) (child_ways from)) o [])) h
      ∙ map-append (at_place node) (map (λ way. node.place ++ way) (attribute_ways from)) (map (λ way. node.place ++ way) (child_ways from))

  front_there : front (map (stored_at F) (held_nodes F node)) ≡ attrs_of from
  front_there =
      ap (λ nodes. front (map (stored_at F) nodes)) held_parts
      ∙ front_attrs (led_to (child_ways from)) (front_kids (kids_of from) refl) 0 (attrs_of from) refl

-- The attributes that stand first in what a node holds are its attributes.
front_held : (F : Forest) (node : Stored) → front (map (stored_at F) (held_nodes F node)) ≡ attrs_of (standing_at (forests.get F) node)
front_held F node = in_tree (tree_of F node) refl (stored_at F node) refl ∙ ap attrs_of (sym (stands_there F node))
  where
    in_tree : (o : Option Placed) → tree_of F node ≡ o → (s : Option Placed) → option_and_then (λ root. standing root node.place) o ≡ s
        → front (map (stored_at F) (held_nodes F node)) ≡ attrs_of (unwrap_or s no_nodes)
    in_tree None e s q =
        ap (λ o. front (map (stored_at F) (option_map_or (λ root. map (at_place node) (held_places root node.place)) o []))) e
        ∙ ap (λ s. attrs_of (unwrap_or s no_nodes)) q
    in_tree (Some root) e None q =
        ap (λ o. front (map (stored_at F) (option_map_or (λ root. map (at_place node) (held_places root node.place)) o []))) e
        ∙ ap (λ o. front (map (stored_at F) (map (at_place node) (option_map_or (λ from. map (λ way. node.place ++ way) (attribute_ways from)) o []
        ++ option_map_or (λ from. map (λ way. node.place ++ way) (child_ways from)) o [])))) q
    in_tree (Some root) e (Some from) q = front_there F node root e from q

-- ---- the walk

-- What tells that it is an attribute has the name that it tells.
pub attribute_told : (F : Forest) (n : Stored) (k : Kind) (name : List ℕ) → k ≡ (told_of (standing_at (forests.get F) n)).kind → k ≡ kind.Attribute
    → name ≡ (told_at (stored_at F n)).name → Some name ≡ attribute_name (stored_at F n)
attribute_told F n k name e is told = go (stored_at F n) (sym (e ∙ sym (kind_there F n)) ∙ is) told
  where
    layer : (x : Node-F Node) → (told_in x).kind ≡ kind.Attribute → ⊥
    layer (Element name attrs kids) e = cc
    layer (Text value) e = cc
    layer (Pi target value) e = cc

    go : (o : Option Placed) → (told_at o).kind ≡ kind.Attribute → name ≡ (told_at o).name → Some name ≡ attribute_name o
    go None e told = cc
    go (Some (the_document doc)) e told = cc
    go (Some (a_node n)) e told = absurd (layer (out-Node n) e)
    go (Some (an_attribute a)) e told = ap Some told

-- Anything else has none.
pub other_told : (F : Forest) (n : Stored) (k : Kind) → k ≡ (told_of (standing_at (forests.get F) n)).kind → (k ≡ kind.Attribute → ⊥)
    → None ≡ attribute_name (stored_at F n)
other_told F n k e not = go (stored_at F n) (e ∙ sym (kind_there F n))
  where
    go : (o : Option Placed) → k ≡ (told_at o).kind → None ≡ attribute_name o
    go None e = refl
    go (Some (the_document doc)) e = refl
    go (Some (a_node n)) e = refl
    go (Some (an_attribute a)) e = absurd (not e)

module _ (content : List Attr) where
  named_first : (s : Option Placed) (rest : List (Option Placed)) (name : List ℕ) → Some name ≡ attribute_name s
      → share_name (front (s ∷ rest)) content ≡ (has_attribute name content || share_name (front rest) content)
  named_first None rest name e = cc
  named_first (Some (the_document doc)) rest name e = cc
  named_first (Some (a_node n)) rest name e = cc
  named_first (Some (an_attribute a)) rest name e =
      let same : a.name ≡ name = cc in
      ap (λ name. has_attribute name content || share_name (front rest) content) same

  none_first : (s : Option Placed) (rest : List (Option Placed)) → None ≡ attribute_name s → share_name (front (s ∷ rest)) content ≡ false
  none_first None rest e = refl
  none_first (Some (the_document doc)) rest e = refl
  none_first (Some (a_node n)) rest e = refl
  none_first (Some (an_attribute a)) rest e = cc

  module _ {I : Type 0} (F : Forest) (place : I → Stored) where
    -- whether one of the attributes that are left of a chain has a name of the content
    abbrev pub shared_on : Option I → Bool
    shared_on o = share_name (front (map (stored_at F) (seen_nodes F (option_map place o)))) content

    -- At the start all attributes of the node are left.
    pub shared_first : (n : Stored) (o : Option I) → option_map place o ≡ first_of_node F n
        → shared_on o ≡ share_name (attrs_of (standing_at (forests.get F) n)) content
    shared_first n o e =
        ap (λ nodes. share_name (front (map (stored_at F) nodes)) content) (ap (seen_nodes F) e ∙ sym (held_seen F n))
        ∙ ap (λ attrs. share_name attrs content) (front_held F n)

    -- At the end none is left.
    pub shared_last : (o : Option I) (whole : Bool) → o ≡ None → shared_on o ≡ whole → false ≡ whole
    shared_last o whole e so = sym (ap shared_on e) ∙ so

    module _ (m : I) (o : Option I) (e : o ≡ Some m) (whole : Bool) (so : shared_on o ≡ whole) (told : Option (List ℕ))
        (there : told ≡ attribute_name (stored_at F (place m))) where
      abbrev rest : List (Option Placed)
      rest = map (stored_at F) (seen_nodes F (next_of_node F (place m)))

      opened : share_name (front (stored_at F (place m) ∷ rest)) content ≡ whole
      opened =
          sym (ap shared_on e ∙ ap (λ nodes. share_name (front (stored_at F (place m) ∷ map (stored_at F) nodes)) content) (later_seen F (place m)))
          ∙ so

      -- What is no attribute stands after all attributes.
      pub shared_no_more : told ≡ None → false ≡ whole
      shared_no_more none = sym (none_first (stored_at F (place m)) rest (sym none ∙ there)) ∙ opened

      module _ (name text : List ℕ) (b : Bool) (is : told ≡ Some name) (read : text ≡ name) (has : b ≡ has_attribute text content) where
        by_name : (b || share_name (front rest) content) ≡ whole
        by_name =
            ap (λ b. b || share_name (front rest) content) (has ∙ ap (λ name. has_attribute name content) read)
            ∙ (sym (named_first (stored_at F (place m)) rest name (sym is ∙ there)) ∙ opened)

        -- A name of the content is shared.
        pub shared_here : b ≡ true → true ≡ whole
        shared_here found = sym (ap (λ b. b || share_name (front rest) content) found) ∙ by_name

        -- After an attribute with another name the others are left.
        pub shared_later : (next : Option I) → b ≡ false → option_map place next ≡ next_of_node F (place m) → shared_on next ≡ whole
        shared_later next other gives =
            ap (λ o. share_name (front (map (stored_at F) (seen_nodes F o))) content) gives
            ∙ (sym (ap (λ b. b || share_name (front rest) content) other) ∙ by_name)

-- ---- two lists of attributes

or_assoc : (a b c : Bool) → (a || (b || c)) ≡ ((a || b) || c)
or_assoc true b c = refl
or_assoc false b c = refl

lacks : (name : List ℕ) (xs ys : List Attr) → has_attribute name xs ≡ false → has_attribute name (xs ++ ys) ≡ has_attribute name ys
lacks name [] ys h = refl
lacks name (x ∷ xs) ys h =
    let parts = neither _ _ h in
    ap (λ b. b || has_attribute name (xs ++ ys)) parts.0 ∙ lacks name xs ys parts.1

-- a name that stands twice in both lists is shared, or stands twice in the second, where none does in the first
twice_in_both : (xs ys : List Attr) → has_name_twice xs ≡ false → has_name_twice (xs ++ ys) ≡ (share_name xs ys || has_name_twice ys)
twice_in_both [] ys h = refl
twice_in_both (x ∷ xs) ys h =
    let parts = neither _ _ h in
    ap (λ b. b || has_name_twice (xs ++ ys)) (lacks x.name xs ys parts.0)
    ∙ (ap (λ b. has_attribute x.name ys || b) (twice_in_both xs ys parts.1) ∙ or_assoc (has_attribute x.name ys) (share_name xs ys) (has_name_twice ys))

-- no element of a forest has two attributes of one name
stored_apart : (F : Forest) → IsForest F → (n : Stored) → has_name_twice (attrs_of (standing_at (forests.get F) n)) ≡ false
stored_apart F valid n =
    go (placed_from n.place (option_map the_document (forests.get F n.name)))
    (well_at (forests.get F) [] (record { tree = stored n.name; place = n.place }) (forest_documents F valid) tt)
  where
    go : (o : Option Placed) → IfSome o IsWellFormed → has_name_twice (attrs_of (unwrap_or o no_nodes)) ≡ false
    go None w = refl
    go (Some it) w = placed_distinct it w

module _ (F : Forest) (valid : IsForest F) (n : Stored) (c : Content) (repeats : Bool) (twice : repeats ≡ has_name_twice c.attrs) where
  abbrev there : List Attr
  there = attrs_of (standing_at (forests.get F) n)

  -- the test of an element, by the two tests of the content
  tested : (shares : Bool) → shares ≡ share_name there c.attrs
      → into_attributes there c ≡ (if shares || repeats then Err XQDY0025 else Ok (edit.Into c.attrs c.kids))
  tested shares e =
      ap (λ b. if b then Err XQDY0025 else Ok (edit.Into c.attrs c.kids))
      (twice_in_both there c.attrs (stored_apart F valid n) ∙ (ap (λ b. b || has_name_twice c.attrs) (sym e) ∙ ap (λ b. shares || b) (sym twice)))

  -- Content with a name twice goes into no element.
  pub into_repeated : repeats ≡ true → into_attributes there c ≡ Err XQDY0025
  into_repeated is = tested (share_name there c.attrs) refl ∙ go (share_name there c.attrs) repeats is
    where
      go : (a b : Bool) → b ≡ true → (if a || b then Err XQDY0025 else Ok (edit.Into c.attrs c.kids)) ≡ Err XQDY0025
      go true b is = refl
      go false b is = ap (λ b. if b then Err XQDY0025 else Ok (edit.Into c.attrs c.kids)) is

  -- Nor does content with a name of the element.
  pub into_shared : (shares : Bool) (attrs : List Attr) → attrs ≡ c.attrs → shares ≡ share_name there attrs → shares ≡ true
      → into_attributes there c ≡ Err XQDY0025
  into_shared shares attrs q e is =
      tested shares (e ∙ ap (share_name there) q)
      ∙ ap (λ b. if b || repeats then Err XQDY0025 else Ok (edit.Into c.attrs c.kids)) is

  -- Other content does.
  pub into_apart : (shares : Bool) (attrs : List Attr) (what : EditKind) → attrs ≡ c.attrs → shares ≡ share_name there attrs → shares ≡ false → repeats ≡ false
      → what ≡ edit.Into c.attrs c.kids → into_attributes there c ≡ Ok what
  into_apart shares attrs what q e is once so =
      tested shares (e ∙ ap (share_name there) q) ∙ (ap (λ b. if b || repeats then Err XQDY0025 else Ok (edit.Into c.attrs c.kids)) is
      ∙ (ap (λ b. if b then Err XQDY0025 else Ok (edit.Into c.attrs c.kids)) once ∙ ap Ok (sym so)))

-- ---- kinds

module _ (c : Content) (k : Kind) where
  -- a document, which takes nodes alone
  pub into_document : (p : Placed) → k ≡ (told_of p).kind → k ≡ kind.Document → (without_attributes c >>? (λ kids. Ok (edit.Into [] kids))) ≡ into c p
  into_document (the_document doc) e is = refl
  into_document (a_node n) e is = absurd (layer (out-Node n) (sym e ∙ is))
    where
      layer : (x : Node-F Node) → (told_in x).kind ≡ kind.Document → ⊥
      layer (Element name attrs kids) e = cc
      layer (Text value) e = cc
      layer (Pi target value) e = cc
  into_document (an_attribute a) e is = cc

  -- an element, by its attributes
  pub into_element : (p : Placed) → k ≡ (told_of p).kind → k ≡ kind.Element → into_attributes (attrs_of p) c ≡ into c p
  into_element (the_document doc) e is = cc
  into_element (a_node n) e is = layer (out-Node n) (sym e ∙ is)
    where
      layer : (x : Node-F Node) → (told_in x).kind ≡ kind.Element → into_attributes (attrs_in x) c ≡ into_layer c x
      layer (Element name attrs kids) e = refl
      layer (Text value) e = cc
      layer (Pi target value) e = cc
  into_element (an_attribute a) e is = cc

  -- nothing else takes content
  pub into_other : (p : Placed) → k ≡ (told_of p).kind → (k ≡ kind.Document → ⊥) → (k ≡ kind.Element → ⊥) → into c p ≡ Err XPTY0004
  into_other (the_document doc) e document element = absurd (document e)
  into_other (a_node n) e document element = layer (out-Node n) e
    where
      layer : (x : Node-F Node) → k ≡ (told_in x).kind → into_layer c x ≡ Err XPTY0004
      layer (Element name attrs kids) e = absurd (element e)
      layer (Text value) e = refl
      layer (Pi target value) e = refl
  into_other (an_attribute a) e document element = refl

-- A call that only takes memory ends a call on nodes, where both have one defined answer.
pub ended_value : {A B F : Type 0} (honest : Type 0) (passes : F → Type 0) (seen : A → B) (r : Result A (EvalEnd F)) (end : ValueEnd)
    (d defined : Result B Code) → IsErrAnd r (λ e. e ≡ end_of_value end) → (honest → d ≡ defined) → Gives seen (Err end) d → Looks honest passes seen r defined
ended_value honest passes seen (Ok x) end d defined is same gives = absurd is
ended_value honest passes seen (Err e) (values.Code code) d defined is same gives =
    subst (λ e. Looks honest passes seen (Err e) defined) (sym is) (λ b. sym (same b) ∙ gives)
ended_value honest passes seen (Err e) values.NoMemory d defined is same gives = subst (λ e. Looks honest passes seen (Err e) defined) (sym is) tt
