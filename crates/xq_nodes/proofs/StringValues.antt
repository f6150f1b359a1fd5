-- The string value of a node is the texts among the nodes below it, one after another.
use Rattle.std.proofs.Common.{◌≡◌, ℕ, ◌+◌, true, cond, List, [], ◌∷◌, ◌++◌, map, drop, Option, Some, None, Result, Ok, Err, IfOk, refl, sym, ap, ◌∙◌, append-nil}
use Rattle.std.specs.List.{flat_map}
use Rattle.std.specs.Option.{option_map, option_map_or, option_and_then}
use Rattle.std.proofs.lemmas.List.Concat.{flat_map-append}
use Rattle.xq_ast.specs.declared.kind.Kind.{Kind}
use Rattle.xq_ast.specs.declared.kind.Kind.TheVariants as kind
use Rattle.xml_model.specs.declared.node.Attr.{Attr}
use Rattle.xml_model.specs.declared.node.Node.{Node, Text, Pi}
use Rattle.xml_model.specs.declared.node.Node.TheVariants.{Element, outs-Element, outs-Text, outs-Pi}
use Rattle.xml_model.specs.declared.place.PlaceStep.{PlaceStep}
use Rattle.xml_model.specs.declared.place.PlaceStep.TheVariants as steps
use Rattle.xml_model.specs.Axes.{into_each, ways_down, down_step, descendant_ways, descendant_places, texts_in, texts_step, string_value, string_of_node}
use Rattle.xml_model.specs.Forest.{Forest}
use Rattle.xml_model.specs.Nav.{standing, Stored, tree_of, stored_at, told_at, told_of, at_place}
use Rattle.xml_model.specs.Place.{Placed, the_document, a_node, an_attribute, kids_of, step_from, placed_from}
use Rattle.xml_model.specs.Trees.{joined}
use Rattle.xml_model.proofs.NodeCases.{Each, node_has}
use Rattle.xml_model.proofs.Nodes.{fold-Element, fold-Text, fold-Pi}
use Rattle.xq_nodes.specs.Walks.{text_of, below_text, is_whole}
use Rattle.xq_nodes.proofs.Parts.{drop_first}

-- the text at the end of a way
abbrev text_from : Placed → List PlaceStep → List ℕ
text_from from way = text_of (told_at (placed_from way (Some from)))

TextsAre : Node → Type 0
TextsAre n = texts_in n ≡ flat_map (text_from (a_node n)) (ways_down n)

-- over ways that go on behind a step, the texts from where the step leads
behind : (from next : Placed) (s : PlaceStep) (ways : List (List PlaceStep)) → step_from from s ≡ Some next
    → flat_map (text_from from) (map (λ way. s ∷ way) ways) ≡ flat_map (text_from next) ways
behind from next s [] e = refl
behind from next s (w ∷ ways) e =
    ap (λ o. text_of (told_at (placed_from w o)) ++ flat_map (text_from from) (map (λ way. s ∷ way) ways)) e ∙ ap (λ rest. text_from next w ++ rest) (behind from next s ways e)

kids_texts : (from : Placed) (i : ℕ) (left : List Node) → drop i (kids_of from) ≡ left → Each TextsAre left
    → joined (map texts_in left) ≡ flat_map (text_from from) (into_each i (map ways_down left))
unfolding TextsAre
kids_texts from i [] d h = refl
kids_texts from i (k ∷ left) d h =
    let one = drop_first (kids_of from) i k left d in
    ap (λ first. first ++ joined (map texts_in left)) (h.0 ∙ sym (behind from (a_node k) (steps.Kid i) (ways_down k) (ap (option_map a_node) one.0)))
    ∙ (ap (λ rest. flat_map (text_from from) (map (λ way. steps.Kid i ∷ way) (ways_down k)) ++ rest) (kids_texts from (i + 1) left one.1 h.1)
    ∙ sym (flat_map-append (text_from from) (map (λ way. steps.Kid i ∷ way) (ways_down k)) (into_each (i + 1) (map ways_down left))))

pub told-Element : (name : List ℕ) (attrs : List Attr) (kids : List Node) → told_of (a_node (Element name attrs kids)) ≡ record { kind = kind.Element; name = name; value = [] }
told-Element name attrs kids = rw (outs-Element name attrs kids) refl

pub told-Text : (value : List ℕ) → told_of (a_node (Text value)) ≡ record { kind = kind.Text; name = []; value = value }
told-Text value = rw (outs-Text value) refl

pub told-Pi : (target value : List ℕ) → told_of (a_node (Pi target value)) ≡ record { kind = kind.Pi; name = target; value = value }
told-Pi target value = rw (outs-Pi target value) refl

pub kids-Element : (name : List ℕ) (attrs : List Attr) (kids : List Node) → kids_of (a_node (Element name attrs kids)) ≡ kids
kids-Element name attrs kids = rw (outs-Element name attrs kids) refl

element_texts : (name : List ℕ) (attrs : List Attr) (kids : List Node) → Each TextsAre kids → TextsAre (Element name attrs kids)
unfolding TextsAre
element_texts name attrs kids h =
    let from = a_node (Element name attrs kids) in
    fold-Element (List ℕ) texts_step name attrs kids
    ∙ (kids_texts from 0 kids (kids-Element name attrs kids) h
    ∙ (ap (λ t. text_of t ++ flat_map (text_from from) (into_each 0 (map ways_down kids))) (sym (told-Element name attrs kids))
    ∙ sym (ap (flat_map (text_from from)) (fold-Element (List (List PlaceStep)) down_step name attrs kids))))

text_texts : (value : List ℕ) → TextsAre (Text value)
unfolding TextsAre
text_texts value =
    fold-Text (List ℕ) texts_step value
    ∙ (sym (append-nil value)
    ∙ (ap (λ t. text_of t ++ []) (sym (told-Text value))
    ∙ sym (ap (flat_map (text_from (a_node (Text value)))) (fold-Text (List (List PlaceStep)) down_step value))))

instruction_texts : (target value : List ℕ) → TextsAre (Pi target value)
unfolding TextsAre
instruction_texts target value =
    fold-Pi (List ℕ) texts_step target value
    ∙ (ap (λ t. text_of t ++ []) (sym (told-Pi target value))
    ∙ sym (ap (flat_map (text_from (a_node (Pi target value)))) (fold-Pi (List (List PlaceStep)) down_step target value)))

texts_are : (n : Node) → TextsAre n
texts_are n = node_has TextsAre element_texts text_texts instruction_texts n

all_texts : (nodes : List Node) → Each TextsAre nodes
all_texts [] = tt
all_texts (n ∷ nodes) = (texts_are n, all_texts nodes)

-- what the children of a node have as texts are those on the ways down from it
below_texts : (from : Placed) → joined (map texts_in (kids_of from)) ≡ flat_map (text_from from) (descendant_ways from)
below_texts from = kids_texts from 0 (kids_of from) refl (all_texts (kids_of from))

-- ---- stored nodes

pub placed_on : (p q : List PlaceStep) (o : Option Placed) → placed_from (p ++ q) o ≡ placed_from q (placed_from p o)
placed_on [] q o = refl
placed_on (s ∷ p) [] None = refl
placed_on (s ∷ p) (t ∷ q) None = refl
placed_on (s ∷ p) q (Some from) = placed_on p q (step_from from s)

-- the texts at the nodes on the ways from a place are those on the ways
texts_there : (F : Forest) (node : Stored) (root from : Placed) → tree_of F node ≡ Some root → standing root node.place ≡ Some from → (ways : List (List PlaceStep))
    → flat_map (λ n. text_of (told_at (stored_at F n))) (map (at_place node) (map (λ way. node.place ++ way) ways)) ≡ flat_map (text_from from) ways
texts_there F node root from e h [] = refl
texts_there F node root from e h (w ∷ ways) =
    ap (λ o. text_of (told_at o) ++ flat_map (λ n. text_of (told_at (stored_at F n))) (map (at_place node) (map (λ way. node.place ++ way) ways)))
    (ap (option_and_then (λ root. standing root (node.place ++ w))) e ∙ (placed_on node.place w (Some root) ∙ ap (placed_from w) h))
    ∙ ap (λ rest. text_from from w ++ rest) (texts_there F node root from e h ways)

-- the texts below a node are those of its children
below_is : (F : Forest) (node : Stored) → below_text F node ≡ option_map_or (λ it. joined (map texts_in (kids_of it))) (stored_at F node) []
below_is F node = in_tree (tree_of F node) refl
  where
    in_tree : (o : Option Placed) → tree_of F node ≡ o → below_text F node ≡ option_map_or (λ it. joined (map texts_in (kids_of it))) (stored_at F node) []
    in_tree None e =
        ap (λ o. flat_map (λ n. text_of (told_at (stored_at F n))) (option_map_or (λ root. map (at_place node) (descendant_places root node.place)) o [])) e
        ∙ sym (ap (λ o. option_map_or (λ it. joined (map texts_in (kids_of it))) (option_and_then (λ root. standing root node.place) o) []) e)
    in_tree (Some root) e =
        ap (λ o. flat_map (λ n. text_of (told_at (stored_at F n))) (option_map_or (λ root. map (at_place node) (descendant_places root node.place)) o [])) e
        ∙ (at_node (standing root node.place) refl
        ∙ sym (ap (λ o. option_map_or (λ it. joined (map texts_in (kids_of it))) (option_and_then (λ root. standing root node.place) o) []) e))
      where
        at_node : (o : Option Placed) → standing root node.place ≡ o
            → flat_map (λ n. text_of (told_at (stored_at F n))) (map (at_place node) (descendant_places root node.place)) ≡ option_map_or (λ it. joined (map texts_in (kids_of it))) (standing root node.place) []
        at_node None h =
            ap (λ o. flat_map (λ n. text_of (told_at (stored_at F n))) (map (at_place node) (option_map_or (λ from. map (λ way. node.place ++ way) (descendant_ways from)) o []))) h
            ∙ sym (ap (λ o. option_map_or (λ it. joined (map texts_in (kids_of it))) o []) h)
        at_node (Some from) h =
            ap (λ o. flat_map (λ n. text_of (told_at (stored_at F n))) (map (at_place node) (option_map_or (λ from. map (λ way. node.place ++ way) (descendant_ways from)) o []))) h
            ∙ (texts_there F node root from e h (descendant_ways from)
            ∙ (sym (below_texts from) ∙ sym (ap (λ o. option_map_or (λ it. joined (map texts_in (kids_of it))) o []) h)))

-- by kind: the texts below, or the node's own value
string_by : (it : Placed) → cond (is_whole (told_of it).kind) (joined (map texts_in (kids_of it))) (told_of it).value ≡ string_value it
string_by (the_document doc) = refl
string_by (a_node n) =
    node_has (λ n. cond (is_whole (told_of (a_node n)).kind) (joined (map texts_in (kids_of (a_node n)))) (told_of (a_node n)).value ≡ string_value (a_node n))
    (λ name attrs kids h. rw (outs-Element name attrs kids) refl) (λ value. rw (outs-Text value) refl) (λ target value. rw (outs-Pi target value) refl) n
string_by (an_attribute a) = refl

pub string_is : (F : Forest) (node : Stored) → string_of_node F node ≡ cond (is_whole (told_at (stored_at F node)).kind) (below_text F node) (told_at (stored_at F node)).value
string_is F node =
    go (stored_at F node)
    ∙ ap (λ text. cond (is_whole (told_at (stored_at F node)).kind) text (told_at (stored_at F node)).value) (sym (below_is F node))
  where
    go : (o : Option Placed) → option_map_or string_value o [] ≡ cond (is_whole (told_at o).kind) (option_map_or (λ it. joined (map texts_in (kids_of it))) o []) (told_at o).value
    go None = refl
    go (Some it) = sym (string_by it)

pub string_whole : (F : Forest) (node : Stored) (k : Kind) → k ≡ (told_at (stored_at F node)).kind → is_whole k ≡ true → string_of_node F node ≡ below_text F node
string_whole F node k e whole =
    string_is F node ∙ ap (λ b. cond b (below_text F node) (told_at (stored_at F node)).value) (ap is_whole (sym e) ∙ whole)

-- an answer that equals something equals what that is
pub answered : {E : Type 0} (h : Type 0) (r : Result (List ℕ) E) (a b : List ℕ) → (h → b ≡ a) → IfOk r (λ s. h → s ≡ a) → IfOk r (λ s. h → s ≡ b)
answered h (Ok s) a b e k = λ x. k x ∙ sym (e x)
answered h (Err f) a b e k = tt
