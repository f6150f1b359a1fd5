-- Answers of queries that compute. What a query means rests on folds over nodes, which do not compute. So the
-- definitions that rest on them stand here once more, over any fold: at the fold of nodes they are the definitions
-- themselves, and at `refold` they compute. With documents that are entries of a list, and expressions to a bounded
-- depth, an answer is then what computes (`computes`).
use Rattle.std.proofs.Common.{ap, sym, ◌∙◌}
use Rattle.std.specs.Cmp.Lexicographic.{slice_cmp}
use Rattle.std.specs.Fmt.{char_count, digits, signed_decimal}
use Rattle.std.specs.List.{concat}
use Rattle.std.specs.Ordering.{nat_cmp}
use Rattle.std.specs.Prelude.{Err, List, None, Ok, Option, Result, Some, T, [], codes, false, filter, if◌then◌else◌, length, map, nat_lt, not, pos, refl, true, unwrap_or, ℕ, ◌∷◌, ◌≡◌}
use Rattle.xml_model.proofs.Bounded.{bounded, fits, run}
use Rattle.xml_model.proofs.Nodes.{fold-Element', fold-Pi, fold-Text}
use Rattle.xml_model.specs.Atoms.{Atoms, atom_text, boolean_text, chained, compares, effective_boolean, operated, product_op, range_of, signed_by, sum_of, sum_op}
use Rattle.xml_model.specs.Axes.{attribute_places, child_places, down_step, into_each, led, parent_places, texts_step}
use Rattle.xml_model.specs.Constructors.{Piece, attributes_of, children_of, content_of, has_late_attribute, has_name_twice, limited_text, spaced}
use Rattle.xml_model.specs.Evaluation.{ProductMeans, StepMeans, SumMeans, all_of, any_of, boolean_value, bound_value, content_or, counted, document_node, filtered, from_each, one_after_another, or_nothing, parts, truth, values}
use Rattle.xml_model.specs.Forest.{Forest}
use Rattle.xml_model.specs.FunctionAnswers.{Context, FunctionRow, answer_of_row, begins_with, boolean_answer, concat_arguments, context_item, first_of, has_within, integer_answer, is_empty, name_of_one, of_focus, or_context, second_of, string_answer, string_argument, tested_texts}
use Rattle.xml_model.specs.ItemLines.{atom_line, lines_of as spec_lines}
use Rattle.xml_model.specs.Items.{Documents, Item, Items, Made, Making, NodeAt, boolean, construct, fail, give, integer, look, node, node_at, plain, string, tree_root, ◌>>=◌, ◌>>?◌}
use Rattle.xml_model.specs.Nodes.{no_nodes, is_attribute_axis, nodes_or, passes_at, united_all}
use Rattle.xml_model.specs.Place.{Placed, a_node, an_attribute, kids_of, the_document}
use Rattle.xml_model.specs.Pyx.{Line, attribute_line, pyx_step}
use Rattle.xml_model.specs.Trees.{bytes_step, count_step, depth_step, joined}
use Rattle.xml_model.specs.Tuples.{BindMeans, Bindings, KeyMeans, Keyed, Means, Tuples, each, first_type, joined_type, key_of, no_keys, no_tuples, other_types, returned, sorted, stays, type_of, with_key, with_row}
use Rattle.xml_model.specs.declared.limits.TheConstants.{DEPTH_MAX, NODES_MAX, TEXT_BYTES_MAX}
use Rattle.xml_model.specs.declared.node.Doc.{Doc}
use Rattle.xml_model.specs.declared.node.Node.{Element', Node, Pi, Row_of-Node, end_of-Node, items-the_row-Node, more_of-Node, out-Node}
use Rattle.xml_model.specs.declared.node.Node.TheFolds.{fold-Node}
use Rattle.xml_model.specs.declared.node.Node.TheOpen.{Node-F}
use Rattle.xml_model.specs.declared.node.Node.TheVariants.{Element, Text}
use Rattle.xml_model.specs.declared.place.PlaceStep.{PlaceStep}
use Rattle.xml_model.specs.declared.value.Atom.{Atom}
use Rattle.xml_model.specs.declared.value.KeyType.{KeyType}
use Rattle.xq_ast.specs.declared.code.Code.{Code}
use Rattle.xq_ast.specs.declared.code.Code.TheVariants.{XPST0003, TooDeep, TooManyNodes, TooMuchText, XPTY0004, XPTY0019, XPTY0020, XQDY0025, XQTY0024}
use Rattle.xq_ast.specs.declared.step.Axis.{Axis}
use Rattle.xq_ast.specs.declared.step.Axis.TheVariants.{DescendantOrSelf}
use Rattle.xq_ast.specs.declared.step.Test.{Test}
use Rattle.xq_ast.specs.declared.step.Test.TheVariants.{AnyNode}
use Rattle.xq_ast.specs.declared.tree.Bind.{out-Bind}
use Rattle.xq_ast.specs.declared.tree.Bind.TheOpen.{Expr-F, Start-F, Step-F}
use Rattle.xq_ast.specs.declared.tree.Expr.{Expr, out-Expr}
use Rattle.xq_ast.specs.declared.tree.Start.{out-Start}
use Rattle.xml_model.specs.declared.value.Atom.TheVariants as atom
use Rattle.xq_ast.specs.declared.step.Axis.TheVariants as axis
use Rattle.xq_ast.specs.declared.tree.Bind.TheBlock as block
use Rattle.std.specs.FinMap as forests
use Rattle.xml_model.specs.declared.node.Node.TheBlock as nodes
use Rattle.xml_model.specs.Evaluation as spec

module _ (docs : Documents) (fold : (A : Type 0) → (Node-F A → A) → Node → A) where
  -- the ways to a node itself and to all below it
  abbrev pub ways_down : Node → List (List PlaceStep)
  ways_down = fold (List (List PlaceStep)) down_step

  -- into each child and on
  abbrev pub descendant_ways : Placed → List (List PlaceStep)
  descendant_ways from = into_each 0 (map ways_down (kids_of from))

  -- the places that they lead to
  abbrev pub descendant_places : Placed → List PlaceStep → List (List PlaceStep)
  descendant_places = led descendant_ways

  -- the places of an axis
  abbrev pub axis_places : Axis → Placed → List PlaceStep → List (List PlaceStep)
  axis_places axis.Child root place = child_places root place
  axis_places axis.Descendant root place = descendant_places root place
  axis_places axis.DescendantOrSelf root place = place ∷ descendant_places root place
  axis_places axis.Itself root place = place ∷ []
  axis_places axis.Attribute root place = attribute_places root place
  axis_places axis.Parent root place = parent_places root place

  -- the texts in a node
  abbrev pub texts_in : Node → List ℕ
  texts_in = fold (List ℕ) texts_step

  -- of an element or a document the texts in it; of a text, an instruction or an attribute its value
  abbrev pub string_in : Node-F Node → List ℕ
  string_in (Node-F.Element name attrs kids) = joined (map texts_in kids)
  string_in (Node-F.Text value) = value
  string_in (Node-F.Pi target value) = value

  -- the string value of what stands somewhere
  abbrev pub string_value : Placed → List ℕ
  string_value (the_document doc) = joined (map texts_in doc.kids)
  string_value (a_node n) = string_in (out-Node n)
  string_value (an_attribute a) = a.value

  -- the number of nodes in this one: itself, its attributes and all that stands in it
  abbrev pub count_node : Node → ℕ
  count_node = fold ℕ count_step

  -- the number of bytes that the values in a node have: of its texts, instructions and attributes
  abbrev pub bytes_node : Node → ℕ
  bytes_node = fold ℕ bytes_step

  -- how many elements stand in one another in a node, itself counted: 0 of a text or an instruction
  abbrev pub depth_node : Node → ℕ
  depth_node = fold ℕ depth_step

  -- the string value of what stands there; nothing has none
  abbrev pub value_at : Option Placed → List ℕ
  value_at None = []
  value_at (Some there) = string_value there

  -- atomizing: a node gives its string value, untyped
  abbrev pub atomized_item : Made → Item → Atom
  atomized_item made (node n) = atom.Untyped (value_at (node_at docs made n))
  atomized_item made (string text) = atom.Text text
  atomized_item made (integer n) = atom.Int n
  atomized_item made (boolean b) = atom.Truth b

  -- each item of a list
  abbrev pub atomized : Made → Items → Atoms
  atomized made items = map (atomized_item made) items

  -- the nodes of an axis that pass the test, in document order
  abbrev pub tested : Made → Axis → Test → NodeAt → List NodeAt
  tested made way wanted n =
      filter (λ m. passes_at (is_attribute_axis way) wanted (node_at docs made m))
      (map (λ place. record { tree = n.tree; place = place }) (axis_places way (unwrap_or (tree_root docs made n.tree) no_nodes) n.place))

  -- a tree that keeps to the three limits
  abbrev pub limited : Node → Result Node Code
  limited n =
      if nat_lt DEPTH_MAX (depth_node n) then Err TooDeep else
      (if nat_lt NODES_MAX (count_node n) then Err TooManyNodes else
      (if nat_lt TEXT_BYTES_MAX (bytes_node n) then Err TooMuchText else Ok n))

  -- a new element, or the first code; each test is of the whole content
  abbrev pub element : List ℕ → List Piece → Result Node Code
  element name content =
      if has_late_attribute false content then Err XQTY0024 else
      (if has_name_twice (attributes_of content) then Err XQDY0025 else limited (Element name (attributes_of content) (children_of content)))

  -- the string of one item at most
  abbrev pub string_of : Made → Items → Result (List ℕ) Code
  string_of made [] = Ok []
  string_of made (item ∷ []) = Ok (atom_text (atomized_item made item))
  string_of made (item ∷ other ∷ items) = Err XPTY0004

  -- what is measured: the argument, which must be a string, or without one the text of the context item, whatever it is
  abbrev pub measured : Made → Context → List Items → Result (List ℕ) Code
  measured made cx [] = context_item cx >>? string_of made
  measured made cx (value ∷ more) = string_argument (atomized made value)

  -- the functions of `functions` of xq_ast, each with its answer
  abbrev pub rows : Made → Context → List FunctionRow
  rows made cx =
      (codes "count", λ args. integer_answer (pos (length (first_of args))))
      ∷ (codes "empty", λ args. boolean_answer (is_empty (first_of args)))
      ∷ (codes "exists", λ args. boolean_answer (not (is_empty (first_of args))))
      ∷ (codes "not", λ args. effective_boolean (first_of args) >>? (λ b. boolean_answer (not b)))
      ∷ (codes "true", λ args. boolean_answer true)
      ∷ (codes "false", λ args. boolean_answer false)
      ∷ (codes "string", λ args. or_context cx args >>? string_of made >>? string_answer)
      ∷ (codes "name", λ args. or_context cx args >>? name_of_one docs made >>? string_answer)
      ∷ (codes "contains", λ args. tested_texts has_within (atomized made (first_of args)) (atomized made (second_of args)))
      ∷ (codes "starts-with", λ args. tested_texts begins_with (atomized made (first_of args)) (atomized made (second_of args)))
      ∷ (codes "string-length", λ args. measured made cx args >>? (λ text. integer_answer (pos (char_count text))))
      ∷ (codes "concat", λ args. concat_arguments (map (atomized made) args) >>? (λ texts. string_answer (concat texts)))
      ∷ (codes "sum", λ args. sum_of (atomized made (first_of args)) >>? integer_answer)
      ∷ (codes "position", λ args. of_focus (λ focus. focus.position) cx)
      ∷ (codes "last", λ args. of_focus (λ focus. focus.size) cx)
      ∷ []

  -- what the function of this name answers
  abbrev pub call_function : Made → Context → List ℕ → List Items → Result Items Code
  call_function made cx = answer_of_row (rows made cx)

  -- the keys in order, after those that are there; the types are those of earlier tuples at the places from here on
  abbrev pub keyed : List KeyMeans → Bindings → Context → List KeyType → Keyed → Making Keyed
  keyed [] env cx types all = give all
  keyed (k ∷ ks) env cx types all =
      k.value env cx >>= (λ value. look (λ made. key_of (atomized made value))) >>= (λ key.
      plain (joined_type (first_type types) (type_of key)) >>= (λ type. keyed ks env cx (other_types types) (with_key all key type)))

  -- one tuple more, where it stays
  abbrev pub tuple : Option Means → List KeyMeans → Bindings → Context → Tuples → Making Tuples
  tuple filter keys env cx all =
      stays docs filter env cx >>= (λ b. if b then keyed keys env cx all.types no_keys >>= (λ k. give (with_row all env k)) else give all)

  -- all tuples of the bindings
  abbrev pub tuples : List BindMeans → Option Means → List KeyMeans → Bindings → Context → Tuples → Making Tuples
  tuples [] filter keys env cx all = tuple filter keys env cx all
  tuples (bind ∷ binds) filter keys env cx all = bind env cx >>= (λ values. each docs (tuples binds filter keys) env cx values all)

  -- what `//` stands for: a node itself and all below it
  abbrev pub below : NodeAt → Making (List NodeAt)
  below n = look (λ made. Ok (tested made DescendantOrSelf AnyNode n))

  -- a step from each of the nodes, in the order of the value
  abbrev pub stepped : StepMeans → Bindings → List NodeAt → Making (List NodeAt)
  stepped s env ns =
      (if s.deep then from_each below [] ns else give ns) >>= from_each (s.from_node env) []

  -- before each step all items must be nodes
  abbrev pub path_from : List StepMeans → Bindings → Items → Making Items
  path_from [] env items = give items
  path_from (s ∷ ss) env items = plain (nodes_or XPTY0019 items) >>= stepped s env >>= (λ ns. path_from ss env (map node ns))

  -- the first step starts from the context item, which must be a node
  abbrev pub first_step : StepMeans → Bindings → Context → Making Items
  first_step s env cx =
      plain (context_item cx >>? nodes_or XPTY0020) >>= stepped s env >>= (λ ns. give (map node ns))

  -- the value of each kind of expression, before its items are counted
  abbrev pub value_of : Expr-F BindMeans Means Means (ProductMeans docs) KeyMeans StepMeans (SumMeans docs) → Means
  value_of (Expr-F.Text value) env cx = give (string value ∷ [])
  value_of (Expr-F.Int value) env cx = give (integer value ∷ [])
  value_of (Expr-F.Var name) env cx = give (or_nothing (bound_value name env))
  value_of Expr-F.Context env cx = plain (context_item cx)
  value_of (Expr-F.Seq es) env cx = one_after_another es env cx
  value_of (Expr-F.Flwor binds filter keys result) env cx =
      tuples binds filter keys env cx no_tuples >>= (λ all. returned result cx (sorted keys all.rows))
  value_of (Expr-F.If test good other) env cx = truth test env cx >>= (λ b. if b then good env cx else other env cx)
  value_of (Expr-F.Or es) env cx = any_of es env cx >>= (λ b. give (boolean_value b))
  value_of (Expr-F.And es) env cx = all_of es env cx >>= (λ b. give (boolean_value b))
  value_of (Expr-F.Compare left op right) env cx =
      left env cx >>= (λ a. right env cx >>= (λ b. look (λ made. compares op (atomized made a) (atomized made b)) >>= (λ t. give (boolean_value t))))
  value_of (Expr-F.Range low high) env cx =
      low env cx >>= (λ a. high env cx >>= (λ b. look (λ made. operated range_of (atomized made a) (atomized made b))))
  value_of (Expr-F.Sum first rest) env cx =
      first env cx >>= (λ a. parts rest env cx >>= (λ more. look (λ made. chained (atomized made) sum_op a more)))
  value_of (Expr-F.Product first rest) env cx =
      first env cx >>= (λ a. parts rest env cx >>= (λ more. look (λ made. chained (atomized made) product_op a more)))
  value_of (Expr-F.Union es) env cx = values es env cx >>= (λ lists. plain (united_all [] lists)) >>= (λ ns. give (map node ns))
  value_of (Expr-F.Signed signs inner) env cx = inner env cx >>= (λ a. look (λ made. signed_by (atomized made) signs a))
  value_of (Expr-F.Path start rest) env cx = start env cx >>= path_from rest env
  value_of (Expr-F.Filter inner preds) env cx = inner env cx >>= filtered (λ item. item) preds env
  value_of (Expr-F.Fun name args) env cx = values args env cx >>= (λ lists. look (λ made. call_function made cx name lists))
  value_of (Expr-F.Doc name) env cx = plain (document_node docs (docs name) name)
  value_of (Expr-F.Element name content) env cx =
      content_or content env cx >>= (λ items. look (λ made. element name (content_of docs made items))) >>= (λ n. construct (a_node n))
  value_of (Expr-F.Attribute name content) env cx =
      content_or content env cx >>= (λ items. look (λ made. limited_text (spaced (atomized made items))))
      >>= (λ value. construct (an_attribute (record { name = name; value = value })))
  value_of (Expr-F.TextNode content) env cx = content_or content env cx >>= new_text
    where
      new_text : Items → Making Items
      new_text [] = give []
      new_text (item ∷ items) = look (λ made. limited_text (spaced (atomized made (item ∷ items)))) >>= (λ value. construct (a_node (Text value)))

  -- and counted
  abbrev pub expr_step : Expr-F BindMeans Means Means (ProductMeans docs) KeyMeans StepMeans (SumMeans docs) → Means
  expr_step layer env cx = value_of layer env cx >>= counted

  -- the beginning of a path
  abbrev pub start_step : Start-F BindMeans Means Means (ProductMeans docs) KeyMeans StepMeans (SumMeans docs) → Means
  start_step (Start-F.Value inner) env cx = inner env cx
  start_step (Start-F.First step) env cx = first_step step env cx

  -- the nodes of the axis that pass the test, and then each predicate
  abbrev pub step_step : Step-F BindMeans Means Means (ProductMeans docs) KeyMeans StepMeans (SumMeans docs) → StepMeans
  step_step s = record {
    deep = s.deep;
    from_node = λ env n. look (λ made. Ok (tested made s.axis s.test n)) >>= filtered node s.preds env;
  }

  -- the canonical lines of a node
  abbrev pub pyx_node : Node → List Line
  pyx_node = fold (List Line) pyx_step

  -- the canonical lines of nodes, one node after another
  abbrev pub pyx_of : List Node → List Line
  pyx_of nodes = joined (map pyx_node nodes)

  -- the canonical lines of a document
  abbrev pub pyx : Doc → List Line
  pyx doc = pyx_of doc.kids

  -- an element has its lines of PYX, an attribute, a text or an instruction its one line, and a document those of its
  -- children
  abbrev pub placed_lines : Option Placed → List Line
  placed_lines None = []
  placed_lines (Some (the_document doc)) = pyx doc
  placed_lines (Some (a_node n)) = pyx_node n
  placed_lines (Some (an_attribute a)) = attribute_line a ∷ []

  -- the lines of an item
  abbrev pub item_lines : Made → Item → List Line
  item_lines made (node n) = placed_lines (node_at docs made n)
  item_lines made (string text) = atom_line text
  item_lines made (integer n) = atom_line (signed_decimal n)
  item_lines made (boolean b) = atom_line (boolean_text b)

  -- the lines of all items
  abbrev pub lines_of : Made → Items → List Line
  lines_of made items = joined (map (item_lines made) items)

-- ---- at the fold of nodes they are the definitions

-- the fold of nodes
abbrev the_fold : (A : Type 0) → (Node-F A → A) → Node → A
the_fold A step n = fold-Node A step n

module _ (docs : Documents) where
  -- a layer of an expression
  same_expr_step : expr_step docs the_fold ≡ spec.expr_step docs
  same_expr_step = refl

  -- a step of a path
  same_step_step : step_step docs the_fold ≡ spec.step_step docs
  same_step_step = refl

  -- the beginning of a path
  same_start_step : start_step docs the_fold ≡ spec.start_step docs
  same_start_step = refl

  -- the lines of an answer
  same_lines : lines_of docs the_fold ≡ spec_lines docs
  same_lines = refl

-- ---- a fold of nodes that computes

module _ (A : Type 0) (step : Node-F A → A) where
  abbrev mutual
    -- by the constructors of nodes
    pub refold : Node → A
    refold (Element' name attrs s row) = step (Node-F.Element name attrs (refold_row row))
    refold (Text value) = step (Node-F.Text value)
    refold (Pi target value) = step (Node-F.Pi target value)

    -- of each node of a row
    pub refold_row : {m : _} → Row_of-Node m → List A
    refold_row end_of-Node = []
    refold_row (more_of-Node n row) = refold n ∷ refold_row row

  mutual
    -- it is the fold
    refolds : (n : Node) → fold-Node A step n ≡ refold n
    refolds (Element' name attrs s row) = fold-Element' A step name attrs s row ∙ ap (λ kids. step (Node-F.Element name attrs kids)) (refolds_row row)
    refolds (Text value) = fold-Text A step value
    refolds (Pi target value) = fold-Pi A step target value

    -- of each node of a row too
    refolds_row : {m : _} (row : Row_of-Node m) → map (fold-Node A step) (items-the_row-Node m row) ≡ refold_row row
    refolds_row end_of-Node = refl
    refolds_row (more_of-Node n row) = λ i. refolds n i ∷ refolds_row row i

-- for all results and all steps
same_fold : ◌≡◌ {A = (A : Type 0) → (Node-F A → A) → Node → A} (λ A step n. fold-Node A step n) refold
same_fold = λ i A step n. refolds A step n i

-- ---- answers

-- documents with their names, in the order of the names
abbrev pub Entries : Type 0
Entries = List (List ℕ × Doc)

-- the document of this name
abbrev pub looked : Entries → List ℕ → Option Doc
looked es name = forests.find (slice_cmp nat_cmp) name es

-- the forest of these documents
abbrev pub forest_of : Entries → Forest
forest_of es = forests.from_sorted es

-- it looks up among its entries
same_looked : (es : Entries) → T (forests.is_sorted (slice_cmp nat_cmp) es) → forests.get (forest_of es) ≡ looked es
same_looked es h = λ i name. forests.get-from_sorted (slice_cmp nat_cmp) es name h i

-- the lines of an answer, or its code
abbrev pub with_lines : (Made → Items → List Line) → Result (Items × Made) Code → Result (List Line) Code
with_lines lines (Ok both) = Ok (lines both.1 both.0)
with_lines lines (Err code) = Err code

-- what an expression answers where these are the documents
abbrev pub answer : Entries → Expr → Result (List Line) Code
answer es e = with_lines (spec_lines (forests.get (forest_of es))) (spec.eval (forest_of es) e)

module _ (docs : Documents) (fold : (A : Type 0) → (Node-F A → A) → Node → A) where
  -- the meaning of an expression that is no deeper than the number
  abbrev pub meaning_to : ℕ → Expr → Means
  meaning_to = run (λ env cx. fail XPST0003) (spec.bind_step docs) (expr_step docs fold) (start_step docs fold)
      (spec.product_step docs) (spec.key_step docs) (step_step docs fold) (spec.sum_step docs)

  -- and what it answers
  abbrev pub answer_to : ℕ → Expr → Result (List Line) Code
  answer_to n e = with_lines (lines_of docs fold) (meaning_to n e [] None [])

-- the meaning is the one that computes, over the same documents and the fold
same_meaning : (docs : Documents) (n : ℕ) (e : Expr) → fits n e ≡ true → meaning_to docs the_fold n e ≡ spec.meaning docs e
same_meaning docs = bounded (λ env cx. fail XPST0003) (spec.bind_step docs) (spec.expr_step docs) (spec.start_step docs)
    (spec.product_step docs) (spec.key_step docs) (spec.step_step docs) (spec.sum_step docs)

-- an answer is what computes, where the number is no less than the depth
pub computes : (es : Entries) → T (forests.is_sorted (slice_cmp nat_cmp) es) → (n : ℕ) (e : Expr) → fits n e ≡ true
    → answer es e ≡ answer_to (looked es) refold n e
computes es sorted n e h =
    ap (λ means. with_lines (spec_lines (forests.get (forest_of es))) (means [] None [])) (sym (same_meaning (forests.get (forest_of es)) n e h))
    ∙ (λ i. answer_to (same_looked es sorted i) (same_fold i) n e)

-- What has to unfold where an answer computes. What it is does not matter.
unfoldable pub seen : Type 0
unfolding out-Bind out-Expr out-Start block.shown-the_row-Expr-0 block.shown-the_row-Bind-1 block.shown-the_row-Expr-2 block.shown-the_row-SortKey-3 block.shown-the_row-SumPart-4 block.shown-the_row-ProductPart-5 block.shown-the_row-Step-6 out-Node nodes.shown-the_row-Node-0 nodes.hidden-the_row-Node-0 denote.Hole.Carrier.out denote.Hole.Carrier.shown denote.Hole.Carrier.hidden digits char_count
seen = ℕ
