-- Two look-ups of documents, and the trees that both have: constructed ones, and documents that both find, the same.
-- What a node of such a tree holds, and what its axes find, is the same by both, and is again in such a tree.
use Rattle.std.specs.Prelude.{◌≡◌, ℕ, pos, Bool, true, false, IsTrue, is_some, if◌then◌else◌, List, [], ◌∷◌, ◌++◌, map, filter, not, bytes_eq, codes, Option, None, Some, option_map, unwrap_or, Result, Ok, refl}
use Rattle.std.specs.List.{concat}
use Rattle.std.specs.Fmt.{char_count}
use Rattle.std.proofs.Common.{ap, ◌∙◌}
use Rattle.xq_ast.specs.declared.code.Code.{Code}
use Rattle.xq_ast.specs.declared.code.Code.TheVariants.{XPTY0004}
use Rattle.xq_ast.specs.declared.step.Axis.{Axis}
use Rattle.xq_ast.specs.declared.step.Test.{Test}
use Rattle.xml_model.specs.declared.value.Atom.TheVariants as atom
use Rattle.xml_model.specs.Place.{Placed, the_document, placed_from}
use Rattle.xml_model.specs.Axes.{axis_places}
use Rattle.xml_model.specs.DocumentOrder.{union, in_order}
use Rattle.xml_model.specs.Items.{Documents, Tree, stored, constructed, NodeAt, Item, Items, node, string, integer, boolean, Made, tree_root, node_at, ◌>>?◌}
use Rattle.xml_model.specs.Atoms.{atom_text, effective_boolean, sum_of}
use Rattle.xml_model.specs.Nodes.{node_cmp, nodes_or, united, united_all, value_at, atomized_item, atomized, no_nodes, is_attribute_axis, passes_at, tested}
use Rattle.xml_model.specs.Constructors.{words, pieces_of, pieces, piece_text, joined_texts, is_empty_text, content_of, limited_text}
use Rattle.xml_model.specs.FunctionAnswers.{Focus, Context, context_item, or_context, first_of, second_of, string_of, name_at, name_of_one, string_argument, concat_arguments, begins_with, has_within, string_answer, integer_answer, boolean_answer, of_focus, tested_texts, measured, call_function}
use Rattle.xml_model.specs.Tuples.{Bindings}
use Rattle.xml_model.proofs.Alike.{Each, each_gives, each_filter, each_map, each_union, each_in_order, filter_same, Any, Fine, any_fine, fine_then, same_then}

module _ (docs docs' : Documents) where
  -- a tree that both have
  abbrev pub Known : Tree → Type 0
  Known (stored name) = (docs name ≡ docs' name) × IsTrue (is_some (docs name))
  Known (constructed number) = Unit {0}

  -- a node in such a tree
  abbrev pub KnownNode : NodeAt → Type 0
  KnownNode n = Known n.tree

  -- atomic values are known
  abbrev pub KnownItem : Item → Type 0
  KnownItem (node n) = KnownNode n
  KnownItem (string text) = Unit {0}
  KnownItem (integer n) = Unit {0}
  KnownItem (boolean b) = Unit {0}

  -- each item is known
  abbrev pub KnownItems : Items → Type 0
  KnownItems = Each KnownItem

  -- the values of variables
  abbrev pub KnownBindings : Bindings → Type 0
  KnownBindings = Each (λ v. KnownItems v.value)

  -- the context item, if there is one
  abbrev pub KnownContext : Context → Type 0
  KnownContext None = Unit {0}
  KnownContext (Some focus) = KnownItem focus.item

  -- ---- what a node holds

  root_same : (made : Made) (t : Tree) → Known t → tree_root docs made t ≡ tree_root docs' made t
  root_same made (stored name) k = ap (option_map the_document) k.0
  root_same made (constructed number) k = refl

  -- the same stands at the node
  pub node_same : (made : Made) (n : NodeAt) → KnownNode n → node_at docs made n ≡ node_at docs' made n
  node_same made n k = ap (placed_from n.place) (root_same made n.tree k)

  -- an item gives the same atomic value
  pub atom_same : (made : Made) (item : Item) → KnownItem item → atomized_item docs made item ≡ atomized_item docs' made item
  atom_same made (node n) k = ap (λ there. atom.Untyped (value_at there)) (node_same made n k)
  atom_same made (string text) k = refl
  atom_same made (integer n) k = refl
  atom_same made (boolean b) k = refl

  -- so does each of a list
  pub atoms_same : (made : Made) (items : Items) → KnownItems items → atomized docs made items ≡ atomized docs' made items
  atoms_same made [] k = refl
  atoms_same made (item ∷ items) k = λ i. atom_same made item k.0 i ∷ atoms_same made items k.1 i

  lists_same : (made : Made) (lists : List Items) → Each KnownItems lists → map (atomized docs made) lists ≡ map (atomized docs' made) lists
  lists_same made [] k = refl
  lists_same made (items ∷ lists) k = λ i. atoms_same made items k.0 i ∷ lists_same made lists k.1 i

  -- ---- axes

  -- what an axis finds
  abbrev found : Axis → NodeAt → Option Placed → List NodeAt
  found way n root = map (λ place. record { tree = n.tree; place = place }) (axis_places way (unwrap_or root no_nodes) n.place)

  found_known : (way : Axis) (n : NodeAt) (root : Option Placed) → KnownNode n → Each KnownNode (found way n root)
  found_known way n root k = each_map KnownNode (λ place. record { tree = n.tree; place = place }) (λ place. k) (axis_places way (unwrap_or root no_nodes) n.place)

  -- a step without predicates finds the same
  pub tested_same : (made : Made) (way : Axis) (wanted : Test) (n : NodeAt) → KnownNode n → tested docs made way wanted n ≡ tested docs' made way wanted n
  tested_same made way wanted n k =
      filter_same (λ m. passes_at (is_attribute_axis way) wanted (node_at docs made m)) (λ m. passes_at (is_attribute_axis way) wanted (node_at docs' made m))
      (found way n (tree_root docs made n.tree))
      (each_gives KnownNode (λ m. passes_at (is_attribute_axis way) wanted (node_at docs made m) ≡ passes_at (is_attribute_axis way) wanted (node_at docs' made m))
      (λ m g. ap (passes_at (is_attribute_axis way) wanted) (node_same made m g)) _ (found_known way n (tree_root docs made n.tree) k))
      ∙ ap (λ root. filter (λ m. passes_at (is_attribute_axis way) wanted (node_at docs' made m)) (found way n root)) (root_same made n.tree k)

  -- in the same tree
  pub tested_known : (made : Made) (way : Axis) (wanted : Test) (n : NodeAt) → KnownNode n → Each KnownNode (tested docs made way wanted n)
  tested_known made way wanted n k =
      each_filter KnownNode (λ m. passes_at (is_attribute_axis way) wanted (node_at docs made m)) _ (found_known way n (tree_root docs made n.tree) k)

  -- ---- content

  pieces_same : (made : Made) (before : List (List ℕ)) (items : Items) → KnownItems items → pieces docs made before items ≡ pieces docs' made before items
  pieces_same made before [] k = refl
  pieces_same made before (node n ∷ items) k = λ i. words before ++ (pieces_of (node_same made n k.0 i) ++ pieces_same made [] items k.1 i)
  pieces_same made before (string text ∷ items) k = pieces_same made (before ++ atom_text (atom.Text text) ∷ []) items k.1
  pieces_same made before (integer n ∷ items) k = pieces_same made (before ++ atom_text (atom.Int n) ∷ []) items k.1
  pieces_same made before (boolean b ∷ items) k = pieces_same made (before ++ atom_text (atom.Truth b) ∷ []) items k.1

  -- items make the same content
  pub content_same : (made : Made) (items : Items) → KnownItems items → content_of docs made items ≡ content_of docs' made items
  content_same made items k = ap (λ ps. filter (λ p. not (is_empty_text (piece_text p))) (joined_texts ps)) (pieces_same made [] items k)

  -- ---- lists of nodes

  -- the nodes of known items are known
  pub nodes_fine : (code : Code) (items : Items) → KnownItems items → Fine (Each KnownNode) (nodes_or code items)
  nodes_fine code [] k = tt
  nodes_fine code (node n ∷ items) k = fine_then (Each KnownNode) (Each KnownNode) (λ ns. Ok (n ∷ ns)) (λ ns g. (k.0, g)) (nodes_or code items) (nodes_fine code items k.1)
  nodes_fine code (string text ∷ items) k = tt
  nodes_fine code (integer n ∷ items) k = tt
  nodes_fine code (boolean b ∷ items) k = tt

  united_fine : (left : List NodeAt) (right : Items) → Each KnownNode left → KnownItems right → Fine (Each KnownNode) (united left right)
  united_fine left right g k =
      fine_then (Each KnownNode) (Each KnownNode) (λ ns. Ok (union node_cmp left (in_order node_cmp ns)))
      (λ ns h. each_union KnownNode node_cmp left (in_order node_cmp ns) g (each_in_order KnownNode node_cmp ns h)) (nodes_or XPTY0004 right) (nodes_fine XPTY0004 right k)

  -- and so are those of their union
  pub united_all_fine : (left : List NodeAt) (lists : List Items) → Each KnownNode left → Each KnownItems lists → Fine (Each KnownNode) (united_all left lists)
  united_all_fine left [] g k = g
  united_all_fine left (right ∷ lists) g k =
      fine_then (Each KnownNode) (Each KnownNode) (λ ns. united_all ns lists) (λ ns h. united_all_fine ns lists h k.1) (united left right) (united_fine left right g k.0)

  -- known nodes are known items
  pub nodes_as_items : (ns : List NodeAt) → Each KnownNode ns → KnownItems (map node ns)
  nodes_as_items [] k = tt
  nodes_as_items (n ∷ ns) k = (k.0, nodes_as_items ns k.1)

  -- ---- functions

  -- the same answer, of known items
  abbrev Answers : Result Items Code → Result Items Code → Type 0
  Answers r r' = (r ≡ r') × Fine KnownItems r

  -- the context item is known
  pub context_fine : (cx : Context) → KnownContext cx → Fine KnownItems (context_item cx)
  context_fine None k = tt
  context_fine (Some focus) k = (k, tt)

  or_context_fine : (cx : Context) (args : List Items) → KnownContext cx → Each KnownItems args → Fine KnownItems (or_context cx args)
  or_context_fine cx [] k g = context_fine cx k
  or_context_fine cx (value ∷ more) k g = g.0

  first_known : (args : List Items) → Each KnownItems args → KnownItems (first_of args)
  first_known [] g = tt
  first_known (value ∷ more) g = g.0

  second_known : (args : List Items) → Each KnownItems args → KnownItems (second_of args)
  second_known [] g = tt
  second_known (value ∷ more) g = first_known more g.1

  string_same : (made : Made) (items : Items) → KnownItems items → string_of docs made items ≡ string_of docs' made items
  string_same made [] k = refl
  string_same made (item ∷ []) k = ap (λ a. Ok (atom_text a)) (atom_same made item k.0)
  string_same made (item ∷ other ∷ items) k = refl

  name_same : (made : Made) (items : Items) → KnownItems items → name_of_one docs made items ≡ name_of_one docs' made items
  name_same made [] k = refl
  name_same made (node n ∷ []) k = ap (λ there. Ok (name_at there)) (node_same made n k.0)
  name_same made (string text ∷ []) k = refl
  name_same made (integer n ∷ []) k = refl
  name_same made (boolean b ∷ []) k = refl
  name_same made (item ∷ other ∷ items) k = refl

  -- what answers one atomic value answers known items
  string_fine : (r : Result (List ℕ) Code) → Fine KnownItems (r >>? string_answer)
  string_fine r = fine_then Any KnownItems string_answer
      (λ text _. fine_then Any KnownItems (λ t. Ok (string t ∷ [])) (λ t _. (tt, tt)) (limited_text text) (any_fine (limited_text text))) r (any_fine r)

  integer_fine : {A : Type 0} (f : A → Result Items Code) → ((x : A) → Fine KnownItems (f x)) → (r : Result A Code) → Fine KnownItems (r >>? f)
  integer_fine f h r = fine_then Any KnownItems f (λ x _. h x) r (any_fine r)

  measured_same : (made : Made) (cx : Context) (args : List Items) → KnownContext cx → Each KnownItems args → measured docs made cx args ≡ measured docs' made cx args
  measured_same made cx [] k g = same_then KnownItems Any (string_of docs made) (string_of docs' made) (string_same made) (context_item cx) (context_fine cx k)
  measured_same made cx (value ∷ more) k g = ap string_argument (atoms_same made value g.0)

  texts_fine : (holds : List ℕ → List ℕ → Bool) (a b : _) → Fine KnownItems (tested_texts holds a b)
  texts_fine holds a b = integer_fine (λ text. string_argument b >>? (λ wanted. boolean_answer (holds text wanted)))
      (λ text. integer_fine (λ wanted. boolean_answer (holds text wanted)) (λ wanted. (tt, tt)) (string_argument b)) (string_argument a)

  of_focus_fine : (number : Focus → ℕ) (cx : Context) → Fine KnownItems (of_focus number cx)
  of_focus_fine number None = tt
  of_focus_fine number (Some focus) = (tt, tt)

  -- two tables whose first rows have one name and answer alike
  one_row : (b : Bool) (r r' s s' : Result Items Code) → Answers r r' → Answers s s' → Answers (if b then r else s) (if b then r' else s')
  one_row true r r' s s' g h = g
  one_row false r r' s s' g h = h

  -- a function answers the same
  pub call_same : (made : Made) (cx : Context) (name : List ℕ) (args : List Items) → KnownContext cx → Each KnownItems args
      → Answers (call_function docs made cx name args) (call_function docs' made cx name args)
  call_same made cx name args k g =
      one_row (bytes_eq name (codes "count")) _ _ _ _ (refl, (tt, tt)) (
      one_row (bytes_eq name (codes "empty")) _ _ _ _ (refl, (tt, tt)) (
      one_row (bytes_eq name (codes "exists")) _ _ _ _ (refl, (tt, tt)) (
      one_row (bytes_eq name (codes "not")) _ _ _ _ (refl, integer_fine (λ b. boolean_answer (not b)) (λ b. (tt, tt)) (effective_boolean (first_of args))) (
      one_row (bytes_eq name (codes "true")) _ _ _ _ (refl, (tt, tt)) (
      one_row (bytes_eq name (codes "false")) _ _ _ _ (refl, (tt, tt)) (
      one_row (bytes_eq name (codes "string")) _ _ _ _ (
        ap (λ r. r >>? string_answer) (same_then KnownItems Any (string_of docs made) (string_of docs' made) (string_same made) (or_context cx args) (or_context_fine cx args k g)),
        string_fine (or_context cx args >>? string_of docs made),
      ) (
      one_row (bytes_eq name (codes "name")) _ _ _ _ (
        ap (λ r. r >>? string_answer) (same_then KnownItems Any (name_of_one docs made) (name_of_one docs' made) (name_same made) (or_context cx args) (or_context_fine cx args k g)),
        string_fine (or_context cx args >>? name_of_one docs made),
      ) (
      one_row (bytes_eq name (codes "contains")) _ _ _ _ (
        (λ i. tested_texts has_within (atoms_same made (first_of args) (first_known args g) i) (atoms_same made (second_of args) (second_known args g) i)),
        texts_fine has_within (atomized docs made (first_of args)) (atomized docs made (second_of args)),
      ) (
      one_row (bytes_eq name (codes "starts-with")) _ _ _ _ (
        (λ i. tested_texts begins_with (atoms_same made (first_of args) (first_known args g) i) (atoms_same made (second_of args) (second_known args g) i)),
        texts_fine begins_with (atomized docs made (first_of args)) (atomized docs made (second_of args)),
      ) (
      one_row (bytes_eq name (codes "string-length")) _ _ _ _ (
        ap (λ r. r >>? (λ text. integer_answer (pos (char_count text)))) (measured_same made cx args k g),
        integer_fine (λ text. integer_answer (pos (char_count text))) (λ text. (tt, tt)) (measured docs made cx args),
      ) (
      one_row (bytes_eq name (codes "concat")) _ _ _ _ (
        ap (λ lists. concat_arguments lists >>? (λ texts. string_answer (concat texts))) (lists_same made args g),
        integer_fine (λ texts. string_answer (concat texts))
            (λ texts. integer_fine (λ t. Ok (string t ∷ [])) (λ t. (tt, tt)) (limited_text (concat texts))) (concat_arguments (map (atomized docs made) args)),
      ) (
      one_row (bytes_eq name (codes "sum")) _ _ _ _ (
        ap (λ values. sum_of values >>? integer_answer) (atoms_same made (first_of args) (first_known args g)),
        integer_fine integer_answer (λ n. (tt, tt)) (sum_of (atomized docs made (first_of args))),
      ) (
      one_row (bytes_eq name (codes "position")) _ _ _ _ (refl, of_focus_fine (λ focus. focus.position) cx) (
      one_row (bytes_eq name (codes "last")) _ _ _ _ (refl, of_focus_fine (λ focus. focus.size) cx) (refl, tt)))))))))))))))
