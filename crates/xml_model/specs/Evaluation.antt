-- What an expression means: the items that it gives and the trees that it constructs, or the first code
-- (XQuery 1.0, section 3). The parts of an expression are evaluated from left to right and before its operator.
use Rattle.std.specs.Prelude.{ℕ, ◌+◌, pos, Bool, true, false, if◌then◌else◌, nat_lt, List, [], ◌∷◌, ◌++◌, map, length, bytes_eq, Option, Some, None, Result, Ok, Err}
use Rattle.std.specs.Ordering.{int_eq}
use Rattle.std.specs.FinMap as forests
use Rattle.xq_ast.specs.declared.code.Code.{Code}
use Rattle.xq_ast.specs.declared.code.Code.TheVariants.{XPTY0019, XPTY0020, FODC0002, TooManyItems}
use Rattle.xq_ast.specs.declared.step.Axis.TheVariants.{DescendantOrSelf}
use Rattle.xq_ast.specs.declared.step.Test.TheVariants.{AnyNode}
use Rattle.xq_ast.specs.declared.tree.ProductOp.{ProductOp}
use Rattle.xq_ast.specs.declared.tree.Bind.TheOpen.{Bind-F, Expr-F, Start-F, ProductPart-F, SortKey-F, Step-F, SumPart-F}
use Rattle.xq_ast.specs.declared.tree.Bind.TheFolds.{fold-Expr}
use Rattle.xq_ast.specs.declared.tree.Expr.{Expr}
use Rattle.xml_model.specs.declared.limits.TheConstants.{ITEMS_MAX}
use Rattle.xml_model.specs.declared.node.Doc.{Doc}
use Rattle.xml_model.specs.declared.node.Node.TheVariants.{Text}
use Rattle.xml_model.specs.Forest.{Forest}
use Rattle.xml_model.specs.Place.{a_node, an_attribute}
use Rattle.xml_model.specs.Items.{Documents, NodeAt, Item, Items, stored, node, string, integer, boolean, Made, Making, give, fail, plain, look, ◌>>=◌, ◌>>?◌, construct}
use Rattle.xml_model.specs.Atoms.{effective_boolean, compares, operated, chained, signed_by, sum_op, product_op, range_of}
use Rattle.xml_model.specs.DocumentOrder.{union}
use Rattle.xml_model.specs.Nodes.{node_cmp, nodes_or, united_all, atomized, tested}
use Rattle.xml_model.specs.Constructors.{content_of, element, limited_text, spaced}
use Rattle.xml_model.specs.FunctionAnswers.{Context, context_item, call_function}
use Rattle.xml_model.specs.Tuples.{Bindings, Means, BindMeans, KeyMeans, no_tuples, tuples, sorted, returned}

-- after each expression its items are counted
abbrev pub counted : Items → Making Items
counted items = if nat_lt ITEMS_MAX (length items) then fail TooManyItems else give items

abbrev pub or_later : Option Items → Option Items → Option Items
or_later earlier None = earlier
or_later earlier (Some items) = Some items

-- the value of the last variable of this name
abbrev pub bound_value : List ℕ → Bindings → Option Items
bound_value name [] = None
bound_value name (v ∷ vs) = or_later (if bytes_eq v.name name then Some v.value else None) (bound_value name vs)

-- a variable that is not bound has been refused before
abbrev pub or_nothing : Option Items → Items
or_nothing None = []
or_nothing (Some items) = items

-- ---- lists of expressions

abbrev pub one_after_another : List Means → Means
one_after_another [] env cx = give []
one_after_another (e ∷ es) env cx = e env cx >>= (λ items. one_after_another es env cx >>= (λ more. give (items ++ more)))

-- the value of each
abbrev pub values : List Means → Bindings → Context → Making (List Items)
values [] env cx = give []
values (e ∷ es) env cx = e env cx >>= (λ items. values es env cx >>= (λ more. give (items ∷ more)))

-- operators with the values of their operands
abbrev pub parts : {O : Type 0} → List (O × Means) → Bindings → Context → Making (List (O × Items))
parts [] env cx = give []
parts (p ∷ ps) env cx = p.1 env cx >>= (λ items. parts ps env cx >>= (λ more. give ((p.0, items) ∷ more)))

-- the effective boolean value of an expression
abbrev pub truth : Means → Bindings → Context → Making Bool
truth e env cx = e env cx >>= (λ items. plain (effective_boolean items))

-- a truth value as a list
abbrev pub boolean_value : Bool → Items
boolean_value b = boolean b ∷ []

-- `or` stops at the first true, and `and` at the first false
abbrev pub any_of : List Means → Bindings → Context → Making Bool
any_of [] env cx = give false
any_of (e ∷ es) env cx = truth e env cx >>= (λ b. if b then give true else any_of es env cx)

abbrev pub all_of : List Means → Bindings → Context → Making Bool
all_of [] env cx = give true
all_of (e ∷ es) env cx = truth e env cx >>= (λ b. if b then all_of es env cx else give false)

-- no content is none
abbrev pub content_or : Option Means → Means
content_or None env cx = give []
content_or (Some e) env cx = e env cx

-- ---- predicates

-- an integer alone tests the position
abbrev pub holds_at : ℕ → Items → Result Bool Code
holds_at position [] = effective_boolean []
holds_at position (node n ∷ items) = effective_boolean (node n ∷ items)
holds_at position (string text ∷ items) = effective_boolean (string text ∷ items)
holds_at position (integer n ∷ []) = Ok (int_eq n (pos position))
holds_at position (integer n ∷ item ∷ items) = effective_boolean (integer n ∷ item ∷ items)
holds_at position (boolean b ∷ items) = effective_boolean (boolean b ∷ items)

-- the entries of a list, from a position on, for whose items a predicate holds
abbrev pub kept : {A : Type 0} → (A → Item) → Means → Bindings → ℕ → ℕ → List A → Making (List A)
kept item e env size position [] = give []
kept item e env size position (x ∷ xs) =
    e env (Some (record { item = item x; position = position; size = size })) >>= (λ value. plain (holds_at position value)) >>= (λ b.
    kept item e env size (position + 1) xs >>= (λ rest. give (if b then x ∷ rest else rest)))

-- those for which one predicate after another holds; each counts what the one before it has left
abbrev pub filtered : {A : Type 0} → (A → Item) → List Means → Bindings → List A → Making (List A)
filtered item [] env xs = give xs
filtered item (e ∷ es) env xs = kept item e env (length xs) 1 xs >>= filtered item es env

-- ---- paths

-- a step: whether `//` stands before it, and where it leads from one node
pub record StepMeans : Type 0 where
  pub deep : Bool
  pub from_node : Bindings → NodeAt → Making (List NodeAt)

-- from each node in turn; the results are joined in document order without duplicates
abbrev pub from_each : (NodeAt → Making (List NodeAt)) → List NodeAt → List NodeAt → Making (List NodeAt)
from_each go joined [] = give joined
from_each go joined (n ∷ ns) = go n >>= (λ more. from_each go (union node_cmp joined more) ns)

module _ (docs : Documents) where
  -- what `//` stands for: a node itself and all below it
  abbrev pub below : NodeAt → Making (List NodeAt)
  below n = look (λ made. Ok (tested docs made DescendantOrSelf AnyNode n))

  -- a step from each of the nodes, in the order of the value
  abbrev pub stepped : StepMeans → Bindings → List NodeAt → Making (List NodeAt)
  stepped s env ns =
      (if s.deep then from_each below [] ns else give ns) >>= from_each (s.from_node env) []

  -- before each step all items must be nodes
  abbrev pub path_from : List StepMeans → Bindings → Items → Making Items
  path_from [] env items = give items
  path_from (s ∷ ss) env items = plain (nodes_or XPTY0019 items) >>= stepped s env >>= (λ ns. path_from ss env (map node ns))

  -- the first step starts from the context item, which must be a node
  abbrev pub first_step : StepMeans → Bindings → Context → Making Items
  first_step s env cx =
      plain (context_item cx >>? nodes_or XPTY0020) >>= stepped s env >>= (λ ns. give (map node ns))

  -- the node of a document that is there
  abbrev pub document_node : Option Doc → List ℕ → Result Items Code
  document_node None name = Err FODC0002
  document_node (Some doc) name = Ok (node (record { tree = stored name; place = [] }) ∷ [])

  -- ---- each kind of expression

  abbrev pub ProductMeans : Type 0
  ProductMeans = ProductOp × Means

  abbrev pub SumMeans : Type 0
  SumMeans = Bool × Means

  -- an item and its position, counted from 1
  abbrev pub bound_items : List ℕ → Option (List ℕ) → ℕ → Items → List Bindings
  bound_items name at position [] = []
  bound_items name None position (item ∷ items) = (record { name = name; value = item ∷ [] } ∷ []) ∷ bound_items name None (position + 1) items
  bound_items name (Some at) position (item ∷ items) =
      (record { name = name; value = item ∷ [] } ∷ record { name = at; value = integer (pos position) ∷ [] } ∷ [])
      ∷ bound_items name (Some at) (position + 1) items

  -- the items of `for` one after another, and the value of `let` at once
  abbrev pub bind_step : Bind-F BindMeans Means Means ProductMeans KeyMeans StepMeans SumMeans → BindMeans
  bind_step (Bind-F.For name at source) env cx = source env cx >>= (λ items. give (bound_items name at 1 items))
  bind_step (Bind-F.Let name value) env cx = value env cx >>= (λ items. give ((record { name = name; value = items } ∷ []) ∷ []))

  -- the value of each kind of expression, before its items are counted
  abbrev pub value_of : Expr-F BindMeans Means Means ProductMeans KeyMeans StepMeans SumMeans → Means
  value_of (Expr-F.Text value) env cx = give (string value ∷ [])
  value_of (Expr-F.Int value) env cx = give (integer value ∷ [])
  value_of (Expr-F.Var name) env cx = give (or_nothing (bound_value name env))
  value_of Expr-F.Context env cx = plain (context_item cx)
  value_of (Expr-F.Seq es) env cx = one_after_another es env cx
  value_of (Expr-F.Flwor binds filter keys result) env cx =
      tuples docs binds filter keys env cx no_tuples >>= (λ all. returned result cx (sorted keys all.rows))
  value_of (Expr-F.If test good other) env cx = truth test env cx >>= (λ b. if b then good env cx else other env cx)
  value_of (Expr-F.Or es) env cx = any_of es env cx >>= (λ b. give (boolean_value b))
  value_of (Expr-F.And es) env cx = all_of es env cx >>= (λ b. give (boolean_value b))
  value_of (Expr-F.Compare left op right) env cx =
      left env cx >>= (λ a. right env cx >>= (λ b. look (λ made. compares op (atomized docs made a) (atomized docs made b)) >>= (λ t. give (boolean_value t))))
  value_of (Expr-F.Range low high) env cx =
      low env cx >>= (λ a. high env cx >>= (λ b. look (λ made. operated range_of (atomized docs made a) (atomized docs made b))))
  value_of (Expr-F.Sum first rest) env cx =
      first env cx >>= (λ a. parts rest env cx >>= (λ more. look (λ made. chained (atomized docs made) sum_op a more)))
  value_of (Expr-F.Product first rest) env cx =
      first env cx >>= (λ a. parts rest env cx >>= (λ more. look (λ made. chained (atomized docs made) product_op a more)))
  value_of (Expr-F.Union es) env cx = values es env cx >>= (λ lists. plain (united_all [] lists)) >>= (λ ns. give (map node ns))
  value_of (Expr-F.Signed signs inner) env cx = inner env cx >>= (λ a. look (λ made. signed_by (atomized docs made) signs a))
  value_of (Expr-F.Path start rest) env cx = start env cx >>= path_from rest env
  value_of (Expr-F.Filter inner preds) env cx = inner env cx >>= filtered (λ item. item) preds env
  value_of (Expr-F.Fun name args) env cx = values args env cx >>= (λ lists. look (λ made. call_function docs made cx name lists))
  value_of (Expr-F.Doc name) env cx = plain (document_node (docs name) name)
  value_of (Expr-F.Element name content) env cx =
      content_or content env cx >>= (λ items. look (λ made. element name (content_of docs made items))) >>= (λ n. construct (a_node n))
  value_of (Expr-F.Attribute name content) env cx =
      content_or content env cx >>= (λ items. look (λ made. limited_text (spaced (atomized docs made items))))
      >>= (λ value. construct (an_attribute (record { name = name; value = value })))
  value_of (Expr-F.TextNode content) env cx = content_or content env cx >>= new_text
    where
      new_text : Items → Making Items
      new_text [] = give []
      new_text (item ∷ items) = look (λ made. limited_text (spaced (atomized docs made (item ∷ items)))) >>= (λ value. construct (a_node (Text value)))

  -- and counted
  abbrev pub expr_step : Expr-F BindMeans Means Means ProductMeans KeyMeans StepMeans SumMeans → Means
  expr_step layer env cx = value_of layer env cx >>= counted

  abbrev pub start_step : Start-F BindMeans Means Means ProductMeans KeyMeans StepMeans SumMeans → Means
  start_step (Start-F.Value inner) env cx = inner env cx
  start_step (Start-F.First step) env cx = first_step step env cx

  abbrev pub product_step : ProductPart-F BindMeans Means Means ProductMeans KeyMeans StepMeans SumMeans → ProductMeans
  product_step p = (p.op, p.expr)

  abbrev pub key_step : SortKey-F BindMeans Means Means ProductMeans KeyMeans StepMeans SumMeans → KeyMeans
  key_step k = record { value = k.expr; descending = k.descending }

  -- the nodes of the axis that pass the test, and then each predicate
  abbrev pub step_step : Step-F BindMeans Means Means ProductMeans KeyMeans StepMeans SumMeans → StepMeans
  step_step s = record {
    deep = s.deep;
    from_node = λ env n. look (λ made. Ok (tested docs made s.axis s.test n)) >>= filtered node s.preds env;
  }

  abbrev pub sum_step : SumPart-F BindMeans Means Means ProductMeans KeyMeans StepMeans SumMeans → SumMeans
  sum_step p = (p.minus, p.expr)

  -- the meaning of an expression
  abbrev pub meaning : Expr → Means
  meaning = fold-Expr BindMeans Means Means ProductMeans KeyMeans StepMeans SumMeans bind_step expr_step start_step product_step key_step step_step sum_step

-- an expression by itself, in a forest: no variable is bound and there is no context
abbrev pub eval : Forest → Expr → Result (Items × Made) Code
eval F e = meaning (forests.get F) e [] None []
