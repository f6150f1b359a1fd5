-- Makings that keep a property of each constructed tree, and end with a value or with a code that a query may have. Parts of
-- expressions that do so make wholes that do: lists, predicates, paths and tuples.
use Rattle.std.proofs.Common.{ℕ, ◌+◌, Bool, true, false, IsTrue, List, [], ◌∷◌, ◌++◌, map, length, Option, Some, None, Result, Ok, Err, refl}
use Rattle.std.specs.Prelude.{if◌then◌else◌, nat_lt}
use Rattle.xq_ast.specs.declared.code.Code.{Code}
use Rattle.xq_ast.specs.declared.code.Code.TheVariants.{XPTY0019, XPTY0020, TooManyItems}
use Rattle.xq_ast.specs.declared.step.Axis.TheVariants.{DescendantOrSelf}
use Rattle.xq_ast.specs.declared.step.Test.TheVariants.{AnyNode}
use Rattle.xml_model.specs.declared.limits.TheConstants.{ITEMS_MAX}
use Rattle.xml_model.specs.declared.value.KeyType.{KeyType}
use Rattle.xml_model.specs.DocumentOrder.{union}
use Rattle.xml_model.specs.Items.{Documents, NodeAt, Item, Items, node, Made, Making, give, fail, plain, look, then_with, ◌>>=◌, ◌>>?◌, construct}
use Rattle.xml_model.specs.Atoms.{effective_boolean}
use Rattle.xml_model.specs.Nodes.{node_cmp, nodes_or, atomized, tested}
use Rattle.xml_model.specs.Place.{Placed}
use Rattle.xml_model.specs.FunctionAnswers.{Context, context_item}
use Rattle.xml_model.specs.Tuples.{Bindings, Means, BindMeans, KeyMeans, Row, Tuples, Keyed, key_of, joined_type, first_type, other_types, type_of, with_key, with_row, no_keys, keyed, stays, each, tuples, returned}
use Rattle.xml_model.specs.Evaluation.{counted, one_after_another, values, parts, truth, any_of, all_of, holds_at, kept, filtered, StepMeans, from_each, below, stepped, path_from, first_step}
use Rattle.xml_model.specs.QueryCodes.{is_query_code}
use Rattle.xml_model.proofs.Alike.{Each, each_append, Any}
use Rattle.xml_model.proofs.QueryCodes.{Ends, Coded, effective_coded, holds_coded, nodes_coded, context_node_coded, key_coded, joined_coded}

module _ (W : Placed → Type 0) where
  -- a value that has the property, with trees that have theirs, or a code that a query may have
  abbrev pub EndsWith : {A : Type 0} → (A → Type 0) → Result (A × Made) Code → Type 0
  EndsWith G = Ends (λ both. G both.0 × Each W both.1)

  -- from trees that have their property
  abbrev pub Keeps : {A : Type 0} → (A → Type 0) → Making A → Type 0
  Keeps G m = (made : Made) → Each W made → EndsWith G (m made)

  -- with any value
  abbrev pub Stays : {A : Type 0} → Making A → Type 0
  Stays m = Keeps Any m

  -- ---- makings

  module _ {A : Type 0} (G : A → Type 0) where
    plain_ends : (r : Result A Code) (made : Made) → Ends G r → Each W made → EndsWith G (plain r made)
    plain_ends (Ok x) made g w = (g, w)
    plain_ends (Err code) made g w = g

    -- what only looks at the trees
    pub keeps_look : (f : Made → Result A Code) → ((made : Made) → Each W made → Ends G (f made)) → Keeps G (look f)
    keeps_look f h made w = plain_ends (f made) made (h made w) w

  module _ {A B : Type 0} (G : A → Type 0) (H : B → Type 0) where
    then_ends : (f : A → Making B) → ((x : A) → G x → Keeps H (f x)) → (r : Result (A × Made) Code) → EndsWith G r → EndsWith H (then_with r f)
    then_ends f h (Ok both) g = h both.0 g.0 both.1 g.1
    then_ends f h (Err code) g = g

    -- one after the other
    pub keeps_then : (m : Making A) (f : A → Making B) → Keeps G m → ((x : A) → G x → Keeps H (f x)) → Keeps H (m >>= f)
    keeps_then m f g h made w = then_ends f h (m made) (g made w)

  module _ {A : Type 0} where
    -- a value
    pub stays_give : (x : A) → Stays (give x)
    stays_give x made w = (tt, w)

    -- a result
    pub stays_plain : (r : Result A Code) → Coded r → Stays (plain r)
    stays_plain r g made w = plain_ends Any r made g w

    -- what only looks at the trees
    pub stays_look : (f : Made → Result A Code) → ((made : Made) → Coded (f made)) → Stays (look f)
    stays_look f h = keeps_look Any f (λ made w. h made)

    -- one after the other
    pub stays_then : {B : Type 0} (m : Making A) (f : A → Making B) → Stays m → ((x : A) → Stays (f x)) → Stays (m >>= f)
    stays_then m f g h = keeps_then Any Any m f g (λ x _. h x)

    -- two choices by a truth value
    pub stays_if : (b : Bool) (m n : Making A) → Stays m → Stays n → Stays (if b then m else n)
    stays_if true m n g h = g
    stays_if false m n g h = h

  -- one more tree
  pub stays_construct : (root : Placed) → W root → Stays (construct root)
  stays_construct root g made w = (tt, each_append W made (root ∷ []) w (g, tt))

  -- ---- lists of expressions

  -- a code
  fail_stays : {A : Type 0} (x : A) (code : Code) → IsTrue (is_query_code code) → Stays (fail {A = A} code)
  fail_stays x code g made w = g

  -- an expression, whatever its variables and its context are
  abbrev pub MeansStay : Means → Type 0
  MeansStay e = (env : Bindings) (cx : Context) → Stays (e env cx)

  -- items are counted
  pub counted_stay : (items : Items) → Stays (counted items)
  counted_stay items = stays_if (nat_lt ITEMS_MAX (length items)) (fail TooManyItems) (give items) (fail_stays items TooManyItems refl) (stays_give items)

  -- the items of a list of expressions
  pub one_after_another_stay : (es : List Means) → Each MeansStay es → MeansStay (one_after_another es)
  one_after_another_stay [] h env cx = stays_give {A = Items} []
  one_after_another_stay (e ∷ es) h env cx =
      stays_then _ _ (h.0 env cx) (λ items. stays_then _ _ (one_after_another_stay es h.1 env cx) (λ more. stays_give (items ++ more)))

  -- their values
  pub values_stay : (es : List Means) → Each MeansStay es → (env : Bindings) (cx : Context) → Stays (values es env cx)
  values_stay [] h env cx = stays_give {A = List Items} []
  values_stay (e ∷ es) h env cx = stays_then _ _ (h.0 env cx) (λ items. stays_then _ _ (values_stay es h.1 env cx) (λ more. stays_give (items ∷ more)))

  -- the values of operands
  pub parts_stay : {O : Type 0} (ps : List (O × Means)) → Each (λ p. MeansStay p.1) ps → (env : Bindings) (cx : Context) → Stays (parts ps env cx)
  parts_stay {O} [] h env cx = stays_give {A = List (O × Items)} []
  parts_stay {O} (p ∷ ps) h env cx = stays_then _ _ (h.0 env cx) (λ items. stays_then _ _ (parts_stay ps h.1 env cx) (λ more. stays_give ((p.0, items) ∷ more)))

  -- the effective boolean value
  pub truth_stay : (e : Means) → MeansStay e → (env : Bindings) (cx : Context) → Stays (truth e env cx)
  truth_stay e h env cx = stays_then _ _ (h env cx) (λ items. stays_plain (effective_boolean items) (effective_coded items))

  -- whether one of them is true
  pub any_of_stay : (es : List Means) → Each MeansStay es → (env : Bindings) (cx : Context) → Stays (any_of es env cx)
  any_of_stay [] h env cx = stays_give false
  any_of_stay (e ∷ es) h env cx = stays_then _ _ (truth_stay e h.0 env cx) (λ b. stays_if b _ _ (stays_give true) (any_of_stay es h.1 env cx))

  -- whether all of them are
  pub all_of_stay : (es : List Means) → Each MeansStay es → (env : Bindings) (cx : Context) → Stays (all_of es env cx)
  all_of_stay [] h env cx = stays_give true
  all_of_stay (e ∷ es) h env cx = stays_then _ _ (truth_stay e h.0 env cx) (λ b. stays_if b _ _ (all_of_stay es h.1 env cx) (stays_give false))

  -- ---- predicates

  module _ {A : Type 0} (item : A → Item) where
    kept_stay : (e : Means) → MeansStay e → (env : Bindings) (size position : ℕ) (xs : List A) → Stays (kept item e env size position xs)
    kept_stay e h env size position [] = stays_give {A = List A} []
    kept_stay e h env size position (x ∷ xs) =
        stays_then _ _ (stays_then _ _ (h env (Some (record { item = item x; position = position; size = size }))) (λ value. stays_plain (holds_at position value) (holds_coded position value)))
        (λ b. stays_then _ _ (kept_stay e h env size (position + 1) xs) (λ rest. stays_give (if b then x ∷ rest else rest)))

    -- what all predicates keep
    pub filtered_stay : (es : List Means) → Each MeansStay es → (env : Bindings) (xs : List A) → Stays (filtered item es env xs)
    filtered_stay [] h env xs = stays_give xs
    filtered_stay (e ∷ es) h env xs = stays_then _ _ (kept_stay e h.0 env (length xs) 1 xs) (filtered_stay es h.1 env)

  -- ---- paths

  -- a step from one node
  abbrev pub StepStay : StepMeans → Type 0
  StepStay s = (env : Bindings) (n : NodeAt) → Stays (s.from_node env n)

  from_each_stay : (go : NodeAt → Making (List NodeAt)) → ((n : NodeAt) → Stays (go n)) → (joined ns : List NodeAt) → Stays (from_each go joined ns)
  from_each_stay go h joined [] = stays_give joined
  from_each_stay go h joined (n ∷ ns) = stays_then _ _ (h n) (λ more. from_each_stay go h (union node_cmp joined more) ns)

  module _ (docs : Documents) where
    below_stay : (n : NodeAt) → Stays (below docs n)
    below_stay n = stays_look (λ made. Ok (tested docs made DescendantOrSelf AnyNode n)) (λ made. tt)

    stepped_stay : (s : StepMeans) → StepStay s → (env : Bindings) (ns : List NodeAt) → Stays (stepped docs s env ns)
    stepped_stay s h env ns =
        stays_then _ _ (stays_if s.deep _ _ (from_each_stay (below docs) below_stay [] ns) (stays_give ns)) (from_each_stay (s.from_node env) (h env) [])

    -- the steps of a path
    pub path_from_stay : (ss : List StepMeans) → Each StepStay ss → (env : Bindings) (items : Items) → Stays (path_from docs ss env items)
    path_from_stay [] h env items = stays_give items
    path_from_stay (s ∷ ss) h env items =
        stays_then _ _ (stays_then _ _ (stays_plain (nodes_or XPTY0019 items) (nodes_coded XPTY0019 refl items)) (stepped_stay s h.0 env))
        (λ ns. path_from_stay ss h.1 env (map node ns))

    -- a step from the context item
    pub first_step_stay : (s : StepMeans) → StepStay s → MeansStay (first_step docs s)
    first_step_stay s h env cx =
        stays_then _ _ (stays_then _ _ (stays_plain (context_item cx >>? nodes_or XPTY0020) (context_node_coded XPTY0020 refl cx)) (stepped_stay s h env))
        (λ ns. stays_give (map node ns))

    -- ---- tuples

    keyed_stay : (keys : List KeyMeans) → Each (λ k. MeansStay k.value) keys → (env : Bindings) (cx : Context) (types : List KeyType) (all : Keyed)
        → Stays (keyed docs keys env cx types all)
    keyed_stay [] h env cx types all = stays_give all
    keyed_stay (k ∷ ks) h env cx types all =
        stays_then _ _ (stays_then _ _ (h.0 env cx) (λ value. stays_look (λ made. key_of (atomized docs made value)) (λ made. key_coded (atomized docs made value))))
        (λ key. stays_then _ _ (stays_plain (joined_type (first_type types) (type_of key)) (joined_coded (first_type types) (type_of key)))
        (λ type. keyed_stay ks h.1 env cx (other_types types) (with_key all key type)))

    -- what may not be there
    abbrev pub OptionStay : Option Means → Type 0
    OptionStay None = Unit {0}
    OptionStay (Some e) = MeansStay e

    filter_stay : (filter : Option Means) → OptionStay filter → (env : Bindings) (cx : Context) → Stays (stays docs filter env cx)
    filter_stay None h env cx = stays_give true
    filter_stay (Some e) h env cx = stays_then _ _ (h env cx) (λ value. stays_plain (effective_boolean value) (effective_coded value))

    each_stay : (go : Bindings → Context → Tuples → Making Tuples) → ((env : Bindings) (cx : Context) (all : Tuples) → Stays (go env cx all))
        → (env : Bindings) (cx : Context) (bounds : List Bindings) (all : Tuples) → Stays (each docs go env cx bounds all)
    each_stay go h env cx [] all = stays_give all
    each_stay go h env cx (bound ∷ more) all = stays_then _ _ (h (env ++ bound) cx all) (each_stay go h env cx more)

    -- all tuples of the bindings
    pub tuples_stay : (filter : Option Means) → OptionStay filter → (keys : List KeyMeans) → Each (λ k. MeansStay k.value) keys
        → (binds : List BindMeans) → Each (λ b. (env : Bindings) (cx : Context) → Stays (b env cx)) binds
        → (env : Bindings) (cx : Context) (all : Tuples) → Stays (tuples docs binds filter keys env cx all)
    tuples_stay filter f keys k [] b env cx all =
        stays_then _ _ (filter_stay filter f env cx) (λ stay. stays_if stay _ _
        (stays_then _ _ (keyed_stay keys k env cx all.types no_keys) (λ keyed. stays_give (with_row all env keyed))) (stays_give all))
    tuples_stay filter f keys k (bind ∷ binds) b env cx all =
        stays_then _ _ (b.0 env cx) (λ bounds. each_stay (tuples docs binds filter keys) (tuples_stay filter f keys k binds b.1) env cx bounds all)

  -- what the tuples give
  pub returned_stay : (e : Means) → MeansStay e → (cx : Context) (rows : List Row) → Stays (returned e cx rows)
  returned_stay e h cx [] = stays_give {A = Items} []
  returned_stay e h cx (row ∷ rows) = stays_then _ _ (h row.bindings cx) (λ items. stays_then _ _ (returned_stay e h cx rows) (λ more. stays_give (items ++ more)))
