-- Parts of expressions that answer alike by two look-ups of documents, where their variables and their context are known,
-- make wholes that do: lists, predicates, paths and tuples.
use Rattle.std.specs.Prelude.{◌≡◌, ℕ, ◌+◌, Bool, true, false, if◌then◌else◌, List, [], ◌∷◌, ◌++◌, map, length, bytes_eq, nat_lt, Option, None, Some, Ok, refl}
use Rattle.std.proofs.Common.{ap}
use Rattle.xq_ast.specs.declared.code.Code.TheVariants.{XPTY0019, XPTY0020, TooManyItems}
use Rattle.xq_ast.specs.declared.step.Axis.TheVariants.{DescendantOrSelf}
use Rattle.xq_ast.specs.declared.step.Test.TheVariants.{AnyNode}
use Rattle.xml_model.specs.declared.limits.TheConstants.{ITEMS_MAX}
use Rattle.xml_model.specs.declared.value.KeyType.{KeyType}
use Rattle.xml_model.specs.DocumentOrder.{union}
use Rattle.xml_model.specs.Items.{Documents, NodeAt, Item, Items, node, Making, give, fail, ◌>>?◌}
use Rattle.xml_model.specs.Atoms.{effective_boolean}
use Rattle.xml_model.specs.Nodes.{node_cmp, nodes_or, atomized, tested}
use Rattle.xml_model.specs.FunctionAnswers.{Context, context_item}
use Rattle.xml_model.specs.Tuples.{Bindings, Means, BindMeans, KeyMeans, Row, Tuples, Keyed, key_of, joined_type, first_type, other_types, type_of, with_key, with_row, no_keys, keyed, stays, tuple, each, tuples, is_before, row_placed, rows_placed, sorted, returned}
use Rattle.xml_model.specs.Evaluation.{counted, or_later, bound_value, or_nothing, one_after_another, values, parts, truth, any_of, all_of, holds_at, kept, filtered, from_each, below, stepped, path_from, first_step}
use Rattle.xml_model.proofs.Alike.{Each, each_append, each_if, each_union, Any, any_fine, fine_then, Alike, give_alike, fail_alike, plain_alike, look_alike, bind_alike}
use Rattle.xml_model.proofs.Known.{KnownNode, KnownItem, KnownItems, KnownBindings, KnownContext, atoms_same, tested_same, tested_known, nodes_fine, nodes_as_items, context_fine}

module _ (docs docs' : Documents) where
  -- the same where variables and context are known, with a value that has the property
  abbrev pub AlikeWhere : {A : Type 0} → (A → Type 0) → (Bindings → Context → Making A) → (Bindings → Context → Making A) → Type 0
  AlikeWhere G e e' = (env : Bindings) (cx : Context) → KnownBindings docs docs' env → KnownContext docs docs' cx → Alike G (e env cx) (e' env cx)

  -- two meanings of an expression
  abbrev pub MeansAlike : Means → Means → Type 0
  MeansAlike e e' = AlikeWhere (KnownItems docs docs') e e'

  -- ---- variables and counts

  or_later_known : (earlier later : Option Items) → KnownItems docs docs' (or_nothing earlier) → KnownItems docs docs' (or_nothing later)
      → KnownItems docs docs' (or_nothing (or_later earlier later))
  or_later_known earlier None g h = g
  or_later_known earlier (Some items) g h = h

  if_known : (b : Bool) (items : Items) → KnownItems docs docs' items → KnownItems docs docs' (or_nothing (if b then Some items else None))
  if_known true items g = g
  if_known false items g = tt

  -- the value of a variable is known
  pub bound_known : (name : List ℕ) (env : Bindings) → KnownBindings docs docs' env → KnownItems docs docs' (or_nothing (bound_value name env))
  bound_known name [] g = tt
  bound_known name (v ∷ vs) g =
      or_later_known (if bytes_eq v.name name then Some v.value else None) (bound_value name vs) (if_known (bytes_eq v.name name) v.value g.0) (bound_known name vs g.1)

  if_counted : (b : Bool) (items : Items) → KnownItems docs docs' items
      → Alike (KnownItems docs docs') (if b then fail TooManyItems else give items) (if b then fail TooManyItems else give items)
  if_counted true items g = fail_alike (KnownItems docs docs') TooManyItems
  if_counted false items g = give_alike (KnownItems docs docs') items g

  -- items are counted alike
  pub counted_alike : (items : Items) → KnownItems docs docs' items → Alike (KnownItems docs docs') (counted items) (counted items)
  counted_alike items g = if_counted (nat_lt ITEMS_MAX (length items)) items g

  -- ---- lists of expressions

  module _ {X : Type 0} (f f' : X → Means) where
    -- the items of a list of expressions
    pub one_after_another_alike : (xs : List X) → Each (λ x. MeansAlike (f x) (f' x)) xs → MeansAlike (one_after_another (map f xs)) (one_after_another (map f' xs))
    one_after_another_alike [] h env cx v c = give_alike (KnownItems docs docs') [] tt
    one_after_another_alike (x ∷ xs) h env cx v c =
        bind_alike (KnownItems docs docs') (KnownItems docs docs') _ _ _ _ (h.0 env cx v c) (λ items g.
        bind_alike (KnownItems docs docs') (KnownItems docs docs') _ _ _ _ (one_after_another_alike xs h.1 env cx v c) (λ more k.
        give_alike (KnownItems docs docs') (items ++ more) (each_append (KnownItem docs docs') items more g k)))

    -- their values
    pub values_alike : (xs : List X) → Each (λ x. MeansAlike (f x) (f' x)) xs → AlikeWhere (Each (KnownItems docs docs')) (values (map f xs)) (values (map f' xs))
    values_alike [] h env cx v c = give_alike (Each (KnownItems docs docs')) [] tt
    values_alike (x ∷ xs) h env cx v c =
        bind_alike (KnownItems docs docs') (Each (KnownItems docs docs')) _ _ _ _ (h.0 env cx v c) (λ items g.
        bind_alike (Each (KnownItems docs docs')) (Each (KnownItems docs docs')) _ _ _ _ (values_alike xs h.1 env cx v c) (λ more k.
        give_alike (Each (KnownItems docs docs')) (items ∷ more) (g, k)))

    -- the values of operands
    pub parts_alike : {O : Type 0} (op : X → O) (xs : List X) → Each (λ x. MeansAlike (f x) (f' x)) xs
        → AlikeWhere (Each (λ p. KnownItems docs docs' p.1)) (parts (map (λ x. (op x, f x)) xs)) (parts (map (λ x. (op x, f' x)) xs))
    parts_alike op [] h env cx v c = give_alike (Each (λ p. KnownItems docs docs' p.1)) [] tt
    parts_alike op (x ∷ xs) h env cx v c =
        bind_alike (KnownItems docs docs') (Each (λ p. KnownItems docs docs' p.1)) _ _ _ _ (h.0 env cx v c) (λ items g.
        bind_alike (Each (λ p. KnownItems docs docs' p.1)) (Each (λ p. KnownItems docs docs' p.1)) _ _ _ _ (parts_alike op xs h.1 env cx v c) (λ more k.
        give_alike (Each (λ p. KnownItems docs docs' p.1)) ((op x, items) ∷ more) (g, k)))

  -- the effective boolean value
  pub truth_alike : (e e' : Means) → MeansAlike e e' → AlikeWhere Any (truth e) (truth e')
  truth_alike e e' h env cx v c =
      bind_alike (KnownItems docs docs') Any _ _ _ _ (h env cx v c) (λ items g. plain_alike Any (effective_boolean items) (any_fine (effective_boolean items)))

  -- two choices by one truth value
  pub if_alike : {A : Type 0} (G : A → Type 0) (b : Bool) (m m' n n' : Making A) → Alike G m m' → Alike G n n' → Alike G (if b then m else n) (if b then m' else n')
  if_alike G true m m' n n' g h = g
  if_alike G false m m' n n' g h = h

  module _ {X : Type 0} (f f' : X → Means) where
    -- whether one of them is true
    pub any_of_alike : (xs : List X) → Each (λ x. MeansAlike (f x) (f' x)) xs → AlikeWhere Any (any_of (map f xs)) (any_of (map f' xs))
    any_of_alike [] h env cx v c = give_alike Any false tt
    any_of_alike (x ∷ xs) h env cx v c =
        bind_alike Any Any _ _ _ _ (truth_alike (f x) (f' x) h.0 env cx v c) (λ b _.
        if_alike Any b _ _ _ _ (give_alike Any true tt) (any_of_alike xs h.1 env cx v c))

    -- whether all of them are
    pub all_of_alike : (xs : List X) → Each (λ x. MeansAlike (f x) (f' x)) xs → AlikeWhere Any (all_of (map f xs)) (all_of (map f' xs))
    all_of_alike [] h env cx v c = give_alike Any true tt
    all_of_alike (x ∷ xs) h env cx v c =
        bind_alike Any Any _ _ _ _ (truth_alike (f x) (f' x) h.0 env cx v c) (λ b _.
        if_alike Any b _ _ _ _ (all_of_alike xs h.1 env cx v c) (give_alike Any false tt))

  -- ---- predicates

  module _ {A : Type 0} (G : A → Type 0) (item : A → Item) (is_known : (x : A) → G x → KnownItem docs docs' (item x)) where
    -- the elements that a predicate keeps
    pub kept_alike : (e e' : Means) → MeansAlike e e' → (env : Bindings) → KnownBindings docs docs' env → (size position : ℕ) (xs : List A) → Each G xs
        → Alike (Each G) (kept item e env size position xs) (kept item e' env size position xs)
    kept_alike e e' h env v size position [] g = give_alike (Each G) [] tt
    kept_alike e e' h env v size position (x ∷ xs) g =
        bind_alike Any (Each G) _ _ _ _
        (bind_alike (KnownItems docs docs') Any _ _ _ _ (h env (Some (record { item = item x; position = position; size = size })) v (is_known x g.0))
        (λ value _. plain_alike Any (holds_at position value) (any_fine (holds_at position value))))
        (λ b _. bind_alike (Each G) (Each G) _ _ _ _ (kept_alike e e' h env v size (position + 1) xs g.1)
        (λ rest k. give_alike (Each G) (if b then x ∷ rest else rest) (each_if G b x rest g.0 k)))

    -- those that all predicates keep
    pub filtered_alike : {X : Type 0} (f f' : X → Means) (ps : List X) → Each (λ x. MeansAlike (f x) (f' x)) ps → (env : Bindings) → KnownBindings docs docs' env
        → (xs : List A) → Each G xs → Alike (Each G) (filtered item (map f ps) env xs) (filtered item (map f' ps) env xs)
    filtered_alike f f' [] h env v xs g = give_alike (Each G) xs g
    filtered_alike f f' (p ∷ ps) h env v xs g =
        bind_alike (Each G) (Each G) _ _ _ _ (kept_alike (f p) (f' p) h.0 env v (length xs) 1 xs g) (λ ys k. filtered_alike f f' ps h.1 env v ys k)

  -- ---- paths

  abbrev NodesKnown : List NodeAt → Type 0
  NodesKnown = Each (KnownNode docs docs')

  -- what a step finds from each node in turn
  pub from_each_alike : (go go' : NodeAt → Making (List NodeAt)) → ((n : NodeAt) → KnownNode docs docs' n → Alike NodesKnown (go n) (go' n))
      → (joined : List NodeAt) → NodesKnown joined → (ns : List NodeAt) → NodesKnown ns → Alike NodesKnown (from_each go joined ns) (from_each go' joined ns)
  from_each_alike go go' h joined j [] g = give_alike NodesKnown joined j
  from_each_alike go go' h joined j (n ∷ ns) g =
      bind_alike NodesKnown NodesKnown _ _ _ _ (h n g.0) (λ more k.
      from_each_alike go go' h (union node_cmp joined more) (each_union (KnownNode docs docs') node_cmp joined more j k) ns g.1)

  -- a node and all below it
  pub below_alike : (n : NodeAt) → KnownNode docs docs' n → Alike NodesKnown (below docs n) (below docs' n)
  below_alike n k = look_alike NodesKnown (λ made. Ok (tested docs made DescendantOrSelf AnyNode n)) (λ made. Ok (tested docs' made DescendantOrSelf AnyNode n))
      (λ made. (ap (λ ns. Ok ns) (tested_same docs docs' made DescendantOrSelf AnyNode n k), tested_known docs docs' made DescendantOrSelf AnyNode n k))

  -- a step from one node
  abbrev pub StepAlike : (Bindings → NodeAt → Making (List NodeAt)) → (Bindings → NodeAt → Making (List NodeAt)) → Type 0
  StepAlike go go' = (env : Bindings) (n : NodeAt) → KnownBindings docs docs' env → KnownNode docs docs' n → Alike NodesKnown (go env n) (go' env n)

  deep_alike : (deep : Bool) (ns : List NodeAt) → NodesKnown ns
      → Alike NodesKnown (if deep then from_each (below docs) [] ns else give ns) (if deep then from_each (below docs') [] ns else give ns)
  deep_alike true ns g = from_each_alike (below docs) (below docs') below_alike [] tt ns g
  deep_alike false ns g = give_alike NodesKnown ns g

  -- a step from each node, with `//` or without
  pub stepped_alike : (deep : Bool) (go go' : Bindings → NodeAt → Making (List NodeAt)) → StepAlike go go' → (env : Bindings) → KnownBindings docs docs' env
      → (ns : List NodeAt) → NodesKnown ns
      → Alike NodesKnown (stepped docs (record { deep = deep; from_node = go }) env ns) (stepped docs' (record { deep = deep; from_node = go' }) env ns)
  stepped_alike deep go go' h env v ns g =
      bind_alike NodesKnown NodesKnown _ _ _ _ (deep_alike deep ns g) (λ from k. from_each_alike (go env) (go' env) (λ n q. h env n v q) [] tt from k)

  -- the steps of a path
  pub path_from_alike : {X : Type 0} (deep : X → Bool) (go go' : X → Bindings → NodeAt → Making (List NodeAt)) (xs : List X) → Each (λ x. StepAlike (go x) (go' x)) xs
      → (env : Bindings) → KnownBindings docs docs' env → (items : Items) → KnownItems docs docs' items
      → Alike (KnownItems docs docs') (path_from docs (map (λ x. record { deep = deep x; from_node = go x }) xs) env items)
      (path_from docs' (map (λ x. record { deep = deep x; from_node = go' x }) xs) env items)
  path_from_alike deep go go' [] h env v items g = give_alike (KnownItems docs docs') items g
  path_from_alike deep go go' (x ∷ xs) h env v items g =
      bind_alike NodesKnown (KnownItems docs docs') _ _ _ _
      (bind_alike NodesKnown NodesKnown _ _ _ _ (plain_alike NodesKnown (nodes_or XPTY0019 items) (nodes_fine docs docs' XPTY0019 items g))
      (λ ns k. stepped_alike (deep x) (go x) (go' x) h.0 env v ns k))
      (λ ns k. path_from_alike deep go go' xs h.1 env v (map node ns) (nodes_as_items docs docs' ns k))

  -- a step from the context item
  pub first_step_alike : (deep : Bool) (go go' : Bindings → NodeAt → Making (List NodeAt)) → StepAlike go go'
      → MeansAlike (first_step docs (record { deep = deep; from_node = go })) (first_step docs' (record { deep = deep; from_node = go' }))
  first_step_alike deep go go' h env cx v c =
      bind_alike NodesKnown (KnownItems docs docs') _ _ _ _
      (bind_alike NodesKnown NodesKnown _ _ _ _
      (plain_alike NodesKnown (context_item cx >>? nodes_or XPTY0020)
      (fine_then (KnownItems docs docs') NodesKnown (nodes_or XPTY0020) (nodes_fine docs docs' XPTY0020) (context_item cx) (context_fine docs docs' cx c)))
      (λ ns k. stepped_alike deep go go' h env v ns k))
      (λ ns k. give_alike (KnownItems docs docs') (map node ns) (nodes_as_items docs docs' ns k))

  -- ---- tuples

  -- the variables of a tuple are known
  abbrev pub RowKnown : Row → Type 0
  RowKnown row = KnownBindings docs docs' row.bindings

  -- so are those of each tuple
  abbrev pub TuplesKnown : Tuples → Type 0
  TuplesKnown all = Each RowKnown all.rows

  module _ {X : Type 0} (f f' : X → Means) (descends : X → Bool) where
    -- the key that an element of the list gives
    abbrev pub key_means : (X → Means) → X → KeyMeans
    key_means g x = record { value = g x; descending = descends x }

    keyed_alike : (ks : List X) → Each (λ x. MeansAlike (f x) (f' x)) ks → (env : Bindings) (cx : Context) → KnownBindings docs docs' env → KnownContext docs docs' cx
        → (types : List KeyType) (all : Keyed) → Alike Any (keyed docs (map (key_means f) ks) env cx types all) (keyed docs' (map (key_means f') ks) env cx types all)
    keyed_alike [] h env cx v c types all = give_alike Any all tt
    keyed_alike (k ∷ ks) h env cx v c types all =
        bind_alike Any Any _ _ _ _
        (bind_alike (KnownItems docs docs') Any _ _ _ _ (h.0 env cx v c)
        (λ value g. look_alike Any (λ made. key_of (atomized docs made value)) (λ made. key_of (atomized docs' made value))
        (λ made. (ap key_of (atoms_same docs docs' made value g), any_fine (key_of (atomized docs made value))))))
        (λ key _. bind_alike Any Any _ _ _ _ (plain_alike Any (joined_type (first_type types) (type_of key)) (any_fine (joined_type (first_type types) (type_of key))))
        (λ type _. keyed_alike ks h.1 env cx v c (other_types types) (with_key all key type)))

    descends_same : (ks : List X) → map (λ k. k.descending) (map (key_means f) ks) ≡ map (λ k. k.descending) (map (key_means f') ks)
    descends_same [] = refl
    descends_same (k ∷ ks) = ap (λ ds. descends k ∷ ds) (descends_same ks)

    -- the same order
    pub sorted_same : (ks : List X) (rows : List Row) → sorted (map (key_means f) ks) rows ≡ sorted (map (key_means f') ks) rows
    sorted_same ks rows = ap (λ ds. rows_placed ds rows []) (descends_same ks)

    module _ (filter filter' : Option Means) (filters : (env : Bindings) (cx : Context) → KnownBindings docs docs' env → KnownContext docs docs' cx → Alike Any (stays docs filter env cx) (stays docs' filter' env cx))
        (ks : List X) (h : Each (λ x. MeansAlike (f x) (f' x)) ks) where
      -- what makes tuples of tuples
      abbrev pub TupleAlike : (Bindings → Context → Tuples → Making Tuples) → (Bindings → Context → Tuples → Making Tuples) → Type 0
      TupleAlike go go' = (env : Bindings) (cx : Context) → KnownBindings docs docs' env → KnownContext docs docs' cx → (all : Tuples) → TuplesKnown all
          → Alike TuplesKnown (go env cx all) (go' env cx all)

      tuple_alike : TupleAlike (tuple docs filter (map (key_means f) ks)) (tuple docs' filter' (map (key_means f') ks))
      tuple_alike env cx v c all g =
          bind_alike Any TuplesKnown _ _ _ _ (filters env cx v c) (λ b _.
          if_alike TuplesKnown b _ _ _ _
          (bind_alike Any TuplesKnown _ _ _ _ (keyed_alike ks h env cx v c all.types no_keys)
          (λ k _. give_alike TuplesKnown (with_row all env k) (each_append RowKnown all.rows (record { keys = k.keys; bindings = env } ∷ []) g (v, tt))))
          (give_alike TuplesKnown all g))

      each_alike : (go go' : Bindings → Context → Tuples → Making Tuples) → TupleAlike go go' → (env : Bindings) (cx : Context) → KnownBindings docs docs' env
          → KnownContext docs docs' cx → (bounds : List Bindings) → Each (KnownBindings docs docs') bounds → (all : Tuples) → TuplesKnown all
          → Alike TuplesKnown (each docs go env cx bounds all) (each docs' go' env cx bounds all)
      each_alike go go' t env cx v c [] b all g = give_alike TuplesKnown all g
      each_alike go go' t env cx v c (bound ∷ more) b all g =
          bind_alike TuplesKnown TuplesKnown _ _ _ _ (t (env ++ bound) cx (each_append (λ w. KnownItems docs docs' w.value) env bound v b.0) c all g)
          (λ next k. each_alike go go' t env cx v c more b.1 next k)

      -- all tuples of the bindings
      pub tuples_alike : {Y : Type 0} (bind bind' : Y → BindMeans) (ys : List Y) → Each (λ y. AlikeWhere (Each (KnownBindings docs docs')) (bind y) (bind' y)) ys
          → TupleAlike (tuples docs (map bind ys) filter (map (key_means f) ks)) (tuples docs' (map bind' ys) filter' (map (key_means f') ks))
      tuples_alike bind bind' [] bs env cx v c all g = tuple_alike env cx v c all g
      tuples_alike bind bind' (y ∷ ys) bs env cx v c all g =
          bind_alike (Each (KnownBindings docs docs')) TuplesKnown _ _ _ _ (bs.0 env cx v c) (λ bounds b.
          each_alike _ _ (tuples_alike bind bind' ys bs.1) env cx v c bounds b all g)

  -- ---- their order

  if_rows : (b : Bool) (row other : Row) (rows rest : List Row) → RowKnown row → RowKnown other → Each RowKnown rows → Each RowKnown rest
      → Each RowKnown (if b then row ∷ other ∷ rows else other ∷ rest)
  if_rows true row other rows rest g h i j = (g, (h, i))
  if_rows false row other rows rest g h i j = (h, j)

  row_placed_known : (ds : List Bool) (row : Row) (rows : List Row) → RowKnown row → Each RowKnown rows → Each RowKnown (row_placed ds row rows)
  row_placed_known ds row [] g h = (g, tt)
  row_placed_known ds row (other ∷ rows) g h =
      if_rows (is_before ds row other) row other rows (row_placed ds row rows) g h.0 h.1 (row_placed_known ds row rows g h.1)

  rows_placed_known : (ds : List Bool) (rows done : List Row) → Each RowKnown rows → Each RowKnown done → Each RowKnown (rows_placed ds rows done)
  rows_placed_known ds [] done g h = h
  rows_placed_known ds (row ∷ rows) done g h = rows_placed_known ds rows (row_placed ds row done) g.1 (row_placed_known ds row done g.0 h)

  -- tuples stay known in their order
  pub sorted_known : (keys : List KeyMeans) (rows : List Row) → Each RowKnown rows → Each RowKnown (sorted keys rows)
  sorted_known keys rows g = rows_placed_known (map (λ k. k.descending) keys) rows [] g tt

  -- what the tuples give
  pub returned_alike : (e e' : Means) → MeansAlike e e' → (cx : Context) → KnownContext docs docs' cx → (rows : List Row) → Each RowKnown rows
      → Alike (KnownItems docs docs') (returned e cx rows) (returned e' cx rows)
  returned_alike e e' h cx c [] g = give_alike (KnownItems docs docs') [] tt
  returned_alike e e' h cx c (row ∷ rows) g =
      bind_alike (KnownItems docs docs') (KnownItems docs docs') _ _ _ _ (h row.bindings cx g.0 c) (λ items k.
      bind_alike (KnownItems docs docs') (KnownItems docs docs') _ _ _ _ (returned_alike e e' h cx c rows g.1) (λ more l.
      give_alike (KnownItems docs docs') (items ++ more) (each_append (KnownItem docs docs') items more k l)))
