-- What an expression means rests on the documents that it names alone: two look-ups that agree on their names give it
-- one meaning.
use Rattle.std.specs.Prelude.{◌≡◌, ℕ, zero, suc, ◌+◌, ℤ, pos, ◌+ℤ◌, ◌-ℤ◌, ◌*ℤ◌, int_div, int_rem, int_lt, int_le, unsigned_abs, Bool, true, false, if◌then◌else◌, List, [], ◌∷◌, ◌++◌, map, Option, None, Some, is_some, Result, Ok, Err, refl}
use Rattle.std.specs.List.{range_with_len}
use Rattle.std.specs.Ordering.{int_eq}
use Rattle.xml_model.specs.declared.limits.TheConstants.{ITEMS_MAX}
use Rattle.std.proofs.Common.{sym, ap, subst, ◌∙◌}
use Rattle.xq_ast.specs.Documents as names
use Rattle.xq_ast.specs.declared.code.Code.{Code}
use Rattle.xq_ast.specs.declared.code.Code.TheVariants.{FOAR0001, FOAR0002, TooManyItems, XPST0003}
use Rattle.xq_ast.specs.declared.tree.Bind.{Bind, out-Bind}
use Rattle.xq_ast.specs.declared.tree.Expr.{Expr, out-Expr}
use Rattle.xq_ast.specs.declared.tree.Start.{Start, out-Start}
use Rattle.xq_ast.specs.declared.tree.ProductPart.{ProductPart}
use Rattle.xq_ast.specs.declared.tree.ProductOp.{ProductOp}
use Rattle.xq_ast.specs.declared.tree.ProductOp.TheVariants.{Times, Idiv, Mod}
use Rattle.xq_ast.specs.declared.tree.Sign.{Sign}
use Rattle.xq_ast.specs.declared.tree.SortKey.{SortKey}
use Rattle.xq_ast.specs.declared.tree.Step.{Step}
use Rattle.xq_ast.specs.declared.tree.SumPart.{SumPart}
use Rattle.xq_ast.specs.declared.tree.Bind.TheOpen.{Bind-F, Expr-F, Start-F}
use Rattle.xml_model.specs.declared.node.Doc.{Doc}
use Rattle.xml_model.specs.declared.node.Node.TheVariants.{Text}
use Rattle.xml_model.specs.declared.value.Atom.TheVariants as atom
use Rattle.xml_model.specs.Place.{Placed, a_node, an_attribute}
use Rattle.xml_model.specs.Items.{Documents, NodeAt, Item, Items, node, string, integer, boolean, Made, Making, give, fail, plain, look, ◌>>=◌, ◌>>?◌, construct}
use Rattle.xml_model.specs.Atoms.{Atoms, operand, operated, within_long, long_or, sum_op, product_op, chained, is_minus, signed_by, range_of, compares}
use Rattle.xml_model.specs.Nodes.{united_all, atomized, tested}
use Rattle.xml_model.specs.Constructors.{content_of, element, limited_text, spaced}
use Rattle.xml_model.specs.FunctionAnswers.{Context, context_item, call_function}
use Rattle.xml_model.specs.Tuples.{Bindings, Means, BindMeans, KeyMeans, no_tuples, stays, tuples, sorted, returned}
use Rattle.xml_model.specs.Evaluation.{or_nothing, bound_value, boolean_value, content_or, StepMeans, document_node, ProductMeans, SumMeans, bound_items, bind_step, value_of, expr_step, start_step, product_step, key_step, step_step, sum_step, meaning, eval}
use Rattle.xml_model.specs.Forest.{Forest}
use Rattle.xml_model.specs.ItemLines.{placed_lines, item_lines, lines_of}
use Rattle.xml_model.specs.Statement.{answer_of, said_by, query_answer}
use Rattle.std.specs.FinMap as forests
use Rattle.xml_model.proofs.Depths.{size, fits_at_size}
use Rattle.xml_model.proofs.Alike.{Each, each_front, each_rest, each_map, Any, Fine, any_fine, fine_then, same_then, Good, Alike, give_alike, fail_alike, plain_alike, look_alike, bind_alike}
use Rattle.xml_model.proofs.Known.{KnownNode, KnownItem, KnownItems, KnownBindings, KnownContext, node_same, atoms_same, tested_same, tested_known, content_same, united_all_fine, nodes_as_items, context_fine, call_same}
use Rattle.xml_model.proofs.AlikeParts.{AlikeWhere, MeansAlike, bound_known, counted_alike, one_after_another_alike, values_alike, parts_alike, truth_alike, if_alike, any_of_alike, all_of_alike, filtered_alike, StepAlike, path_from_alike, first_step_alike, TuplesKnown, tuples_alike, sorted_same, sorted_known, returned_alike}
use Rattle.xml_model.proofs.Bounded.{layer, bind_layer, start_layer, run, fits, bounded}

-- ---- numbers are known

module _ (docs docs' : Documents) where
  abbrev K : Items → Type 0
  K = KnownItems docs docs'

  within_fine : (op : ℤ → ℤ → ℤ) (n m : ℤ) → Fine K (within_long op n m)
  within_fine op n m = fine_then Any K (λ k. Ok (integer k ∷ [])) (λ k _. (tt, tt)) (long_or FOAR0002 (op n m)) (any_fine (long_or FOAR0002 (op n m)))

  if_fine : (b : Bool) (r s : Result Items Code) → Fine K r → Fine K s → Fine K (if b then r else s)
  if_fine true r s g h = g
  if_fine false r s g h = h

  sum_fine : (is_less : Bool) (n m : ℤ) → Fine K (sum_op is_less n m)
  sum_fine false n m = within_fine (λ a b. a +ℤ b) n m
  sum_fine true n m = within_fine (λ a b. a -ℤ b) n m

  product_fine : (op : ProductOp) (n m : ℤ) → Fine K (product_op op n m)
  product_fine Times n m = within_fine (λ a b. a *ℤ b) n m
  product_fine Idiv n m = if_fine (int_eq m (pos 0)) (Err FOAR0001) (within_long int_div n m) tt (within_fine int_div n m)
  product_fine Mod n m = if_fine (int_eq m (pos 0)) (Err FOAR0001) (within_long int_rem n m) tt (within_fine int_rem n m)

  range_fine : (n m : ℤ) → Fine K (range_of n m)
  range_fine n m =
      let all : Items = map (λ k. integer (n +ℤ pos k)) (range_with_len 0 (unsigned_abs (m -ℤ n) + 1)) in
      let too_many = int_le (pos ITEMS_MAX) (m -ℤ n) in
      if_fine (int_lt m n) (Ok []) (if too_many then Err TooManyItems else Ok all) tt
      (if_fine too_many (Err TooManyItems) (Ok all) tt
      (each_map (KnownItem docs docs') (λ k. integer (n +ℤ pos k)) (λ k. tt) (range_with_len 0 (unsigned_abs (m -ℤ n) + 1))))

  operated_fine : (op : ℤ → ℤ → Result Items Code) → ((n m : ℤ) → Fine K (op n m)) → (left right : Atoms) → Fine K (operated op left right)
  operated_fine op h [] bs = tt
  operated_fine op h (a ∷ more) [] = tt
  operated_fine op h (a ∷ []) (b ∷ []) =
      fine_then Any K (λ n. operand b >>? op n) (λ n _. fine_then Any K (op n) (λ m _. h n m) (operand b) (any_fine (operand b))) (operand a) (any_fine (operand a))
  operated_fine op h (a ∷ []) (b ∷ c ∷ bs) = tt
  operated_fine op h (a ∷ d ∷ more) (b ∷ bs) = tt

  module _ {O : Type 0} (op : O → ℤ → ℤ → Result Items Code) (h : (o : O) (n m : ℤ) → Fine K (op o n m)) (made : Made) where
    chained_fine : (left : Items) (ps : List (O × Items)) → K left → Fine K (chained (atomized docs made) op left ps)
    chained_fine left [] g = g
    chained_fine left (p ∷ ps) g =
        fine_then K K (λ found. chained (atomized docs made) op found ps) (λ found k. chained_fine found ps k)
        (operated (op p.0) (atomized docs made left) (atomized docs made p.1)) (operated_fine (op p.0) (h p.0) (atomized docs made left) (atomized docs made p.1))

    chained_same : (left : Items) (ps : List (O × Items)) → K left → Each (λ p. K p.1) ps → chained (atomized docs made) op left ps ≡ chained (atomized docs' made) op left ps
    chained_same left [] g k = refl
    chained_same left (p ∷ ps) g k =
        same_then K K (λ found. chained (atomized docs made) op found ps) (λ found. chained (atomized docs' made) op found ps)
        (λ found q. chained_same found ps q k.1)
        (operated (op p.0) (atomized docs made left) (atomized docs made p.1)) (operated_fine (op p.0) (h p.0) (atomized docs made left) (atomized docs made p.1))
        ∙ (λ i. operated (op p.0) (atoms_same docs docs' made left g i) (atoms_same docs docs' made p.1 k.0 i) >>? (λ found. chained (atomized docs' made) op found ps))

  signed_fine : (made : Made) (signs : List Sign) (value : Items) → K value → Fine K (signed_by (atomized docs made) signs value)
  signed_fine made [] value g = g
  signed_fine made (sign ∷ signs) value g =
      fine_then K K (λ found. operated (sum_op (is_minus sign)) (atom.Int (pos 0) ∷ []) (atomized docs made found))
      (λ found _. operated_fine (sum_op (is_minus sign)) (sum_fine (is_minus sign)) (atom.Int (pos 0) ∷ []) (atomized docs made found))
      (signed_by (atomized docs made) signs value) (signed_fine made signs value g)

  signed_same : (made : Made) (signs : List Sign) (value : Items) → K value → signed_by (atomized docs made) signs value ≡ signed_by (atomized docs' made) signs value
  signed_same made [] value g = refl
  signed_same made (sign ∷ signs) value g =
      same_then K K (λ found. operated (sum_op (is_minus sign)) (atom.Int (pos 0) ∷ []) (atomized docs made found))
      (λ found. operated (sum_op (is_minus sign)) (atom.Int (pos 0) ∷ []) (atomized docs' made found))
      (λ found k. ap (operated (sum_op (is_minus sign)) (atom.Int (pos 0) ∷ [])) (atoms_same docs docs' made found k))
      (signed_by (atomized docs made) signs value) (signed_fine made signs value g)
      ∙ ap (λ r. r >>? (λ found. operated (sum_op (is_minus sign)) (atom.Int (pos 0) ∷ []) (atomized docs' made found))) (signed_same made signs value g)

  -- ---- bindings

  bound_items_known : (name : List ℕ) (at : Option (List ℕ)) (position : ℕ) (items : Items) → K items → Each (KnownBindings docs docs') (bound_items docs name at position items)
  bound_items_known name at position [] g = tt
  bound_items_known name None position (item ∷ items) g = (((g.0, tt), tt), bound_items_known name None (position + 1) items g.1)
  bound_items_known name (Some at) position (item ∷ items) g = (((g.0, tt), ((tt, tt), tt)), bound_items_known name (Some at) (position + 1) items g.1)

  -- ---- constructed trees

  construct_alike : (root : Placed) → Alike K (construct root) (construct root)
  construct_alike root made = (refl, (tt, tt))

  -- what a new text has
  abbrev text_of : Documents → Items → Making Items
  text_of d [] = give []
  text_of d (item ∷ items) = look (λ made. limited_text (spaced (atomized d made (item ∷ items)))) >>= (λ value. construct (a_node (Text value)))

  spaced_alike : (items : Items) → K items
      → Alike Any (look (λ made. limited_text (spaced (atomized docs made items)))) (look (λ made. limited_text (spaced (atomized docs' made items))))
  spaced_alike items g = look_alike Any _ _ (λ made.
      (ap (λ texts. limited_text (spaced texts)) (atoms_same docs docs' made items g), any_fine (limited_text (spaced (atomized docs made items)))))

  text_alike : (items : Items) → K items → Alike K (text_of docs items) (text_of docs' items)
  text_alike [] g = give_alike K [] tt
  text_alike (item ∷ items) g = bind_alike Any K _ _ _ _ (spaced_alike (item ∷ items) g) (λ value _. construct_alike (a_node (Text value)))

  document_fine : (name : List ℕ) (o : Option Doc) → docs name ≡ o → docs name ≡ docs' name → Fine K (document_node docs o name)
  document_fine name None is k = tt
  document_fine name (Some doc) is k = ((k, ap is_some is), tt)

-- ---- layers

-- the layer of an expression, by what its parts mean, and the names in it
abbrev layer_of : (docs : Documents) → (Expr → Means) → Expr-F Bind Expr Start ProductPart SortKey Step SumPart → Expr-F BindMeans Means Means (ProductMeans docs) KeyMeans StepMeans (SumMeans docs)
layer_of docs go = layer (λ env cx. fail XPST0003) (bind_step docs) (expr_step docs) (start_step docs) (product_step docs) (key_step docs) (step_step docs) (sum_step docs) go

abbrev names_of_bind : (Expr → names.Names) → Bind → names.Names
names_of_bind gn b = names.bind_step (bind_layer [] names.bind_step names.expr_step names.start_step names.product_step names.key_step names.step_step names.sum_step gn (out-Bind b))

abbrev names_layer : (Expr → names.Names) → Expr-F Bind Expr Start ProductPart SortKey Step SumPart → Expr-F names.Names names.Names names.Names names.Names names.Names names.Names names.Names
names_layer gn = layer [] names.bind_step names.expr_step names.start_step names.product_step names.key_step names.step_step names.sum_step gn

module _ (docs docs' : Documents) (go go' : Expr → Means) (gn : Expr → names.Names) where
  -- the look-ups agree on the name
  abbrev KnownName : List ℕ → Type 0
  KnownName name = docs name ≡ docs' name

  abbrev KI : Items → Type 0
  KI = KnownItems docs docs'

  each_of : {X : Type 0} (R : X → Type 0) (g : X → names.Names) → ((x : X) → Each KnownName (g x) → R x) → (xs : List X) → Each KnownName (names.joined (map g xs)) → Each R xs
  each_of R g same [] h = tt
  each_of R g same (x ∷ xs) h = (same x (each_front KnownName (g x) (names.joined (map g xs)) h), each_of R g same xs (each_rest KnownName (g x) (names.joined (map g xs)) h))

  module _ (same : (e : Expr) → Each KnownName (gn e) → MeansAlike docs docs' (go e) (go' e)) where
    all_alike : (es : List Expr) → Each KnownName (names.joined (map gn es)) → Each (λ e. MeansAlike docs docs' (go e) (go' e)) es
    all_alike = each_of (λ e. MeansAlike docs docs' (go e) (go' e)) gn same

    bind_layer_alike : (l : Bind-F Bind Expr Start ProductPart SortKey Step SumPart)
        → Each KnownName (names.bind_step (bind_layer [] names.bind_step names.expr_step names.start_step names.product_step names.key_step names.step_step names.sum_step gn l))
        → AlikeWhere docs docs' (Each (KnownBindings docs docs'))
        (bind_step docs (bind_layer (λ env cx. fail XPST0003) (bind_step docs) (expr_step docs) (start_step docs) (product_step docs) (key_step docs) (step_step docs) (sum_step docs) go l))
        (bind_step docs' (bind_layer (λ env cx. fail XPST0003) (bind_step docs') (expr_step docs') (start_step docs') (product_step docs') (key_step docs') (step_step docs') (sum_step docs') go' l))
    bind_layer_alike (Bind-F.For name at source) h env cx v c =
        bind_alike KI (Each (KnownBindings docs docs')) _ _ _ _ (same source h env cx v c) (λ items g.
        give_alike (Each (KnownBindings docs docs')) (bound_items docs name at 1 items) (bound_items_known docs docs' name at 1 items g))
    bind_layer_alike (Bind-F.Let name value) h env cx v c =
        bind_alike KI (Each (KnownBindings docs docs')) _ _ _ _ (same value h env cx v c) (λ items g.
        give_alike (Each (KnownBindings docs docs')) _ ((g, tt), tt))

    -- where a step leads from one node
    abbrev from_node : Documents → (Expr → Means) → Step → Bindings → NodeAt → Making (List NodeAt)
    from_node d g s = (step_step d (record { deep = s.deep; axis = s.axis; test = s.test; preds = map g s.preds })).from_node

    step_alike : (s : Step) → Each KnownName (names.joined (map gn s.preds)) → StepAlike docs docs' (from_node docs go s) (from_node docs' go' s)
    step_alike s h env n v k =
        bind_alike (Each (KnownNode docs docs')) (Each (KnownNode docs docs')) _ _ _ _
        (look_alike (Each (KnownNode docs docs')) (λ made. Ok (tested docs made s.axis s.test n)) (λ made. Ok (tested docs' made s.axis s.test n))
        (λ made. (ap (λ ns. Ok ns) (tested_same docs docs' made s.axis s.test n k), tested_known docs docs' made s.axis s.test n k)))
        (λ ns g. filtered_alike docs docs' (KnownNode docs docs') node (λ m q. q) go go' s.preds (all_alike s.preds h) env v ns g)

    start_layer_alike : (l : Start-F Bind Expr Start ProductPart SortKey Step SumPart)
        → Each KnownName (names.start_step (start_layer [] names.bind_step names.expr_step names.start_step names.product_step names.key_step names.step_step names.sum_step gn l))
        → MeansAlike docs docs'
        (start_step docs (start_layer (λ env cx. fail XPST0003) (bind_step docs) (expr_step docs) (start_step docs) (product_step docs) (key_step docs) (step_step docs) (sum_step docs) go l))
        (start_step docs' (start_layer (λ env cx. fail XPST0003) (bind_step docs') (expr_step docs') (start_step docs') (product_step docs') (key_step docs') (step_step docs') (sum_step docs') go' l))
    start_layer_alike (Start-F.Value inner) h = same inner h
    start_layer_alike (Start-F.First s) h = first_step_alike docs docs' s.deep (from_node docs go s) (from_node docs' go' s) (step_alike s h)

    nothing_alike : MeansAlike docs docs' (content_or None) (content_or None)
    nothing_alike env cx v c = give_alike KI [] tt

    element_alike : (name : List ℕ) (m m' : Means) → MeansAlike docs docs' m m'
        → MeansAlike docs docs' (λ env cx. m env cx >>= (λ items. look (λ made. element name (content_of docs made items))) >>= (λ n. construct (a_node n)))
        (λ env cx. m' env cx >>= (λ items. look (λ made. element name (content_of docs' made items))) >>= (λ n. construct (a_node n)))
    element_alike name m m' h env cx v c =
        bind_alike Any KI _ _ _ _
        (bind_alike KI Any _ _ _ _ (h env cx v c) (λ items g. look_alike Any _ _ (λ made.
        (ap (element name) (content_same docs docs' made items g), any_fine (element name (content_of docs made items))))))
        (λ n _. construct_alike docs docs' (a_node n))

    attribute_alike : (name : List ℕ) (m m' : Means) → MeansAlike docs docs' m m'
        → MeansAlike docs docs' (λ env cx. m env cx >>= (λ items. look (λ made. limited_text (spaced (atomized docs made items)))) >>= (λ value. construct (an_attribute (record { name = name; value = value }))))
        (λ env cx. m' env cx >>= (λ items. look (λ made. limited_text (spaced (atomized docs' made items)))) >>= (λ value. construct (an_attribute (record { name = name; value = value }))))
    attribute_alike name m m' h env cx v c =
        bind_alike Any KI _ _ _ _ (bind_alike KI Any _ _ _ _ (h env cx v c) (λ items g. spaced_alike docs docs' items g))
        (λ value _. construct_alike docs docs' (an_attribute (record { name = name; value = value })))

    flwor_alike : (binds : List Bind) (keys : List SortKey) (result : Expr) (filter filter' : Option Means)
        → ((env : Bindings) (cx : Context) → KnownBindings docs docs' env → KnownContext docs docs' cx → Alike Any (stays docs filter env cx) (stays docs' filter' env cx))
        → Each KnownName (names.joined (map (names_of_bind gn) binds)) → Each KnownName (names.joined (map (λ k. gn k.expr) keys)) → Each KnownName (gn result)
        → MeansAlike docs docs'
        (λ env cx. tuples docs (map (λ b. bind_step docs (bind_layer (λ env cx. fail XPST0003) (bind_step docs) (expr_step docs) (start_step docs) (product_step docs) (key_step docs) (step_step docs) (sum_step docs) go (out-Bind b))) binds)
        filter (map (λ k. record { value = go k.expr; descending = k.descending }) keys) env cx no_tuples
        >>= (λ all. returned (go result) cx (sorted (map (λ k. record { value = go k.expr; descending = k.descending }) keys) all.rows)))
        (λ env cx. tuples docs' (map (λ b. bind_step docs' (bind_layer (λ env cx. fail XPST0003) (bind_step docs') (expr_step docs') (start_step docs') (product_step docs') (key_step docs') (step_step docs') (sum_step docs') go' (out-Bind b))) binds)
        filter' (map (λ k. record { value = go' k.expr; descending = k.descending }) keys) env cx no_tuples
        >>= (λ all. returned (go' result) cx (sorted (map (λ k. record { value = go' k.expr; descending = k.descending }) keys) all.rows)))
    flwor_alike binds keys result filter filter' filters hb hk hr env cx v c =
        bind_alike (TuplesKnown docs docs') KI _ _ _ _
        (tuples_alike docs docs' (λ k. go k.expr) (λ k. go' k.expr) (λ k. k.descending) filter filter' filters keys
        (each_of (λ k. MeansAlike docs docs' (go k.expr) (go' k.expr)) (λ k. gn k.expr) (λ k q. same k.expr q) keys hk)
        _ _ binds
        (each_of (λ b. AlikeWhere docs docs' (Each (KnownBindings docs docs'))
        (bind_step docs (bind_layer (λ env cx. fail XPST0003) (bind_step docs) (expr_step docs) (start_step docs) (product_step docs) (key_step docs) (step_step docs) (sum_step docs) go (out-Bind b)))
        (bind_step docs' (bind_layer (λ env cx. fail XPST0003) (bind_step docs') (expr_step docs') (start_step docs') (product_step docs') (key_step docs') (step_step docs') (sum_step docs') go' (out-Bind b))))
        (names_of_bind gn) (λ b q. bind_layer_alike (out-Bind b) q) binds hb)
        env cx v c no_tuples tt)
        (λ all g made.
        let t = returned_alike docs docs' (go result) (go' result) (same result hr) cx c
        (sorted (map (λ k. record { value = go k.expr; descending = k.descending }) keys) all.rows)
        (sorted_known docs docs' (map (λ k. record { value = go k.expr; descending = k.descending }) keys) all.rows g) made in (
          t.0 ∙ ap (λ rows. returned (go' result) cx rows made)
              (sorted_same docs docs' (λ k. go k.expr) (λ k. go' k.expr) (λ k. k.descending) keys all.rows),
          t.1,
        ))

    value_alike : (l : Expr-F Bind Expr Start ProductPart SortKey Step SumPart) → Each KnownName (names.expr_step (names_layer gn l))
        → MeansAlike docs docs' (value_of docs (layer_of docs go l)) (value_of docs' (layer_of docs' go' l))
    value_alike (Expr-F.Text value) h env cx v c = give_alike KI (string value ∷ []) (tt, tt)
    value_alike (Expr-F.Int value) h env cx v c = give_alike KI (integer value ∷ []) (tt, tt)
    value_alike (Expr-F.Var name) h env cx v c = give_alike KI (or_nothing (bound_value name env)) (bound_known docs docs' name env v)
    value_alike Expr-F.Context h env cx v c = plain_alike KI (context_item cx) (context_fine docs docs' cx c)
    value_alike (Expr-F.Seq parts) h env cx v c = one_after_another_alike docs docs' go go' parts (all_alike parts h) env cx v c
    value_alike (Expr-F.Flwor binds None keys result) h env cx v c =
        let rest = each_rest KnownName (names.joined (map (names_of_bind gn) binds)) (names.joined (map (λ k. gn k.expr) keys) ++ gn result) h in
        flwor_alike binds keys result None None (λ env1 cx1 v1 c1. give_alike Any true tt)
        (each_front KnownName (names.joined (map (names_of_bind gn) binds)) (names.joined (map (λ k. gn k.expr) keys) ++ gn result) h)
        (each_front KnownName (names.joined (map (λ k. gn k.expr) keys)) (gn result) rest) (each_rest KnownName (names.joined (map (λ k. gn k.expr) keys)) (gn result) rest) env cx v c
    value_alike (Expr-F.Flwor binds (Some filter) keys result) h env cx v c =
        let rest = each_rest KnownName (names.joined (map (names_of_bind gn) binds)) (gn filter ++ (names.joined (map (λ k. gn k.expr) keys) ++ gn result)) h in
        let last = each_rest KnownName (gn filter) (names.joined (map (λ k. gn k.expr) keys) ++ gn result) rest in
        flwor_alike binds keys result (Some (go filter)) (Some (go' filter))
        (λ env1 cx1 v1 c1. truth_alike docs docs' (go filter) (go' filter) (same filter (each_front KnownName (gn filter) (names.joined (map (λ k. gn k.expr) keys) ++ gn result) rest)) env1 cx1 v1 c1)
        (each_front KnownName (names.joined (map (names_of_bind gn) binds)) (gn filter ++ (names.joined (map (λ k. gn k.expr) keys) ++ gn result)) h)
        (each_front KnownName (names.joined (map (λ k. gn k.expr) keys)) (gn result) last) (each_rest KnownName (names.joined (map (λ k. gn k.expr) keys)) (gn result) last) env cx v c
    value_alike (Expr-F.If test good other) h env cx v c =
        let rest = each_rest KnownName (gn test) (gn good ++ gn other) h in
        bind_alike Any KI _ _ _ _ (truth_alike docs docs' (go test) (go' test) (same test (each_front KnownName (gn test) (gn good ++ gn other) h)) env cx v c) (λ b _.
        if_alike docs docs' KI b _ _ _ _ (same good (each_front KnownName (gn good) (gn other) rest) env cx v c) (same other (each_rest KnownName (gn good) (gn other) rest) env cx v c))
    value_alike (Expr-F.Or parts) h env cx v c =
        bind_alike Any KI _ _ _ _ (any_of_alike docs docs' go go' parts (all_alike parts h) env cx v c) (λ b _. give_alike KI (boolean_value b) (tt, tt))
    value_alike (Expr-F.And parts) h env cx v c =
        bind_alike Any KI _ _ _ _ (all_of_alike docs docs' go go' parts (all_alike parts h) env cx v c) (λ b _. give_alike KI (boolean_value b) (tt, tt))
    value_alike (Expr-F.Compare left op right) h env cx v c =
        bind_alike KI KI _ _ _ _ (same left (each_front KnownName (gn left) (gn right) h) env cx v c) (λ a g.
        bind_alike KI KI _ _ _ _ (same right (each_rest KnownName (gn left) (gn right) h) env cx v c) (λ b k.
        bind_alike Any KI _ _ _ _
        (look_alike Any _ _ (λ made. ((λ i. compares op (atoms_same docs docs' made a g i) (atoms_same docs docs' made b k i)), any_fine (compares op (atomized docs made a) (atomized docs made b)))))
        (λ t _. give_alike KI (boolean_value t) (tt, tt))))
    value_alike (Expr-F.Range low high) h env cx v c =
        bind_alike KI KI _ _ _ _ (same low (each_front KnownName (gn low) (gn high) h) env cx v c) (λ a g.
        bind_alike KI KI _ _ _ _ (same high (each_rest KnownName (gn low) (gn high) h) env cx v c) (λ b k.
        look_alike KI _ _ (λ made. (
          (λ i. operated range_of (atoms_same docs docs' made a g i) (atoms_same docs docs' made b k i)),
          operated_fine docs docs' range_of (range_fine docs docs') (atomized docs made a) (atomized docs made b),
        ))))
    value_alike (Expr-F.Sum start rest) h env cx v c =
        bind_alike KI KI _ _ _ _ (same start (each_front KnownName (gn start) (names.joined (map (λ p. gn p.expr) rest)) h) env cx v c) (λ a g.
        bind_alike (Each (λ p. KI p.1)) KI _ _ _ _
        (parts_alike docs docs' (λ p. go p.expr) (λ p. go' p.expr) (λ p. p.minus) rest
        (each_of (λ p. MeansAlike docs docs' (go p.expr) (go' p.expr)) (λ p. gn p.expr) (λ p q. same p.expr q) rest (each_rest KnownName (gn start) (names.joined (map (λ p. gn p.expr) rest)) h)) env cx v c)
        (λ more k. look_alike KI _ _ (λ made. (chained_same docs docs' sum_op (sum_fine docs docs') made a more g k, chained_fine docs docs' sum_op (sum_fine docs docs') made a more g))))
    value_alike (Expr-F.Product start rest) h env cx v c =
        bind_alike KI KI _ _ _ _ (same start (each_front KnownName (gn start) (names.joined (map (λ p. gn p.expr) rest)) h) env cx v c) (λ a g.
        bind_alike (Each (λ p. KI p.1)) KI _ _ _ _
        (parts_alike docs docs' (λ p. go p.expr) (λ p. go' p.expr) (λ p. p.op) rest
        (each_of (λ p. MeansAlike docs docs' (go p.expr) (go' p.expr)) (λ p. gn p.expr) (λ p q. same p.expr q) rest (each_rest KnownName (gn start) (names.joined (map (λ p. gn p.expr) rest)) h)) env cx v c)
        (λ more k. look_alike KI _ _ (λ made. (chained_same docs docs' product_op (product_fine docs docs') made a more g k, chained_fine docs docs' product_op (product_fine docs docs') made a more g))))
    value_alike (Expr-F.Union parts) h env cx v c =
        bind_alike (Each (KnownNode docs docs')) KI _ _ _ _
        (bind_alike (Each KI) (Each (KnownNode docs docs')) _ _ _ _ (values_alike docs docs' go go' parts (all_alike parts h) env cx v c)
        (λ lists g. plain_alike (Each (KnownNode docs docs')) (united_all [] lists) (united_all_fine docs docs' [] lists tt g)))
        (λ ns k. give_alike KI (map node ns) (nodes_as_items docs docs' ns k))
    value_alike (Expr-F.Signed signs inner) h env cx v c =
        bind_alike KI KI _ _ _ _ (same inner h env cx v c) (λ a g. look_alike KI _ _ (λ made. (signed_same docs docs' made signs a g, signed_fine docs docs' made signs a g)))
    value_alike (Expr-F.Path start rest) h env cx v c =
        bind_alike KI KI _ _ _ _ (start_layer_alike (out-Start start) (each_front KnownName _ (names.joined (map (λ s. names.joined (map gn s.preds)) rest)) h) env cx v c)
        (λ items g. path_from_alike docs docs' (λ s. s.deep) (from_node docs go) (from_node docs' go') rest
        (each_of (λ s. StepAlike docs docs' (from_node docs go s) (from_node docs' go' s)) (λ s. names.joined (map gn s.preds)) step_alike rest
        (each_rest KnownName _ (names.joined (map (λ s. names.joined (map gn s.preds)) rest)) h)) env v items g)
    value_alike (Expr-F.Filter inner preds) h env cx v c =
        bind_alike KI KI _ _ _ _ (same inner (each_front KnownName (gn inner) (names.joined (map gn preds)) h) env cx v c)
        (λ items g. filtered_alike docs docs' (KnownItem docs docs') (λ x. x) (λ x q. q) go go' preds (all_alike preds (each_rest KnownName (gn inner) (names.joined (map gn preds)) h)) env v items g)
    value_alike (Expr-F.Fun name args) h env cx v c =
        bind_alike (Each KI) KI _ _ _ _ (values_alike docs docs' go go' args (all_alike args h) env cx v c)
        (λ lists g. look_alike KI (λ made. call_function docs made cx name lists) (λ made. call_function docs' made cx name lists) (λ made. call_same docs docs' made cx name lists c g))
    value_alike (Expr-F.Doc name) h env cx v c =
        λ made. (ap (λ o. plain (document_node docs o name) made) h.0, (plain_alike KI (document_node docs (docs name) name) (document_fine docs docs' name (docs name) refl h.0) made).1)
    value_alike (Expr-F.Element name None) h env cx v c = element_alike name (content_or None) (content_or None) nothing_alike env cx v c
    value_alike (Expr-F.Element name (Some content)) h env cx v c = element_alike name (go content) (go' content) (same content h) env cx v c
    value_alike (Expr-F.Attribute name None) h env cx v c = attribute_alike name (content_or None) (content_or None) nothing_alike env cx v c
    value_alike (Expr-F.Attribute name (Some content)) h env cx v c = attribute_alike name (go content) (go' content) (same content h) env cx v c
    value_alike (Expr-F.TextNode None) h env cx v c = bind_alike KI KI _ _ _ _ (nothing_alike env cx v c) (λ items g. text_alike docs docs' items g)
    value_alike (Expr-F.TextNode (Some content)) h env cx v c = bind_alike KI KI _ _ _ _ (same content h env cx v c) (λ items g. text_alike docs docs' items g)

    layer_alike : (l : Expr-F Bind Expr Start ProductPart SortKey Step SumPart) → Each KnownName (names.expr_step (names_layer gn l))
        → MeansAlike docs docs' (expr_step docs (layer_of docs go l)) (expr_step docs' (layer_of docs' go' l))
    layer_alike l h env cx v c = bind_alike KI KI _ _ _ _ (value_alike l h env cx v c) (λ items g. counted_alike docs docs' items g)

-- ---- expressions

-- the meaning of an expression, and the names in it, to a depth
abbrev meaning_to : Documents → ℕ → Expr → Means
meaning_to docs = run (λ env cx. fail XPST0003) (bind_step docs) (expr_step docs) (start_step docs) (product_step docs) (key_step docs) (step_step docs) (sum_step docs)

abbrev names_to : ℕ → Expr → names.Names
names_to = run [] names.bind_step names.expr_step names.start_step names.product_step names.key_step names.step_step names.sum_step

module _ (docs docs' : Documents) where
  alike_to : (n : ℕ) (e : Expr) → Each (λ name. docs name ≡ docs' name) (names_to n e) → MeansAlike docs docs' (meaning_to docs n e) (meaning_to docs' n e)
  alike_to zero e h env cx v c = fail_alike (KnownItems docs docs') XPST0003
  alike_to (suc n) e h env cx v c = layer_alike docs docs' (meaning_to docs n) (meaning_to docs' n) (names_to n) (alike_to n) (out-Expr e) h env cx v c

  -- of an expression that is no deeper than the number
  pub alike_within : (n : ℕ) (e : Expr) → fits n e ≡ true → Each (λ name. docs name ≡ docs' name) (names.documents e) → MeansAlike docs docs' (meaning docs e) (meaning docs' e)
  alike_within n e f h =
      let q = bounded [] names.bind_step names.expr_step names.start_step names.product_step names.key_step names.step_step names.sum_step n e f in
      let m = bounded (λ env cx. fail XPST0003) (bind_step docs) (expr_step docs) (start_step docs) (product_step docs) (key_step docs) (step_step docs) (sum_step docs) n e f in
      let m' = bounded (λ env cx. fail XPST0003) (bind_step docs') (expr_step docs') (start_step docs') (product_step docs') (key_step docs') (step_step docs') (sum_step docs') n e f in
      subst (λ x. MeansAlike docs docs' x (meaning docs' e)) m
      (subst (λ x. MeansAlike docs docs' (meaning_to docs n e) x) m' (alike_to n e (subst (Each (λ name. docs name ≡ docs' name)) (sym q) h)))

  -- an expression by itself gives the same by both, and only nodes of trees that both have
  pub framed : (e : Expr) → Each (λ name. docs name ≡ docs' name) (names.documents e)
      → (meaning docs e [] None [] ≡ meaning docs' e [] None []) × Good (KnownItems docs docs') (meaning docs e [] None [])
  framed e h = alike_within (size e) e (fits_at_size e) h [] None tt tt []

  -- ---- lines

  item_lines_same : (made : Made) (item : Item) → KnownItem docs docs' item → item_lines docs made item ≡ item_lines docs' made item
  item_lines_same made (node n) k = ap placed_lines (node_same docs docs' made n k)
  item_lines_same made (string text) k = refl
  item_lines_same made (integer n) k = refl
  item_lines_same made (boolean b) k = refl

  -- known items have the same lines by both
  pub lines_same : (made : Made) (items : Items) → KnownItems docs docs' items → lines_of docs made items ≡ lines_of docs' made items
  lines_same made [] k = refl
  lines_same made (item ∷ items) k = λ i. item_lines_same made item k.0 i ++ lines_same made items k.1 i

  -- and so they say the same
  said_same : (r : Result (Items × Made) Code) → Good (KnownItems docs docs') r → said_by docs r ≡ said_by docs' r
  said_same (Ok found) k = ap answer_of (lines_same found.1 found.0 k)
  said_same (Err code) k = refl

  pub answered_by : (e : Expr) → Each (λ name. docs name ≡ docs' name) (names.documents e)
      → said_by docs (meaning docs e [] None []) ≡ said_by docs' (meaning docs' e [] None [])
  answered_by e h = let f = framed e h in said_same (meaning docs e [] None []) f.1 ∙ ap (said_by docs') f.0

-- forests that have the same documents, or none, at the names in an expression give it one value
pub evaluated_same : (F G : Forest) (e : Expr) → Each (λ name. forests.get F name ≡ forests.get G name) (names.documents e) → eval F e ≡ eval G e
evaluated_same F G e h = (framed (forests.get F) (forests.get G) e h).0

-- and such a query is answered the same
pub answered_same : (F G : Forest) (e : Expr) → Each (λ name. forests.get F name ≡ forests.get G name) (names.documents e) → query_answer F e ≡ query_answer G e
answered_same F G e h = answered_by (forests.get F) (forests.get G) e h
