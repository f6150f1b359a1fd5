-- What a query constructs is well-formed, where the names in it are names and it is asked of a forest, and it ends with a code
-- that a query may have, if it does with a code.
use Rattle.std.proofs.Common.{◌≡◌, ℕ, zero, suc, Bool, true, IsTrue, List, [], ◌∷◌, ◌&&◌, true≢false, map, Option, Some, None, Result, Ok, Err, subst, ◌∙◌}
use Rattle.std.specs.FinMap as forests
use Rattle.std.proofs.lemmas.Bool.{and_parts}
use Rattle.xq_ast.specs.Everywhere as ev
use Rattle.xq_ast.specs.GoodNames.{naming, are_good_in}
use Rattle.xq_ast.specs.Names.{is_name}
use Rattle.xq_ast.specs.declared.code.Code.{Code}
use Rattle.xq_ast.specs.declared.tree.Bind.{Bind, out-Bind}
use Rattle.xq_ast.specs.declared.tree.Expr.{Expr, out-Expr}
use Rattle.xq_ast.specs.declared.tree.Start.{Start, out-Start}
use Rattle.xq_ast.specs.declared.tree.ProductPart.{ProductPart}
use Rattle.xq_ast.specs.declared.tree.SortKey.{SortKey}
use Rattle.xq_ast.specs.declared.tree.Step.{Step}
use Rattle.xq_ast.specs.declared.tree.SumPart.{SumPart}
use Rattle.xq_ast.specs.declared.tree.Bind.TheOpen.{Bind-F, Expr-F, Start-F}
use Rattle.xml_model.specs.declared.node.Node.TheVariants.{Text}
use Rattle.xml_model.specs.Place.{Placed, a_node, an_attribute}
use Rattle.xml_model.specs.Items.{Documents, Items, node, string, integer, Made, Making, give, look, ◌>>=◌, construct}
use Rattle.xml_model.specs.Atoms.{compares, operated, chained, signed_by, sum_op, product_op, range_of}
use Rattle.xml_model.specs.Nodes.{united_all, atomized, tested}
use Rattle.xml_model.specs.Constructors.{content_of, element, limited_text, spaced}
use Rattle.xml_model.specs.FunctionAnswers.{Context, context_item, call_function}
use Rattle.xml_model.specs.Tuples.{Bindings, Means, BindMeans, KeyMeans, no_tuples, sorted}
use Rattle.xml_model.specs.Evaluation.{or_nothing, bound_value, boolean_value, content_or, StepMeans, document_node, ProductMeans, SumMeans, bound_items, bind_step, value_of, expr_step, start_step, product_step, key_step, step_step, sum_step, meaning, eval}
use Rattle.xml_model.specs.Forest.{Forest, IsForest}
use Rattle.xml_model.specs.ItemLines.{lines_of}
use Rattle.xml_model.specs.Pyx.{ArePlain}
use Rattle.xml_model.specs.QueryCodes.{is_query_code}
use Rattle.xml_model.specs.WellFormed.{are_well_formed}
use Rattle.xml_model.proofs.Alike.{Each, each_gives, Any, Fine}
use Rattle.xml_model.proofs.Bounded.{layer, bind_layer, start_layer, of_bind, of_step, run, fits, bounded}
use Rattle.xml_model.proofs.Contents.{element_formed}
use Rattle.xml_model.proofs.Depths.{size, fits_at_size}
use Rattle.xml_model.proofs.Keeping.{EndsWith, Stays, keeps_look, keeps_then, stays_give, stays_plain, stays_look, stays_then, stays_if, stays_construct, MeansStay, counted_stay, one_after_another_stay, values_stay, parts_stay, truth_stay, any_of_stay, all_of_stay, filtered_stay, StepStay, path_from_stay, first_step_stay, OptionStay, tuples_stay, returned_stay}
use Rattle.xml_model.proofs.QueryCodes.{Ends, Coded, compares_coded, sum_coded, product_coded, chained_coded, signed_coded, range_coded, united_all_coded, document_coded, limited_coded, element_coded, context_coded, call_coded}
use Rattle.xml_model.proofs.WellFormed.{IsWellFormed, AreDocuments, all_pass, forest_documents, plain_lines}

-- ---- layers

-- the layer of an expression, by what its parts mean, and by whether the names in them are names
abbrev meaning_layer : (docs : Documents) → (Expr → Means) → Expr-F Bind Expr Start ProductPart SortKey Step SumPart → Expr-F BindMeans Means Means (ProductMeans docs) KeyMeans StepMeans (SumMeans docs)
meaning_layer docs go = layer (λ env cx. give []) (bind_step docs) (expr_step docs) (start_step docs) (product_step docs) (key_step docs) (step_step docs) (sum_step docs) go

abbrev named_layer : (Expr → Bool) → Expr-F Bind Expr Start ProductPart SortKey Step SumPart → Expr-F Bool Bool Bool Bool Bool Bool Bool
named_layer = layer true (ev.bind_step naming) (ev.expr_step naming) (ev.start_step naming) (ev.product_step naming) (ev.key_step naming) (ev.step_step naming) (ev.sum_step naming)

-- what a binding and a step mean, and whether the names in them are names
abbrev bind_means : (docs : Documents) → (Expr → Means) → Bind → BindMeans
bind_means docs = of_bind (λ env cx. give []) (bind_step docs) (expr_step docs) (start_step docs) (product_step docs) (key_step docs) (step_step docs) (sum_step docs)

abbrev bind_named : (Expr → Bool) → Bind → Bool
bind_named = of_bind true (ev.bind_step naming) (ev.expr_step naming) (ev.start_step naming) (ev.product_step naming) (ev.key_step naming) (ev.step_step naming) (ev.sum_step naming)

abbrev step_means : (docs : Documents) → (Expr → Means) → Step → StepMeans
step_means docs = of_step (λ env cx. give []) (bind_step docs) (expr_step docs) (start_step docs) (product_step docs) (key_step docs) (step_step docs) (sum_step docs)

abbrev step_named : (Expr → Bool) → Step → Bool
step_named = of_step true (ev.bind_step naming) (ev.expr_step naming) (ev.start_step naming) (ev.product_step naming) (ev.key_step naming) (ev.step_step naming) (ev.sum_step naming)

-- a result whose value has the property where the premise holds
under : {A : Type 0} (P : Type 0) (G : A → Type 0) (r : Result A Code) → Coded r → (P → Fine G r) → Ends (λ x. P → G x) r
under P G (Ok x) c h = h
under P G (Err code) c h = c

-- The premise P: that look-ups find well-formed documents, and that the names are names. Where it holds, each tree is well-formed.
module _ (docs : Documents) (P : Type 0) (d : P → AreDocuments docs) where
  -- a tree is well-formed where the premise holds
  abbrev W : Placed → Type 0
  W root = P → IsWellFormed root

  left : (a b : Bool) → (P → (a && b) ≡ true) → P → a ≡ true
  left a b h p = (and_parts a b (h p)).0

  right : (a b : Bool) → (P → (a && b) ≡ true) → P → b ≡ true
  right a b h p = (and_parts a b (h p)).1

  parts_are : {X Y : Type 0} (R : Y → Type 0) (f : X → Y) (g : X → Bool) → ((x : X) → (P → g x ≡ true) → R (f x)) → (xs : List X)
      → (P → ev.all_true (map g xs) ≡ true) → Each R (map f xs)
  parts_are R f g same [] h = tt
  parts_are R f g same (x ∷ xs) h = (same x (left (g x) (ev.all_true (map g xs)) h), parts_are R f g same xs (right (g x) (ev.all_true (map g xs)) h))

  -- ---- constructors

  element_stay : (name : List ℕ) (m : Means) → (P → IsTrue (is_name name)) → MeansStay W m
      → MeansStay W (λ env cx. m env cx >>= (λ items. look (λ made. element name (content_of docs made items))) >>= (λ n. construct (a_node n)))
  element_stay name m named h env cx =
      keeps_then W (λ n. W (a_node n)) Any _ _
      (keeps_then W Any (λ n. W (a_node n)) _ _ (h env cx) (λ items _. keeps_look W (λ n. W (a_node n)) (λ made. element name (content_of docs made items)) (λ made w.
      under P (λ n. IsWellFormed (a_node n)) (element name (content_of docs made items)) (element_coded name (content_of docs made items))
      (λ p. element_formed docs made (d p) (each_gives W IsWellFormed (λ root k. k p) made w) name (named p) items))))
      (λ n g. stays_construct W (a_node n) g)

  spaced_stay : (items : Items) → Stays W (look (λ made. limited_text (spaced (atomized docs made items))))
  spaced_stay items = stays_look W (λ made. limited_text (spaced (atomized docs made items))) (λ made. limited_coded (spaced (atomized docs made items)))

  attribute_stay : (name : List ℕ) (m : Means) → (P → IsTrue (is_name name)) → MeansStay W m
      → MeansStay W (λ env cx. m env cx >>= (λ items. look (λ made. limited_text (spaced (atomized docs made items)))) >>= (λ value. construct (an_attribute (record { name = name; value = value }))))
  attribute_stay name m named h env cx =
      stays_then W _ _ (stays_then W _ _ (h env cx) spaced_stay) (λ value. stays_construct W (an_attribute (record { name = name; value = value })) named)

  -- what a new text has
  abbrev text_of : Items → Making Items
  text_of [] = give []
  text_of (item ∷ items) = look (λ made. limited_text (spaced (atomized docs made (item ∷ items)))) >>= (λ value. construct (a_node (Text value)))

  text_stay : (items : Items) → Stays W (text_of items)
  text_stay [] = stays_give W {A = Items} []
  text_stay (item ∷ items) = stays_then W _ _ (spaced_stay (item ∷ items)) (λ value. stays_construct W (a_node (Text value)) (λ p e. absurd (true≢false e)))

  nothing_stay : MeansStay W (content_or None)
  nothing_stay env cx = stays_give W {A = Items} []

  -- ---- an expression, by its parts

  module _ (go : Expr → Means) (gn : Expr → Bool) (same : (e : Expr) → (P → gn e ≡ true) → MeansStay W (go e)) where
    all_stay : (es : List Expr) → (P → ev.all_true (map gn es) ≡ true) → Each (MeansStay W) (map go es)
    all_stay = parts_are (MeansStay W) go gn same

    bind_layer_stay : (l : Bind-F Bind Expr Start ProductPart SortKey Step SumPart)
        → (P → ev.bind_step naming (bind_layer true (ev.bind_step naming) (ev.expr_step naming) (ev.start_step naming) (ev.product_step naming) (ev.key_step naming) (ev.step_step naming) (ev.sum_step naming) gn l) ≡ true)
        → (env : Bindings) (cx : Context)
        → Stays W (bind_step docs (bind_layer (λ env cx. give []) (bind_step docs) (expr_step docs) (start_step docs) (product_step docs) (key_step docs) (step_step docs) (sum_step docs) go l) env cx)
    bind_layer_stay (Bind-F.For name at source) h env cx = stays_then W _ _ (same source h env cx) (λ items. stays_give W (bound_items docs name at 1 items))
    bind_layer_stay (Bind-F.Let name value) h env cx = stays_then W _ _ (same value h env cx) (λ items. stays_give W {A = List Bindings} ((record { name = name; value = items } ∷ []) ∷ []))

    step_stay : (s : Step) → (P → ev.all_true (map gn s.preds) ≡ true) → StepStay W (step_means docs go s)
    step_stay s h env n =
        stays_then W (look (λ made. Ok (tested docs made s.axis s.test n))) _ (stays_look W (λ made. Ok (tested docs made s.axis s.test n)) (λ made. tt)) (filtered_stay W node (map go s.preds) (all_stay s.preds h) env)

    start_layer_stay : (l : Start-F Bind Expr Start ProductPart SortKey Step SumPart)
        → (P → ev.start_step naming (start_layer true (ev.bind_step naming) (ev.expr_step naming) (ev.start_step naming) (ev.product_step naming) (ev.key_step naming) (ev.step_step naming) (ev.sum_step naming) gn l) ≡ true)
        → MeansStay W (start_step docs (start_layer (λ env cx. give []) (bind_step docs) (expr_step docs) (start_step docs) (product_step docs) (key_step docs) (step_step docs) (sum_step docs) go l))
    start_layer_stay (Start-F.Value inner) h = same inner h
    start_layer_stay (Start-F.First s) h = first_step_stay W docs (step_means docs go s) (step_stay s h)

    flwor_stay : (binds : List Bind) (keys : List SortKey) (result : Expr) (filter : Option Means) → OptionStay W docs filter
        → (P → ev.all_true (map (bind_named gn) binds) ≡ true) → (P → ev.all_true (map (λ k. gn k.expr) keys) ≡ true) → (P → gn result ≡ true)
        → MeansStay W (value_of docs (Expr-F.Flwor (map (bind_means docs go) binds) filter (map (λ k. record { value = go k.expr; descending = k.descending }) keys) (go result)))
    flwor_stay binds keys result filter f hb hk hr env cx =
        stays_then W _ _
        (tuples_stay W docs filter f _ (parts_are (λ k. MeansStay W k.value) (λ k. record { value = go k.expr; descending = k.descending }) (λ k. gn k.expr) (λ k h. same k.expr h) keys hk)
        _ (parts_are (λ b. (env : Bindings) (cx : Context) → Stays W (b env cx)) (bind_means docs go) (bind_named gn) (λ b h. bind_layer_stay (out-Bind b) h) binds hb) env cx no_tuples)
        (λ all. returned_stay W (go result) (same result hr) cx (sorted _ all.rows))

    value_stay : (l : Expr-F Bind Expr Start ProductPart SortKey Step SumPart) → (P → ev.expr_step naming (named_layer gn l) ≡ true)
        → MeansStay W (value_of docs (meaning_layer docs go l))
    value_stay (Expr-F.Text value) h env cx = stays_give W (string value ∷ [])
    value_stay (Expr-F.Int value) h env cx = stays_give W (integer value ∷ [])
    value_stay (Expr-F.Var name) h env cx = stays_give W (or_nothing (bound_value name env))
    value_stay Expr-F.Context h env cx = stays_plain W (context_item cx) (context_coded cx)
    value_stay (Expr-F.Seq parts) h env cx = one_after_another_stay W (map go parts) (all_stay parts h) env cx
    value_stay (Expr-F.Flwor binds None keys result) h env cx =
        let rest = right (ev.all_true (map (bind_named gn) binds)) (ev.all_true (map (λ k. gn k.expr) keys) && gn result) h in
        flwor_stay binds keys result None tt (left (ev.all_true (map (bind_named gn) binds)) (ev.all_true (map (λ k. gn k.expr) keys) && gn result) h)
        (left (ev.all_true (map (λ k. gn k.expr) keys)) (gn result) rest) (right (ev.all_true (map (λ k. gn k.expr) keys)) (gn result) rest) env cx
    value_stay (Expr-F.Flwor binds (Some filter) keys result) h env cx =
        let rest = right (ev.all_true (map (bind_named gn) binds)) (gn filter && (ev.all_true (map (λ k. gn k.expr) keys) && gn result)) h in
        let last = right (gn filter) (ev.all_true (map (λ k. gn k.expr) keys) && gn result) rest in
        flwor_stay binds keys result (Some (go filter)) (same filter (left (gn filter) (ev.all_true (map (λ k. gn k.expr) keys) && gn result) rest))
        (left (ev.all_true (map (bind_named gn) binds)) (gn filter && (ev.all_true (map (λ k. gn k.expr) keys) && gn result)) h)
        (left (ev.all_true (map (λ k. gn k.expr) keys)) (gn result) last) (right (ev.all_true (map (λ k. gn k.expr) keys)) (gn result) last) env cx
    value_stay (Expr-F.If test good other) h env cx =
        let rest = right (gn test) (gn good && gn other) h in
        stays_then W _ _ (truth_stay W (go test) (same test (left (gn test) (gn good && gn other) h)) env cx) (λ b.
        stays_if W b _ _ (same good (left (gn good) (gn other) rest) env cx) (same other (right (gn good) (gn other) rest) env cx))
    value_stay (Expr-F.Or parts) h env cx = stays_then W _ _ (any_of_stay W (map go parts) (all_stay parts h) env cx) (λ b. stays_give W (boolean_value b))
    value_stay (Expr-F.And parts) h env cx = stays_then W _ _ (all_of_stay W (map go parts) (all_stay parts h) env cx) (λ b. stays_give W (boolean_value b))
    value_stay (Expr-F.Compare one op two) h env cx =
        stays_then W _ _ (same one (left (gn one) (gn two) h) env cx) (λ a. stays_then W _ _ (same two (right (gn one) (gn two) h) env cx) (λ b.
        stays_then W _ _ (stays_look W (λ made. compares op (atomized docs made a) (atomized docs made b)) (λ made. compares_coded op (atomized docs made a) (atomized docs made b)))
        (λ t. stays_give W (boolean_value t))))
    value_stay (Expr-F.Range low high) h env cx =
        stays_then W _ _ (same low (left (gn low) (gn high) h) env cx) (λ a. stays_then W _ _ (same high (right (gn low) (gn high) h) env cx) (λ b.
        stays_look W (λ made. operated range_of (atomized docs made a) (atomized docs made b)) (λ made. range_coded (atomized docs made a) (atomized docs made b))))
    value_stay (Expr-F.Sum start rest) h env cx =
        stays_then W _ _ (same start (left (gn start) (ev.all_true (map (λ p. gn p.expr) rest)) h) env cx) (λ a.
        stays_then W _ _ (parts_stay W (map (λ p. (p.minus, go p.expr)) rest)
        (parts_are (λ p. MeansStay W p.1) (λ p. (p.minus, go p.expr)) (λ p. gn p.expr) (λ p k. same p.expr k) rest (right (gn start) (ev.all_true (map (λ p. gn p.expr) rest)) h)) env cx)
        (λ more. stays_look W (λ made. chained (atomized docs made) sum_op a more) (λ made. chained_coded (atomized docs made) sum_op sum_coded a more)))
    value_stay (Expr-F.Product start rest) h env cx =
        stays_then W _ _ (same start (left (gn start) (ev.all_true (map (λ p. gn p.expr) rest)) h) env cx) (λ a.
        stays_then W _ _ (parts_stay W (map (λ p. (p.op, go p.expr)) rest)
        (parts_are (λ p. MeansStay W p.1) (λ p. (p.op, go p.expr)) (λ p. gn p.expr) (λ p k. same p.expr k) rest (right (gn start) (ev.all_true (map (λ p. gn p.expr) rest)) h)) env cx)
        (λ more. stays_look W (λ made. chained (atomized docs made) product_op a more) (λ made. chained_coded (atomized docs made) product_op product_coded a more)))
    value_stay (Expr-F.Union parts) h env cx =
        stays_then W _ _ (stays_then W _ _ (values_stay W (map go parts) (all_stay parts h) env cx) (λ lists. stays_plain W (united_all [] lists) (united_all_coded [] lists)))
        (λ ns. stays_give W (map node ns))
    value_stay (Expr-F.Signed signs inner) h env cx =
        stays_then W _ _ (same inner h env cx) (λ a. stays_look W (λ made. signed_by (atomized docs made) signs a) (λ made. signed_coded (atomized docs made) signs a))
    value_stay (Expr-F.Path start rest) h env cx =
        stays_then W _ _ (start_layer_stay (out-Start start) (left _ (ev.all_true (map (step_named gn) rest)) h) env cx)
        (path_from_stay W docs (map (step_means docs go) rest)
        (parts_are (StepStay W) (step_means docs go) (step_named gn) step_stay rest (right _ (ev.all_true (map (step_named gn) rest)) h)) env)
    value_stay (Expr-F.Filter inner preds) h env cx =
        stays_then W _ _ (same inner (left (gn inner) (ev.all_true (map gn preds)) h) env cx)
        (filtered_stay W (λ item. item) (map go preds) (all_stay preds (right (gn inner) (ev.all_true (map gn preds)) h)) env)
    value_stay (Expr-F.Fun name args) h env cx =
        stays_then W _ _ (values_stay W (map go args) (all_stay args h) env cx)
        (λ lists. stays_look W (λ made. call_function docs made cx name lists) (λ made. call_coded docs made cx name lists))
    value_stay (Expr-F.Doc name) h env cx = stays_plain W (document_node docs (docs name) name) (document_coded docs (docs name) name)
    value_stay (Expr-F.Element name None) h env cx = element_stay name (content_or None) (left (is_name name) true h) nothing_stay env cx
    value_stay (Expr-F.Element name (Some content)) h env cx = element_stay name (go content) (left (is_name name) (gn content) h) (same content (right (is_name name) (gn content) h)) env cx
    value_stay (Expr-F.Attribute name None) h env cx = attribute_stay name (content_or None) (left (is_name name) true h) nothing_stay env cx
    value_stay (Expr-F.Attribute name (Some content)) h env cx = attribute_stay name (go content) (left (is_name name) (gn content) h) (same content (right (is_name name) (gn content) h)) env cx
    value_stay (Expr-F.TextNode None) h env cx = stays_then W (content_or None env cx) _ (nothing_stay env cx) text_stay
    value_stay (Expr-F.TextNode (Some content)) h env cx = stays_then W _ _ (same content h env cx) text_stay

    layer_stay : (l : Expr-F Bind Expr Start ProductPart SortKey Step SumPart) → (P → ev.expr_step naming (named_layer gn l) ≡ true)
        → MeansStay W (expr_step docs (meaning_layer docs go l))
    layer_stay l h env cx = stays_then W _ _ (value_stay l h env cx) (counted_stay W)

  -- ---- expressions

  -- the meaning of an expression, to a depth
  abbrev meaning_to : ℕ → Expr → Means
  meaning_to = run (λ env cx. give []) (bind_step docs) (expr_step docs) (start_step docs) (product_step docs) (key_step docs) (step_step docs) (sum_step docs)

  -- whether the names in it are names
  abbrev named_to : ℕ → Expr → Bool
  named_to = run true (ev.bind_step naming) (ev.expr_step naming) (ev.start_step naming) (ev.product_step naming) (ev.key_step naming) (ev.step_step naming) (ev.sum_step naming)

  stay_to : (n : ℕ) (e : Expr) → (P → named_to n e ≡ true) → MeansStay W (meaning_to n e)
  stay_to zero e h env cx = stays_give W {A = Items} []
  stay_to (suc n) e h env cx = layer_stay (meaning_to n) (named_to n) (stay_to n) (out-Expr e) h env cx

  -- of an expression that is no deeper than the number
  pub stay_within : (n : ℕ) (e : Expr) → fits n e ≡ true → (P → ev.everywhere naming e ≡ true) → MeansStay W (meaning docs e)
  stay_within n e f h =
      let q = bounded true (ev.bind_step naming) (ev.expr_step naming) (ev.start_step naming) (ev.product_step naming) (ev.key_step naming) (ev.step_step naming) (ev.sum_step naming) n e f in
      let m = bounded (λ env cx. give []) (bind_step docs) (expr_step docs) (start_step docs) (product_step docs) (key_step docs) (step_step docs) (sum_step docs) n e f in
      subst (MeansStay W) m (stay_to n e (λ p. q ∙ h p))

-- where look-ups find well-formed documents and the names are names, each tree is well-formed; and each code is one of a query
evaluated : (docs : Documents) (e : Expr) → EndsWith (λ root. AreDocuments docs × (ev.everywhere naming e ≡ true) → IsWellFormed root) Any (meaning docs e [] None [])
evaluated docs e = stay_within docs (AreDocuments docs × (ev.everywhere naming e ≡ true)) (λ p. p.0) (size e) e (fits_at_size e) (λ p. p.1) [] None [] tt

module _ (F : Forest) (e : Expr) where
  -- the premise of a forest and an expression with good names
  abbrev Premise : Type 0
  Premise = AreDocuments (forests.get F) × (ev.everywhere naming e ≡ true)

  premise : IsForest F → IsTrue (are_good_in e) → Premise
  premise forest good = (forest_documents F forest, (and_parts _ (ev.everywhere naming e) good).1)

  made_formed : (items : Items) (made : Made) → IsForest F → IsTrue (are_good_in e) → eval F e ≡ Ok (items, made) → Each IsWellFormed made
  made_formed items made forest good is =
      each_gives (λ root. Premise → IsWellFormed root) IsWellFormed (λ root k. k (premise forest good)) made
      (subst (EndsWith (λ root. Premise → IsWellFormed root) Any) is (evaluated (forests.get F) e)).1

  -- what a query constructs is well-formed
  pub constructs_well_formed : (items : Items) (made : Made) → IsForest F → IsTrue (are_good_in e) → eval F e ≡ Ok (items, made) → IsTrue (are_well_formed made)
  constructs_well_formed items made forest good is = all_pass made (made_formed items made forest good is)

  -- the lines of what it gives have no newlines
  pub answers_plain : (items : Items) (made : Made) → IsForest F → IsTrue (are_good_in e) → eval F e ≡ Ok (items, made)
      → ArePlain (lines_of (forests.get F) made items)
  answers_plain items made forest good is = plain_lines (forests.get F) made (forest_documents F forest) (made_formed items made forest good is) items

  -- it ends with a code that a query may have, where it ends with a code
  pub ends_coded : (code : Code) → eval F e ≡ Err code → IsTrue (is_query_code code)
  ends_coded code is = subst (EndsWith (λ root. Premise → IsWellFormed root) Any) is (evaluated (forests.get F) e)
