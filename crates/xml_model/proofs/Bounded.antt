-- Folds over expressions that compute. A fold over the recursive types of expressions does not; `run` reads layer by
-- layer to a bounded depth, and where the depth reaches (`fits`) it is the fold (`bounded`).
use Rattle.std.specs.Prelude.{◌≡◌, ℕ, zero, suc, Bool, true, false, ◌&&◌, List, [], ◌∷◌, map, Option, None, Some, refl}
use Rattle.std.specs.List.{list_all}
use Rattle.std.proofs.Common.{sym, ap, ◌∙◌, true≢false}
use Rattle.xq_ast.specs.declared.tree.Bind.{Bind, out-Bind, map-Bind}
use Rattle.xq_ast.specs.declared.tree.Expr.{Expr, out-Expr, map-Expr}
use Rattle.xq_ast.specs.declared.tree.Start.{Start, out-Start, map-Start}
use Rattle.xq_ast.specs.declared.tree.ProductPart.{ProductPart, outs-ProductPart', map-ProductPart}
use Rattle.xq_ast.specs.declared.tree.SortKey.{SortKey, outs-SortKey', map-SortKey}
use Rattle.xq_ast.specs.declared.tree.Step.{Step, outs-Step', map-Step}
use Rattle.xq_ast.specs.declared.tree.SumPart.{SumPart, outs-SumPart', map-SumPart}
use Rattle.xq_ast.specs.declared.tree.Bind.TheOpen.{Bind-F, Expr-F, Start-F, ProductPart-F, SortKey-F, Step-F, SumPart-F}
use Rattle.xq_ast.specs.declared.tree.Bind.TheFolds.{fold-Bind, fold-Expr, fold-Start, fold-ProductPart, fold-SortKey, fold-Step, fold-SumPart, fold_out-Bind, fold_out-Expr, fold_out-Start, fold_out-ProductPart, fold_out-SortKey, fold_out-Step, fold_out-SumPart}

-- ---- depth

-- each expression of a layer passes the test
module _ (test : Expr → Bool) where
  -- one that may not be there
  abbrev pub option_passes : Option Expr → Bool
  option_passes None = true
  option_passes (Some e) = test e

  -- the source or the value of a binding
  abbrev pub bind_passes : Bind-F Bind Expr Start ProductPart SortKey Step SumPart → Bool
  bind_passes (Bind-F.For name at source) = test source
  bind_passes (Bind-F.Let name value) = test value

  -- the predicates of a step
  abbrev pub step_passes : Step → Bool
  step_passes s = list_all test s.preds

  -- the expression or the step of a beginning
  abbrev pub start_passes : Start-F Bind Expr Start ProductPart SortKey Step SumPart → Bool
  start_passes (Start-F.Value inner) = test inner
  start_passes (Start-F.First step) = step_passes step

  -- all expressions of a layer
  abbrev pub passes : Expr-F Bind Expr Start ProductPart SortKey Step SumPart → Bool
  passes (Expr-F.Text value) = true
  passes (Expr-F.Int value) = true
  passes (Expr-F.Var name) = true
  passes Expr-F.Context = true
  passes (Expr-F.Seq parts) = list_all test parts
  passes (Expr-F.Flwor binds filter keys result) =
      list_all (λ b. bind_passes (out-Bind b)) binds && (option_passes filter && (list_all (λ k. test k.expr) keys && test result))
  passes (Expr-F.If condition good other) = test condition && (test good && test other)
  passes (Expr-F.Or parts) = list_all test parts
  passes (Expr-F.And parts) = list_all test parts
  passes (Expr-F.Compare left op right) = test left && test right
  passes (Expr-F.Range low high) = test low && test high
  passes (Expr-F.Sum first rest) = test first && list_all (λ p. test p.expr) rest
  passes (Expr-F.Product first rest) = test first && list_all (λ p. test p.expr) rest
  passes (Expr-F.Union parts) = list_all test parts
  passes (Expr-F.Signed signs inner) = test inner
  passes (Expr-F.Path start rest) = start_passes (out-Start start) && list_all step_passes rest
  passes (Expr-F.Filter inner preds) = test inner && list_all test preds
  passes (Expr-F.Fun name args) = list_all test args
  passes (Expr-F.Doc name) = true
  passes (Expr-F.Element name content) = option_passes content
  passes (Expr-F.Attribute name content) = option_passes content
  passes (Expr-F.TextNode content) = option_passes content

-- the expression is no deeper than the number
abbrev pub fits : ℕ → Expr → Bool
fits zero e = false
fits (suc n) e = passes (fits n) (out-Expr e)

-- ---- lists and options

first : (a b : Bool) → (a && b) ≡ true → a ≡ true
first true b h = refl
first false b h = h

second : (a b : Bool) → (a && b) ≡ true → b ≡ true
second true b h = h
second false b h = absurd (true≢false (sym h))

module _ {X A : Type 0} (f g : X → A) (test : X → Bool) (same : (x : X) → test x ≡ true → f x ≡ g x) where
  each_same : (xs : List X) → list_all test xs ≡ true → map f xs ≡ map g xs
  each_same [] h = refl
  each_same (x ∷ xs) h = λ i. same x (first (test x) _ h) i ∷ each_same xs (second (test x) _ h) i

-- ---- folds

module _ {B E S P K T Q : Type 0} (none : E)
    (bind_step : Bind-F B E S P K T Q → B) (expr_step : Expr-F B E S P K T Q → E) (start_step : Start-F B E S P K T Q → S)
    (product_step : ProductPart-F B E S P K T Q → P) (key_step : SortKey-F B E S P K T Q → K) (step_step : Step-F B E S P K T Q → T)
    (sum_step : SumPart-F B E S P K T Q → Q) where
  -- the parts of a layer, by what their expressions are
  module _ (go : Expr → E) where
    -- a binding
    abbrev pub bind_layer : Bind-F Bind Expr Start ProductPart SortKey Step SumPart → Bind-F B E S P K T Q
    bind_layer (Bind-F.For name at source) = Bind-F.For name at (go source)
    bind_layer (Bind-F.Let name value) = Bind-F.Let name (go value)

    -- what it is
    abbrev pub of_bind : Bind → B
    of_bind b = bind_step (bind_layer (out-Bind b))

    -- what a step is
    abbrev pub of_step : Step → T
    of_step s = step_step (record { deep = s.deep; axis = s.axis; test = s.test; preds = map go s.preds })

    -- the beginning of a path
    abbrev pub start_layer : Start-F Bind Expr Start ProductPart SortKey Step SumPart → Start-F B E S P K T Q
    start_layer (Start-F.Value inner) = Start-F.Value (go inner)
    start_layer (Start-F.First step) = Start-F.First (of_step step)

    -- what it is
    abbrev pub of_start : Start → S
    of_start s = start_step (start_layer (out-Start s))

    -- what a factor is
    abbrev pub of_product : ProductPart → P
    of_product p = product_step (record { op = p.op; expr = go p.expr })

    -- what a key is
    abbrev pub of_key : SortKey → K
    of_key k = key_step (record { expr = go k.expr; descending = k.descending })

    -- what a summand is
    abbrev pub of_sum : SumPart → Q
    of_sum p = sum_step (record { minus = p.minus; expr = go p.expr })

    -- an expression
    abbrev pub layer : Expr-F Bind Expr Start ProductPart SortKey Step SumPart → Expr-F B E S P K T Q
    layer = map-Expr _ _ _ _ _ _ _ _ _ _ _ _ _ _ of_bind go of_start of_product of_key of_step of_sum

  -- the fold of an expression that is no deeper than the number
  abbrev pub run : ℕ → Expr → E
  run zero e = none
  run (suc n) e = expr_step (layer (run n) (out-Expr e))

  abbrev whole_bind : Bind → B
  whole_bind = fold-Bind B E S P K T Q bind_step expr_step start_step product_step key_step step_step sum_step

  abbrev whole : Expr → E
  whole = fold-Expr B E S P K T Q bind_step expr_step start_step product_step key_step step_step sum_step

  abbrev whole_start : Start → S
  whole_start = fold-Start B E S P K T Q bind_step expr_step start_step product_step key_step step_step sum_step

  abbrev whole_product : ProductPart → P
  whole_product = fold-ProductPart B E S P K T Q bind_step expr_step start_step product_step key_step step_step sum_step

  abbrev whole_key : SortKey → K
  whole_key = fold-SortKey B E S P K T Q bind_step expr_step start_step product_step key_step step_step sum_step

  abbrev whole_step : Step → T
  whole_step = fold-Step B E S P K T Q bind_step expr_step start_step product_step key_step step_step sum_step

  abbrev whole_sum : SumPart → Q
  whole_sum = fold-SumPart B E S P K T Q bind_step expr_step start_step product_step key_step step_step sum_step

  module _ (go : Expr → E) (test : Expr → Bool) (same : (e : Expr) → test e ≡ true → go e ≡ whole e) where
    bind_layer_same : (l : Bind-F Bind Expr Start ProductPart SortKey Step SumPart) → bind_passes test l ≡ true
        → bind_layer go l ≡ map-Bind _ _ _ _ _ _ _ _ _ _ _ _ _ _ whole_bind whole whole_start whole_product whole_key whole_step whole_sum l
    bind_layer_same (Bind-F.For name at source) h = ap (λ x. Bind-F.For name at x) (same source h)
    bind_layer_same (Bind-F.Let name value) h = ap (λ x. Bind-F.Let name x) (same value h)

    bind_same : (b : Bind) → bind_passes test (out-Bind b) ≡ true → of_bind go b ≡ whole_bind b
    bind_same b h = ap bind_step (bind_layer_same (out-Bind b) h)
        ∙ sym (fold_out-Bind B E S P K T Q bind_step expr_step start_step product_step key_step step_step sum_step b)

    step_same : (s : Step) → step_passes test s ≡ true → of_step go s ≡ whole_step s
    step_same s h = ap (λ preds. step_step (record { deep = s.deep; axis = s.axis; test = s.test; preds = preds })) (each_same go whole test same s.preds h)
        ∙ sym (fold_out-Step B E S P K T Q bind_step expr_step start_step product_step key_step step_step sum_step s ∙ ap (λ l. step_step (map-Step _ _ _ _ _ _ _ _ _ _ _ _ _ _ whole_bind whole whole_start whole_product whole_key whole_step whole_sum l)) (outs-Step' s))

    start_layer_same : (l : Start-F Bind Expr Start ProductPart SortKey Step SumPart) → start_passes test l ≡ true
        → start_layer go l ≡ map-Start _ _ _ _ _ _ _ _ _ _ _ _ _ _ whole_bind whole whole_start whole_product whole_key whole_step whole_sum l
    start_layer_same (Start-F.Value inner) h = ap (λ x. Start-F.Value x) (same inner h)
    start_layer_same (Start-F.First step) h = ap (λ x. Start-F.First x) (step_same step h)

    start_same : (s : Start) → start_passes test (out-Start s) ≡ true → of_start go s ≡ whole_start s
    start_same s h = ap start_step (start_layer_same (out-Start s) h)
        ∙ sym (fold_out-Start B E S P K T Q bind_step expr_step start_step product_step key_step step_step sum_step s)

    product_same : (p : ProductPart) → test p.expr ≡ true → of_product go p ≡ whole_product p
    product_same p h = ap (λ x. product_step (record { op = p.op; expr = x })) (same p.expr h)
        ∙ sym (fold_out-ProductPart B E S P K T Q bind_step expr_step start_step product_step key_step step_step sum_step p ∙ ap (λ l. product_step (map-ProductPart _ _ _ _ _ _ _ _ _ _ _ _ _ _ whole_bind whole whole_start whole_product whole_key whole_step whole_sum l)) (outs-ProductPart' p))

    key_same : (k : SortKey) → test k.expr ≡ true → of_key go k ≡ whole_key k
    key_same k h = ap (λ x. key_step (record { expr = x; descending = k.descending })) (same k.expr h)
        ∙ sym (fold_out-SortKey B E S P K T Q bind_step expr_step start_step product_step key_step step_step sum_step k ∙ ap (λ l. key_step (map-SortKey _ _ _ _ _ _ _ _ _ _ _ _ _ _ whole_bind whole whole_start whole_product whole_key whole_step whole_sum l)) (outs-SortKey' k))

    sum_same : (p : SumPart) → test p.expr ≡ true → of_sum go p ≡ whole_sum p
    sum_same p h = ap (λ x. sum_step (record { minus = p.minus; expr = x })) (same p.expr h)
        ∙ sym (fold_out-SumPart B E S P K T Q bind_step expr_step start_step product_step key_step step_step sum_step p ∙ ap (λ l. sum_step (map-SumPart _ _ _ _ _ _ _ _ _ _ _ _ _ _ whole_bind whole whole_start whole_product whole_key whole_step whole_sum l)) (outs-SumPart' p))

    all_same : (es : List Expr) → list_all test es ≡ true → map go es ≡ map whole es
    all_same = each_same go whole test same

    binds_same : (bs : List Bind) → list_all (λ b. bind_passes test (out-Bind b)) bs ≡ true → map (of_bind go) bs ≡ map whole_bind bs
    binds_same = each_same (of_bind go) whole_bind (λ b. bind_passes test (out-Bind b)) bind_same

    keys_same : (ks : List SortKey) → list_all (λ k. test k.expr) ks ≡ true → map (of_key go) ks ≡ map whole_key ks
    keys_same = each_same (of_key go) whole_key (λ k. test k.expr) key_same

    layer_same : (l : Expr-F Bind Expr Start ProductPart SortKey Step SumPart) → passes test l ≡ true
        → layer go l ≡ map-Expr _ _ _ _ _ _ _ _ _ _ _ _ _ _ whole_bind whole whole_start whole_product whole_key whole_step whole_sum l
    layer_same (Expr-F.Text value) h = refl
    layer_same (Expr-F.Int value) h = refl
    layer_same (Expr-F.Var name) h = refl
    layer_same Expr-F.Context h = refl
    layer_same (Expr-F.Seq parts) h = ap (λ x. Expr-F.Seq x) (all_same parts h)
    layer_same (Expr-F.Flwor binds None keys result) h =
        let r = second (list_all (λ b. bind_passes test (out-Bind b)) binds) _ h in
        λ i. Expr-F.Flwor (binds_same binds (first (list_all (λ b. bind_passes test (out-Bind b)) binds) _ h) i) None
        (keys_same keys (first (list_all (λ k. test k.expr) keys) _ r) i) (same result (second (list_all (λ k. test k.expr) keys) _ r) i)
    layer_same (Expr-F.Flwor binds (Some filter) keys result) h =
        let r = second (list_all (λ b. bind_passes test (out-Bind b)) binds) _ h in
        let s = second (test filter) _ r in
        λ i. Expr-F.Flwor (binds_same binds (first (list_all (λ b. bind_passes test (out-Bind b)) binds) _ h) i) (Some (same filter (first (test filter) _ r) i))
        (keys_same keys (first (list_all (λ k. test k.expr) keys) _ s) i) (same result (second (list_all (λ k. test k.expr) keys) _ s) i)
    layer_same (Expr-F.If condition good other) h =
        let r = second (test condition) _ h in
        λ i. Expr-F.If (same condition (first (test condition) _ h) i) (same good (first (test good) _ r) i) (same other (second (test good) _ r) i)
    layer_same (Expr-F.Or parts) h = ap (λ x. Expr-F.Or x) (all_same parts h)
    layer_same (Expr-F.And parts) h = ap (λ x. Expr-F.And x) (all_same parts h)
    layer_same (Expr-F.Compare left op right) h = λ i. Expr-F.Compare (same left (first (test left) _ h) i) op (same right (second (test left) _ h) i)
    layer_same (Expr-F.Range low high) h = λ i. Expr-F.Range (same low (first (test low) _ h) i) (same high (second (test low) _ h) i)
    layer_same (Expr-F.Sum start rest) h = λ i. Expr-F.Sum (same start (first (test start) _ h) i)
        (each_same (of_sum go) whole_sum (λ p. test p.expr) sum_same rest (second (test start) _ h) i)
    layer_same (Expr-F.Product start rest) h = λ i. Expr-F.Product (same start (first (test start) _ h) i)
        (each_same (of_product go) whole_product (λ p. test p.expr) product_same rest (second (test start) _ h) i)
    layer_same (Expr-F.Union parts) h = ap (λ x. Expr-F.Union x) (all_same parts h)
    layer_same (Expr-F.Signed signs inner) h = ap (λ x. Expr-F.Signed signs x) (same inner h)
    layer_same (Expr-F.Path start rest) h = λ i. Expr-F.Path (start_same start (first (start_passes test (out-Start start)) _ h) i)
        (each_same (of_step go) whole_step (step_passes test) step_same rest (second (start_passes test (out-Start start)) _ h) i)
    layer_same (Expr-F.Filter inner preds) h = λ i. Expr-F.Filter (same inner (first (test inner) _ h) i) (all_same preds (second (test inner) _ h) i)
    layer_same (Expr-F.Fun name args) h = ap (λ x. Expr-F.Fun name x) (all_same args h)
    layer_same (Expr-F.Doc name) h = refl
    layer_same (Expr-F.Element name None) h = refl
    layer_same (Expr-F.Element name (Some content)) h = ap (λ x. Expr-F.Element name (Some x)) (same content h)
    layer_same (Expr-F.Attribute name None) h = refl
    layer_same (Expr-F.Attribute name (Some content)) h = ap (λ x. Expr-F.Attribute name (Some x)) (same content h)
    layer_same (Expr-F.TextNode None) h = refl
    layer_same (Expr-F.TextNode (Some content)) h = ap (λ x. Expr-F.TextNode (Some x)) (same content h)

  -- where the number is no less than the depth, what computes is the fold
  pub bounded : (n : ℕ) (e : Expr) → fits n e ≡ true → run n e ≡ whole e
  bounded zero e h = absurd (true≢false (sym h))
  bounded (suc n) e h = ap expr_step (layer_same (run n) (fits n) (bounded n) (out-Expr e) h)
      ∙ sym (fold_out-Expr B E S P K T Q bind_step expr_step start_step product_step key_step step_step sum_step e)
