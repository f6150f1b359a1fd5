-- The value of an expression, counted, is what the expression means.
use Rattle.std.specs.Prelude.{◌≡◌, List, [], ◌∷◌, map, Some, None, refl}
use Rattle.std.proofs.Common.{sym, ap, ◌∙◌}
use Rattle.xq_ast.specs.declared.tree.Bind.{Bind, out-Bind, map-Bind}
use Rattle.xq_ast.specs.declared.tree.Bind.TheOpen.{Bind-F, Expr-F, Start-F}
use Rattle.xq_ast.specs.declared.tree.Bind.TheFolds.{fold-Bind, fold-Expr, fold-Start, fold-ProductPart, fold-SortKey, fold-Step, fold-SumPart, fold_out-Bind, fold_out-Expr, fold_out-Start, fold_out-ProductPart, fold_out-SortKey, fold_out-Step, fold_out-SumPart}
use Rattle.xq_ast.specs.declared.tree.Expr.{Expr, out-Expr, map-Expr}
use Rattle.xq_ast.specs.declared.tree.ProductPart.{ProductPart, outs-ProductPart', map-ProductPart}
use Rattle.xq_ast.specs.declared.tree.SortKey.{SortKey, outs-SortKey', map-SortKey}
use Rattle.xq_ast.specs.declared.tree.Start.{Start, out-Start, map-Start}
use Rattle.xq_ast.specs.declared.tree.Step.{Step, outs-Step', map-Step}
use Rattle.xq_ast.specs.declared.tree.SumPart.{SumPart, outs-SumPart', map-SumPart}
use Rattle.xml_model.specs.Items.{Documents, Made, then_with}
use Rattle.xml_model.specs.FunctionAnswers.{Context}
use Rattle.xml_model.specs.Tuples.{Bindings, Means, BindMeans, KeyMeans}
use Rattle.xml_model.specs.Evaluation.{meaning, StepMeans, ProductMeans, SumMeans, counted, bind_step, expr_step, start_step, product_step, key_step, step_step, sum_step}
use Rattle.xq_eval.specs.Meanings.{means, key_means, product_means, sum_means, step_means, bind_means, bind_layer, start_means, start_layer, layer, value_means}

each_same : {A B : Type 0} (f g : A → B) → ((x : A) → f x ≡ g x) → (xs : List A) → map f xs ≡ map g xs
each_same f g same [] = refl
each_same f g same (x ∷ xs) = λ i. same x i ∷ each_same f g same xs i

module _ (docs : Documents) where
  abbrev whole_bind : Bind → BindMeans
  whole_bind = fold-Bind BindMeans Means Means (ProductMeans docs) KeyMeans StepMeans (SumMeans docs) (bind_step docs) (expr_step docs) (start_step
      docs) (product_step docs) (key_step docs) (step_step docs) (sum_step docs)

  abbrev whole : Expr → Means
  whole = fold-Expr BindMeans Means Means (ProductMeans docs) KeyMeans StepMeans (SumMeans docs) (bind_step docs) (expr_step docs) (start_step docs)
      (product_step docs) (key_step docs) (step_step docs) (sum_step docs)

  abbrev whole_start : Start → Means
  whole_start = fold-Start BindMeans Means Means (ProductMeans docs) KeyMeans StepMeans (SumMeans docs) (bind_step docs) (expr_step docs) (start_step
      docs) (product_step docs) (key_step docs) (step_step docs) (sum_step docs)

  abbrev whole_product : ProductPart → ProductMeans docs
  whole_product = fold-ProductPart BindMeans Means Means (ProductMeans docs) KeyMeans StepMeans (SumMeans docs) (bind_step docs) (expr_step docs)
      (start_step docs) (product_step docs) (key_step docs) (step_step docs) (sum_step docs)

  abbrev whole_key : SortKey → KeyMeans
  whole_key = fold-SortKey BindMeans Means Means (ProductMeans docs) KeyMeans StepMeans (SumMeans docs) (bind_step docs) (expr_step docs) (start_step
      docs) (product_step docs) (key_step docs) (step_step docs) (sum_step docs)

  abbrev whole_step : Step → StepMeans
  whole_step = fold-Step BindMeans Means Means (ProductMeans docs) KeyMeans StepMeans (SumMeans docs) (bind_step docs) (expr_step docs) (start_step
      docs) (product_step docs) (key_step docs) (step_step docs) (sum_step docs)

  abbrev whole_sum : SumPart → SumMeans docs
  whole_sum = fold-SumPart BindMeans Means Means (ProductMeans docs) KeyMeans StepMeans (SumMeans docs) (bind_step docs) (expr_step docs) (start_step
      docs) (product_step docs) (key_step docs) (step_step docs) (sum_step docs)

  step_same : (s : Step) → step_means docs s ≡ whole_step s
  unfolding means
  step_same s = sym (fold_out-Step BindMeans Means Means (ProductMeans docs) KeyMeans StepMeans (SumMeans docs) (bind_step docs) (expr_step docs)
      (start_step docs) (product_step docs) (key_step docs) (step_step docs) (sum_step docs) s
      ∙ ap (λ l. step_step docs (map-Step _ _ _ _ _ _ _ _ _ _ _ _ _ _ whole_bind whole whole_start whole_product whole_key whole_step whole_sum l))
      (outs-Step' s))

  product_same : (p : ProductPart) → product_means docs p ≡ whole_product p
  unfolding means
  product_same p = sym (fold_out-ProductPart BindMeans Means Means (ProductMeans docs) KeyMeans StepMeans (SumMeans docs) (bind_step docs) (expr_step
      docs) (start_step docs) (product_step docs) (key_step docs) (step_step docs) (sum_step docs) p
      ∙ ap (λ l. product_step docs (map-ProductPart _ _ _ _ _ _ _ _ _ _ _ _ _ _ whole_bind whole whole_start whole_product whole_key whole_step
      whole_sum l)) (outs-ProductPart' p))

  key_same : (k : SortKey) → key_means docs k ≡ whole_key k
  unfolding means
  key_same k = sym (fold_out-SortKey BindMeans Means Means (ProductMeans docs) KeyMeans StepMeans (SumMeans docs) (bind_step docs) (expr_step docs)
      (start_step docs) (product_step docs) (key_step docs) (step_step docs) (sum_step docs) k
      ∙ ap (λ l. key_step docs (map-SortKey _ _ _ _ _ _ _ _ _ _ _ _ _ _ whole_bind whole whole_start whole_product whole_key whole_step whole_sum l))
      (outs-SortKey' k))

  sum_same : (p : SumPart) → sum_means docs p ≡ whole_sum p
  unfolding means
  sum_same p = sym (fold_out-SumPart BindMeans Means Means (ProductMeans docs) KeyMeans StepMeans (SumMeans docs) (bind_step docs) (expr_step docs)
      (start_step docs) (product_step docs) (key_step docs) (step_step docs) (sum_step docs) p
      ∙ ap (λ l. sum_step docs (map-SumPart _ _ _ _ _ _ _ _ _ _ _ _ _ _ whole_bind whole whole_start whole_product whole_key whole_step whole_sum l))
      (outs-SumPart' p))

  bind_layer_same : (l : Bind-F Bind Expr Start ProductPart SortKey Step SumPart) → bind_layer docs l ≡ bind_step docs (map-Bind _ _ _ _ _ _ _ _ _ _
      _ _ _ _ whole_bind whole whole_start whole_product whole_key whole_step whole_sum l)
  unfolding means
  bind_layer_same (Bind-F.For name at source) = refl
  bind_layer_same (Bind-F.Let name value) = refl

  bind_same : (b : Bind) → bind_means docs b ≡ whole_bind b
  unfolding bind_means
  bind_same b = bind_layer_same (out-Bind b) ∙ sym (fold_out-Bind BindMeans Means Means (ProductMeans docs) KeyMeans StepMeans (SumMeans docs)
      (bind_step docs) (expr_step docs) (start_step docs) (product_step docs) (key_step docs) (step_step docs) (sum_step docs) b)

  start_layer_same : (l : Start-F Bind Expr Start ProductPart SortKey Step SumPart) → start_layer docs l ≡ start_step docs (map-Start _ _ _ _ _ _ _ _
      _ _ _ _ _ _ whole_bind whole whole_start whole_product whole_key whole_step whole_sum l)
  unfolding means
  start_layer_same (Start-F.Value inner) = refl
  start_layer_same (Start-F.First step) = ap (λ s. start_step docs (Start-F.First s)) (step_same step)

  start_same : (s : Start) → start_means docs s ≡ whole_start s
  unfolding start_means
  start_same s = start_layer_same (out-Start s) ∙ sym (fold_out-Start BindMeans Means Means (ProductMeans docs) KeyMeans StepMeans (SumMeans docs)
      (bind_step docs) (expr_step docs) (start_step docs) (product_step docs) (key_step docs) (step_step docs) (sum_step docs) s)

  layer_same : (l : Expr-F Bind Expr Start ProductPart SortKey Step SumPart) → layer docs l ≡ map-Expr _ _ _ _ _ _ _ _ _ _ _ _ _ _ whole_bind whole
      whole_start whole_product whole_key whole_step whole_sum l
  unfolding means
  layer_same (Expr-F.Text value) = refl
  layer_same (Expr-F.Int value) = refl
  layer_same (Expr-F.Var name) = refl
  layer_same Expr-F.Context = refl
  layer_same (Expr-F.Seq parts) = refl
  layer_same (Expr-F.Flwor binds None keys body) = λ i. Expr-F.Flwor (each_same (bind_means docs) whole_bind bind_same binds i) None (each_same
      (key_means docs) whole_key key_same keys i) (whole body)
  layer_same (Expr-F.Flwor binds (Some filter) keys body) = λ i. Expr-F.Flwor (each_same (bind_means docs) whole_bind bind_same binds i) (Some (whole
      filter)) (each_same (key_means docs) whole_key key_same keys i) (whole body)
  layer_same (Expr-F.If test good other) = refl
  layer_same (Expr-F.Or parts) = refl
  layer_same (Expr-F.And parts) = refl
  layer_same (Expr-F.Compare left op right) = refl
  layer_same (Expr-F.Range low high) = refl
  layer_same (Expr-F.Sum first rest) = ap (λ ps. Expr-F.Sum (whole first) ps) (each_same (sum_means docs) whole_sum sum_same rest)
  layer_same (Expr-F.Product first rest) = ap (λ ps. Expr-F.Product (whole first) ps) (each_same (product_means docs) whole_product product_same rest)
  layer_same (Expr-F.Union parts) = refl
  layer_same (Expr-F.Signed signs inner) = refl
  layer_same (Expr-F.Path start rest) = λ i. Expr-F.Path (start_same start i) (each_same (step_means docs) whole_step step_same rest i)
  layer_same (Expr-F.Filter inner preds) = refl
  layer_same (Expr-F.Fun name args) = refl
  layer_same (Expr-F.Doc name) = refl
  layer_same (Expr-F.Element name None) = refl
  layer_same (Expr-F.Element name (Some content)) = refl
  layer_same (Expr-F.Attribute name None) = refl
  layer_same (Expr-F.Attribute name (Some content)) = refl
  layer_same (Expr-F.TextNode None) = refl
  layer_same (Expr-F.TextNode (Some content)) = refl

  means_is : (e : Expr) → means docs e ≡ expr_step docs (layer docs (out-Expr e))
  unfolding means
  means_is e = fold_out-Expr BindMeans Means Means (ProductMeans docs) KeyMeans StepMeans (SumMeans docs) (bind_step docs) (expr_step docs)
      (start_step docs) (product_step docs) (key_step docs) (step_step docs) (sum_step docs) e ∙ ap (expr_step docs) (sym (layer_same (out-Expr e)))

  -- an expression means its value, counted
  pub means_counted : (e : Expr) (env : Bindings) (cx : Context) (made : Made) → means docs e env cx made ≡ then_with (value_means docs e env cx made) counted
  unfolding value_means
  means_counted e env cx made = ap (λ m. m env cx made) (means_is e)

  -- what an expression means is its meaning
  pub means_meaning : (e : Expr) → means docs e ≡ meaning docs e
  unfolding means
  means_meaning e = refl
