-- The meaning of each kind of part of a query.
use Rattle.std.specs.Prelude.{◌≡◌, ℕ, ℤ, List, map, Option}
use Rattle.std.proofs.Common.{ap}
use Rattle.xq_ast.specs.declared.tree.Bind.{Bind}
use Rattle.xq_ast.specs.declared.tree.Bind.TheVariants as bind
use Rattle.xq_ast.specs.declared.tree.Bind.TheVariants.{outs-For, outs-Let}
use Rattle.xq_ast.specs.declared.tree.Bind.TheOpen.{Bind-F, Expr-F}
use Rattle.xq_ast.specs.declared.tree.CompareOp.{CompareOp}
use Rattle.xq_ast.specs.declared.tree.Expr.{Expr}
use Rattle.xq_ast.specs.declared.tree.Expr.TheVariants as expr
use Rattle.xq_ast.specs.declared.tree.Expr.TheVariants.{outs-Text, outs-Int, outs-Var, outs-Context, outs-Seq, outs-Flwor, outs-If, outs-Or, outs-And, outs-Compare, outs-Range, outs-Sum, outs-Product, outs-Union, outs-Signed, outs-Path, outs-Filter, outs-Fun, outs-Doc, outs-Element, outs-Attribute, outs-TextNode}
use Rattle.xq_ast.specs.declared.tree.ProductPart.{ProductPart}
use Rattle.xq_ast.specs.declared.tree.Sign.{Sign}
use Rattle.xq_ast.specs.declared.tree.SortKey.{SortKey}
use Rattle.xq_ast.specs.declared.tree.Start.{Start}
use Rattle.xq_ast.specs.declared.tree.Start.TheVariants as start
use Rattle.xq_ast.specs.declared.tree.Start.TheVariants.{outs-Value, outs-First}
use Rattle.xq_ast.specs.declared.tree.Step.{Step}
use Rattle.xq_ast.specs.declared.tree.SumPart.{SumPart}
use Rattle.xml_model.specs.Items.{Documents}
use Rattle.xml_model.specs.Evaluation as spec
use Rattle.xml_model.specs.Evaluation.{StepMeans, counted, value_of}
use Rattle.xq_eval.specs.Meanings.{means, option_means, key_means, product_means, sum_means, step_means, bind_means, bind_layer, start_means, start_layer, layer, value_means}

module _ (docs : Documents) where
  pub value-Text : (value : List ℕ) → value_means docs (expr.Text value) ≡ value_of docs (Expr-F.Text value)
  unfolding value_means
  value-Text value = ap (λ l. value_of docs (layer docs l)) (outs-Text value)

  pub value-Int : (value : ℤ) → value_means docs (expr.Int value) ≡ value_of docs (Expr-F.Int value)
  unfolding value_means
  value-Int value = ap (λ l. value_of docs (layer docs l)) (outs-Int value)

  pub value-Var : (name : List ℕ) → value_means docs (expr.Var name) ≡ value_of docs (Expr-F.Var name)
  unfolding value_means
  value-Var name = ap (λ l. value_of docs (layer docs l)) (outs-Var name)

  pub value-Context : value_means docs expr.Context ≡ value_of docs (Expr-F.Context)
  unfolding value_means
  value-Context = ap (λ l. value_of docs (layer docs l)) outs-Context

  pub value-Seq : (parts : List Expr) → value_means docs (expr.Seq parts) ≡ value_of docs (Expr-F.Seq (map (means docs) parts))
  unfolding value_means
  value-Seq parts = ap (λ l. value_of docs (layer docs l)) (outs-Seq parts)

  pub value-Flwor : (binds : List Bind) (filter : Option Expr) (keys : List SortKey) (body : Expr) → value_means docs (expr.Flwor binds filter keys
      body) ≡ value_of docs (Expr-F.Flwor (map (bind_means docs) binds) (option_means docs filter) (map (key_means docs) keys) (means docs body))
  unfolding value_means
  value-Flwor binds filter keys body = ap (λ l. value_of docs (layer docs l)) (outs-Flwor binds filter keys body)

  pub value-If : (test : Expr) (good : Expr) (other : Expr) → value_means docs (expr.If test good other) ≡ value_of docs (Expr-F.If (means docs test)
      (means docs good) (means docs other))
  unfolding value_means
  value-If test good other = ap (λ l. value_of docs (layer docs l)) (outs-If test good other)

  pub value-Or : (parts : List Expr) → value_means docs (expr.Or parts) ≡ value_of docs (Expr-F.Or (map (means docs) parts))
  unfolding value_means
  value-Or parts = ap (λ l. value_of docs (layer docs l)) (outs-Or parts)

  pub value-And : (parts : List Expr) → value_means docs (expr.And parts) ≡ value_of docs (Expr-F.And (map (means docs) parts))
  unfolding value_means
  value-And parts = ap (λ l. value_of docs (layer docs l)) (outs-And parts)

  pub value-Compare : (left : Expr) (op : CompareOp) (right : Expr) → value_means docs (expr.Compare left op right) ≡ value_of docs (Expr-F.Compare
      (means docs left) op (means docs right))
  unfolding value_means
  value-Compare left op right = ap (λ l. value_of docs (layer docs l)) (outs-Compare left op right)

  pub value-Range : (low : Expr) (high : Expr) → value_means docs (expr.Range low high) ≡ value_of docs (Expr-F.Range (means docs low) (means docs high))
  unfolding value_means
  value-Range low high = ap (λ l. value_of docs (layer docs l)) (outs-Range low high)

  pub value-Sum : (first : Expr) (rest : List SumPart) → value_means docs (expr.Sum first rest) ≡ value_of docs (Expr-F.Sum (means docs first) (map
      (sum_means docs) rest))
  unfolding value_means
  value-Sum first rest = ap (λ l. value_of docs (layer docs l)) (outs-Sum first rest)

  pub value-Product : (first : Expr) (rest : List ProductPart) → value_means docs (expr.Product first rest) ≡ value_of docs (Expr-F.Product (means
      docs first) (map (product_means docs) rest))
  unfolding value_means
  value-Product first rest = ap (λ l. value_of docs (layer docs l)) (outs-Product first rest)

  pub value-Union : (parts : List Expr) → value_means docs (expr.Union parts) ≡ value_of docs (Expr-F.Union (map (means docs) parts))
  unfolding value_means
  value-Union parts = ap (λ l. value_of docs (layer docs l)) (outs-Union parts)

  pub value-Signed : (signs : List Sign) (inner : Expr) → value_means docs (expr.Signed signs inner) ≡ value_of docs (Expr-F.Signed signs (means docs inner))
  unfolding value_means
  value-Signed signs inner = ap (λ l. value_of docs (layer docs l)) (outs-Signed signs inner)

  pub value-Path : (start : Start) (rest : List Step) → value_means docs (expr.Path start rest) ≡ value_of docs (Expr-F.Path (start_means docs start)
      (map (step_means docs) rest))
  unfolding value_means
  value-Path start rest = ap (λ l. value_of docs (layer docs l)) (outs-Path start rest)

  pub value-Filter : (inner : Expr) (preds : List Expr) → value_means docs (expr.Filter inner preds) ≡ value_of docs (Expr-F.Filter (means docs
      inner) (map (means docs) preds))
  unfolding value_means
  value-Filter inner preds = ap (λ l. value_of docs (layer docs l)) (outs-Filter inner preds)

  pub value-Fun : (name : List ℕ) (args : List Expr) → value_means docs (expr.Fun name args) ≡ value_of docs (Expr-F.Fun name (map (means docs) args))
  unfolding value_means
  value-Fun name args = ap (λ l. value_of docs (layer docs l)) (outs-Fun name args)

  pub value-Doc : (name : List ℕ) → value_means docs (expr.Doc name) ≡ value_of docs (Expr-F.Doc name)
  unfolding value_means
  value-Doc name = ap (λ l. value_of docs (layer docs l)) (outs-Doc name)

  pub value-Element : (name : List ℕ) (content : Option Expr) → value_means docs (expr.Element name content) ≡ value_of docs (Expr-F.Element name
      (option_means docs content))
  unfolding value_means
  value-Element name content = ap (λ l. value_of docs (layer docs l)) (outs-Element name content)

  pub value-Attribute : (name : List ℕ) (content : Option Expr) → value_means docs (expr.Attribute name content) ≡ value_of docs (Expr-F.Attribute
      name (option_means docs content))
  unfolding value_means
  value-Attribute name content = ap (λ l. value_of docs (layer docs l)) (outs-Attribute name content)

  pub value-TextNode : (content : Option Expr) → value_means docs (expr.TextNode content) ≡ value_of docs (Expr-F.TextNode (option_means docs content))
  unfolding value_means
  value-TextNode content = ap (λ l. value_of docs (layer docs l)) (outs-TextNode content)

  -- a binding of each item, and of a whole value
  pub bind-For : (name : List ℕ) (at : Option (List ℕ)) (source : Expr) → bind_means docs (bind.For name at source) ≡ spec.bind_step docs (Bind-F.For
      name at (means docs source))
  unfolding bind_means
  bind-For name at source = ap (bind_layer docs) (outs-For name at source)

  pub bind-Let : (name : List ℕ) (value : Expr) → bind_means docs (bind.Let name value) ≡ spec.bind_step docs (Bind-F.Let name (means docs value))
  unfolding bind_means
  bind-Let name value = ap (bind_layer docs) (outs-Let name value)

  pub start-Value : (inner : Expr) → start_means docs (start.Value inner) ≡ means docs inner
  unfolding start_means
  start-Value inner = ap (start_layer docs) (outs-Value inner)

  pub start-First : (step : Step) → start_means docs (start.First step) ≡ spec.first_step docs (step_means docs step)
  unfolding start_means
  start-First step = ap (start_layer docs) (outs-First step)
