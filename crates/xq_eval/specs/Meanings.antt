-- The meaning of each part of a query, with one equation for each kind of part (proofs/Forms).
use Rattle.std.specs.Prelude.{map, Option, option_map}
use Rattle.xq_ast.specs.declared.tree.Bind.{Bind, out-Bind}
use Rattle.xq_ast.specs.declared.tree.Expr.{Expr, out-Expr}
use Rattle.xq_ast.specs.declared.tree.Start.{Start, out-Start}
use Rattle.xq_ast.specs.declared.tree.ProductPart.{ProductPart}
use Rattle.xq_ast.specs.declared.tree.SortKey.{SortKey}
use Rattle.xq_ast.specs.declared.tree.Step.{Step}
use Rattle.xq_ast.specs.declared.tree.SumPart.{SumPart}
use Rattle.xq_ast.specs.declared.tree.Bind.TheOpen.{Bind-F, Expr-F, Start-F}
use Rattle.xml_model.specs.Items.{Documents}
use Rattle.xml_model.specs.Tuples.{Means, BindMeans, KeyMeans}
use Rattle.xml_model.specs.Evaluation.{StepMeans, ProductMeans, SumMeans, meaning, value_of, bind_step, start_step, step_step}

module _ (docs : Documents) where
  -- what an expression means
  unfoldable pub means : Expr → Means
  means = meaning docs

  abbrev pub option_means : Option Expr → Option Means
  option_means e = option_map means e

  abbrev pub key_means : SortKey → KeyMeans
  key_means k = record { value = means k.expr; descending = k.descending }

  abbrev pub product_means : ProductPart → ProductMeans docs
  product_means p = (p.op, means p.expr)

  abbrev pub sum_means : SumPart → SumMeans docs
  sum_means p = (p.minus, means p.expr)

  abbrev pub step_means : Step → StepMeans
  step_means s = step_step docs (record { deep = s.deep; axis = s.axis; test = s.test; preds = map means s.preds })

  abbrev pub bind_layer : Bind-F Bind Expr Start ProductPart SortKey Step SumPart → BindMeans
  bind_layer (Bind-F.For name at source) = bind_step docs (Bind-F.For name at (means source))
  bind_layer (Bind-F.Let name value) = bind_step docs (Bind-F.Let name (means value))

  -- what a binding binds
  unfoldable pub bind_means : Bind → BindMeans
  bind_means b = bind_layer (out-Bind b)

  abbrev pub start_layer : Start-F Bind Expr Start ProductPart SortKey Step SumPart → Means
  start_layer (Start-F.Value inner) = start_step docs (Start-F.Value (means inner))
  start_layer (Start-F.First step) = start_step docs (Start-F.First (step_means step))

  -- what a path begins with
  unfoldable pub start_means : Start → Means
  start_means s = start_layer (out-Start s)

  abbrev pub layer : Expr-F Bind Expr Start ProductPart SortKey Step SumPart → Expr-F BindMeans Means Means (ProductMeans docs) KeyMeans StepMeans (SumMeans docs)
  layer (Expr-F.Text value) = Expr-F.Text value
  layer (Expr-F.Int value) = Expr-F.Int value
  layer (Expr-F.Var name) = Expr-F.Var name
  layer Expr-F.Context = Expr-F.Context
  layer (Expr-F.Seq parts) = Expr-F.Seq (map means parts)
  layer (Expr-F.Flwor binds filter keys result) = Expr-F.Flwor (map bind_means binds) (option_means filter) (map key_means keys) (means result)
  layer (Expr-F.If test good other) = Expr-F.If (means test) (means good) (means other)
  layer (Expr-F.Or parts) = Expr-F.Or (map means parts)
  layer (Expr-F.And parts) = Expr-F.And (map means parts)
  layer (Expr-F.Compare left op right) = Expr-F.Compare (means left) op (means right)
  layer (Expr-F.Range low high) = Expr-F.Range (means low) (means high)
  layer (Expr-F.Sum first rest) = Expr-F.Sum (means first) (map sum_means rest)
  layer (Expr-F.Product first rest) = Expr-F.Product (means first) (map product_means rest)
  layer (Expr-F.Union parts) = Expr-F.Union (map means parts)
  layer (Expr-F.Signed signs inner) = Expr-F.Signed signs (means inner)
  layer (Expr-F.Path start rest) = Expr-F.Path (start_means start) (map step_means rest)
  layer (Expr-F.Filter inner preds) = Expr-F.Filter (means inner) (map means preds)
  layer (Expr-F.Fun name args) = Expr-F.Fun name (map means args)
  layer (Expr-F.Doc name) = Expr-F.Doc name
  layer (Expr-F.Element name content) = Expr-F.Element name (option_means content)
  layer (Expr-F.Attribute name content) = Expr-F.Attribute name (option_means content)
  layer (Expr-F.TextNode content) = Expr-F.TextNode (option_means content)

  -- what an expression means, before its items are counted
  unfoldable pub value_means : Expr → Means
  value_means e = value_of docs (layer (out-Expr e))
