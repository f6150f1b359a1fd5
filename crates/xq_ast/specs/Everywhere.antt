-- What holds everywhere in a syntax tree: the names of new nodes and the calls of functions pass their tests, each
-- wherever it stands.
use Rattle.std.specs.Prelude.{ℕ, Bool, true, ◌&&◌, List, [], ◌∷◌, length, Option, None, Some}
use Rattle.xq_ast.specs.declared.tree.Bind.TheOpen.{Bind-F, Expr-F, Start-F, ProductPart-F, SortKey-F, Step-F, SumPart-F}
use Rattle.xq_ast.specs.declared.tree.Bind.TheFolds.{fold-Bind, fold-Expr, fold-Start, fold-ProductPart, fold-SortKey, fold-Step, fold-SumPart}
use Rattle.xq_ast.specs.declared.tree.Bind.{Bind}
use Rattle.xq_ast.specs.declared.tree.Expr.{Expr}
use Rattle.xq_ast.specs.declared.tree.Start.{Start}
use Rattle.xq_ast.specs.declared.tree.ProductPart.{ProductPart}
use Rattle.xq_ast.specs.declared.tree.SortKey.{SortKey}
use Rattle.xq_ast.specs.declared.tree.Step.{Step}
use Rattle.xq_ast.specs.declared.tree.SumPart.{SumPart}

-- the tests: of the name of a new element or attribute, and of a function's name with the number of its arguments
pub record Tests : Type 0 where
  pub made : List ℕ → Bool
  pub called : List ℕ → ℕ → Bool

-- all of the parts pass
abbrev pub all_true : List Bool → Bool
all_true [] = true
all_true (b ∷ bs) = b && all_true bs

-- a part that is not there passes
abbrev pub if_there : Option Bool → Bool
if_there None = true
if_there (Some b) = b

module _ (tests : Tests) where
  -- a binding passes where what it binds its name to does
  abbrev pub bind_step : Bind-F Bool Bool Bool Bool Bool Bool Bool → Bool
  bind_step (Bind-F.For name at source) = source
  bind_step (Bind-F.Let name value) = value

  -- an expression passes where its parts do, a function's name and number of arguments pass their test,
  -- and the name of a new element or attribute passes its own
  abbrev pub expr_step : Expr-F Bool Bool Bool Bool Bool Bool Bool → Bool
  expr_step (Expr-F.Text value) = true
  expr_step (Expr-F.Int value) = true
  expr_step (Expr-F.Var name) = true
  expr_step Expr-F.Context = true
  expr_step (Expr-F.Seq parts) = all_true parts
  expr_step (Expr-F.Flwor binds filter keys result) = all_true binds && (if_there filter && (all_true keys && result))
  expr_step (Expr-F.If test good other) = test && (good && other)
  expr_step (Expr-F.Or parts) = all_true parts
  expr_step (Expr-F.And parts) = all_true parts
  expr_step (Expr-F.Compare left op right) = left && right
  expr_step (Expr-F.Range low high) = low && high
  expr_step (Expr-F.Sum first rest) = first && all_true rest
  expr_step (Expr-F.Product first rest) = first && all_true rest
  expr_step (Expr-F.Union parts) = all_true parts
  expr_step (Expr-F.Signed signs inner) = inner
  expr_step (Expr-F.Path start rest) = start && all_true rest
  expr_step (Expr-F.Filter inner preds) = inner && all_true preds
  expr_step (Expr-F.Fun name args) = tests.called name (length args) && all_true args
  expr_step (Expr-F.Doc name) = true
  expr_step (Expr-F.Element name content) = tests.made name && if_there content
  expr_step (Expr-F.Attribute name content) = tests.made name && if_there content
  expr_step (Expr-F.TextNode content) = if_there content

  -- the beginning of a path passes where its expression or its step does
  abbrev pub start_step : Start-F Bool Bool Bool Bool Bool Bool Bool → Bool
  start_step (Start-F.Value inner) = inner
  start_step (Start-F.First step) = step

  -- a factor passes where its expression does
  abbrev pub product_step : ProductPart-F Bool Bool Bool Bool Bool Bool Bool → Bool
  product_step p = p.expr

  -- a key passes where its expression does
  abbrev pub key_step : SortKey-F Bool Bool Bool Bool Bool Bool Bool → Bool
  key_step k = k.expr

  -- a step passes where its predicates do
  abbrev pub step_step : Step-F Bool Bool Bool Bool Bool Bool Bool → Bool
  step_step s = all_true s.preds

  -- a summand passes where its expression does
  abbrev pub sum_step : SumPart-F Bool Bool Bool Bool Bool Bool Bool → Bool
  sum_step p = p.expr

  -- all of an expression passes
  abbrev pub everywhere : Expr → Bool
  everywhere = fold-Expr Bool Bool Bool Bool Bool Bool Bool bind_step expr_step start_step product_step key_step step_step sum_step

  -- all of a binding passes
  abbrev pub bind_everywhere : Bind → Bool
  bind_everywhere = fold-Bind Bool Bool Bool Bool Bool Bool Bool bind_step expr_step start_step product_step key_step step_step sum_step

  -- all of the beginning of a path passes
  abbrev pub start_everywhere : Start → Bool
  start_everywhere = fold-Start Bool Bool Bool Bool Bool Bool Bool bind_step expr_step start_step product_step key_step step_step sum_step

  -- all of a factor passes
  abbrev pub product_everywhere : ProductPart → Bool
  product_everywhere = fold-ProductPart Bool Bool Bool Bool Bool Bool Bool bind_step expr_step start_step product_step key_step step_step sum_step

  -- all of a key passes
  abbrev pub key_everywhere : SortKey → Bool
  key_everywhere = fold-SortKey Bool Bool Bool Bool Bool Bool Bool bind_step expr_step start_step product_step key_step step_step sum_step

  -- all of a step passes
  abbrev pub step_everywhere : Step → Bool
  step_everywhere = fold-Step Bool Bool Bool Bool Bool Bool Bool bind_step expr_step start_step product_step key_step step_step sum_step

  -- all of a summand passes
  abbrev pub sum_everywhere : SumPart → Bool
  sum_everywhere = fold-SumPart Bool Bool Bool Bool Bool Bool Bool bind_step expr_step start_step product_step key_step step_step sum_step
