-- How much a part of a query holds: the measure of evaluation.
use Rattle.std.specs.Prelude.{◌≡◌, ℕ, zero, suc, ◌+◌, ◌<◌, ◌≤◌, List, [], ◌∷◌, map, length, Option, Some, None}
use Rattle.std.proofs.Common.{get_or, sym, ap, ◌∙◌, subst, arith}
use Rattle.xq_ast.specs.declared.tree.Bind.{Bind, map-Bind}
use Rattle.xq_ast.specs.declared.tree.Bind.TheVariants as bind
use Rattle.xq_ast.specs.declared.tree.Bind.TheVariants.{outs-For, outs-Let}
use Rattle.xq_ast.specs.declared.tree.Bind.TheOpen.{Bind-F, Expr-F, Start-F, ProductPart-F, SortKey-F, Step-F, SumPart-F}
use Rattle.xq_ast.specs.declared.tree.Bind.TheFolds.{fold-Bind, fold-Expr, fold-Start, fold-ProductPart, fold-SortKey, fold-Step, fold-SumPart, fold_out-Bind, fold_out-Expr, fold_out-Start, fold_out-ProductPart, fold_out-SortKey, fold_out-Step, fold_out-SumPart}
use Rattle.xq_ast.specs.declared.tree.CompareOp.{CompareOp}
use Rattle.xq_ast.specs.declared.tree.Expr.{Expr, map-Expr}
use Rattle.xq_ast.specs.declared.tree.Expr.TheVariants as expr
use Rattle.xq_ast.specs.declared.tree.Expr.TheVariants.{outs-Seq, outs-Flwor, outs-If, outs-Or, outs-And, outs-Compare, outs-Range, outs-Sum, outs-Product, outs-Union, outs-Signed, outs-Path, outs-Filter, outs-Fun, outs-Element, outs-Attribute, outs-TextNode}
use Rattle.xq_ast.specs.declared.tree.ProductPart.{ProductPart, outs-ProductPart', map-ProductPart}
use Rattle.xq_ast.specs.declared.tree.Sign.{Sign}
use Rattle.xq_ast.specs.declared.tree.SortKey.{SortKey, outs-SortKey', map-SortKey}
use Rattle.xq_ast.specs.declared.tree.Start.{Start, map-Start}
use Rattle.xq_ast.specs.declared.tree.Start.TheVariants as start
use Rattle.xq_ast.specs.declared.tree.Start.TheVariants.{outs-Value, outs-First}
use Rattle.xq_ast.specs.declared.tree.Step.{Step, outs-Step', map-Step}
use Rattle.xq_ast.specs.declared.tree.SumPart.{SumPart, outs-SumPart', map-SumPart}

-- all of them together
abbrev pub total : List ℕ → ℕ
total [] = 0
total (n ∷ ns) = n + total ns

abbrev option_size : Option ℕ → ℕ
option_size None = 0
option_size (Some n) = n

-- each part weighs one more than what it holds
abbrev bind_size : Bind-F ℕ ℕ ℕ ℕ ℕ ℕ ℕ → ℕ
bind_size (Bind-F.For name at source) = source + 1
bind_size (Bind-F.Let name value) = value + 1

abbrev expr_size : Expr-F ℕ ℕ ℕ ℕ ℕ ℕ ℕ → ℕ
expr_size (Expr-F.Text value) = 1
expr_size (Expr-F.Int value) = 1
expr_size (Expr-F.Var name) = 1
expr_size Expr-F.Context = 1
expr_size (Expr-F.Seq parts) = total (parts) + 1
expr_size (Expr-F.Flwor binds filter keys body) = total (binds) + option_size filter + total (keys) + body + 1
expr_size (Expr-F.If test good other) = test + good + other + 1
expr_size (Expr-F.Or parts) = total (parts) + 1
expr_size (Expr-F.And parts) = total (parts) + 1
expr_size (Expr-F.Compare left op right) = left + right + 1
expr_size (Expr-F.Range low high) = low + high + 1
expr_size (Expr-F.Sum first rest) = first + total (rest) + 1
expr_size (Expr-F.Product first rest) = first + total (rest) + 1
expr_size (Expr-F.Union parts) = total (parts) + 1
expr_size (Expr-F.Signed signs inner) = inner + 1
expr_size (Expr-F.Path start rest) = start + total (rest) + 1
expr_size (Expr-F.Filter inner preds) = inner + total (preds) + 1
expr_size (Expr-F.Fun name args) = total (args) + 1
expr_size (Expr-F.Doc name) = 1
expr_size (Expr-F.Element name content) = option_size content + 1
expr_size (Expr-F.Attribute name content) = option_size content + 1
expr_size (Expr-F.TextNode content) = option_size content + 1

abbrev start_size : Start-F ℕ ℕ ℕ ℕ ℕ ℕ ℕ → ℕ
start_size (Start-F.Value inner) = inner + 1
start_size (Start-F.First step) = step + 1

abbrev product_size : ProductPart-F ℕ ℕ ℕ ℕ ℕ ℕ ℕ → ℕ
product_size p = p.expr + 1

abbrev key_size : SortKey-F ℕ ℕ ℕ ℕ ℕ ℕ ℕ → ℕ
key_size k = k.expr + 1

abbrev step_size : Step-F ℕ ℕ ℕ ℕ ℕ ℕ ℕ → ℕ
step_size s = total s.preds + 1

abbrev sum_size : SumPart-F ℕ ℕ ℕ ℕ ℕ ℕ ℕ → ℕ
sum_size p = p.expr + 1

-- what a binding weighs
unfoldable pub bind_weight : Bind → ℕ
bind_weight = fold-Bind ℕ ℕ ℕ ℕ ℕ ℕ ℕ bind_size expr_size start_size product_size key_size step_size sum_size

-- what an expression weighs
unfoldable pub weight : Expr → ℕ
weight = fold-Expr ℕ ℕ ℕ ℕ ℕ ℕ ℕ bind_size expr_size start_size product_size key_size step_size sum_size

-- what a beginning of a path weighs
unfoldable pub start_weight : Start → ℕ
start_weight = fold-Start ℕ ℕ ℕ ℕ ℕ ℕ ℕ bind_size expr_size start_size product_size key_size step_size sum_size

-- what an operator of a product with its operand weighs
unfoldable pub product_weight : ProductPart → ℕ
product_weight = fold-ProductPart ℕ ℕ ℕ ℕ ℕ ℕ ℕ bind_size expr_size start_size product_size key_size step_size sum_size

-- what a key weighs
unfoldable pub key_weight : SortKey → ℕ
key_weight = fold-SortKey ℕ ℕ ℕ ℕ ℕ ℕ ℕ bind_size expr_size start_size product_size key_size step_size sum_size

-- what a step weighs
unfoldable pub step_weight : Step → ℕ
step_weight = fold-Step ℕ ℕ ℕ ℕ ℕ ℕ ℕ bind_size expr_size start_size product_size key_size step_size sum_size

-- what an operator of a sum with its operand weighs
unfoldable pub sum_weight : SumPart → ℕ
sum_weight = fold-SumPart ℕ ℕ ℕ ℕ ℕ ℕ ℕ bind_size expr_size start_size product_size key_size step_size sum_size

-- what an expression weighs that may not be there
abbrev pub option_weight : Option Expr → ℕ
option_weight None = 0
option_weight (Some e) = weight e

-- ---- what each kind of part weighs

pub weight-Seq : (parts : List Expr) → weight (expr.Seq parts) ≡ total (map weight parts) + 1
unfolding weight bind_weight start_weight product_weight key_weight step_weight sum_weight
weight-Seq parts = fold_out-Expr ℕ ℕ ℕ ℕ ℕ ℕ ℕ bind_size expr_size start_size product_size key_size step_size sum_size (expr.Seq parts)
    ∙ ap (λ l. expr_size (map-Expr _ _ _ _ _ _ _ _ _ _ _ _ _ _ bind_weight weight start_weight product_weight key_weight step_weight sum_weight l))
    (outs-Seq parts)

pub weight-Flwor : (binds : List Bind) (filter : Option Expr) (keys : List SortKey) (body : Expr) → weight (expr.Flwor binds filter keys body) ≡
    total (map bind_weight binds) + option_weight filter + total (map key_weight keys) + weight body + 1
unfolding weight bind_weight start_weight product_weight key_weight step_weight sum_weight
weight-Flwor binds None keys body = fold_out-Expr ℕ ℕ ℕ ℕ ℕ ℕ ℕ bind_size expr_size start_size product_size key_size step_size sum_size (expr.Flwor
    binds None keys body)
    ∙ ap (λ l. expr_size (map-Expr _ _ _ _ _ _ _ _ _ _ _ _ _ _ bind_weight weight start_weight product_weight key_weight step_weight sum_weight l))
    (outs-Flwor binds None keys body)
weight-Flwor binds (Some filter) keys body = fold_out-Expr ℕ ℕ ℕ ℕ ℕ ℕ ℕ bind_size expr_size start_size product_size key_size step_size sum_size
    (expr.Flwor binds (Some filter) keys body)
    ∙ ap (λ l. expr_size (map-Expr _ _ _ _ _ _ _ _ _ _ _ _ _ _ bind_weight weight start_weight product_weight key_weight step_weight sum_weight l))
    (outs-Flwor binds (Some filter) keys body)

pub weight-If : (test : Expr) (good : Expr) (other : Expr) → weight (expr.If test good other) ≡ weight test + weight good + weight other + 1
unfolding weight bind_weight start_weight product_weight key_weight step_weight sum_weight
weight-If test good other = fold_out-Expr ℕ ℕ ℕ ℕ ℕ ℕ ℕ bind_size expr_size start_size product_size key_size step_size sum_size (expr.If test good other)
    ∙ ap (λ l. expr_size (map-Expr _ _ _ _ _ _ _ _ _ _ _ _ _ _ bind_weight weight start_weight product_weight key_weight step_weight sum_weight l))
    (outs-If test good other)

pub weight-Or : (parts : List Expr) → weight (expr.Or parts) ≡ total (map weight parts) + 1
unfolding weight bind_weight start_weight product_weight key_weight step_weight sum_weight
weight-Or parts = fold_out-Expr ℕ ℕ ℕ ℕ ℕ ℕ ℕ bind_size expr_size start_size product_size key_size step_size sum_size (expr.Or parts)
    ∙ ap (λ l. expr_size (map-Expr _ _ _ _ _ _ _ _ _ _ _ _ _ _ bind_weight weight start_weight product_weight key_weight step_weight sum_weight l))
    (outs-Or parts)

pub weight-And : (parts : List Expr) → weight (expr.And parts) ≡ total (map weight parts) + 1
unfolding weight bind_weight start_weight product_weight key_weight step_weight sum_weight
weight-And parts = fold_out-Expr ℕ ℕ ℕ ℕ ℕ ℕ ℕ bind_size expr_size start_size product_size key_size step_size sum_size (expr.And parts)
    ∙ ap (λ l. expr_size (map-Expr _ _ _ _ _ _ _ _ _ _ _ _ _ _ bind_weight weight start_weight product_weight key_weight step_weight sum_weight l))
    (outs-And parts)

pub weight-Compare : (left : Expr) (op : CompareOp) (right : Expr) → weight (expr.Compare left op right) ≡ weight left + weight right + 1
unfolding weight bind_weight start_weight product_weight key_weight step_weight sum_weight
weight-Compare left op right = fold_out-Expr ℕ ℕ ℕ ℕ ℕ ℕ ℕ bind_size expr_size start_size product_size key_size step_size sum_size (expr.Compare left op right)
    ∙ ap (λ l. expr_size (map-Expr _ _ _ _ _ _ _ _ _ _ _ _ _ _ bind_weight weight start_weight product_weight key_weight step_weight sum_weight l))
    (outs-Compare left op right)

pub weight-Range : (low : Expr) (high : Expr) → weight (expr.Range low high) ≡ weight low + weight high + 1
unfolding weight bind_weight start_weight product_weight key_weight step_weight sum_weight
weight-Range low high = fold_out-Expr ℕ ℕ ℕ ℕ ℕ ℕ ℕ bind_size expr_size start_size product_size key_size step_size sum_size (expr.Range low high)
    ∙ ap (λ l. expr_size (map-Expr _ _ _ _ _ _ _ _ _ _ _ _ _ _ bind_weight weight start_weight product_weight key_weight step_weight sum_weight l))
    (outs-Range low high)

pub weight-Sum : (first : Expr) (rest : List SumPart) → weight (expr.Sum first rest) ≡ weight first + total (map sum_weight rest) + 1
unfolding weight bind_weight start_weight product_weight key_weight step_weight sum_weight
weight-Sum first rest = fold_out-Expr ℕ ℕ ℕ ℕ ℕ ℕ ℕ bind_size expr_size start_size product_size key_size step_size sum_size (expr.Sum first rest)
    ∙ ap (λ l. expr_size (map-Expr _ _ _ _ _ _ _ _ _ _ _ _ _ _ bind_weight weight start_weight product_weight key_weight step_weight sum_weight l))
    (outs-Sum first rest)

pub weight-Product : (first : Expr) (rest : List ProductPart) → weight (expr.Product first rest) ≡ weight first + total (map product_weight rest) + 1
unfolding weight bind_weight start_weight product_weight key_weight step_weight sum_weight
weight-Product first rest = fold_out-Expr ℕ ℕ ℕ ℕ ℕ ℕ ℕ bind_size expr_size start_size product_size key_size step_size sum_size (expr.Product first rest)
    ∙ ap (λ l. expr_size (map-Expr _ _ _ _ _ _ _ _ _ _ _ _ _ _ bind_weight weight start_weight product_weight key_weight step_weight sum_weight l))
    (outs-Product first rest)

pub weight-Union : (parts : List Expr) → weight (expr.Union parts) ≡ total (map weight parts) + 1
unfolding weight bind_weight start_weight product_weight key_weight step_weight sum_weight
weight-Union parts = fold_out-Expr ℕ ℕ ℕ ℕ ℕ ℕ ℕ bind_size expr_size start_size product_size key_size step_size sum_size (expr.Union parts)
    ∙ ap (λ l. expr_size (map-Expr _ _ _ _ _ _ _ _ _ _ _ _ _ _ bind_weight weight start_weight product_weight key_weight step_weight sum_weight l))
    (outs-Union parts)

pub weight-Signed : (signs : List Sign) (inner : Expr) → weight (expr.Signed signs inner) ≡ weight inner + 1
unfolding weight bind_weight start_weight product_weight key_weight step_weight sum_weight
weight-Signed signs inner = fold_out-Expr ℕ ℕ ℕ ℕ ℕ ℕ ℕ bind_size expr_size start_size product_size key_size step_size sum_size (expr.Signed signs inner)
    ∙ ap (λ l. expr_size (map-Expr _ _ _ _ _ _ _ _ _ _ _ _ _ _ bind_weight weight start_weight product_weight key_weight step_weight sum_weight l))
    (outs-Signed signs inner)

pub weight-Path : (start : Start) (rest : List Step) → weight (expr.Path start rest) ≡ start_weight start + total (map step_weight rest) + 1
unfolding weight bind_weight start_weight product_weight key_weight step_weight sum_weight
weight-Path start rest = fold_out-Expr ℕ ℕ ℕ ℕ ℕ ℕ ℕ bind_size expr_size start_size product_size key_size step_size sum_size (expr.Path start rest)
    ∙ ap (λ l. expr_size (map-Expr _ _ _ _ _ _ _ _ _ _ _ _ _ _ bind_weight weight start_weight product_weight key_weight step_weight sum_weight l))
    (outs-Path start rest)

pub weight-Filter : (inner : Expr) (preds : List Expr) → weight (expr.Filter inner preds) ≡ weight inner + total (map weight preds) + 1
unfolding weight bind_weight start_weight product_weight key_weight step_weight sum_weight
weight-Filter inner preds = fold_out-Expr ℕ ℕ ℕ ℕ ℕ ℕ ℕ bind_size expr_size start_size product_size key_size step_size sum_size (expr.Filter inner preds)
    ∙ ap (λ l. expr_size (map-Expr _ _ _ _ _ _ _ _ _ _ _ _ _ _ bind_weight weight start_weight product_weight key_weight step_weight sum_weight l))
    (outs-Filter inner preds)

pub weight-Fun : (name : List ℕ) (args : List Expr) → weight (expr.Fun name args) ≡ total (map weight args) + 1
unfolding weight bind_weight start_weight product_weight key_weight step_weight sum_weight
weight-Fun name args = fold_out-Expr ℕ ℕ ℕ ℕ ℕ ℕ ℕ bind_size expr_size start_size product_size key_size step_size sum_size (expr.Fun name args)
    ∙ ap (λ l. expr_size (map-Expr _ _ _ _ _ _ _ _ _ _ _ _ _ _ bind_weight weight start_weight product_weight key_weight step_weight sum_weight l))
    (outs-Fun name args)

pub weight-Element : (name : List ℕ) (content : Option Expr) → weight (expr.Element name content) ≡ option_weight content + 1
unfolding weight bind_weight start_weight product_weight key_weight step_weight sum_weight
weight-Element name None = fold_out-Expr ℕ ℕ ℕ ℕ ℕ ℕ ℕ bind_size expr_size start_size product_size key_size step_size sum_size (expr.Element name None)
    ∙ ap (λ l. expr_size (map-Expr _ _ _ _ _ _ _ _ _ _ _ _ _ _ bind_weight weight start_weight product_weight key_weight step_weight sum_weight l))
    (outs-Element name None)
weight-Element name (Some content) = fold_out-Expr ℕ ℕ ℕ ℕ ℕ ℕ ℕ bind_size expr_size start_size product_size key_size step_size sum_size
    (expr.Element name (Some content))
    ∙ ap (λ l. expr_size (map-Expr _ _ _ _ _ _ _ _ _ _ _ _ _ _ bind_weight weight start_weight product_weight key_weight step_weight sum_weight l))
    (outs-Element name (Some content))

pub weight-Attribute : (name : List ℕ) (content : Option Expr) → weight (expr.Attribute name content) ≡ option_weight content + 1
unfolding weight bind_weight start_weight product_weight key_weight step_weight sum_weight
weight-Attribute name None = fold_out-Expr ℕ ℕ ℕ ℕ ℕ ℕ ℕ bind_size expr_size start_size product_size key_size step_size sum_size (expr.Attribute name None)
    ∙ ap (λ l. expr_size (map-Expr _ _ _ _ _ _ _ _ _ _ _ _ _ _ bind_weight weight start_weight product_weight key_weight step_weight sum_weight l))
    (outs-Attribute name None)
weight-Attribute name (Some content) = fold_out-Expr ℕ ℕ ℕ ℕ ℕ ℕ ℕ bind_size expr_size start_size product_size key_size step_size sum_size
    (expr.Attribute name (Some content))
    ∙ ap (λ l. expr_size (map-Expr _ _ _ _ _ _ _ _ _ _ _ _ _ _ bind_weight weight start_weight product_weight key_weight step_weight sum_weight l))
    (outs-Attribute name (Some content))

pub weight-TextNode : (content : Option Expr) → weight (expr.TextNode content) ≡ option_weight content + 1
unfolding weight bind_weight start_weight product_weight key_weight step_weight sum_weight
weight-TextNode None = fold_out-Expr ℕ ℕ ℕ ℕ ℕ ℕ ℕ bind_size expr_size start_size product_size key_size step_size sum_size (expr.TextNode None)
    ∙ ap (λ l. expr_size (map-Expr _ _ _ _ _ _ _ _ _ _ _ _ _ _ bind_weight weight start_weight product_weight key_weight step_weight sum_weight l))
    (outs-TextNode None)
weight-TextNode (Some content) = fold_out-Expr ℕ ℕ ℕ ℕ ℕ ℕ ℕ bind_size expr_size start_size product_size key_size step_size sum_size (expr.TextNode
    (Some content))
    ∙ ap (λ l. expr_size (map-Expr _ _ _ _ _ _ _ _ _ _ _ _ _ _ bind_weight weight start_weight product_weight key_weight step_weight sum_weight l))
    (outs-TextNode (Some content))

pub weight-For : (name : List ℕ) (at : Option (List ℕ)) (source : Expr) → bind_weight (bind.For name at source) ≡ weight source + 1
unfolding weight bind_weight start_weight product_weight key_weight step_weight sum_weight
weight-For name at source = fold_out-Bind ℕ ℕ ℕ ℕ ℕ ℕ ℕ bind_size expr_size start_size product_size key_size step_size sum_size (bind.For name at source)
    ∙ ap (λ l. bind_size (map-Bind _ _ _ _ _ _ _ _ _ _ _ _ _ _ bind_weight weight start_weight product_weight key_weight step_weight sum_weight l))
    (outs-For name at source)

pub weight-Let : (name : List ℕ) (value : Expr) → bind_weight (bind.Let name value) ≡ weight value + 1
unfolding weight bind_weight start_weight product_weight key_weight step_weight sum_weight
weight-Let name value = fold_out-Bind ℕ ℕ ℕ ℕ ℕ ℕ ℕ bind_size expr_size start_size product_size key_size step_size sum_size (bind.Let name value)
    ∙ ap (λ l. bind_size (map-Bind _ _ _ _ _ _ _ _ _ _ _ _ _ _ bind_weight weight start_weight product_weight key_weight step_weight sum_weight l))
    (outs-Let name value)

pub weight-Value : (inner : Expr) → start_weight (start.Value inner) ≡ weight inner + 1
unfolding weight bind_weight start_weight product_weight key_weight step_weight sum_weight
weight-Value inner = fold_out-Start ℕ ℕ ℕ ℕ ℕ ℕ ℕ bind_size expr_size start_size product_size key_size step_size sum_size (start.Value inner)
    ∙ ap (λ l. start_size (map-Start _ _ _ _ _ _ _ _ _ _ _ _ _ _ bind_weight weight start_weight product_weight key_weight step_weight sum_weight l))
    (outs-Value inner)

pub weight-First : (step : Step) → start_weight (start.First step) ≡ step_weight step + 1
unfolding weight bind_weight start_weight product_weight key_weight step_weight sum_weight
weight-First step = fold_out-Start ℕ ℕ ℕ ℕ ℕ ℕ ℕ bind_size expr_size start_size product_size key_size step_size sum_size (start.First step)
    ∙ ap (λ l. start_size (map-Start _ _ _ _ _ _ _ _ _ _ _ _ _ _ bind_weight weight start_weight product_weight key_weight step_weight sum_weight l))
    (outs-First step)

pub weight-ProductPart : (p : ProductPart) → product_weight p ≡ weight p.expr + 1
unfolding weight bind_weight start_weight product_weight key_weight step_weight sum_weight
weight-ProductPart p = fold_out-ProductPart ℕ ℕ ℕ ℕ ℕ ℕ ℕ bind_size expr_size start_size product_size key_size step_size sum_size p
    ∙ ap (λ l. product_size (map-ProductPart _ _ _ _ _ _ _ _ _ _ _ _ _ _ bind_weight weight start_weight product_weight key_weight step_weight
    sum_weight l)) (outs-ProductPart' p)

pub weight-SortKey : (k : SortKey) → key_weight k ≡ weight k.expr + 1
unfolding weight bind_weight start_weight product_weight key_weight step_weight sum_weight
weight-SortKey k = fold_out-SortKey ℕ ℕ ℕ ℕ ℕ ℕ ℕ bind_size expr_size start_size product_size key_size step_size sum_size k
    ∙ ap (λ l. key_size (map-SortKey _ _ _ _ _ _ _ _ _ _ _ _ _ _ bind_weight weight start_weight product_weight key_weight step_weight sum_weight l))
    (outs-SortKey' k)

pub weight-Step : (s : Step) → step_weight s ≡ total (map weight s.preds) + 1
unfolding weight bind_weight start_weight product_weight key_weight step_weight sum_weight
weight-Step s = fold_out-Step ℕ ℕ ℕ ℕ ℕ ℕ ℕ bind_size expr_size start_size product_size key_size step_size sum_size s
    ∙ ap (λ l. step_size (map-Step _ _ _ _ _ _ _ _ _ _ _ _ _ _ bind_weight weight start_weight product_weight key_weight step_weight sum_weight l))
    (outs-Step' s)

pub weight-SumPart : (p : SumPart) → sum_weight p ≡ weight p.expr + 1
unfolding weight bind_weight start_weight product_weight key_weight step_weight sum_weight
weight-SumPart p = fold_out-SumPart ℕ ℕ ℕ ℕ ℕ ℕ ℕ bind_size expr_size start_size product_size key_size step_size sum_size p
    ∙ ap (λ l. sum_size (map-SumPart _ _ _ _ _ _ _ _ _ _ _ _ _ _ bind_weight weight start_weight product_weight key_weight step_weight sum_weight l))
    (outs-SumPart' p)

bind_layer_holds : (l : Bind-F ℕ ℕ ℕ ℕ ℕ ℕ ℕ) → 0 < bind_size l
bind_layer_holds (Bind-F.For name at source) = omega arith
bind_layer_holds (Bind-F.Let name value) = omega arith

-- a binding weighs something
pub bind_holds : (b : Bind) → 0 < bind_weight b
unfolding bind_weight
bind_holds b = subst (λ n. 0 < n) (sym (fold_out-Bind ℕ ℕ ℕ ℕ ℕ ℕ ℕ bind_size expr_size start_size product_size key_size step_size sum_size b))
    (bind_layer_holds _)

-- one of several weighs no more than all of them
pub weight_below : {A : Type 0} (f : A → ℕ) (xs : List A) (i : ℕ) (d : A) → i < length xs → f (get_or xs i d) ≤ total (map f xs)
weight_below f [] i d h = absurd (omega arith)
weight_below f (x ∷ xs) zero d h = omega arith
weight_below f (x ∷ xs) (suc i) d h = omega (arith, weight_below f xs i d (omega arith))

pub item_below : {A : Type 0} (f : A → ℕ) (xs : List A) (i : ℕ) (x : A) → x ≡ get_or xs i x → i < length xs → f x ≤ total (map f xs)
item_below f xs i x e h = subst (λ y. f y ≤ total (map f xs)) (sym e) (weight_below f xs i x h)
