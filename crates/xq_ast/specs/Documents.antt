-- Which documents an expression names, in the order in which they stand in it.
use Rattle.std.specs.Prelude.{ℕ, List, [], ◌∷◌, ◌++◌, Option, None, Some}
use Rattle.xq_ast.specs.declared.tree.Bind.TheOpen.{Bind-F, Expr-F, Start-F, ProductPart-F, SortKey-F, Step-F, SumPart-F}
use Rattle.xq_ast.specs.declared.tree.Bind.TheFolds.{fold-Bind, fold-Expr, fold-Start, fold-ProductPart, fold-SortKey, fold-Step, fold-SumPart}
use Rattle.xq_ast.specs.declared.tree.Bind.{Bind}
use Rattle.xq_ast.specs.declared.tree.Expr.{Expr}
use Rattle.xq_ast.specs.declared.tree.Start.{Start}
use Rattle.xq_ast.specs.declared.tree.ProductPart.{ProductPart}
use Rattle.xq_ast.specs.declared.tree.SortKey.{SortKey}
use Rattle.xq_ast.specs.declared.tree.Step.{Step}
use Rattle.xq_ast.specs.declared.tree.SumPart.{SumPart}

-- names of documents
abbrev pub Names : Type 0
Names = List (List ℕ)

-- the lists of names one after another
abbrev pub joined : List Names → Names
joined [] = []
joined (ns ∷ more) = ns ++ joined more

-- the names of a part that may be there, and none where it is not
abbrev pub of_content : Option Names → Names
of_content None = []
of_content (Some ns) = ns

-- a binding names the documents of what it binds its name to
abbrev pub bind_step : Bind-F Names Names Names Names Names Names Names → Names
bind_step (Bind-F.For name at source) = source
bind_step (Bind-F.Let name value) = value

-- an expression names the documents of its parts, one after another; `doc` names one itself
abbrev pub expr_step : Expr-F Names Names Names Names Names Names Names → Names
expr_step (Expr-F.Text value) = []
expr_step (Expr-F.Int value) = []
expr_step (Expr-F.Var name) = []
expr_step Expr-F.Context = []
expr_step (Expr-F.Seq parts) = joined parts
expr_step (Expr-F.Flwor binds filter keys result) = joined binds ++ (of_content filter ++ (joined keys ++ result))
expr_step (Expr-F.If test good other) = test ++ (good ++ other)
expr_step (Expr-F.Or parts) = joined parts
expr_step (Expr-F.And parts) = joined parts
expr_step (Expr-F.Compare left op right) = left ++ right
expr_step (Expr-F.Range low high) = low ++ high
expr_step (Expr-F.Sum first rest) = first ++ joined rest
expr_step (Expr-F.Product first rest) = first ++ joined rest
expr_step (Expr-F.Union parts) = joined parts
expr_step (Expr-F.Signed signs inner) = inner
expr_step (Expr-F.Path start rest) = start ++ joined rest
expr_step (Expr-F.Filter inner preds) = inner ++ joined preds
expr_step (Expr-F.Fun name args) = joined args
expr_step (Expr-F.Doc name) = name ∷ []
expr_step (Expr-F.Element name content) = of_content content
expr_step (Expr-F.Attribute name content) = of_content content
expr_step (Expr-F.TextNode content) = of_content content

-- the beginning of a path names the documents of its expression or of its step
abbrev pub start_step : Start-F Names Names Names Names Names Names Names → Names
start_step (Start-F.Value inner) = inner
start_step (Start-F.First step) = step

-- a factor names the documents of its expression
abbrev pub product_step : ProductPart-F Names Names Names Names Names Names Names → Names
product_step p = p.expr

-- a key names the documents of its expression
abbrev pub key_step : SortKey-F Names Names Names Names Names Names Names → Names
key_step k = k.expr

-- a step names the documents of its predicates
abbrev pub step_step : Step-F Names Names Names Names Names Names Names → Names
step_step s = joined s.preds

-- a summand names the documents of its expression
abbrev pub sum_step : SumPart-F Names Names Names Names Names Names Names → Names
sum_step p = p.expr

-- the documents of an expression
abbrev pub documents : Expr → Names
documents = fold-Expr Names Names Names Names Names Names Names bind_step expr_step start_step product_step key_step step_step sum_step

-- the documents of a binding
abbrev pub bind_documents : Bind → Names
bind_documents = fold-Bind Names Names Names Names Names Names Names bind_step expr_step start_step product_step key_step step_step sum_step

-- the documents of the beginning of a path
abbrev pub start_documents : Start → Names
start_documents = fold-Start Names Names Names Names Names Names Names bind_step expr_step start_step product_step key_step step_step sum_step

-- the documents of a factor
abbrev pub product_documents : ProductPart → Names
product_documents = fold-ProductPart Names Names Names Names Names Names Names bind_step expr_step start_step product_step key_step step_step sum_step

-- the documents of a key
abbrev pub key_documents : SortKey → Names
key_documents = fold-SortKey Names Names Names Names Names Names Names bind_step expr_step start_step product_step key_step step_step sum_step

-- the documents of a step
abbrev pub step_documents : Step → Names
step_documents = fold-Step Names Names Names Names Names Names Names bind_step expr_step start_step product_step key_step step_step sum_step

-- the documents of a summand
abbrev pub sum_documents : SumPart → Names
sum_documents = fold-SumPart Names Names Names Names Names Names Names bind_step expr_step start_step product_step key_step step_step sum_step
