-- Where a variable is bound. The variables of a binding are bound in the bindings after it, and in `where`,
-- `order by` and `return`, but not in what they stand for themselves. A position (`at`) is bound as its item is.
-- `replace $v in T with E` binds v in E alone.
use Rattle.std.specs.Prelude.{ℕ, Bool, true, ◌&&◌, bytes_eq, List, [], ◌∷◌, ◌++◌, Option, None, Some}
use Rattle.std.specs.List.{list_any}
use Rattle.xq_ast.specs.declared.tree.Bind.TheOpen.{Bind-F, Expr-F, Start-F, ProductPart-F, SortKey-F, Step-F, SumPart-F}
use Rattle.xq_ast.specs.declared.tree.Bind.TheFolds.{fold-Bind, fold-Expr, fold-Start, fold-ProductPart, fold-SortKey, fold-Step, fold-SumPart}
use Rattle.xq_ast.specs.declared.tree.Bind.{Bind}
use Rattle.xq_ast.specs.declared.tree.Expr.{Expr}
use Rattle.xq_ast.specs.declared.tree.Start.{Start}
use Rattle.xq_ast.specs.declared.tree.ProductPart.{ProductPart}
use Rattle.xq_ast.specs.declared.tree.SortKey.{SortKey}
use Rattle.xq_ast.specs.declared.tree.Step.{Step}
use Rattle.xq_ast.specs.declared.tree.SumPart.{SumPart}
use Rattle.xq_ast.specs.declared.update.Update.{Update}
use Rattle.xq_ast.specs.declared.update.Update.TheVariants as update
use Rattle.xq_ast.specs.declared.call.Call.{Call}
use Rattle.xq_ast.specs.declared.call.Call.TheVariants as call

-- the variables that are bound where something stands
abbrev pub Bound : Type 0
Bound = List (List ℕ)

-- whether all variables of a part are bound, where these are
abbrev pub PartTest : Type 0
PartTest = Bound → Bool

-- the name is among the bound ones
abbrev pub is_bound : List ℕ → Bound → Bool
is_bound name bound = list_any (λ b. bytes_eq b name) bound

-- all variables of each part are bound
abbrev pub all_bound : List PartTest → PartTest
all_bound [] bound = true
all_bound (p ∷ ps) bound = p bound && all_bound ps bound

-- all variables of a part that may be there are bound, if it is
abbrev pub if_there : Option PartTest → PartTest
if_there None bound = true
if_there (Some p) bound = p bound

-- a binding: what it binds names to, and the names
pub record Binding : Type 0 where
  pub source : PartTest
  pub names : Bound

-- the names that a `for` binds: that of its item, and that of the position where it has one
abbrev pub and_position : List ℕ → Option (List ℕ) → Bound
and_position name None = name ∷ []
and_position name (Some at) = name ∷ at ∷ []

-- what each binding binds its names to, where those of the bindings before it are bound too
abbrev pub sources_bound : List Binding → PartTest
sources_bound [] bound = true
sources_bound (b ∷ bs) bound = b.source bound && sources_bound bs (bound ++ b.names)

-- the names of all bindings
abbrev pub names_of : List Binding → Bound
names_of [] = []
names_of (b ∷ bs) = b.names ++ names_of bs

-- what stands behind the bindings
abbrev pub behind : Option PartTest → List PartTest → PartTest → PartTest
behind filter keys result bound = if_there filter bound && (all_bound keys bound && result bound)

-- a binding: the variables of what it binds to, and the names that it binds
abbrev pub bind_step : Bind-F Binding PartTest PartTest PartTest PartTest PartTest PartTest → Binding
bind_step (Bind-F.For name at source) = record { source = source; names = and_position name at }
bind_step (Bind-F.Let name value) = record { source = value; names = name ∷ [] }

-- all variables of an expression are bound where those of its parts are; those behind bindings may use their names
abbrev pub expr_step : Expr-F Binding PartTest PartTest PartTest PartTest PartTest PartTest → PartTest
expr_step (Expr-F.Text value) bound = true
expr_step (Expr-F.Int value) bound = true
expr_step (Expr-F.Var name) bound = is_bound name bound
expr_step Expr-F.Context bound = true
expr_step (Expr-F.Seq parts) bound = all_bound parts bound
expr_step (Expr-F.Flwor binds filter keys result) bound = sources_bound binds bound && behind filter keys result (bound ++ names_of binds)
expr_step (Expr-F.If test good other) bound = test bound && (good bound && other bound)
expr_step (Expr-F.Or parts) bound = all_bound parts bound
expr_step (Expr-F.And parts) bound = all_bound parts bound
expr_step (Expr-F.Compare left op right) bound = left bound && right bound
expr_step (Expr-F.Range low high) bound = low bound && high bound
expr_step (Expr-F.Sum first rest) bound = first bound && all_bound rest bound
expr_step (Expr-F.Product first rest) bound = first bound && all_bound rest bound
expr_step (Expr-F.Union parts) bound = all_bound parts bound
expr_step (Expr-F.Signed signs inner) bound = inner bound
expr_step (Expr-F.Path start rest) bound = start bound && all_bound rest bound
expr_step (Expr-F.Filter inner preds) bound = inner bound && all_bound preds bound
expr_step (Expr-F.Fun name args) bound = all_bound args bound
expr_step (Expr-F.Doc name) bound = true
expr_step (Expr-F.Element name content) bound = if_there content bound
expr_step (Expr-F.Attribute name content) bound = if_there content bound
expr_step (Expr-F.TextNode content) bound = if_there content bound

-- the variables of the beginning of a path are those of its expression or of its step
abbrev pub start_step : Start-F Binding PartTest PartTest PartTest PartTest PartTest PartTest → PartTest
start_step (Start-F.Value inner) = inner
start_step (Start-F.First step) = step

-- the variables of a factor are those of its expression
abbrev pub product_step : ProductPart-F Binding PartTest PartTest PartTest PartTest PartTest PartTest → PartTest
product_step p = p.expr

-- the variables of a key are those of its expression
abbrev pub key_step : SortKey-F Binding PartTest PartTest PartTest PartTest PartTest PartTest → PartTest
key_step k = k.expr

-- the variables of a step are those of its predicates
abbrev pub step_step : Step-F Binding PartTest PartTest PartTest PartTest PartTest PartTest → PartTest
step_step s = all_bound s.preds

-- the variables of a summand are those of its expression
abbrev pub sum_step : SumPart-F Binding PartTest PartTest PartTest PartTest PartTest PartTest → PartTest
sum_step p = p.expr

-- all variables of an expression are bound, where these are bound around it
abbrev pub binds_in : Expr → PartTest
binds_in = fold-Expr Binding PartTest PartTest PartTest PartTest PartTest PartTest bind_step expr_step start_step product_step key_step step_step sum_step

-- what a binding binds its names to, and these names
abbrev pub bind_binding : Bind → Binding
bind_binding = fold-Bind Binding PartTest PartTest PartTest PartTest PartTest PartTest bind_step expr_step start_step product_step key_step step_step sum_step

-- all variables of the beginning of a path are bound, where these are bound around it
abbrev pub start_binds : Start → PartTest
start_binds = fold-Start Binding PartTest PartTest PartTest PartTest PartTest PartTest bind_step expr_step start_step product_step key_step step_step sum_step

-- all variables of a factor are bound, where these are bound around it
abbrev pub product_binds : ProductPart → PartTest
product_binds = fold-ProductPart Binding PartTest PartTest PartTest PartTest PartTest PartTest bind_step expr_step start_step product_step key_step step_step sum_step

-- all variables of a key are bound, where these are bound around it
abbrev pub key_binds : SortKey → PartTest
key_binds = fold-SortKey Binding PartTest PartTest PartTest PartTest PartTest PartTest bind_step expr_step start_step product_step key_step step_step sum_step

-- all variables of a step are bound, where these are bound around it
abbrev pub step_binds : Step → PartTest
step_binds = fold-Step Binding PartTest PartTest PartTest PartTest PartTest PartTest bind_step expr_step start_step product_step key_step step_step sum_step

-- all variables of a summand are bound, where these are bound around it
abbrev pub sum_binds : SumPart → PartTest
sum_binds = fold-SumPart Binding PartTest PartTest PartTest PartTest PartTest PartTest bind_step expr_step start_step product_step key_step step_step sum_step

-- all variables in the expressions of an update are bound; `replace` binds its own in what it puts there
abbrev pub are_bound_in_update : Update → Bool
are_bound_in_update (update.Into source target) = binds_in source [] && binds_in target []
are_bound_in_update (update.Preceding source target) = binds_in source [] && binds_in target []
are_bound_in_update (update.Following source target) = binds_in source [] && binds_in target []
are_bound_in_update (update.Delete target) = binds_in target []
are_bound_in_update (update.DeleteUndeep target) = binds_in target []
are_bound_in_update (update.Replace name target by) = binds_in target [] && binds_in by (name ∷ [])
are_bound_in_update (update.Rename target name) = binds_in target []

-- each variable of a call is bound where it stands
abbrev pub has_bound_variables : Call → Bool
has_bound_variables call.Begin = true
has_bound_variables call.BeginRead = true
has_bound_variables call.Commit = true
has_bound_variables call.Rollback = true
has_bound_variables call.Checkpoint = true
has_bound_variables call.ShowDocuments = true
has_bound_variables (call.Create name) = true
has_bound_variables (call.Drop name) = true
has_bound_variables (call.Load name pyx) = true
has_bound_variables (call.Export name) = true
has_bound_variables (call.Update what) = are_bound_in_update what
has_bound_variables (call.Query expr) = binds_in expr []
