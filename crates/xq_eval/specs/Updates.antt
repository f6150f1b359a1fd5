-- The parts of an update.
use Rattle.xq_ast.specs.declared.tree.Expr.{Expr}
use Rattle.xq_ast.specs.declared.update.Update.{Update}
use Rattle.xq_ast.specs.declared.update.Update.TheVariants as update

-- the expression that gives the targets
abbrev pub target_expr : Update → Expr
target_expr (update.Into source target) = target
target_expr (update.Preceding source target) = target
target_expr (update.Following source target) = target
target_expr (update.Delete target) = target
target_expr (update.DeleteUndeep target) = target
target_expr (update.Replace name target by) = target
target_expr (update.Rename target name) = target
