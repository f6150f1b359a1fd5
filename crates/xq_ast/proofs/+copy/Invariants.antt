use Rattle.std.proofs.Common.{◌≡◌, take}
use Rattle.xq_ast.proofs.+copy.Given as goal

abbrev pub invariant-copy_tree::copy_exprs-loop-expr : goal.invariant-copy_tree::copy_exprs-loop-expr
invariant-copy_tree::copy_exprs-loop-expr l = l.all ≡ take l.expr-index l.expr-items

abbrev pub invariant-copy_tree::copy_binds-loop-bind : goal.invariant-copy_tree::copy_binds-loop-bind
invariant-copy_tree::copy_binds-loop-bind l = l.all ≡ take l.bind-index l.bind-items

abbrev pub invariant-copy_tree::copy_keys-loop-key : goal.invariant-copy_tree::copy_keys-loop-key
invariant-copy_tree::copy_keys-loop-key l = l.all ≡ take l.key-index l.key-items

abbrev pub invariant-copy_tree::copy_sum_parts-loop-part : goal.invariant-copy_tree::copy_sum_parts-loop-part
invariant-copy_tree::copy_sum_parts-loop-part l = l.all ≡ take l.part-index l.part-items

abbrev pub invariant-copy_tree::copy_product_parts-loop-part : goal.invariant-copy_tree::copy_product_parts-loop-part
invariant-copy_tree::copy_product_parts-loop-part l = l.all ≡ take l.part-index l.part-items

abbrev pub invariant-copy_tree::copy_steps-loop-step : goal.invariant-copy_tree::copy_steps-loop-step
invariant-copy_tree::copy_steps-loop-step l = l.all ≡ take l.step-index l.step-items
