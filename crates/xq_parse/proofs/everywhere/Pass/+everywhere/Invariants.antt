use Rattle.std.proofs.Common.{◌≡◌, drop, map}
use Rattle.xq_ast.specs.Everywhere.{all_true, everywhere, bind_everywhere, key_everywhere, sum_everywhere, product_everywhere, step_everywhere}
use Rattle.xq_parse.specs.Passes.{tests_of}
use Rattle.xq_parse.proofs.everywhere.Pass.+everywhere.Given as goal

abbrev pub invariant-exprs-loop-expr : goal.invariant-exprs-loop-expr
invariant-exprs-loop-expr l =
    all_true (map (everywhere (tests_of l.fn.self)) (drop l.expr-index l.expr-items)) ≡ all_true (map (everywhere (tests_of l.fn.self)) l.expr-items)

abbrev pub invariant-binds-loop-bind : goal.invariant-binds-loop-bind
invariant-binds-loop-bind l =
    all_true (map (bind_everywhere (tests_of l.fn.self)) (drop l.bind-index l.bind-items)) ≡ all_true (map (bind_everywhere (tests_of l.fn.self)) l.bind-items)

abbrev pub invariant-keys-loop-key : goal.invariant-keys-loop-key
invariant-keys-loop-key l =
    all_true (map (key_everywhere (tests_of l.fn.self)) (drop l.key-index l.key-items)) ≡ all_true (map (key_everywhere (tests_of l.fn.self)) l.key-items)

abbrev pub invariant-sum_parts-loop-part : goal.invariant-sum_parts-loop-part
invariant-sum_parts-loop-part l =
    all_true (map (sum_everywhere (tests_of l.fn.self)) (drop l.part-index l.part-items)) ≡ all_true (map (sum_everywhere (tests_of l.fn.self)) l.part-items)

abbrev pub invariant-product_parts-loop-part : goal.invariant-product_parts-loop-part
invariant-product_parts-loop-part l =
    all_true (map (product_everywhere (tests_of l.fn.self)) (drop l.part-index l.part-items)) ≡ all_true (map (product_everywhere (tests_of l.fn.self)) l.part-items)

abbrev pub invariant-steps-loop-step : goal.invariant-steps-loop-step
invariant-steps-loop-step l =
    all_true (map (step_everywhere (tests_of l.fn.self)) (drop l.step-index l.step-items)) ≡ all_true (map (step_everywhere (tests_of l.fn.self)) l.step-items)
