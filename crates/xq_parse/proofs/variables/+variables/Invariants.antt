use Rattle.std.proofs.Common.{◌≡◌, ◌&&◌, ◌++◌, drop, map}
use Rattle.xq_ast.specs.Variables.{all_bound, sources_bound, names_of, binds_in, bind_binding, key_binds, sum_binds, product_binds, step_binds}
use Rattle.xq_parse.proofs.variables.+variables.Given as goal

abbrev pub invariant-are_bound-loop-expr : goal.invariant-are_bound-loop-expr
invariant-are_bound-loop-expr l =
    (l.bound ≡ l.initial.bound) × (all_bound (map binds_in (drop l.expr-index l.expr-items)) l.initial.bound ≡ all_bound (map binds_in l.expr-items) l.initial.bound)

abbrev pub invariant-keys_are_bound-loop-key : goal.invariant-keys_are_bound-loop-key
invariant-keys_are_bound-loop-key l =
    (l.bound ≡ l.initial.bound) × (all_bound (map key_binds (drop l.key-index l.key-items)) l.initial.bound ≡ all_bound (map key_binds l.key-items) l.initial.bound)

abbrev pub invariant-sum_is_bound-loop-part : goal.invariant-sum_is_bound-loop-part
invariant-sum_is_bound-loop-part l =
    (l.bound ≡ l.initial.bound) × (all_bound (map sum_binds (drop l.part-index l.part-items)) l.initial.bound ≡ all_bound (map sum_binds l.part-items) l.initial.bound)

abbrev pub invariant-product_is_bound-loop-part : goal.invariant-product_is_bound-loop-part
invariant-product_is_bound-loop-part l =
    (l.bound ≡ l.initial.bound) × (all_bound (map product_binds (drop l.part-index l.part-items)) l.initial.bound ≡ all_bound (map product_binds l.part-items) l.initial.bound)

abbrev pub invariant-steps_are_bound-loop-step : goal.invariant-steps_are_bound-loop-step
invariant-steps_are_bound-loop-step l =
    (l.bound ≡ l.initial.bound) × (all_bound (map step_binds (drop l.step-index l.step-items)) l.initial.bound ≡ all_bound (map step_binds l.step-items) l.initial.bound)

abbrev pub invariant-sources_are_bound-loop-bind : goal.invariant-sources_are_bound-loop-bind
invariant-sources_are_bound-loop-bind l = record {
  sources : (l.good && sources_bound (map bind_binding (drop l.bind-index l.bind-items)) l.bound)
      ≡ sources_bound (map bind_binding l.bind-items) l.initial.bound;
  names : l.bound ++ names_of (map bind_binding (drop l.bind-index l.bind-items)) ≡ l.initial.bound ++ names_of (map bind_binding l.bind-items);
}
