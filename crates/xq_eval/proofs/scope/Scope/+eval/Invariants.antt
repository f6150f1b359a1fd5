use Rattle.std.proofs.Common.{◌≡◌, ◌+◌, ◌*◌, ◌++◌, [], map, drop, length}
use Rattle.std.specs.FinMap as forests
use Rattle.std.specs.Option.{option_copied}
use Rattle.xml_model.specs.Items.{give, then_with}
use Rattle.xml_model.specs.Evaluation as spec
use Rattle.xml_model.specs.Tuples as tuples
use Rattle.xq_nodes.specs.Joins.{joined_seen, IsRight}
use Rattle.xq_functions.specs.Operands.{sum_seen, product_seen}
use Rattle.xq_values.specs.Rows.{row_seen}
use Rattle.xq_values.specs.Seen.{made_seen, node_seen}
use Rattle.xq_eval.specs.Meanings.{means, option_means, sum_means, product_means, step_means, bind_means, key_means}
use Rattle.xq_eval.specs.Scopes.{items_seen, variables_seen, context_seen}
use Rattle.xq_eval.specs.TuplesSeen.{keyed_seen, tuples_seen}
use Rattle.xq_eval.proofs.Weight.{total, weight, option_weight, bind_weight, key_weight, start_weight, step_weight, sum_weight, product_weight}
use Rattle.xq_eval.proofs.scope.Scope.+eval.Given as goal

abbrev pub decreases-eval : goal.decreases-eval
decreases-eval g l = 16 * weight l.expr.now + 1

abbrev pub decreases-value : goal.decreases-value
decreases-value g l = 16 * weight l.expr.now

abbrev pub decreases-sequence : goal.decreases-sequence
decreases-sequence g l = 16 * total (map weight l.parts.now) + 2

abbrev pub decreases-values : goal.decreases-values
decreases-values g l = 16 * total (map weight l.parts.now) + 2

abbrev pub decreases-truth : goal.decreases-truth
decreases-truth g l = 16 * weight l.expr.now + 2

abbrev pub decreases-any_of : goal.decreases-any_of
decreases-any_of g l = 16 * total (map weight l.parts.now) + 3

abbrev pub decreases-all_of : goal.decreases-all_of
decreases-all_of g l = 16 * total (map weight l.parts.now) + 3

abbrev pub decreases-or : goal.decreases-or
decreases-or g l = 16 * total (map weight l.parts.now) + 4

abbrev pub decreases-and : goal.decreases-and
decreases-and g l = 16 * total (map weight l.parts.now) + 4

abbrev pub decreases-choice : goal.decreases-choice
decreases-choice g l = 16 * (weight l.test.now + weight l.good.now + weight l.other.now) + 3

abbrev pub decreases-compare : goal.decreases-compare
decreases-compare g l = 16 * (weight l.left.now + weight l.right.now) + 2

abbrev pub decreases-range : goal.decreases-range
decreases-range g l = 16 * (weight l.low.now + weight l.high.now) + 2

abbrev pub decreases-sum_parts : goal.decreases-sum_parts
decreases-sum_parts g l = 16 * total (map sum_weight l.rest.now)

abbrev pub decreases-product_parts : goal.decreases-product_parts
decreases-product_parts g l = 16 * total (map product_weight l.rest.now)

abbrev pub decreases-sum : goal.decreases-sum
decreases-sum g l = 16 * (weight l.first.now + total (map sum_weight l.rest.now)) + 2

abbrev pub decreases-product : goal.decreases-product
decreases-product g l = 16 * (weight l.first.now + total (map product_weight l.rest.now)) + 2

abbrev pub decreases-union : goal.decreases-union
decreases-union g l = 16 * total (map weight l.parts.now) + 3

abbrev pub decreases-signed : goal.decreases-signed
decreases-signed g l = 16 * weight l.inner.now + 2

abbrev pub decreases-function : goal.decreases-function
decreases-function g l = 16 * total (map weight l.args.now) + 3

abbrev pub decreases-content : goal.decreases-content
decreases-content g l = 16 * option_weight l.content.now + 2

abbrev pub decreases-element : goal.decreases-element
decreases-element g l = 16 * option_weight l.content.now + 3

abbrev pub decreases-attribute : goal.decreases-attribute
decreases-attribute g l = 16 * option_weight l.content.now + 3

abbrev pub decreases-text_node : goal.decreases-text_node
decreases-text_node g l = 16 * option_weight l.content.now + 3

abbrev pub decreases-holds : goal.decreases-holds
decreases-holds g l = 16 * weight l.pred.now + 2

abbrev pub decreases-kept : goal.decreases-kept
decreases-kept g l = 16 * weight l.pred.now + 3

abbrev pub decreases-filtered : goal.decreases-filtered
decreases-filtered g l = 16 * total (map weight l.preds.now) + 4

abbrev pub decreases-filter : goal.decreases-filter
decreases-filter g l = 16 * (weight l.inner.now + total (map weight l.preds.now)) + 5

abbrev pub decreases-from_node : goal.decreases-from_node
decreases-from_node g l = 16 * step_weight l.step.now

abbrev pub decreases-from_each : goal.decreases-from_each
decreases-from_each g l = 16 * step_weight l.step.now + 1

abbrev pub decreases-stepped : goal.decreases-stepped
decreases-stepped g l = 16 * step_weight l.step.now + 2

abbrev pub decreases-path_from : goal.decreases-path_from
decreases-path_from g l = 16 * total (map step_weight l.steps.now) + 3

abbrev pub decreases-first_step : goal.decreases-first_step
decreases-first_step g l = 16 * step_weight l.step.now + 3

abbrev pub decreases-start : goal.decreases-start
decreases-start g l = 16 * start_weight l.start.now

abbrev pub decreases-path : goal.decreases-path
decreases-path g l = 16 * (start_weight l.start.now + total (map step_weight l.rest.now)) + 4

abbrev pub decreases-bind : goal.decreases-bind
decreases-bind g l = 16 * bind_weight l.bind.now

abbrev pub decreases-keyed : goal.decreases-keyed
decreases-keyed g l = 16 * total (map key_weight l.keys.now) + 1

abbrev pub decreases-stays : goal.decreases-stays
decreases-stays g l = 16 * option_weight l.filter.now + 2

abbrev pub decreases-tuple : goal.decreases-tuple
decreases-tuple g l = 16 * (option_weight l.filter.now + total (map key_weight l.keys.now)) + 3

abbrev pub decreases-tuples : goal.decreases-tuples
decreases-tuples g l = 16 * (total (map bind_weight l.binds.now) + option_weight l.filter.now + total (map key_weight l.keys.now)) + 4

abbrev pub decreases-within : goal.decreases-within
decreases-within g l = 16 * (total (map bind_weight l.binds.now) + option_weight l.filter.now + total (map key_weight l.keys.now)) + 5

abbrev pub decreases-each : goal.decreases-each
decreases-each g l = 16 * (total (map bind_weight l.binds.now) + option_weight l.filter.now + total (map key_weight l.keys.now)) + 6

abbrev pub decreases-returned : goal.decreases-returned
decreases-returned g l = 16 * weight l.body.now + 2

abbrev pub decreases-flwor : goal.decreases-flwor
decreases-flwor g l = 16 * (total (map bind_weight l.binds.now) + option_weight l.filter.now + total (map key_weight l.keys.now) + weight l.body.now) + 7

abbrev pub invariant-sequence-loop-part : goal.invariant-sequence-loop-part
invariant-sequence-loop-part g l =
    g.N.Nav.honest l.self.nav.now →
    then_with (spec.one_after_another (map (means (forests.get (g.N.Nav.forest l.self.nav.now))) (drop l.part-index l.parts)) (variables_seen
    (g.N.Nav.place l.self.nav.now) l.self.variables.now) (context_seen (g.N.Nav.place l.self.nav.now) (option_copied l.self.focus)) (made_seen
    l.made)) (λ rest. give (items_seen (g.N.Nav.place l.self.nav.now) l.all ++ rest))
    ≡ spec.one_after_another (map (means (forests.get (g.N.Nav.forest l.self.nav.now))) l.parts) (variables_seen (g.N.Nav.place l.self.nav.now)
    l.self.variables.now) (context_seen (g.N.Nav.place l.self.nav.now) (option_copied l.self.focus)) (made_seen l.fn.made)

abbrev pub invariant-values-loop-part : goal.invariant-values-loop-part
invariant-values-loop-part g l =
    g.N.Nav.honest l.self.nav.now →
    then_with (spec.values (map (means (forests.get (g.N.Nav.forest l.self.nav.now))) (drop l.part-index l.parts)) (variables_seen (g.N.Nav.place
    l.self.nav.now) l.self.variables.now) (context_seen (g.N.Nav.place l.self.nav.now) (option_copied l.self.focus)) (made_seen l.made)) (λ rest.
    give (map (items_seen (g.N.Nav.place l.self.nav.now)) l.all ++ rest))
    ≡ spec.values (map (means (forests.get (g.N.Nav.forest l.self.nav.now))) l.parts) (variables_seen (g.N.Nav.place l.self.nav.now)
    l.self.variables.now) (context_seen (g.N.Nav.place l.self.nav.now) (option_copied l.self.focus)) (made_seen l.fn.made)

abbrev pub invariant-any_of-loop-part : goal.invariant-any_of-loop-part
invariant-any_of-loop-part g l =
    g.N.Nav.honest l.self.nav.now →
    spec.any_of (map (means (forests.get (g.N.Nav.forest l.self.nav.now))) (drop l.part-index l.parts)) (variables_seen (g.N.Nav.place
    l.self.nav.now) l.self.variables.now) (context_seen (g.N.Nav.place l.self.nav.now) (option_copied l.self.focus)) (made_seen l.made) ≡
    spec.any_of (map (means (forests.get (g.N.Nav.forest l.self.nav.now))) l.parts) (variables_seen (g.N.Nav.place l.self.nav.now)
    l.self.variables.now) (context_seen (g.N.Nav.place l.self.nav.now) (option_copied l.self.focus)) (made_seen l.fn.made)

abbrev pub invariant-all_of-loop-part : goal.invariant-all_of-loop-part
invariant-all_of-loop-part g l =
    g.N.Nav.honest l.self.nav.now →
    spec.all_of (map (means (forests.get (g.N.Nav.forest l.self.nav.now))) (drop l.part-index l.parts)) (variables_seen (g.N.Nav.place
    l.self.nav.now) l.self.variables.now) (context_seen (g.N.Nav.place l.self.nav.now) (option_copied l.self.focus)) (made_seen l.made) ≡
    spec.all_of (map (means (forests.get (g.N.Nav.forest l.self.nav.now))) l.parts) (variables_seen (g.N.Nav.place l.self.nav.now)
    l.self.variables.now) (context_seen (g.N.Nav.place l.self.nav.now) (option_copied l.self.focus)) (made_seen l.fn.made)

abbrev pub invariant-sum_parts-loop-part : goal.invariant-sum_parts-loop-part
invariant-sum_parts-loop-part g l =
    g.N.Nav.honest l.self.nav.now →
    then_with (spec.parts (map (sum_means (forests.get (g.N.Nav.forest l.self.nav.now))) (drop l.part-index l.rest)) (variables_seen (g.N.Nav.place
    l.self.nav.now) l.self.variables.now) (context_seen (g.N.Nav.place l.self.nav.now) (option_copied l.self.focus)) (made_seen l.made)) (λ rest.
    give (map (sum_seen (g.N.Nav.place l.self.nav.now)) l.all ++ rest))
    ≡ spec.parts (map (sum_means (forests.get (g.N.Nav.forest l.self.nav.now))) l.rest) (variables_seen (g.N.Nav.place l.self.nav.now)
    l.self.variables.now) (context_seen (g.N.Nav.place l.self.nav.now) (option_copied l.self.focus)) (made_seen l.fn.made)

abbrev pub invariant-product_parts-loop-part : goal.invariant-product_parts-loop-part
invariant-product_parts-loop-part g l =
    g.N.Nav.honest l.self.nav.now →
    then_with (spec.parts (map (product_means (forests.get (g.N.Nav.forest l.self.nav.now))) (drop l.part-index l.rest)) (variables_seen
    (g.N.Nav.place l.self.nav.now) l.self.variables.now) (context_seen (g.N.Nav.place l.self.nav.now) (option_copied l.self.focus)) (made_seen
    l.made)) (λ rest. give (map (product_seen (g.N.Nav.place l.self.nav.now)) l.all ++ rest))
    ≡ spec.parts (map (product_means (forests.get (g.N.Nav.forest l.self.nav.now))) l.rest) (variables_seen (g.N.Nav.place l.self.nav.now)
    l.self.variables.now) (context_seen (g.N.Nav.place l.self.nav.now) (option_copied l.self.focus)) (made_seen l.fn.made)

abbrev pub invariant-kept-loop-i : goal.invariant-kept-loop-i
invariant-kept-loop-i g l =
    g.N.Nav.honest l.self.nav.now →
    then_with (spec.kept (λ item. item) (means (forests.get (g.N.Nav.forest l.self.nav.now)) l.pred) (variables_seen (g.N.Nav.place l.self.nav.now)
    l.self.variables.now) (length l.items) (l.i + 1) (items_seen (g.N.Nav.place l.self.nav.now) (drop (l.i) l.items)) (made_seen l.made)) (λ
    rest. give (items_seen (g.N.Nav.place l.self.nav.now) l.kept ++ rest))
    ≡ spec.kept (λ item. item) (means (forests.get (g.N.Nav.forest l.self.nav.now)) l.pred) (variables_seen (g.N.Nav.place l.self.nav.now)
    l.self.variables.now) (length l.items) 1 (items_seen (g.N.Nav.place l.self.nav.now) l.items) (made_seen l.fn.made)

abbrev pub invariant-filtered-loop-pred : goal.invariant-filtered-loop-pred
invariant-filtered-loop-pred g l =
    g.N.Nav.honest l.self.nav.now →
    spec.filtered (λ item. item) (map (means (forests.get (g.N.Nav.forest l.self.nav.now))) (drop l.pred-index l.preds)) (variables_seen
    (g.N.Nav.place l.self.nav.now) l.self.variables.now) (items_seen (g.N.Nav.place l.self.nav.now) l.left) (made_seen l.made)
    ≡ spec.filtered (λ item. item) (map (means (forests.get (g.N.Nav.forest l.self.nav.now))) l.preds) (variables_seen (g.N.Nav.place l.self.nav.now)
    l.self.variables.now) (items_seen (g.N.Nav.place l.self.nav.now) l.fn.items) (made_seen l.fn.made)

abbrev pub invariant-from_each-loop-n : goal.invariant-from_each-loop-n
invariant-from_each-loop-n g l =
    g.N.Nav.honest l.self.nav.now → IsRight (node_seen (g.N.Nav.place l.self.nav.now)) l.joining ×
    (spec.from_each ((step_means (forests.get (g.N.Nav.forest l.self.nav.now)) l.step).from_node (variables_seen (g.N.Nav.place l.self.nav.now)
    l.self.variables.now)) (joined_seen (node_seen (g.N.Nav.place l.self.nav.now)) l.joining) (map (node_seen (g.N.Nav.place l.self.nav.now))
    (drop l.n-index l.nodes)) (made_seen l.made)
    ≡ spec.from_each ((step_means (forests.get (g.N.Nav.forest l.self.nav.now)) l.step).from_node (variables_seen (g.N.Nav.place l.self.nav.now)
    l.self.variables.now)) [] (map (node_seen (g.N.Nav.place l.self.nav.now)) l.nodes) (made_seen l.fn.made))

abbrev pub invariant-path_from-loop-step : goal.invariant-path_from-loop-step
invariant-path_from-loop-step g l =
    g.N.Nav.honest l.self.nav.now →
    spec.path_from (forests.get (g.N.Nav.forest l.self.nav.now)) (map (step_means (forests.get (g.N.Nav.forest l.self.nav.now))) (drop l.step-index
    l.steps)) (variables_seen (g.N.Nav.place l.self.nav.now) l.self.variables.now) (items_seen (g.N.Nav.place l.self.nav.now) l.found) (made_seen
    l.made)
    ≡ spec.path_from (forests.get (g.N.Nav.forest l.self.nav.now)) (map (step_means (forests.get (g.N.Nav.forest l.self.nav.now))) l.steps)
    (variables_seen (g.N.Nav.place l.self.nav.now) l.self.variables.now) (items_seen (g.N.Nav.place l.self.nav.now) l.fn.found) (made_seen
    l.fn.made)

abbrev pub invariant-keyed-loop-i : goal.invariant-keyed-loop-i
invariant-keyed-loop-i g l =
    g.N.Nav.honest l.self.nav.now →
    tuples.keyed (forests.get (g.N.Nav.forest l.self.nav.now)) (map (key_means (forests.get (g.N.Nav.forest l.self.nav.now))) (drop (l.i) l.keys))
    (variables_seen (g.N.Nav.place l.self.nav.now) l.self.variables.now) (context_seen (g.N.Nav.place l.self.nav.now) (option_copied
    l.self.focus)) (drop (l.i) l.types) (keyed_seen l.all) (made_seen l.made)
    ≡ tuples.keyed (forests.get (g.N.Nav.forest l.self.nav.now)) (map (key_means (forests.get (g.N.Nav.forest l.self.nav.now))) l.keys)
    (variables_seen (g.N.Nav.place l.self.nav.now) l.self.variables.now) (context_seen (g.N.Nav.place l.self.nav.now) (option_copied
    l.self.focus)) l.types tuples.no_keys (made_seen l.fn.made)

abbrev pub invariant-each-loop-value : goal.invariant-each-loop-value
invariant-each-loop-value g l =
    (l.env ≡ l.fn.env) × (g.N.Nav.honest l.self.nav.now →
    tuples.each (forests.get (g.N.Nav.forest l.self.nav.now)) (tuples.tuples (forests.get (g.N.Nav.forest l.self.nav.now)) (map (bind_means
    (forests.get (g.N.Nav.forest l.self.nav.now))) l.binds) (option_means (forests.get (g.N.Nav.forest l.self.nav.now)) l.filter) (map (key_means
    (forests.get (g.N.Nav.forest l.self.nav.now))) l.keys)) (variables_seen (g.N.Nav.place l.self.nav.now) l.env) (context_seen (g.N.Nav.place
    l.self.nav.now) (option_copied l.self.focus)) (map (variables_seen (g.N.Nav.place l.self.nav.now)) (drop l.value-index l.values))
    (tuples_seen (g.N.Nav.place l.self.nav.now) l.found) (made_seen l.made)
    ≡ tuples.each (forests.get (g.N.Nav.forest l.self.nav.now)) (tuples.tuples (forests.get (g.N.Nav.forest l.self.nav.now)) (map (bind_means
    (forests.get (g.N.Nav.forest l.self.nav.now))) l.binds) (option_means (forests.get (g.N.Nav.forest l.self.nav.now)) l.filter) (map (key_means
    (forests.get (g.N.Nav.forest l.self.nav.now))) l.keys)) (variables_seen (g.N.Nav.place l.self.nav.now) l.env) (context_seen (g.N.Nav.place
    l.self.nav.now) (option_copied l.self.focus)) (map (variables_seen (g.N.Nav.place l.self.nav.now)) l.values) (tuples_seen (g.N.Nav.place
    l.self.nav.now) l.fn.found) (made_seen l.fn.made))

abbrev pub invariant-returned-loop-row : goal.invariant-returned-loop-row
invariant-returned-loop-row g l =
    g.N.Nav.honest l.self.nav.now →
    then_with (tuples.returned (means (forests.get (g.N.Nav.forest l.self.nav.now)) l.body) (context_seen (g.N.Nav.place l.self.nav.now)
    (option_copied l.self.focus)) (map (row_seen (g.N.Nav.place l.self.nav.now)) (drop l.row-index l.rows)) (made_seen l.made)) (λ rest. give
    (items_seen (g.N.Nav.place l.self.nav.now) l.all ++ rest))
    ≡ tuples.returned (means (forests.get (g.N.Nav.forest l.self.nav.now)) l.body) (context_seen (g.N.Nav.place l.self.nav.now) (option_copied
    l.self.focus)) (map (row_seen (g.N.Nav.place l.self.nav.now)) l.rows) (made_seen l.fn.made)
