use Rattle.std.proofs.Common.{◌≡◌, ◌<◌, ◌≤◌, ◌+◌, ◌-◌, ◌*◌, ◌++◌, ◌∷◌, [], List, Result, map, drop, take, length, sym, ap, ◌∙◌, subst, arith, Ok}
use Rattle.std.specs.Prelude.{if◌then◌else◌}
use Rattle.std.specs.FinMap as forests
use Rattle.std.specs.Option.{option_copied}
use Rattle.xq_ast.specs.declared.code.Code.{Code}
use Rattle.xq_ast.specs.declared.code.Code.TheVariants.{XPTY0019}
use Rattle.xq_ast.specs.declared.tree.Bind.TheOpen.{Expr-F}
use Rattle.xml_model.specs.Atoms.{effective_boolean, compares, operated, range_of}
use Rattle.xml_model.specs.Constructors as constructors
use Rattle.xml_model.specs.Evaluation as spec
use Rattle.xml_model.specs.FunctionAnswers.{context_item, call_function}
use Rattle.xml_model.specs.Items.{NodeAt, node, give, then_with, plain, construct}
use Rattle.xml_model.specs.Nodes.{atomized, tested, nodes_or, united_all}
use Rattle.xml_model.specs.Place.{an_attribute}
use Rattle.xml_model.specs.Tuples as tuples
use Rattle.xq_functions.specs.Focuses.{focus_seen}
use Rattle.xq_values.specs.Rows.{row_seen}
use Rattle.xq_values.specs.Seen.{made_seen, node_seen}
use Rattle.xq_values.specs.declared.item.Item.TheVariants as item
use Rattle.xq_eval.specs.Bound.{variable_of, bound_of}
use Rattle.xq_ast.specs.declared.step.Axis.TheVariants.{Descendant, DescendantOrSelf}
use Rattle.xq_ast.specs.declared.step.Test.TheVariants.{AnyNode}
use Rattle.xq_eval.specs.Meanings.{means, value_means, option_means, sum_means, product_means, step_means, bind_means, key_means, start_means}
use Rattle.xq_eval.specs.Paths.{tested_each}
use Rattle.xq_eval.specs.NodesAmong.{nodes_among, ids_among}
use Rattle.xq_eval.specs.Predicates.{holds_in}
use Rattle.xq_eval.specs.Scopes.{items_seen, variables_seen, context_seen, without_trees}
use Rattle.xq_eval.specs.TuplesSeen.{keyed_seen, tuples_seen}
use Rattle.xq_eval.proofs.Counted.{means_counted}
use Rattle.xq_eval.proofs.DeepSteps.{tested_plain, deep_children}
use Rattle.xq_eval.proofs.Endings.{same, looked, exits, exits_looking, exits_plainly, exits_code, exits_no_memory}
use Rattle.xq_eval.proofs.Forms as forms
use Rattle.xq_eval.proofs.KeysLeft.{others_left}
use Rattle.xq_eval.proofs.Lists.{entries_seen, ids_seen, bound_seen, directions_are, opened, others}
use Rattle.xq_eval.proofs.NodesFiltered.{mapped, nodes_filtered}
use Rattle.xq_eval.proofs.Steps.{goes_on, stops, looks_on, looks_no_more, given}
use Rattle.xq_eval.proofs.Turns.{left_with}
use Rattle.xq_eval.proofs.Weight.{total, weight, option_weight, bind_weight, key_weight, start_weight, step_weight, sum_weight, product_weight, bind_holds, item_below, weight-Seq, weight-Flwor, weight-If, weight-Or, weight-And, weight-Compare, weight-Range, weight-Sum, weight-Product, weight-Union, weight-Signed, weight-Path, weight-Filter, weight-Fun, weight-Element, weight-Attribute, weight-TextNode, weight-For, weight-Let, weight-Value, weight-First, weight-ProductPart, weight-SortKey, weight-Step, weight-SumPart}
use Rattle.xq_eval.proofs.scope.Scope.+eval.Goals as goal

pub and-returns : goal.and-returns
and-returns g t c =
    let nav = c.args.self.now.nav.now in
    let place = g.N.Nav.place nav in
    λ w. goes_on _ (c.in_ok-is_true.ensures w) ∙ (given (sym (c.in_ok-truth_value.ensures place)))

pub attribute-returns-in_err-value : goal.attribute-returns-in_err-value
attribute-returns-in_err-value g t c =
    let nav = c.args.self.now.nav.now in
    let scope = c.args.self.now in
    let docs = forests.get (g.N.Nav.forest nav) in
    let place = g.N.Nav.place nav in
    let env = variables_seen place scope.variables.now in
    let cx = context_seen place (option_copied scope.focus) in
    let before = made_seen c.args.made.now in
    let fx : constructors.limited_text (constructors.spaced (atomized docs (made_seen c.as_slice.result.now) (items_seen place
    c.as_slice-2.result.now))) ≡ constructors.limited_text (constructors.spaced (atomized docs (made_seen c.content.new.made) (items_seen place
    c.in_ok-found.found))) = λ i. constructors.limited_text (constructors.spaced (atomized docs (made_seen (c.as_slice.ensures i)) (items_seen
    place (c.as_slice-2.ensures i)))) in
    exits_looking (g.N.Nav.honest nav) (g.N.Nav.passes nav) (λ b. b) (items_seen place) c.from_residual-in_err-value.result c.in_err-value.field-0.0
    (made_seen c.content.new.made) (constructors.limited_text (constructors.spaced (atomized docs (made_seen c.as_slice.result.now) (items_seen
    place c.as_slice-2.result.now)))) (spec.value_of docs (Expr-F.Attribute c.args.name.now (option_means docs c.args.content.now)) env cx
    before) c.from_residual-in_err-value.ensures.1 (λ w code q. stops _ (goes_on _ (c.in_ok-found.ensures w) ∙ looks_no_more _ (sym fx ∙ q)))
    c.in_err-value.ensures

pub attribute-returns : goal.attribute-returns
attribute-returns g t c =
    let nav = c.args.self.now.nav.now in
    let docs = forests.get (g.N.Nav.forest nav) in
    let place = g.N.Nav.place nav in
    let fx : constructors.limited_text (constructors.spaced (atomized docs (made_seen c.as_slice.result.now) (items_seen place
    c.as_slice-2.result.now))) ≡ constructors.limited_text (constructors.spaced (atomized docs (made_seen c.content.new.made) (items_seen place
    c.in_ok-found.found))) = λ i. constructors.limited_text (constructors.spaced (atomized docs (made_seen (c.as_slice.ensures i)) (items_seen
    place (c.as_slice-2.ensures i)))) in
    λ w. goes_on _ (goes_on _ (c.in_ok-found.ensures w) ∙ looks_on (sym fx ∙ c.in_ok-value.ensures w)) ∙ (ap (λ n. construct (an_attribute (record {
      name = n;
      value = c.in_ok-value.value;
    })) (made_seen c.content.new.made)) (sym c.in_ok-name.ensures) ∙ (c.in_ok-constructed.ensures place))

pub bind-returns-in_err-found-in-For : goal.bind-returns-in_err-found-in-For
bind-returns-in_err-found-in-For g t c =
    let nav = c.args.self.now.nav.now in
    let scope = c.args.self.now in
    let docs = forests.get (g.N.Nav.forest nav) in
    let place = g.N.Nav.place nav in
    let env = variables_seen place scope.variables.now in
    let cx = context_seen place (option_copied scope.focus) in
    let before = made_seen c.args.made.now in
    exits (g.N.Nav.honest nav) (g.N.Nav.passes nav) (items_seen place) (map (variables_seen place)) c.from_residual.result
    c.in_err-found-in-For.field-0.0 (made_seen c.eval.new.made) (made_seen c.eval.new.made) (means docs c.in-For.source env cx before)
    (bind_means docs c.args.bind.now env cx before) c.from_residual.ensures.1 (λ w code q. ap (λ f. f env cx before) (ap (bind_means docs)
    c.in-For.is ∙ forms.bind-For docs c.in-For.name c.in-For.at c.in-For.source) ∙ (stops _ q)) c.in_err-found-in-For.ensures

pub bind-returns-in_err-found-in-Let : goal.bind-returns-in_err-found-in-Let
bind-returns-in_err-found-in-Let g t c =
    let nav = c.args.self.now.nav.now in
    let scope = c.args.self.now in
    let docs = forests.get (g.N.Nav.forest nav) in
    let place = g.N.Nav.place nav in
    let env = variables_seen place scope.variables.now in
    let cx = context_seen place (option_copied scope.focus) in
    let before = made_seen c.args.made.now in
    exits (g.N.Nav.honest nav) (g.N.Nav.passes nav) (items_seen place) (map (variables_seen place)) c.from_residual-in_err-found-in-Let.result
    c.in_err-found-in-Let.field-0.0 (made_seen c.eval-in-Let.new.made) (made_seen c.eval-in-Let.new.made) (means docs c.in-Let.value env cx
    before) (bind_means docs c.args.bind.now env cx before) c.from_residual-in_err-found-in-Let.ensures.1 (λ w code q. ap (λ f. f env cx before)
    (ap (bind_means docs) c.in-Let.is ∙ forms.bind-Let docs c.in-Let.name c.in-Let.value) ∙ (stops _ q)) c.in_err-found-in-Let.ensures

pub bind-returns-in_ok-of_items-in-For : goal.bind-returns-in_ok-of_items-in-For
bind-returns-in_ok-of_items-in-For g t c =
    let nav = c.args.self.now.nav.now in
    let scope = c.args.self.now in
    let docs = forests.get (g.N.Nav.forest nav) in
    let place = g.N.Nav.place nav in
    let env = variables_seen place scope.variables.now in
    let cx = context_seen place (option_copied scope.focus) in
    let before = made_seen c.args.made.now in
    λ w. ap (λ f. f env cx before) (ap (bind_means docs) c.in-For.is ∙ forms.bind-For docs c.in-For.name c.in-For.at c.in-For.source) ∙ (goes_on _
    (c.in_ok-found-in-For.ensures w) ∙ (given (sym (ap (map (variables_seen place)) (c.in_ok-of_items-in-For.ensures ∙ ap (λ all. bound_of
    c.in-For.name c.in-For.at 1 all) c.as_slice.ensures) ∙ bound_seen docs place c.in-For.name c.in-For.at 1 c.in_ok-found-in-For.found))))

pub bind-returns-in_ok-of_value-in-Let : goal.bind-returns-in_ok-of_value-in-Let
bind-returns-in_ok-of_value-in-Let g t c =
    let nav = c.args.self.now.nav.now in
    let scope = c.args.self.now in
    let docs = forests.get (g.N.Nav.forest nav) in
    let place = g.N.Nav.place nav in
    let env = variables_seen place scope.variables.now in
    let cx = context_seen place (option_copied scope.focus) in
    let before = made_seen c.args.made.now in
    λ w. ap (λ f. f env cx before) (ap (bind_means docs) c.in-Let.is ∙ forms.bind-Let docs c.in-Let.name c.in-Let.value) ∙ (goes_on _
    (c.in_ok-found-in-Let.ensures w) ∙ (given (sym (ap (map (variables_seen place)) (c.in_ok-of_value-in-Let.ensures ∙ ap (λ v. (variable_of
    c.in-Let.name v ∷ []) ∷ []) c.in_ok-items-in-Let.ensures)))))

pub compare-returns-in_err-is_true : goal.compare-returns-in_err-is_true
compare-returns-in_err-is_true g t c =
    let nav = c.args.self.now.nav.now in
    let scope = c.args.self.now in
    let docs = forests.get (g.N.Nav.forest nav) in
    let place = g.N.Nav.place nav in
    let env = variables_seen place scope.variables.now in
    let cx = context_seen place (option_copied scope.focus) in
    let before = made_seen c.args.made.now in
    let fx : compares c.args.op (atomized docs (made_seen c.as_slice.result.now) (items_seen place c.as_slice-2.result.now)) (atomized docs
    (made_seen c.as_slice.result.now) (items_seen place c.as_slice-3.result.now)) ≡ compares c.args.op (atomized docs (made_seen
    c.eval-2.new.made) (items_seen place c.in_ok-a.a)) (atomized docs (made_seen c.eval-2.new.made) (items_seen place c.in_ok-b.b)) = λ i.
    compares c.args.op (atomized docs (made_seen (c.as_slice.ensures i)) (items_seen place (c.as_slice-2.ensures i))) (atomized docs (made_seen
    (c.as_slice.ensures i)) (items_seen place (c.as_slice-3.ensures i))) in
    exits_looking (g.N.Nav.honest nav) (g.N.Nav.passes nav) (λ b. b) (items_seen place) c.from_residual-in_err-is_true.result
    c.in_err-is_true.field-0.0 (made_seen c.eval-2.new.made) (compares c.args.op (atomized docs (made_seen c.as_slice.result.now) (items_seen
    place c.as_slice-2.result.now)) (atomized docs (made_seen c.as_slice.result.now) (items_seen place c.as_slice-3.result.now))) (spec.value_of
    docs (Expr-F.Compare (means docs c.args.left.now) c.args.op (means docs c.args.right.now)) env cx before)
    c.from_residual-in_err-is_true.ensures.1 (λ w code q. goes_on _ (c.in_ok-a.ensures w) ∙ (goes_on _ (c.in_ok-b.ensures w) ∙ (stops _
    (looks_no_more _ (sym fx ∙ q))))) c.in_err-is_true.ensures

pub compare-returns : goal.compare-returns
compare-returns g t c =
    let nav = c.args.self.now.nav.now in
    let docs = forests.get (g.N.Nav.forest nav) in
    let place = g.N.Nav.place nav in
    let fx : compares c.args.op (atomized docs (made_seen c.as_slice.result.now) (items_seen place c.as_slice-2.result.now)) (atomized docs
    (made_seen c.as_slice.result.now) (items_seen place c.as_slice-3.result.now)) ≡ compares c.args.op (atomized docs (made_seen
    c.eval-2.new.made) (items_seen place c.in_ok-a.a)) (atomized docs (made_seen c.eval-2.new.made) (items_seen place c.in_ok-b.b)) = λ i.
    compares c.args.op (atomized docs (made_seen (c.as_slice.ensures i)) (items_seen place (c.as_slice-2.ensures i))) (atomized docs (made_seen
    (c.as_slice.ensures i)) (items_seen place (c.as_slice-3.ensures i))) in
    λ w. goes_on _ (c.in_ok-a.ensures w) ∙ (goes_on _ (c.in_ok-b.ensures w) ∙ (goes_on _ (looks_on (sym fx ∙ c.in_ok-is_true.ensures w)) ∙ (given
    (sym (c.in_ok-truth_value.ensures place)))))

pub each-returns-in_err-found-clause-gives : goal.each-returns-in_err-found-clause-gives
each-returns-in_err-found-clause-gives g t c =
    let nav = c.args.self.now.nav.now in
    let scope = c.args.self.now in
    let docs = forests.get (g.N.Nav.forest nav) in
    let place = g.N.Nav.place nav in
    let cx = context_seen place (option_copied scope.focus) in
    let before = made_seen c.args.made.now in
    exits (g.N.Nav.honest nav) (g.N.Nav.passes nav) (tuples_seen place) (tuples_seen place) c.from_residual.result c.in_err-found.field-0.0
    (made_seen c.within.new.made) (made_seen c.within.new.made) ((tuples.tuples docs (map (bind_means docs) c.args.binds.now) (option_means docs
    c.args.filter.now) (map (key_means docs) c.args.keys.now)) (variables_seen place c.loop-value.env ++ variables_seen place
    c.as_slice.result.now) cx (tuples_seen place c.loop-value.found) (made_seen c.loop-value.made)) (tuples.each docs (tuples.tuples docs (map
    (bind_means docs) c.args.binds.now) (option_means docs c.args.filter.now) (map (key_means docs) c.args.keys.now)) (variables_seen place
    c.args.env.now) cx (map (variables_seen place) c.args.values.now) (tuples_seen place c.args.found) before) c.from_residual.ensures.1 (λ w
    code q. ap (λ e. tuples.each docs (tuples.tuples docs (map (bind_means docs) c.args.binds.now) (option_means docs c.args.filter.now) (map
    (key_means docs) c.args.keys.now)) (variables_seen place e) cx (map (variables_seen place) c.args.values.now) (tuples_seen place
    c.args.found) before) (sym c.loop-value.invariant.0) ∙ (sym (c.loop-value.invariant.1 w) ∙ (ap (λ vs. tuples.each docs (tuples.tuples docs
    (map (bind_means docs) c.args.binds.now) (option_means docs c.args.filter.now) (map (key_means docs) c.args.keys.now)) (variables_seen place
    c.loop-value.env) cx vs (tuples_seen place c.loop-value.found) (made_seen c.loop-value.made)) (left_with (variables_seen place)
    c.args.values.now c.loop-value.value-index c.value-item.result c.value-item.is (omega arith)) ∙ (stops _ (ap (λ v. (tuples.tuples docs (map
    (bind_means docs) c.args.binds.now) (option_means docs c.args.filter.now) (map (key_means docs) c.args.keys.now)) (variables_seen place
    c.loop-value.env ++ variables_seen place v) cx (tuples_seen place c.loop-value.found) (made_seen c.loop-value.made)) (sym c.as_slice.ensures)
    ∙ q))))) c.in_err-found.ensures.gives

pub each-loop-value-preserved : goal.each-loop-value-preserved
each-loop-value-preserved g t c =
    let nav = c.args.self.now.nav.now in
    let scope = c.args.self.now in
    let docs = forests.get (g.N.Nav.forest nav) in
    let place = g.N.Nav.place nav in
    let cx = context_seen place (option_copied scope.focus) in
    let before = made_seen c.args.made.now in (
      c.in_ok-found.ensures.same ∙ c.loop-value.invariant.0,
      λ w. subst (λ e. tuples.each docs (tuples.tuples docs (map (bind_means docs) c.args.binds.now) (option_means docs c.args.filter.now) (map
          (key_means docs) c.args.keys.now)) (variables_seen place e) cx (map (variables_seen place) (drop (c.loop-value.value-index + 1)
          c.args.values.now)) (tuples_seen place c.in_ok-found.found) (made_seen c.within.new.made) ≡ tuples.each docs (tuples.tuples docs (map
          (bind_means docs) c.args.binds.now) (option_means docs c.args.filter.now) (map (key_means docs) c.args.keys.now)) (variables_seen place e) cx
          (map (variables_seen place) c.args.values.now) (tuples_seen place c.args.found) before)
          (sym c.in_ok-found.ensures.same) (sym (ap (λ vs. tuples.each docs (tuples.tuples docs (map (bind_means docs) c.args.binds.now) (option_means docs
          c.args.filter.now) (map (key_means docs) c.args.keys.now)) (variables_seen place c.loop-value.env) cx vs (tuples_seen place
          c.loop-value.found) (made_seen c.loop-value.made)) (left_with (variables_seen place) c.args.values.now c.loop-value.value-index
          c.value-item.result c.value-item.is (omega arith)) ∙ (goes_on _ (ap (λ v. (tuples.tuples docs (map (bind_means docs) c.args.binds.now)
          (option_means docs c.args.filter.now) (map (key_means docs) c.args.keys.now)) (variables_seen place c.loop-value.env ++ variables_seen place
          v) cx (tuples_seen place c.loop-value.found) (made_seen c.loop-value.made)) (sym c.as_slice.ensures) ∙ c.in_ok-found.ensures.gives w))) ∙
          c.loop-value.invariant.1 w),
    )

pub element-returns : goal.element-returns
element-returns g t c =
    let nav = c.args.self.now.nav.now in
    let docs = forests.get (g.N.Nav.forest nav) in
    let place = g.N.Nav.place nav in
    let fx : constructors.element c.args.name.now (constructors.content_of docs (made_seen c.as_slice.result.now) (items_seen place
    c.as_slice-2.result.now)) ≡ constructors.element c.args.name.now (constructors.content_of docs (made_seen c.content.new.made) (items_seen
    place c.in_ok-found.found)) = λ i. constructors.element c.args.name.now (constructors.content_of docs (made_seen (c.as_slice.ensures i))
    (items_seen place (c.as_slice-2.ensures i))) in
    λ w. goes_on _ (goes_on _ (c.in_ok-found.ensures w) ∙ looks_on (sym fx ∙ c.in_ok-node.ensures w)) ∙ (c.in_ok-constructed.ensures place)

pub eval-returns-in_err-found : goal.eval-returns-in_err-found
eval-returns-in_err-found g t c =
    let nav = c.args.self.now.nav.now in
    let scope = c.args.self.now in
    let docs = forests.get (g.N.Nav.forest nav) in
    let place = g.N.Nav.place nav in
    let env = variables_seen place scope.variables.now in
    let cx = context_seen place (option_copied scope.focus) in
    let before = made_seen c.args.made.now in
    exits (g.N.Nav.honest nav) (g.N.Nav.passes nav) (items_seen place) (items_seen place) c.from_residual.result c.in_err-found.field-0.0 (made_seen
    c.value.new.made) (made_seen c.value.new.made) (value_means docs c.args.expr.now env cx before) (means docs c.args.expr.now env cx before)
    c.from_residual.ensures.1 (λ w code q. means_counted docs c.args.expr.now env cx before ∙ (stops _ q)) c.in_err-found.ensures

pub eval-returns-in_err-counted : goal.eval-returns-in_err-counted
eval-returns-in_err-counted g t c =
    let nav = c.args.self.now.nav.now in
    let scope = c.args.self.now in
    let docs = forests.get (g.N.Nav.forest nav) in
    let place = g.N.Nav.place nav in
    let env = variables_seen place scope.variables.now in
    let cx = context_seen place (option_copied scope.focus) in
    let before = made_seen c.args.made.now in
    exits_code (g.N.Nav.honest nav) (g.N.Nav.passes nav) (items_seen place) c.from_residual-in_err-counted.result c.in_err-counted.field-0.0
    (made_seen c.value.new.made) (means docs c.args.expr.now env cx before) c.from_residual-in_err-counted.ensures.1 (λ w. means_counted docs
    c.args.expr.now env cx before ∙ (goes_on _ (c.in_ok-found.ensures w) ∙ (c.in_err-counted.ensures place (made_seen c.value.new.made))))

pub eval-returns : goal.eval-returns
eval-returns g t c =
    let nav = c.args.self.now.nav.now in
    let scope = c.args.self.now in
    let docs = forests.get (g.N.Nav.forest nav) in
    let place = g.N.Nav.place nav in
    let env = variables_seen place scope.variables.now in
    let cx = context_seen place (option_copied scope.focus) in
    let before = made_seen c.args.made.now in
    λ w. means_counted docs c.args.expr.now env cx before ∙ (goes_on _ (c.in_ok-found.ensures w) ∙ (c.in_ok-counted.ensures place (made_seen
    c.value.new.made)))

pub first_step-returns : goal.first_step-returns
first_step-returns g t c =
    let nav = c.args.self.now.nav.now in
    let place = g.N.Nav.place nav in
    λ w. goes_on _ (goes_on _ (looks_on (c.in_ok-nodes.ensures place)) ∙ c.in_ok-left.ensures w) ∙ (given (sym (c.in_ok-found_nodes.ensures place)))

pub flwor-returns : goal.flwor-returns
flwor-returns g t c =
    let nav = c.args.self.now.nav.now in
    let scope = c.args.self.now in
    let docs = forests.get (g.N.Nav.forest nav) in
    let place = g.N.Nav.place nav in
    let env = variables_seen place scope.variables.now in
    let cx = context_seen place (option_copied scope.focus) in
    let before = made_seen c.args.made.now in
    same (g.N.Nav.honest nav) (g.N.Nav.passes nav) (items_seen place) c.returned.result (made_seen c.returned.new.made) (tuples.returned (means docs
    c.args.body.now) cx (map (row_seen place) c.as_slice.result.now) (made_seen c.tuples.new.made)) (spec.value_of docs (Expr-F.Flwor (map
    (bind_means docs) c.args.binds.now) (option_means docs c.args.filter.now) (map (key_means docs) c.args.keys.now) (means docs
    c.args.body.now)) env cx before)
    (λ w. ap (λ rows. tuples.returned (means docs c.args.body.now) cx (map (row_seen place) rows) (made_seen c.tuples.new.made)) c.as_slice.ensures ∙
    sym (goes_on _ (ap (λ e. tuples.tuples docs (map (bind_means docs) c.args.binds.now) (option_means docs c.args.filter.now) (map (key_means
    docs) c.args.keys.now) (variables_seen place e) cx tuples.no_tuples before) (sym c.in_ok-env.ensures) ∙ (ap (λ t. tuples.tuples docs (map
    (bind_means docs) c.args.binds.now) (option_means docs c.args.filter.now) (map (key_means docs) c.args.keys.now) (variables_seen place
    c.in_ok-env.env) cx t before) (sym (c.no_tuples-start.ensures place)) ∙ c.in_ok-found.ensures.gives w))
    ∙ ap (λ rows. tuples.returned (means docs c.args.body.now) cx rows (made_seen c.tuples.new.made)) (ap (λ ds. tuples.rows_placed ds (tuples_seen
    place c.in_ok-found.found).rows []) (directions_are docs c.args.keys.now) ∙ sym (c.in_ok-rows.ensures place)))) c.returned.ensures

pub from_each-loop-n-init : goal.from_each-loop-n-init
from_each-loop-n-init g t c =
    let nav = c.args.self.now.nav.now in
    let scope = c.args.self.now in
    let docs = forests.get (g.N.Nav.forest nav) in
    let place = g.N.Nav.place nav in
    let env = variables_seen place scope.variables.now in
    let before = made_seen c.args.made.now in
    λ w. (
      c.new-joining.ensures.right place,
      ap (λ j. spec.from_each ((step_means docs c.args.step.now).from_node env) j (map (node_seen place)
          c.args.nodes.now) before) (c.new-joining.ensures.none place),
    )

pub from_node-returns-in_err-left : goal.from_node-returns-in_err-left
from_node-returns-in_err-left g t c =
    let nav = c.args.self.now.nav.now in
    let scope = c.args.self.now in
    let docs = forests.get (g.N.Nav.forest nav) in
    let place = g.N.Nav.place nav in
    let env = variables_seen place scope.variables.now in
    let before = made_seen c.args.made.now in
    let fx : (let r : Result (List NodeAt) Code = Ok (tested docs (made_seen c.as_slice.result.now) c.args.step.now.axis c.args.step.now.test
    (node_seen place c.args.n.now)) in r) ≡ Ok (tested docs before c.args.step.now.axis c.args.step.now.test (node_seen place c.args.n.now)) = ap
    (λ made. Ok (tested docs (made_seen made) c.args.step.now.axis c.args.step.now.test (node_seen place c.args.n.now))) c.as_slice.ensures in
    exits (g.N.Nav.honest nav) (g.N.Nav.passes nav) (items_seen place) (map (node_seen place)) c.from_residual-in_err-left.result
    c.in_err-left.field-0.0 (made_seen c.filtered.new.made) (made_seen c.filtered.new.made) (spec.filtered (λ item. item) (map (means docs)
    c.as_slice-3.result.now) env (items_seen place c.in_ok-items.items) before) ((step_means docs c.args.step.now).from_node env (node_seen place
    c.args.n.now) before) c.from_residual-in_err-left.ensures.1 (λ w code q. ap (λ r. then_with (plain r before) (spec.filtered node (map (means
    docs) c.args.step.now.preds) env)) (sym fx ∙ c.in_ok-nodes.ensures w) ∙ (nodes_filtered (map (means docs) c.args.step.now.preds) env (map
    (node_seen place) c.in_ok-nodes.nodes) before ∙ (ap (mapped nodes_among) (ap (λ it. spec.filtered (λ item. item) (map (means docs)
    c.args.step.now.preds) env it before) (sym (ap (items_seen place) (c.in_ok-items.ensures ∙ ap (λ all. map item.Node all)
    c.as_slice-2.ensures) ∙ entries_seen place c.in_ok-nodes.nodes)) ∙ (ap (λ ps. spec.filtered (λ item. item) (map (means docs) ps) env
    (items_seen place c.in_ok-items.items) before) (sym c.as_slice-3.ensures) ∙ q))))) c.in_err-left.ensures

pub from_node-returns : goal.from_node-returns
from_node-returns g t c =
    let nav = c.args.self.now.nav.now in
    let scope = c.args.self.now in
    let docs = forests.get (g.N.Nav.forest nav) in
    let place = g.N.Nav.place nav in
    let env = variables_seen place scope.variables.now in
    let before = made_seen c.args.made.now in
    let fx : (let r : Result (List NodeAt) Code = Ok (tested docs (made_seen c.as_slice.result.now) c.args.step.now.axis c.args.step.now.test
    (node_seen place c.args.n.now)) in r) ≡ Ok (tested docs before c.args.step.now.axis c.args.step.now.test (node_seen place c.args.n.now)) = ap
    (λ made. Ok (tested docs (made_seen made) c.args.step.now.axis c.args.step.now.test (node_seen place c.args.n.now))) c.as_slice.ensures in
    λ w. ap (λ r. then_with (plain r before) (spec.filtered node (map (means docs) c.args.step.now.preds) env)) (sym fx ∙ c.in_ok-nodes.ensures w) ∙
    (nodes_filtered (map (means docs) c.args.step.now.preds) env (map (node_seen place) c.in_ok-nodes.nodes) before ∙ (ap (mapped nodes_among)
    (ap (λ it. spec.filtered (λ item. item) (map (means docs) c.args.step.now.preds) env it before) (sym (ap (items_seen place)
    (c.in_ok-items.ensures ∙ ap (λ all. map item.Node all) c.as_slice-2.ensures) ∙ entries_seen place c.in_ok-nodes.nodes)) ∙ (ap (λ ps.
    spec.filtered (λ item. item) (map (means docs) ps) env (items_seen place c.in_ok-items.items) before) (sym c.as_slice-3.ensures) ∙
    c.in_ok-left.ensures w)) ∙ (given (sym (ap (map (node_seen place)) (c.in_ok-nodes_among.ensures ∙ ap ids_among c.as_slice-4.ensures) ∙
    ids_seen place c.in_ok-left.left)))))

pub function-returns-in_err-all : goal.function-returns-in_err-all
function-returns-in_err-all g t c =
    let nav = c.args.self.now.nav.now in
    let scope = c.args.self.now in
    let docs = forests.get (g.N.Nav.forest nav) in
    let place = g.N.Nav.place nav in
    let env = variables_seen place scope.variables.now in
    let cx = context_seen place (option_copied scope.focus) in
    let before = made_seen c.args.made.now in
    let fx : call_function docs (made_seen c.as_slice.result.now) cx c.args.name.now (map (items_seen place) c.as_slice-2.result.now) ≡ call_function
    docs (made_seen c.values.new.made) cx c.args.name.now (map (items_seen place) c.in_ok-lists.lists) = λ i. call_function docs (made_seen
    (c.as_slice.ensures i)) cx c.args.name.now (map (items_seen place) (c.as_slice-2.ensures i)) in
    exits_looking (g.N.Nav.honest nav) (g.N.Nav.passes nav) (items_seen place) (items_seen place) c.from_residual-in_err-all.result
    c.in_err-all.field-0.0 (made_seen c.values.new.made) (call_function docs (made_seen c.as_slice.result.now) cx c.args.name.now (map
    (items_seen place) c.as_slice-2.result.now)) (spec.value_of docs (Expr-F.Fun c.args.name.now (map (means docs) c.args.args.now)) env cx
    before) c.from_residual-in_err-all.ensures.1 (λ w code q. goes_on _ (c.in_ok-lists.ensures w) ∙ (looks_no_more _ (sym fx ∙ q)))
    c.in_err-all.ensures

pub function-returns : goal.function-returns
function-returns g t c =
    let nav = c.args.self.now.nav.now in
    let scope = c.args.self.now in
    let docs = forests.get (g.N.Nav.forest nav) in
    let place = g.N.Nav.place nav in
    let cx = context_seen place (option_copied scope.focus) in
    let fx : call_function docs (made_seen c.as_slice.result.now) cx c.args.name.now (map (items_seen place) c.as_slice-2.result.now) ≡ call_function
    docs (made_seen c.values.new.made) cx c.args.name.now (map (items_seen place) c.in_ok-lists.lists) = λ i. call_function docs (made_seen
    (c.as_slice.ensures i)) cx c.args.name.now (map (items_seen place) (c.as_slice-2.ensures i)) in
    λ w. goes_on _ (c.in_ok-lists.ensures w) ∙ (looks_on (sym fx ∙ c.in_ok-all.ensures w) ∙ (given (ap (items_seen place) (sym c.owned.ensures))))

pub holds-returns-in_err-holds_at : goal.holds-returns-in_err-holds_at
holds-returns-in_err-holds_at g t c =
    let nav = c.args.self.now.nav.now in
    let scope = c.args.self.now in
    let docs = forests.get (g.N.Nav.forest nav) in
    let place = g.N.Nav.place nav in
    let env = variables_seen place scope.variables.now in
    let cx = context_seen place (option_copied scope.focus) in
    let before = made_seen c.args.made.now in
    let fx : spec.holds_at c.args.focus.now.position (items_seen place c.as_slice.result.now) ≡ spec.holds_at c.args.focus.now.position (items_seen
    place c.in_ok-value.value) = λ i. spec.holds_at c.args.focus.now.position (items_seen place (c.as_slice.ensures i)) in
    exits_code (g.N.Nav.honest nav) (g.N.Nav.passes nav) (λ b. b) c.from_residual-in_err-holds_at.result c.in_err-holds_at.field-0.0 (made_seen
    c.eval.new.made) (holds_in (means docs c.args.pred.now) (focus_seen place c.args.focus.now) env cx before)
    c.from_residual-in_err-holds_at.ensures.1 (λ w. goes_on _ (c.in_ok-value.ensures w) ∙ (looks_no_more _ (sym (c.in_err-holds_at.ensures place
    ∙ fx))))

pub holds-returns : goal.holds-returns
holds-returns g t c =
    let nav = c.args.self.now.nav.now in
    let place = g.N.Nav.place nav in
    let fx : spec.holds_at c.args.focus.now.position (items_seen place c.as_slice.result.now) ≡ spec.holds_at c.args.focus.now.position (items_seen
    place c.in_ok-value.value) = λ i. spec.holds_at c.args.focus.now.position (items_seen place (c.as_slice.ensures i)) in
    λ w. goes_on _ (c.in_ok-value.ensures w) ∙ (looks_on (sym (c.in_ok-holds_at.ensures place ∙ fx)))

pub keyed-returns-in_err-found : goal.keyed-returns-in_err-found
keyed-returns-in_err-found g t c =
    let nav = c.args.self.now.nav.now in
    let scope = c.args.self.now in
    let docs = forests.get (g.N.Nav.forest nav) in
    let place = g.N.Nav.place nav in
    let env = variables_seen place scope.variables.now in
    let cx = context_seen place (option_copied scope.focus) in
    let before = made_seen c.args.made.now in
    let fx : tuples.key_of (atomized docs (made_seen c.as_slice.result.now) (items_seen place c.as_slice-in-loop-i.result.now)) ≡ tuples.key_of
    (atomized docs (made_seen c.eval.new.made) (items_seen place c.in_ok-value.value)) = λ i. tuples.key_of (atomized docs (made_seen
    (c.as_slice.ensures i)) (items_seen place (c.as_slice-in-loop-i.ensures i))) in
    exits_looking (g.N.Nav.honest nav) (g.N.Nav.passes nav) (λ b. b) keyed_seen c.from_residual-in_err-found.result c.in_err-found.field-0.0
    (made_seen c.eval.new.made) (tuples.key_of (atomized docs (made_seen c.as_slice.result.now) (items_seen place
    c.as_slice-in-loop-i.result.now))) (tuples.keyed docs (map (key_means docs) c.args.keys.now) env cx c.args.types.now tuples.no_keys before)
    c.from_residual-in_err-found.ensures.1 (λ w code q. sym (c.loop-i.invariant w) ∙ (ap (λ ks. tuples.keyed docs ks env cx (drop c.loop-i.i
    c.args.types.now) (keyed_seen c.loop-i.all) (made_seen c.loop-i.made)) (left_with (key_means docs) c.args.keys.now c.loop-i.i
    c.index-keys-i.result c.index-keys-i.is (omega arith)) ∙ (stops _ (goes_on _ (c.in_ok-value.ensures w) ∙ looks_no_more _ (sym fx ∙ q)))))
    c.in_err-found.ensures

pub keyed-returns-in_err-key_type : goal.keyed-returns-in_err-key_type
keyed-returns-in_err-key_type g t c =
    let nav = c.args.self.now.nav.now in
    let scope = c.args.self.now in
    let docs = forests.get (g.N.Nav.forest nav) in
    let place = g.N.Nav.place nav in
    let env = variables_seen place scope.variables.now in
    let cx = context_seen place (option_copied scope.focus) in
    let before = made_seen c.args.made.now in
    let fx : tuples.key_of (atomized docs (made_seen c.as_slice.result.now) (items_seen place c.as_slice-in-loop-i.result.now)) ≡ tuples.key_of
    (atomized docs (made_seen c.eval.new.made) (items_seen place c.in_ok-value.value)) = λ i. tuples.key_of (atomized docs (made_seen
    (c.as_slice.ensures i)) (items_seen place (c.as_slice-in-loop-i.ensures i))) in
    exits_code (g.N.Nav.honest nav) (g.N.Nav.passes nav) keyed_seen c.from_residual-in_err-key_type.result c.in_err-key_type.field-0.0 (made_seen
    c.eval.new.made) (tuples.keyed docs (map (key_means docs) c.args.keys.now) env cx c.args.types.now tuples.no_keys before)
    c.from_residual-in_err-key_type.ensures.1 (λ w. sym (c.loop-i.invariant w) ∙ (ap (λ ks. tuples.keyed docs ks env cx (drop c.loop-i.i
    c.args.types.now) (keyed_seen c.loop-i.all) (made_seen c.loop-i.made)) (left_with (key_means docs) c.args.keys.now c.loop-i.i
    c.index-keys-i.result c.index-keys-i.is (omega arith)) ∙ (goes_on _ (goes_on _ (c.in_ok-value.ensures w) ∙ looks_on (sym fx ∙
    c.in_ok-found.ensures w)) ∙ (stops _ (looks_no_more _ ((ap (λ t. tuples.joined_type t (tuples.type_of c.in_ok-found.found)) (sym
    c.type_at.ensures) ∙ ap (λ t. tuples.joined_type c.type_at.result t) (sym c.type_of.ensures)) ∙ sym c.in_err-key_type.ensures))))))

pub keyed-loop-i-preserved : goal.keyed-loop-i-preserved
keyed-loop-i-preserved g t c =
    let nav = c.args.self.now.nav.now in
    let scope = c.args.self.now in
    let docs = forests.get (g.N.Nav.forest nav) in
    let place = g.N.Nav.place nav in
    let env = variables_seen place scope.variables.now in
    let cx = context_seen place (option_copied scope.focus) in
    let fx : tuples.key_of (atomized docs (made_seen c.as_slice.result.now) (items_seen place c.as_slice-in-loop-i.result.now)) ≡ tuples.key_of
    (atomized docs (made_seen c.eval.new.made) (items_seen place c.in_ok-value.value)) = λ i. tuples.key_of (atomized docs (made_seen
    (c.as_slice.ensures i)) (items_seen place (c.as_slice-in-loop-i.ensures i))) in
    λ w. sym (ap (λ ks. tuples.keyed docs ks env cx (drop c.loop-i.i c.args.types.now) (keyed_seen c.loop-i.all) (made_seen c.loop-i.made))
    (left_with (key_means docs) c.args.keys.now c.loop-i.i c.index-keys-i.result c.index-keys-i.is (omega arith)) ∙ (goes_on _ (goes_on _
    (c.in_ok-value.ensures w) ∙ looks_on (sym fx ∙ c.in_ok-found.ensures w)) ∙ (goes_on _ (looks_on ((ap (λ t. tuples.joined_type t
    (tuples.type_of c.in_ok-found.found)) (sym c.type_at.ensures) ∙ ap (λ t. tuples.joined_type c.type_at.result t) (sym c.type_of.ensures)) ∙
    sym c.in_ok-key_type.ensures)) ∙ (ap (λ ts. tuples.keyed docs (map (key_means docs) (drop (c.loop-i.i + 1) c.args.keys.now)) env cx ts
    (tuples.with_key (keyed_seen c.loop-i.all) c.in_ok-found.found c.in_ok-key_type.key_type) (made_seen c.eval.new.made)) (others_left
    c.args.types.now c.loop-i.i) ∙ (ap (λ a. tuples.keyed docs (map (key_means docs) (drop (c.loop-i.i + 1) c.args.keys.now)) env cx (drop
    (c.loop-i.i + 1) c.args.types.now) a (made_seen c.eval.new.made)) (sym c.in_ok-add_key.ensures)))))) ∙ c.loop-i.invariant w

pub or-returns : goal.or-returns
or-returns g t c =
    let nav = c.args.self.now.nav.now in
    let place = g.N.Nav.place nav in
    λ w. goes_on _ (c.in_ok-is_true.ensures w) ∙ (given (sym (c.in_ok-truth_value.ensures place)))

pub path_from-returns-in_err-nodes : goal.path_from-returns-in_err-nodes
path_from-returns-in_err-nodes g t c =
    let nav = c.args.self.now.nav.now in
    let scope = c.args.self.now in
    let docs = forests.get (g.N.Nav.forest nav) in
    let place = g.N.Nav.place nav in
    let env = variables_seen place scope.variables.now in
    let before = made_seen c.args.made.now in
    let fx : nodes_or XPTY0019 (items_seen place c.as_slice.result.now) ≡ nodes_or XPTY0019 (items_seen place c.loop-step.found) = λ i. nodes_or
    XPTY0019 (items_seen place (c.as_slice.ensures i)) in
    exits_plainly (g.N.Nav.honest nav) (g.N.Nav.passes nav) (map (node_seen place)) (items_seen place) c.from_residual.result
    c.in_err-nodes.field-0.0 (made_seen c.loop-step.made) (nodes_or XPTY0019 (items_seen place c.as_slice.result.now)) (spec.path_from docs (map
    (step_means docs) c.args.steps.now) env (items_seen place c.args.found) before) c.from_residual.ensures.1 (λ w code q. sym
    (c.loop-step.invariant w) ∙ (ap (λ ss. spec.path_from docs ss env (items_seen place c.loop-step.found) (made_seen c.loop-step.made))
    (left_with (step_means docs) c.args.steps.now c.loop-step.step-index c.step-item.result c.step-item.is (omega arith)) ∙ (stops _ (stops _
    (looks_no_more _ (sym fx ∙ q)))))) (c.in_err-nodes.ensures place)

pub path_from-returns-in_err-left : goal.path_from-returns-in_err-left
path_from-returns-in_err-left g t c =
    let nav = c.args.self.now.nav.now in
    let scope = c.args.self.now in
    let docs = forests.get (g.N.Nav.forest nav) in
    let place = g.N.Nav.place nav in
    let env = variables_seen place scope.variables.now in
    let before = made_seen c.args.made.now in
    let fx : nodes_or XPTY0019 (items_seen place c.as_slice.result.now) ≡ nodes_or XPTY0019 (items_seen place c.loop-step.found) = λ i. nodes_or
    XPTY0019 (items_seen place (c.as_slice.ensures i)) in
    exits (g.N.Nav.honest nav) (g.N.Nav.passes nav) (map (node_seen place)) (items_seen place) c.from_residual-in_err-left.result
    c.in_err-left.field-0.0 (made_seen c.stepped.new.made) (made_seen c.stepped.new.made) (spec.stepped docs (step_means docs c.step-item.result)
    env (map (node_seen place) c.in_ok-nodes.nodes) (made_seen c.loop-step.made)) (spec.path_from docs (map (step_means docs) c.args.steps.now)
    env (items_seen place c.args.found) before) c.from_residual-in_err-left.ensures.1 (λ w code q. sym (c.loop-step.invariant w) ∙ (ap (λ ss.
    spec.path_from docs ss env (items_seen place c.loop-step.found) (made_seen c.loop-step.made)) (left_with (step_means docs) c.args.steps.now
    c.loop-step.step-index c.step-item.result c.step-item.is (omega arith)) ∙ (stops _ (goes_on _ (looks_on (sym fx ∙ c.in_ok-nodes.ensures
    place)) ∙ q)))) c.in_err-left.ensures

pub path_from-loop-step-preserved : goal.path_from-loop-step-preserved
path_from-loop-step-preserved g t c =
    let nav = c.args.self.now.nav.now in
    let scope = c.args.self.now in
    let docs = forests.get (g.N.Nav.forest nav) in
    let place = g.N.Nav.place nav in
    let env = variables_seen place scope.variables.now in
    let fx : nodes_or XPTY0019 (items_seen place c.as_slice.result.now) ≡ nodes_or XPTY0019 (items_seen place c.loop-step.found) = λ i. nodes_or
    XPTY0019 (items_seen place (c.as_slice.ensures i)) in
    λ w. sym (ap (λ ss. spec.path_from docs ss env (items_seen place c.loop-step.found) (made_seen c.loop-step.made)) (left_with (step_means docs)
    c.args.steps.now c.loop-step.step-index c.step-item.result c.step-item.is (omega arith)) ∙ (goes_on _ (goes_on _ (looks_on (sym fx ∙
    c.in_ok-nodes.ensures place)) ∙ c.in_ok-left.ensures w) ∙ (ap (λ items. spec.path_from docs (map (step_means docs) (drop
    (c.loop-step.step-index + 1) c.args.steps.now)) env items (made_seen c.stepped.new.made)) (sym (c.in_ok-found.ensures place))))) ∙
    c.loop-step.invariant w

pub range-returns-in_err-all : goal.range-returns-in_err-all
range-returns-in_err-all g t c =
    let nav = c.args.self.now.nav.now in
    let scope = c.args.self.now in
    let docs = forests.get (g.N.Nav.forest nav) in
    let place = g.N.Nav.place nav in
    let env = variables_seen place scope.variables.now in
    let cx = context_seen place (option_copied scope.focus) in
    let before = made_seen c.args.made.now in
    let fx : operated range_of (atomized docs (made_seen c.as_slice.result.now) (items_seen place c.as_slice-2.result.now)) (atomized docs (made_seen
    c.as_slice.result.now) (items_seen place c.as_slice-3.result.now)) ≡ operated range_of (atomized docs (made_seen c.eval-2.new.made)
    (items_seen place c.in_ok-a.a)) (atomized docs (made_seen c.eval-2.new.made) (items_seen place c.in_ok-b.b)) = λ i. operated range_of
    (atomized docs (made_seen (c.as_slice.ensures i)) (items_seen place (c.as_slice-2.ensures i))) (atomized docs (made_seen (c.as_slice.ensures
    i)) (items_seen place (c.as_slice-3.ensures i))) in
    exits_looking (g.N.Nav.honest nav) (g.N.Nav.passes nav) (items_seen place) (items_seen place) c.from_residual-in_err-all.result
    c.in_err-all.field-0.0 (made_seen c.eval-2.new.made) (operated range_of (atomized docs (made_seen c.as_slice.result.now) (items_seen place
    c.as_slice-2.result.now)) (atomized docs (made_seen c.as_slice.result.now) (items_seen place c.as_slice-3.result.now))) (spec.value_of docs
    (Expr-F.Range (means docs c.args.low.now) (means docs c.args.high.now)) env cx before) c.from_residual-in_err-all.ensures.1 (λ w code q.
    goes_on _ (c.in_ok-a.ensures w) ∙ (goes_on _ (c.in_ok-b.ensures w) ∙ (looks_no_more _ (sym fx ∙ q)))) c.in_err-all.ensures

pub range-returns : goal.range-returns
range-returns g t c =
    let nav = c.args.self.now.nav.now in
    let docs = forests.get (g.N.Nav.forest nav) in
    let place = g.N.Nav.place nav in
    let fx : operated range_of (atomized docs (made_seen c.as_slice.result.now) (items_seen place c.as_slice-2.result.now)) (atomized docs (made_seen
    c.as_slice.result.now) (items_seen place c.as_slice-3.result.now)) ≡ operated range_of (atomized docs (made_seen c.eval-2.new.made)
    (items_seen place c.in_ok-a.a)) (atomized docs (made_seen c.eval-2.new.made) (items_seen place c.in_ok-b.b)) = λ i. operated range_of
    (atomized docs (made_seen (c.as_slice.ensures i)) (items_seen place (c.as_slice-2.ensures i))) (atomized docs (made_seen (c.as_slice.ensures
    i)) (items_seen place (c.as_slice-3.ensures i))) in
    λ w. goes_on _ (c.in_ok-a.ensures w) ∙ (goes_on _ (c.in_ok-b.ensures w) ∙ (looks_on (sym fx ∙ c.in_ok-all.ensures w) ∙ (given (ap (items_seen
    place) (sym c.owned.ensures)))))

pub start-returns-in-Value : goal.start-returns-in-Value
start-returns-in-Value g t c =
    let nav = c.args.self.now.nav.now in
    let scope = c.args.self.now in
    let docs = forests.get (g.N.Nav.forest nav) in
    let place = g.N.Nav.place nav in
    let env = variables_seen place scope.variables.now in
    let cx = context_seen place (option_copied scope.focus) in
    let before = made_seen c.args.made.now in
    same (g.N.Nav.honest nav) (g.N.Nav.passes nav) (items_seen place) c.eval.result (made_seen c.eval.new.made) (means docs c.get.result.now env cx
    before) (start_means docs c.args.start.now env cx before) (λ w. ap (λ x. means docs x env cx before) c.get.ensures ∙ sym (ap (λ f. f env cx
    before) (ap (start_means docs) c.in-Value.is ∙ forms.start-Value docs c.in-Value.inner))) c.eval.ensures

pub start-returns-in-First : goal.start-returns-in-First
start-returns-in-First g t c =
    let nav = c.args.self.now.nav.now in
    let scope = c.args.self.now in
    let docs = forests.get (g.N.Nav.forest nav) in
    let place = g.N.Nav.place nav in
    let env = variables_seen place scope.variables.now in
    let cx = context_seen place (option_copied scope.focus) in
    let before = made_seen c.args.made.now in
    same (g.N.Nav.honest nav) (g.N.Nav.passes nav) (items_seen place) c.first_step.result (made_seen c.first_step.new.made) (spec.first_step docs
    (step_means docs c.in-First.step) env cx before) (start_means docs c.args.start.now env cx before) (λ w. sym (ap (λ f. f env cx before) (ap
    (start_means docs) c.in-First.is ∙ forms.start-First docs c.in-First.step))) c.first_step.ensures

pub stays-returns-in_err-effective_boolean-in-Some : goal.stays-returns-in_err-effective_boolean-in-Some
stays-returns-in_err-effective_boolean-in-Some g t c =
    let nav = c.args.self.now.nav.now in
    let scope = c.args.self.now in
    let docs = forests.get (g.N.Nav.forest nav) in
    let place = g.N.Nav.place nav in
    let env = variables_seen place scope.variables.now in
    let cx = context_seen place (option_copied scope.focus) in
    let before = made_seen c.args.made.now in
    let fx : effective_boolean (items_seen place c.as_slice.result.now) ≡ effective_boolean (items_seen place c.in_ok-value-in-Some.value) = λ i.
    effective_boolean (items_seen place (c.as_slice.ensures i)) in
    exits_code (g.N.Nav.honest nav) (g.N.Nav.passes nav) (λ b. b) c.from_residual-in_err-effective_boolean-in-Some.result
    c.in_err-effective_boolean-in-Some.field-0.0 (made_seen c.eval.new.made) (tuples.stays docs (option_means docs c.args.filter.now) env cx
    before) c.from_residual-in_err-effective_boolean-in-Some.ensures.1 (λ w. ap (λ o. tuples.stays docs (option_means docs o) env cx before)
    c.in-Some.is ∙ (goes_on _ (sym (ap (λ x. means docs x env cx before) c.get.ensures) ∙ c.in_ok-value-in-Some.ensures w) ∙ (looks_no_more _
    (sym (c.in_err-effective_boolean-in-Some.ensures place ∙ fx)))))

pub stays-returns-in_ok-effective_boolean-in-Some : goal.stays-returns-in_ok-effective_boolean-in-Some
stays-returns-in_ok-effective_boolean-in-Some g t c =
    let nav = c.args.self.now.nav.now in
    let scope = c.args.self.now in
    let docs = forests.get (g.N.Nav.forest nav) in
    let place = g.N.Nav.place nav in
    let env = variables_seen place scope.variables.now in
    let cx = context_seen place (option_copied scope.focus) in
    let before = made_seen c.args.made.now in
    let fx : effective_boolean (items_seen place c.as_slice.result.now) ≡ effective_boolean (items_seen place c.in_ok-value-in-Some.value) = λ i.
    effective_boolean (items_seen place (c.as_slice.ensures i)) in
    λ w. ap (λ o. tuples.stays docs (option_means docs o) env cx before) c.in-Some.is ∙ (goes_on _ (sym (ap (λ x. means docs x env cx before)
    c.get.ensures) ∙ c.in_ok-value-in-Some.ensures w) ∙ (looks_on (sym (c.in_ok-effective_boolean-in-Some.ensures place ∙ fx))))

pub stepped-returns-then-takes_children : goal.stepped-returns-then-takes_children
stepped-returns-then-takes_children g t c =
    let nav = c.args.self.now.nav.now in
    let scope = c.args.self.now in
    let docs = forests.get (g.N.Nav.forest nav) in
    let place = g.N.Nav.place nav in
    let env = variables_seen place scope.variables.now in
    let before = made_seen c.args.made.now in
    let nodes = map (node_seen place) c.args.nodes in
    let found = without_trees (tested_each docs Descendant c.args.step.now.test (map (node_seen place) c.as_slice-then-takes_children-2.result.now)
    (made_seen c.as_slice-then-takes_children.result.now)) in
    let fx : found ≡ without_trees (tested_each docs Descendant c.args.step.now.test nodes before) = λ i. without_trees (tested_each docs Descendant
    c.args.step.now.test (map (node_seen place) (c.as_slice-then-takes_children-2.ensures i)) (made_seen (c.as_slice-then-takes_children.ensures i))) in
    same (g.N.Nav.honest nav) (g.N.Nav.passes nav) (map (node_seen place)) c.tested_each.result before (plain found before)
    (spec.stepped docs (step_means docs c.args.step.now) env nodes before)
    (λ w. ap (λ r. plain r before) fx ∙ (sym (tested_plain docs before Descendant c.args.step.now.test nodes)
    ∙ sym (deep_children docs before c.args.step.now env nodes c.if-not-step.false (sym c.takes_children.ensures ∙ c.if-takes_children.true))))
    (looked (g.N.Nav.honest nav) (g.N.Nav.passes nav) (map (node_seen place)) c.tested_each.result before found c.tested_each.ensures)

pub stepped-returns : goal.stepped-returns
stepped-returns g t c =
    let nav = c.args.self.now.nav.now in
    let scope = c.args.self.now in
    let docs = forests.get (g.N.Nav.forest nav) in
    let place = g.N.Nav.place nav in
    let env = variables_seen place scope.variables.now in
    let before = made_seen c.args.made.now in
    let fx : without_trees (tested_each docs DescendantOrSelf AnyNode (map (node_seen place) c.as_slice-3.result.now) (made_seen c.as_slice-2.result.now))
    ≡ without_trees (tested_each docs DescendantOrSelf AnyNode (map (node_seen place) c.args.nodes) before) = λ i. without_trees (tested_each
    docs DescendantOrSelf AnyNode (map (node_seen place) (c.as_slice-3.ensures i)) (made_seen (c.as_slice-2.ensures i))) in
    same (g.N.Nav.honest nav) (g.N.Nav.passes nav) (map (node_seen place)) c.from_each-2.result (made_seen c.from_each-2.new.made) (spec.from_each
    ((step_means docs c.args.step.now).from_node env) [] (map (node_seen place) c.as_slice-4.result.now) before) (spec.stepped docs (step_means
    docs c.args.step.now) env (map (node_seen place) c.args.nodes) before)
    (λ w. ap (λ ns. spec.from_each ((step_means docs c.args.step.now).from_node env) [] (map (node_seen place) ns) before) c.as_slice-4.ensures ∙ sym
    (ap (λ b. then_with ((if b then spec.from_each (spec.below docs) [] (map (node_seen place) c.args.nodes) else give (map (node_seen place)
    c.args.nodes)) before) (spec.from_each ((step_means docs c.args.step.now).from_node env) [])) c.if-not-step.false
    ∙ goes_on _ (tested_plain docs before DescendantOrSelf AnyNode (map (node_seen place) c.args.nodes) ∙ looks_on (sym fx ∙ c.in_ok-all.ensures w)))) c.from_each-2.ensures

pub truth-returns-in_err-effective_boolean : goal.truth-returns-in_err-effective_boolean
truth-returns-in_err-effective_boolean g t c =
    let nav = c.args.self.now.nav.now in
    let scope = c.args.self.now in
    let docs = forests.get (g.N.Nav.forest nav) in
    let place = g.N.Nav.place nav in
    let env = variables_seen place scope.variables.now in
    let cx = context_seen place (option_copied scope.focus) in
    let before = made_seen c.args.made.now in
    let fx : effective_boolean (items_seen place c.as_slice.result.now) ≡ effective_boolean (items_seen place c.in_ok-found.found) = λ i.
    effective_boolean (items_seen place (c.as_slice.ensures i)) in
    exits_code (g.N.Nav.honest nav) (g.N.Nav.passes nav) (λ b. b) c.from_residual-in_err-effective_boolean.result
    c.in_err-effective_boolean.field-0.0 (made_seen c.eval.new.made) (spec.truth (means docs c.args.expr.now) env cx before)
    c.from_residual-in_err-effective_boolean.ensures.1 (λ w. goes_on _ (c.in_ok-found.ensures w) ∙ (looks_no_more _ (sym
    (c.in_err-effective_boolean.ensures place ∙ fx))))

pub truth-returns : goal.truth-returns
truth-returns g t c =
    let nav = c.args.self.now.nav.now in
    let place = g.N.Nav.place nav in
    let fx : effective_boolean (items_seen place c.as_slice.result.now) ≡ effective_boolean (items_seen place c.in_ok-found.found) = λ i.
    effective_boolean (items_seen place (c.as_slice.ensures i)) in
    λ w. goes_on _ (c.in_ok-found.ensures w) ∙ (looks_on (sym (c.in_ok-effective_boolean.ensures place ∙ fx)))

pub tuples-returns-clause-gives : goal.tuples-returns-clause-gives
tuples-returns-clause-gives g t c =
    let nav = c.args.self.now.nav.now in
    let scope = c.args.self.now in
    let docs = forests.get (g.N.Nav.forest nav) in
    let place = g.N.Nav.place nav in
    let cx = context_seen place (option_copied scope.focus) in
    let before = made_seen c.args.made.now in
    same (g.N.Nav.honest nav) (g.N.Nav.passes nav) (tuples_seen place) c.each.result (made_seen c.each.new.made) (tuples.each docs (tuples.tuples
    docs (map (bind_means docs) (take (length c.args.binds.now - 1) (drop 1 c.args.binds.now))) (option_means docs c.args.filter.now) (map
    (key_means docs) c.args.keys.now)) (variables_seen place c.args.env.now) cx (map (variables_seen place) c.as_slice-2.result.now) (tuples_seen
    place c.args.found) (made_seen c.bind.new.made)) (tuples.tuples docs (map (bind_means docs) c.args.binds.now) (option_means docs
    c.args.filter.now) (map (key_means docs) c.args.keys.now) (variables_seen place c.args.env.now) cx (tuples_seen place c.args.found) before)
    (λ w. ap (λ bs. tuples.each docs (tuples.tuples docs (map (bind_means docs) bs) (option_means docs c.args.filter.now) (map (key_means docs)
    c.args.keys.now)) (variables_seen place c.args.env.now) cx (map (variables_seen place) c.as_slice-2.result.now) (tuples_seen place
    c.args.found) (made_seen c.bind.new.made)) (others c.args.binds.now) ∙ (ap (λ vs. tuples.each docs (tuples.tuples docs (map (bind_means docs)
    (drop 1 c.args.binds.now)) (option_means docs c.args.filter.now) (map (key_means docs) c.args.keys.now)) (variables_seen place
    c.args.env.now) cx (map (variables_seen place) vs) (tuples_seen place c.args.found) (made_seen c.bind.new.made)) c.as_slice-2.ensures
    ∙ sym (ap (λ bs. tuples.tuples docs bs (option_means docs c.args.filter.now) (map (key_means docs) c.args.keys.now) (variables_seen place
    c.args.env.now) cx (tuples_seen place c.args.found) before) (opened (bind_means docs) c.args.binds.now c.first-item.result
    c.in-len1-up.len_at_least c.first-item.is)
    ∙ goes_on _ (ap (λ e. bind_means docs c.first-item.result (variables_seen place e) cx before) (sym c.as_slice.ensures) ∙ c.in_ok-values.ensures
    w)))) c.each.ensures.gives

pub union-returns-in_err-nodes : goal.union-returns-in_err-nodes
union-returns-in_err-nodes g t c =
    let nav = c.args.self.now.nav.now in
    let scope = c.args.self.now in
    let docs = forests.get (g.N.Nav.forest nav) in
    let place = g.N.Nav.place nav in
    let env = variables_seen place scope.variables.now in
    let cx = context_seen place (option_copied scope.focus) in
    let before = made_seen c.args.made.now in
    let fx : united_all [] (map (items_seen place) c.as_slice.result.now) ≡ united_all [] (map (items_seen place) c.in_ok-lists.lists) = λ i.
    united_all [] (map (items_seen place) (c.as_slice.ensures i)) in
    exits_looking (g.N.Nav.honest nav) (g.N.Nav.passes nav) (map (node_seen place)) (items_seen place) c.from_residual-in_err-nodes.result
    c.in_err-nodes.field-0.0 (made_seen c.values.new.made) (united_all [] (map (items_seen place) c.as_slice.result.now)) (spec.value_of docs
    (Expr-F.Union (map (means docs) c.args.parts.now)) env cx before) c.from_residual-in_err-nodes.ensures.1 (λ w code q. stops _ (goes_on _
    (c.in_ok-lists.ensures w) ∙ looks_no_more _ (sym fx ∙ q))) c.in_err-nodes.ensures

pub union-returns : goal.union-returns
union-returns g t c =
    let nav = c.args.self.now.nav.now in
    let place = g.N.Nav.place nav in
    let fx : united_all [] (map (items_seen place) c.as_slice.result.now) ≡ united_all [] (map (items_seen place) c.in_ok-lists.lists) = λ i.
    united_all [] (map (items_seen place) (c.as_slice.ensures i)) in
    λ w. goes_on _ (goes_on _ (c.in_ok-lists.ensures w) ∙ looks_on (sym fx ∙ c.in_ok-nodes.ensures w)) ∙ (given (sym (c.in_ok-node_items.ensures
    place) ∙ ap (items_seen place) (sym c.owned.ensures)))

pub value-returns-in-Seq : goal.value-returns-in-Seq
value-returns-in-Seq g t c =
    let nav = c.args.self.now.nav.now in
    let scope = c.args.self.now in
    let docs = forests.get (g.N.Nav.forest nav) in
    let place = g.N.Nav.place nav in
    let env = variables_seen place scope.variables.now in
    let cx = context_seen place (option_copied scope.focus) in
    let before = made_seen c.args.made.now in
    same (g.N.Nav.honest nav) (g.N.Nav.passes nav) (items_seen place) c.sequence.result (made_seen c.sequence.new.made) (spec.one_after_another (map
    (means docs) c.as_slice.result.now) env cx before) (value_means docs c.args.expr.now env cx before)
    (λ w. (λ i. spec.one_after_another (map (means docs) (c.as_slice.ensures i)) env cx before) ∙ sym (ap (λ f. f env cx before) (ap (value_means
    docs) c.in-Seq.is ∙ forms.value-Seq docs c.in-Seq.parts))) c.sequence.ensures

pub value-returns-in-Flwor : goal.value-returns-in-Flwor
value-returns-in-Flwor g t c =
    let nav = c.args.self.now.nav.now in
    let scope = c.args.self.now in
    let docs = forests.get (g.N.Nav.forest nav) in
    let place = g.N.Nav.place nav in
    let env = variables_seen place scope.variables.now in
    let cx = context_seen place (option_copied scope.focus) in
    let before = made_seen c.args.made.now in
    same (g.N.Nav.honest nav) (g.N.Nav.passes nav) (items_seen place) c.flwor.result (made_seen c.flwor.new.made) (spec.value_of docs (Expr-F.Flwor
    (map (bind_means docs) c.as_slice-in-Flwor.result.now) (option_means docs c.in-Flwor.filter) (map (key_means docs)
    c.as_slice-in-Flwor-2.result.now) (means docs c.get.result.now)) env cx before) (value_means docs c.args.expr.now env cx before)
    (λ w. (λ i. spec.value_of docs (Expr-F.Flwor (map (bind_means docs) (c.as_slice-in-Flwor.ensures i)) (option_means docs c.in-Flwor.filter) (map
    (key_means docs) (c.as_slice-in-Flwor-2.ensures i)) (means docs (c.get.ensures i))) env cx before) ∙ sym (ap (λ f. f env cx before) (ap
    (value_means docs) c.in-Flwor.is ∙ forms.value-Flwor docs c.in-Flwor.binds c.in-Flwor.filter c.in-Flwor.keys c.in-Flwor.result)))
    c.flwor.ensures

pub value-returns-in-If : goal.value-returns-in-If
value-returns-in-If g t c =
    let nav = c.args.self.now.nav.now in
    let scope = c.args.self.now in
    let docs = forests.get (g.N.Nav.forest nav) in
    let place = g.N.Nav.place nav in
    let env = variables_seen place scope.variables.now in
    let cx = context_seen place (option_copied scope.focus) in
    let before = made_seen c.args.made.now in
    same (g.N.Nav.honest nav) (g.N.Nav.passes nav) (items_seen place) c.choice.result (made_seen c.choice.new.made) (spec.value_of docs (Expr-F.If
    (means docs c.get-in-If.result.now) (means docs c.get-in-If-2.result.now) (means docs c.get-in-If-3.result.now)) env cx before) (value_means
    docs c.args.expr.now env cx before)
    (λ w. (λ i. spec.value_of docs (Expr-F.If (means docs (c.get-in-If.ensures i)) (means docs (c.get-in-If-2.ensures i)) (means docs
    (c.get-in-If-3.ensures i))) env cx before) ∙ sym (ap (λ f. f env cx before) (ap (value_means docs) c.in-If.is ∙ forms.value-If docs
    c.in-If.test c.in-If.yes c.in-If.no))) c.choice.ensures

pub value-returns-in-Or : goal.value-returns-in-Or
value-returns-in-Or g t c =
    let nav = c.args.self.now.nav.now in
    let scope = c.args.self.now in
    let docs = forests.get (g.N.Nav.forest nav) in
    let place = g.N.Nav.place nav in
    let env = variables_seen place scope.variables.now in
    let cx = context_seen place (option_copied scope.focus) in
    let before = made_seen c.args.made.now in
    same (g.N.Nav.honest nav) (g.N.Nav.passes nav) (items_seen place) c.or.result (made_seen c.or.new.made) (spec.value_of docs (Expr-F.Or (map
    (means docs) c.as_slice-in-Or.result.now)) env cx before) (value_means docs c.args.expr.now env cx before)
    (λ w. (λ i. spec.value_of docs (Expr-F.Or (map (means docs) (c.as_slice-in-Or.ensures i))) env cx before) ∙ sym (ap (λ f. f env cx before) (ap
    (value_means docs) c.in-Or.is ∙ forms.value-Or docs c.in-Or.parts))) c.or.ensures

pub value-returns-in-And : goal.value-returns-in-And
value-returns-in-And g t c =
    let nav = c.args.self.now.nav.now in
    let scope = c.args.self.now in
    let docs = forests.get (g.N.Nav.forest nav) in
    let place = g.N.Nav.place nav in
    let env = variables_seen place scope.variables.now in
    let cx = context_seen place (option_copied scope.focus) in
    let before = made_seen c.args.made.now in
    same (g.N.Nav.honest nav) (g.N.Nav.passes nav) (items_seen place) c.and.result (made_seen c.and.new.made) (spec.value_of docs (Expr-F.And (map
    (means docs) c.as_slice-in-And.result.now)) env cx before) (value_means docs c.args.expr.now env cx before)
    (λ w. (λ i. spec.value_of docs (Expr-F.And (map (means docs) (c.as_slice-in-And.ensures i))) env cx before) ∙ sym (ap (λ f. f env cx before) (ap
    (value_means docs) c.in-And.is ∙ forms.value-And docs c.in-And.parts))) c.and.ensures

pub value-returns-in-Compare : goal.value-returns-in-Compare
value-returns-in-Compare g t c =
    let nav = c.args.self.now.nav.now in
    let scope = c.args.self.now in
    let docs = forests.get (g.N.Nav.forest nav) in
    let place = g.N.Nav.place nav in
    let env = variables_seen place scope.variables.now in
    let cx = context_seen place (option_copied scope.focus) in
    let before = made_seen c.args.made.now in
    same (g.N.Nav.honest nav) (g.N.Nav.passes nav) (items_seen place) c.compare.result (made_seen c.compare.new.made) (spec.value_of docs
    (Expr-F.Compare (means docs c.get-in-Compare.result.now) c.in-Compare.op (means docs c.get-in-Compare-2.result.now)) env cx before)
    (value_means docs c.args.expr.now env cx before)
    (λ w. (λ i. spec.value_of docs (Expr-F.Compare (means docs (c.get-in-Compare.ensures i)) c.in-Compare.op (means docs (c.get-in-Compare-2.ensures
    i))) env cx before) ∙ sym (ap (λ f. f env cx before) (ap (value_means docs) c.in-Compare.is ∙ forms.value-Compare docs c.in-Compare.left
    c.in-Compare.op c.in-Compare.right))) c.compare.ensures

pub value-returns-in-Range : goal.value-returns-in-Range
value-returns-in-Range g t c =
    let nav = c.args.self.now.nav.now in
    let scope = c.args.self.now in
    let docs = forests.get (g.N.Nav.forest nav) in
    let place = g.N.Nav.place nav in
    let env = variables_seen place scope.variables.now in
    let cx = context_seen place (option_copied scope.focus) in
    let before = made_seen c.args.made.now in
    same (g.N.Nav.honest nav) (g.N.Nav.passes nav) (items_seen place) c.range.result (made_seen c.range.new.made) (spec.value_of docs (Expr-F.Range
    (means docs c.get-in-Range.result.now) (means docs c.get-in-Range-2.result.now)) env cx before) (value_means docs c.args.expr.now env cx
    before)
    (λ w. (λ i. spec.value_of docs (Expr-F.Range (means docs (c.get-in-Range.ensures i)) (means docs (c.get-in-Range-2.ensures i))) env cx before) ∙
    sym (ap (λ f. f env cx before) (ap (value_means docs) c.in-Range.is ∙ forms.value-Range docs c.in-Range.low c.in-Range.high))) c.range.ensures

pub value-returns-in-Sum : goal.value-returns-in-Sum
value-returns-in-Sum g t c =
    let nav = c.args.self.now.nav.now in
    let scope = c.args.self.now in
    let docs = forests.get (g.N.Nav.forest nav) in
    let place = g.N.Nav.place nav in
    let env = variables_seen place scope.variables.now in
    let cx = context_seen place (option_copied scope.focus) in
    let before = made_seen c.args.made.now in
    same (g.N.Nav.honest nav) (g.N.Nav.passes nav) (items_seen place) c.sum.result (made_seen c.sum.new.made) (spec.value_of docs (Expr-F.Sum (means
    docs c.get-in-Sum.result.now) (map (sum_means docs) c.as_slice-in-Sum.result.now)) env cx before) (value_means docs c.args.expr.now env cx
    before)
    (λ w. (λ i. spec.value_of docs (Expr-F.Sum (means docs (c.get-in-Sum.ensures i)) (map (sum_means docs) (c.as_slice-in-Sum.ensures i))) env cx
    before) ∙ sym (ap (λ f. f env cx before) (ap (value_means docs) c.in-Sum.is ∙ forms.value-Sum docs c.in-Sum.first c.in-Sum.rest)))
    c.sum.ensures

pub value-returns-in-Product : goal.value-returns-in-Product
value-returns-in-Product g t c =
    let nav = c.args.self.now.nav.now in
    let scope = c.args.self.now in
    let docs = forests.get (g.N.Nav.forest nav) in
    let place = g.N.Nav.place nav in
    let env = variables_seen place scope.variables.now in
    let cx = context_seen place (option_copied scope.focus) in
    let before = made_seen c.args.made.now in
    same (g.N.Nav.honest nav) (g.N.Nav.passes nav) (items_seen place) c.product.result (made_seen c.product.new.made) (spec.value_of docs
    (Expr-F.Product (means docs c.get-in-Product.result.now) (map (product_means docs) c.as_slice-in-Product.result.now)) env cx before)
    (value_means docs c.args.expr.now env cx before)
    (λ w. (λ i. spec.value_of docs (Expr-F.Product (means docs (c.get-in-Product.ensures i)) (map (product_means docs) (c.as_slice-in-Product.ensures
    i))) env cx before) ∙ sym (ap (λ f. f env cx before) (ap (value_means docs) c.in-Product.is ∙ forms.value-Product docs c.in-Product.first
    c.in-Product.rest))) c.product.ensures

pub value-returns-in-Union : goal.value-returns-in-Union
value-returns-in-Union g t c =
    let nav = c.args.self.now.nav.now in
    let scope = c.args.self.now in
    let docs = forests.get (g.N.Nav.forest nav) in
    let place = g.N.Nav.place nav in
    let env = variables_seen place scope.variables.now in
    let cx = context_seen place (option_copied scope.focus) in
    let before = made_seen c.args.made.now in
    same (g.N.Nav.honest nav) (g.N.Nav.passes nav) (items_seen place) c.union.result (made_seen c.union.new.made) (spec.value_of docs (Expr-F.Union
    (map (means docs) c.as_slice-in-Union.result.now)) env cx before) (value_means docs c.args.expr.now env cx before)
    (λ w. (λ i. spec.value_of docs (Expr-F.Union (map (means docs) (c.as_slice-in-Union.ensures i))) env cx before) ∙ sym (ap (λ f. f env cx before)
    (ap (value_means docs) c.in-Union.is ∙ forms.value-Union docs c.in-Union.parts))) c.union.ensures

pub value-returns-in-Signed : goal.value-returns-in-Signed
value-returns-in-Signed g t c =
    let nav = c.args.self.now.nav.now in
    let scope = c.args.self.now in
    let docs = forests.get (g.N.Nav.forest nav) in
    let place = g.N.Nav.place nav in
    let env = variables_seen place scope.variables.now in
    let cx = context_seen place (option_copied scope.focus) in
    let before = made_seen c.args.made.now in
    same (g.N.Nav.honest nav) (g.N.Nav.passes nav) (items_seen place) c.signed.result (made_seen c.signed.new.made) (spec.value_of docs
    (Expr-F.Signed c.as_slice-in-Signed.result.now (means docs c.get-in-Signed.result.now)) env cx before) (value_means docs c.args.expr.now env
    cx before)
    (λ w. (λ i. spec.value_of docs (Expr-F.Signed (c.as_slice-in-Signed.ensures i) (means docs (c.get-in-Signed.ensures i))) env cx before) ∙ sym (ap
    (λ f. f env cx before) (ap (value_means docs) c.in-Signed.is ∙ forms.value-Signed docs c.in-Signed.signs c.in-Signed.inner))) c.signed.ensures

pub value-returns-in-Path : goal.value-returns-in-Path
value-returns-in-Path g t c =
    let nav = c.args.self.now.nav.now in
    let scope = c.args.self.now in
    let docs = forests.get (g.N.Nav.forest nav) in
    let place = g.N.Nav.place nav in
    let env = variables_seen place scope.variables.now in
    let cx = context_seen place (option_copied scope.focus) in
    let before = made_seen c.args.made.now in
    same (g.N.Nav.honest nav) (g.N.Nav.passes nav) (items_seen place) c.path.result (made_seen c.path.new.made) (spec.value_of docs (Expr-F.Path
    (start_means docs c.in-Path.start) (map (step_means docs) c.as_slice-in-Path.result.now)) env cx before) (value_means docs c.args.expr.now
    env cx before)
    (λ w. (λ i. spec.value_of docs (Expr-F.Path (start_means docs c.in-Path.start) (map (step_means docs) (c.as_slice-in-Path.ensures i))) env cx
    before) ∙ sym (ap (λ f. f env cx before) (ap (value_means docs) c.in-Path.is ∙ forms.value-Path docs c.in-Path.start c.in-Path.rest)))
    c.path.ensures

pub value-returns-in-Filter : goal.value-returns-in-Filter
value-returns-in-Filter g t c =
    let nav = c.args.self.now.nav.now in
    let scope = c.args.self.now in
    let docs = forests.get (g.N.Nav.forest nav) in
    let place = g.N.Nav.place nav in
    let env = variables_seen place scope.variables.now in
    let cx = context_seen place (option_copied scope.focus) in
    let before = made_seen c.args.made.now in
    same (g.N.Nav.honest nav) (g.N.Nav.passes nav) (items_seen place) c.filter.result (made_seen c.filter.new.made) (spec.value_of docs
    (Expr-F.Filter (means docs c.get-in-Filter.result.now) (map (means docs) c.as_slice-in-Filter.result.now)) env cx before) (value_means docs
    c.args.expr.now env cx before)
    (λ w. (λ i. spec.value_of docs (Expr-F.Filter (means docs (c.get-in-Filter.ensures i)) (map (means docs) (c.as_slice-in-Filter.ensures i))) env
    cx before) ∙ sym (ap (λ f. f env cx before) (ap (value_means docs) c.in-Filter.is ∙ forms.value-Filter docs c.in-Filter.inner
    c.in-Filter.preds))) c.filter.ensures

pub value-returns-in-Fun : goal.value-returns-in-Fun
value-returns-in-Fun g t c =
    let nav = c.args.self.now.nav.now in
    let scope = c.args.self.now in
    let docs = forests.get (g.N.Nav.forest nav) in
    let place = g.N.Nav.place nav in
    let env = variables_seen place scope.variables.now in
    let cx = context_seen place (option_copied scope.focus) in
    let before = made_seen c.args.made.now in
    same (g.N.Nav.honest nav) (g.N.Nav.passes nav) (items_seen place) c.function.result (made_seen c.function.new.made) (spec.value_of docs
    (Expr-F.Fun c.in-Fun.name (map (means docs) c.as_slice-in-Fun.result.now)) env cx before) (value_means docs c.args.expr.now env cx before)
    (λ w. (λ i. spec.value_of docs (Expr-F.Fun c.in-Fun.name (map (means docs) (c.as_slice-in-Fun.ensures i))) env cx before) ∙ sym (ap (λ f. f env
    cx before) (ap (value_means docs) c.in-Fun.is ∙ forms.value-Fun docs c.in-Fun.name c.in-Fun.args))) c.function.ensures

pub value-returns-in-Element : goal.value-returns-in-Element
value-returns-in-Element g t c =
    let nav = c.args.self.now.nav.now in
    let scope = c.args.self.now in
    let docs = forests.get (g.N.Nav.forest nav) in
    let place = g.N.Nav.place nav in
    let env = variables_seen place scope.variables.now in
    let cx = context_seen place (option_copied scope.focus) in
    let before = made_seen c.args.made.now in
    same (g.N.Nav.honest nav) (g.N.Nav.passes nav) (items_seen place) c.element.result (made_seen c.element.new.made) (spec.value_of docs
    (Expr-F.Element c.in-Element.name (option_means docs c.in-Element.content)) env cx before) (value_means docs c.args.expr.now env cx before)
    (λ w. sym (ap (λ f. f env cx before) (ap (value_means docs) c.in-Element.is ∙ forms.value-Element docs c.in-Element.name c.in-Element.content)))
    c.element.ensures

pub value-returns-in-Attribute : goal.value-returns-in-Attribute
value-returns-in-Attribute g t c =
    let nav = c.args.self.now.nav.now in
    let scope = c.args.self.now in
    let docs = forests.get (g.N.Nav.forest nav) in
    let place = g.N.Nav.place nav in
    let env = variables_seen place scope.variables.now in
    let cx = context_seen place (option_copied scope.focus) in
    let before = made_seen c.args.made.now in
    same (g.N.Nav.honest nav) (g.N.Nav.passes nav) (items_seen place) c.attribute.result (made_seen c.attribute.new.made) (spec.value_of docs
    (Expr-F.Attribute c.in-Attribute.name (option_means docs c.in-Attribute.content)) env cx before) (value_means docs c.args.expr.now env cx
    before)
    (λ w. sym (ap (λ f. f env cx before) (ap (value_means docs) c.in-Attribute.is ∙ forms.value-Attribute docs c.in-Attribute.name
    c.in-Attribute.content))) c.attribute.ensures

pub value-returns-in-TextNode : goal.value-returns-in-TextNode
value-returns-in-TextNode g t c =
    let nav = c.args.self.now.nav.now in
    let scope = c.args.self.now in
    let docs = forests.get (g.N.Nav.forest nav) in
    let place = g.N.Nav.place nav in
    let env = variables_seen place scope.variables.now in
    let cx = context_seen place (option_copied scope.focus) in
    let before = made_seen c.args.made.now in
    same (g.N.Nav.honest nav) (g.N.Nav.passes nav) (items_seen place) c.text_node.result (made_seen c.text_node.new.made) (spec.value_of docs
    (Expr-F.TextNode (option_means docs c.in-TextNode.content)) env cx before) (value_means docs c.args.expr.now env cx before)
    (λ w. sym (ap (λ f. f env cx before) (ap (value_means docs) c.in-TextNode.is ∙ forms.value-TextNode docs c.in-TextNode.content)))
    c.text_node.ensures

pub value-returns-in-Doc : goal.value-returns-in-Doc
value-returns-in-Doc g t c =
    let nav = c.args.self.now.nav.now in
    let scope = c.args.self.now in
    let docs = forests.get (g.N.Nav.forest nav) in
    let place = g.N.Nav.place nav in
    let env = variables_seen place scope.variables.now in
    let cx = context_seen place (option_copied scope.focus) in
    let before = made_seen c.args.made.now in
    same (g.N.Nav.honest nav) (g.N.Nav.passes nav) (items_seen place) c.document.result before (spec.value_of docs (Expr-F.Doc c.in-Doc.name) env cx
    before) (value_means docs c.args.expr.now env cx before)
    (λ w. sym (ap (λ f. f env cx before) (ap (value_means docs) c.in-Doc.is ∙ forms.value-Doc docs c.in-Doc.name)))
    (looked (g.N.Nav.honest nav) (g.N.Nav.passes nav) (items_seen place) c.document.result before (spec.document_node docs (docs c.in-Doc.name)
    c.in-Doc.name) c.document.ensures)

pub value-returns-in_err-text-in-Text : goal.value-returns-in_err-text-in-Text
value-returns-in_err-text-in-Text g t c =
    let nav = c.args.self.now.nav.now in
    let scope = c.args.self.now in
    let docs = forests.get (g.N.Nav.forest nav) in
    let place = g.N.Nav.place nav in
    let env = variables_seen place scope.variables.now in
    let cx = context_seen place (option_copied scope.focus) in
    let before = made_seen c.args.made.now in
    exits_no_memory (g.N.Nav.honest nav) (g.N.Nav.passes nav) (items_seen place) c.from_residual.result before (value_means docs c.args.expr.now env
    cx before) c.from_residual.ensures.1

pub value-returns-in_ok-text-in-Text : goal.value-returns-in_ok-text-in-Text
value-returns-in_ok-text-in-Text g t c =
    let nav = c.args.self.now.nav.now in
    let scope = c.args.self.now in
    let docs = forests.get (g.N.Nav.forest nav) in
    let place = g.N.Nav.place nav in
    let env = variables_seen place scope.variables.now in
    let cx = context_seen place (option_copied scope.focus) in
    let before = made_seen c.args.made.now in
    λ w.
    ap (λ f. f env cx before) (ap (value_means docs) c.in-Text.is ∙ forms.value-Text docs c.in-Text.value) ∙ ap (λ items. Ok (items, before)) (sym
    (c.in_ok-text-in-Text.ensures place))

pub value-returns-in_err-integer-in-Int : goal.value-returns-in_err-integer-in-Int
value-returns-in_err-integer-in-Int g t c =
    let nav = c.args.self.now.nav.now in
    let scope = c.args.self.now in
    let docs = forests.get (g.N.Nav.forest nav) in
    let place = g.N.Nav.place nav in
    let env = variables_seen place scope.variables.now in
    let cx = context_seen place (option_copied scope.focus) in
    let before = made_seen c.args.made.now in
    exits_no_memory (g.N.Nav.honest nav) (g.N.Nav.passes nav) (items_seen place) c.from_residual-in_err-integer-in-Int.result before (value_means
    docs c.args.expr.now env cx before) c.from_residual-in_err-integer-in-Int.ensures.1

pub value-returns-in_ok-integer-in-Int : goal.value-returns-in_ok-integer-in-Int
value-returns-in_ok-integer-in-Int g t c =
    let nav = c.args.self.now.nav.now in
    let scope = c.args.self.now in
    let docs = forests.get (g.N.Nav.forest nav) in
    let place = g.N.Nav.place nav in
    let env = variables_seen place scope.variables.now in
    let cx = context_seen place (option_copied scope.focus) in
    let before = made_seen c.args.made.now in
    λ w.
    ap (λ f. f env cx before) (ap (value_means docs) c.in-Int.is ∙ forms.value-Int docs c.in-Int.value) ∙ ap (λ items. Ok (items, before)) (sym
    (c.in_ok-integer-in-Int.ensures place))

pub value-returns-in_err-variable-in-Var : goal.value-returns-in_err-variable-in-Var
value-returns-in_err-variable-in-Var g t c =
    let nav = c.args.self.now.nav.now in
    let scope = c.args.self.now in
    let docs = forests.get (g.N.Nav.forest nav) in
    let place = g.N.Nav.place nav in
    let env = variables_seen place scope.variables.now in
    let cx = context_seen place (option_copied scope.focus) in
    let before = made_seen c.args.made.now in
    exits_no_memory (g.N.Nav.honest nav) (g.N.Nav.passes nav) (items_seen place) c.from_residual-in_err-variable-in-Var.result before (value_means
    docs c.args.expr.now env cx before) c.from_residual-in_err-variable-in-Var.ensures.1

pub value-returns-in_ok-variable-in-Var : goal.value-returns-in_ok-variable-in-Var
value-returns-in_ok-variable-in-Var g t c =
    let nav = c.args.self.now.nav.now in
    let scope = c.args.self.now in
    let docs = forests.get (g.N.Nav.forest nav) in
    let place = g.N.Nav.place nav in
    let env = variables_seen place scope.variables.now in
    let cx = context_seen place (option_copied scope.focus) in
    let before = made_seen c.args.made.now in
    λ w.
    ap (λ f. f env cx before) (ap (value_means docs) c.in-Var.is ∙ forms.value-Var docs c.in-Var.name) ∙ ap (λ items. Ok (items, before)) (sym
    (c.in_ok-variable-in-Var.ensures place))

pub value-returns-in_err-context-in-Context : goal.value-returns-in_err-context-in-Context
value-returns-in_err-context-in-Context g t c =
    let nav = c.args.self.now.nav.now in
    let scope = c.args.self.now in
    let docs = forests.get (g.N.Nav.forest nav) in
    let place = g.N.Nav.place nav in
    let env = variables_seen place scope.variables.now in
    let cx = context_seen place (option_copied scope.focus) in
    let before = made_seen c.args.made.now in
    exits_plainly (g.N.Nav.honest nav) (g.N.Nav.passes nav) (items_seen place) (items_seen place) c.from_residual-in_err-context-in-Context.result
    c.in_err-context-in-Context.field-0.0 before (context_item cx) (value_means docs c.args.expr.now env cx before)
    c.from_residual-in_err-context-in-Context.ensures.1
    (λ w code q. ap (λ f. f env cx before) (ap (value_means docs) c.in-Context.is ∙ forms.value-Context docs) ∙ ap (λ r. plain r before) q)
    (c.in_err-context-in-Context.ensures place)

pub value-returns-in_ok-context-in-Context : goal.value-returns-in_ok-context-in-Context
value-returns-in_ok-context-in-Context g t c =
    let nav = c.args.self.now.nav.now in
    let scope = c.args.self.now in
    let docs = forests.get (g.N.Nav.forest nav) in
    let place = g.N.Nav.place nav in
    let env = variables_seen place scope.variables.now in
    let cx = context_seen place (option_copied scope.focus) in
    let before = made_seen c.args.made.now in
    λ w.
    ap (λ f. f env cx before) (ap (value_means docs) c.in-Context.is ∙ forms.value-Context docs) ∙ ap (λ r. plain r before)
    (c.in_ok-context-in-Context.ensures place)

pub sequence-eval-requires : goal.sequence-eval-requires
sequence-eval-requires g t c =
    let a : weight c.part-item.result ≤ total (map weight c.args.parts.now) = item_below weight c.args.parts.now c.loop-part.part-index
    c.part-item.result c.part-item.is (omega arith) in
    let m : 16 * total (map weight c.args.parts.now) + 2 ≡ t = c.decreases in
    let less : 16 * weight c.part-item.result + 1 < t = omega arith in
    λ κs lives. (less, lives)

pub values-eval-requires : goal.values-eval-requires
values-eval-requires g t c =
    let a : weight c.part-item.result ≤ total (map weight c.args.parts.now) = item_below weight c.args.parts.now c.loop-part.part-index
    c.part-item.result c.part-item.is (omega arith) in
    let m : 16 * total (map weight c.args.parts.now) + 2 ≡ t = c.decreases in
    let less : 16 * weight c.part-item.result + 1 < t = omega arith in
    λ κs lives. (less, lives)

pub any_of-truth-requires : goal.any_of-truth-requires
any_of-truth-requires g t c =
    let a : weight c.part-item.result ≤ total (map weight c.args.parts.now) = item_below weight c.args.parts.now c.loop-part.part-index
    c.part-item.result c.part-item.is (omega arith) in
    let m : 16 * total (map weight c.args.parts.now) + 3 ≡ t = c.decreases in
    let less : 16 * weight c.part-item.result + 2 < t = omega arith in
    λ κs lives. (less, lives)

pub all_of-truth-requires : goal.all_of-truth-requires
all_of-truth-requires g t c =
    let a : weight c.part-item.result ≤ total (map weight c.args.parts.now) = item_below weight c.args.parts.now c.loop-part.part-index
    c.part-item.result c.part-item.is (omega arith) in
    let m : 16 * total (map weight c.args.parts.now) + 3 ≡ t = c.decreases in
    let less : 16 * weight c.part-item.result + 2 < t = omega arith in
    λ κs lives. (less, lives)

pub sum_parts-eval-requires : goal.sum_parts-eval-requires
sum_parts-eval-requires g t c =
    let a : sum_weight c.part-item.result ≤ total (map sum_weight c.args.rest.now) = item_below sum_weight c.args.rest.now c.loop-part.part-index
    c.part-item.result c.part-item.is (omega arith) in
    let k : sum_weight c.part-item.result ≡ weight c.part-item.result.expr + 1 = weight-SumPart c.part-item.result in
    let m : 16 * total (map sum_weight c.args.rest.now) ≡ t = c.decreases in
    let less : 16 * weight c.part-item.result.expr + 1 < t = omega arith in
    λ κs lives. (less, lives)

pub product_parts-eval-requires : goal.product_parts-eval-requires
product_parts-eval-requires g t c =
    let a : product_weight c.part-item.result ≤ total (map product_weight c.args.rest.now) = item_below product_weight c.args.rest.now
    c.loop-part.part-index c.part-item.result c.part-item.is (omega arith) in
    let k : product_weight c.part-item.result ≡ weight c.part-item.result.expr + 1 = weight-ProductPart c.part-item.result in
    let m : 16 * total (map product_weight c.args.rest.now) ≡ t = c.decreases in
    let less : 16 * weight c.part-item.result.expr + 1 < t = omega arith in
    λ κs lives. (less, lives)

pub filtered-kept-requires : goal.filtered-kept-requires
filtered-kept-requires g t c =
    let a : weight c.pred-item.result ≤ total (map weight c.args.preds.now) = item_below weight c.args.preds.now c.loop-pred.pred-index
    c.pred-item.result c.pred-item.is (omega arith) in
    let m : 16 * total (map weight c.args.preds.now) + 4 ≡ t = c.decreases in
    let less : 16 * weight c.pred-item.result + 3 < t = omega arith in
    λ κs lives. (less, lives)

pub path_from-stepped-requires : goal.path_from-stepped-requires
path_from-stepped-requires g t c =
    let a : step_weight c.step-item.result ≤ total (map step_weight c.args.steps.now) = item_below step_weight c.args.steps.now
    c.loop-step.step-index c.step-item.result c.step-item.is (omega arith) in
    let m : 16 * total (map step_weight c.args.steps.now) + 3 ≡ t = c.decreases in
    let less : 16 * step_weight c.step-item.result + 2 < t = omega arith in
    λ κs lives. (less, lives)

pub keyed-eval-requires : goal.keyed-eval-requires
keyed-eval-requires g t c =
    let a : key_weight c.index-keys-i.result ≤ total (map key_weight c.args.keys.now) = item_below key_weight c.args.keys.now c.loop-i.i
    c.index-keys-i.result c.index-keys-i.is (omega arith) in
    let b : key_weight c.index-keys-i.result ≡ weight c.index-keys-i.result.expr + 1 = weight-SortKey c.index-keys-i.result in
    let m : 16 * total (map key_weight c.args.keys.now) + 1 ≡ t = c.decreases in
    let less : 16 * weight c.index-keys-i.result.expr + 1 < t = omega arith in
    λ κs lives. (less, lives)

pub content-eval-requires : goal.content-eval-requires
content-eval-requires g t c =
    let a : option_weight c.args.content.now ≡ weight c.in-Some.expr = ap option_weight c.in-Some.is in
    let b : weight c.get.result.now ≡ weight c.in-Some.expr = ap weight c.get.ensures in
    let m : 16 * option_weight c.args.content.now + 2 ≡ t = c.decreases in
    let less : 16 * weight c.get.result.now + 1 < t = omega arith in
    λ κs lives. (less, lives)

pub stays-eval-requires : goal.stays-eval-requires
stays-eval-requires g t c =
    let a : option_weight c.args.filter.now ≡ weight c.in-Some.expr = ap option_weight c.in-Some.is in
    let b : weight c.get.result.now ≡ weight c.in-Some.expr = ap weight c.get.ensures in
    let m : 16 * option_weight c.args.filter.now + 2 ≡ t = c.decreases in
    let less : 16 * weight c.get.result.now + 1 < t = omega arith in
    λ κs lives. (less, lives)

pub bind-eval-requires : goal.bind-eval-requires
bind-eval-requires g t c =
    let a : bind_weight c.args.bind.now ≡ weight c.in-For.source + 1 = ap bind_weight c.in-For.is ∙ weight-For c.in-For.name c.in-For.at
    c.in-For.source in
    let m : 16 * bind_weight c.args.bind.now ≡ t = c.decreases in
    let less : 16 * weight c.in-For.source + 1 < t = omega arith in
    λ κs lives. (less, lives)

pub bind-eval-requires-in-Let : goal.bind-eval-requires-in-Let
bind-eval-requires-in-Let g t c =
    let a : bind_weight c.args.bind.now ≡ weight c.in-Let.value + 1 = ap bind_weight c.in-Let.is ∙ weight-Let c.in-Let.name c.in-Let.value in
    let m : 16 * bind_weight c.args.bind.now ≡ t = c.decreases in
    let less : 16 * weight c.in-Let.value + 1 < t = omega arith in
    λ κs lives. (less, lives)

pub start-eval-requires : goal.start-eval-requires
start-eval-requires g t c =
    let a : start_weight c.args.start.now ≡ weight c.in-Value.inner + 1 = ap start_weight c.in-Value.is ∙ weight-Value c.in-Value.inner in
    let b : weight c.get.result.now ≡ weight c.in-Value.inner = ap weight c.get.ensures in
    let m : 16 * start_weight c.args.start.now ≡ t = c.decreases in
    let less : 16 * weight c.get.result.now + 1 < t = omega arith in
    λ κs lives. (less, lives)

pub start-first_step-requires : goal.start-first_step-requires
start-first_step-requires g t c =
    let a : start_weight c.args.start.now ≡ step_weight c.in-First.step + 1 = ap start_weight c.in-First.is ∙ weight-First c.in-First.step in
    let m : 16 * start_weight c.args.start.now ≡ t = c.decreases in
    let less : 16 * step_weight c.in-First.step + 3 < t = omega arith in
    λ κs lives. (less, lives)

pub from_node-filtered-requires : goal.from_node-filtered-requires
from_node-filtered-requires g t c =
    let a : step_weight c.args.step.now ≡ total (map weight c.args.step.now.preds) + 1 = weight-Step c.args.step.now in
    let b : total (map weight c.as_slice-3.result.now) ≡ total (map weight c.args.step.now.preds) = ap (λ xs. total (map weight xs))
    c.as_slice-3.ensures in
    let m : 16 * step_weight c.args.step.now ≡ t = c.decreases in
    let less : 16 * total (map weight c.as_slice-3.result.now) + 4 < t = omega arith in
    λ κs lives. (less, lives)

pub tuples-bind-requires : goal.tuples-bind-requires
tuples-bind-requires g t c =
    let a : total (map bind_weight c.args.binds.now) ≡ bind_weight c.first-item.result + total (map bind_weight (drop 1 c.args.binds.now)) = ap total
    (opened bind_weight c.args.binds.now c.first-item.result c.in-len1-up.len_at_least c.first-item.is) in
    let m : 16 * (total (map bind_weight c.args.binds.now) + option_weight c.args.filter.now + total (map key_weight c.args.keys.now)) + 4 ≡ t =
    c.decreases in
    let less : 16 * bind_weight c.first-item.result < t = omega arith in
    λ κs lives. (less, lives)

pub tuples-each-requires : goal.tuples-each-requires
tuples-each-requires g t c =
    let a : total (map bind_weight c.args.binds.now) ≡ bind_weight c.first-item.result + total (map bind_weight (drop 1 c.args.binds.now)) = ap total
    (opened bind_weight c.args.binds.now c.first-item.result c.in-len1-up.len_at_least c.first-item.is) in
    let b : 0 < bind_weight c.first-item.result = bind_holds c.first-item.result in
    let r : total (map bind_weight (take (length c.args.binds.now - 1) (drop 1 c.args.binds.now))) ≡ total (map bind_weight (drop 1
    c.args.binds.now)) = ap (λ bs. total (map bind_weight bs)) (others c.args.binds.now) in
    let m : 16 * (total (map bind_weight c.args.binds.now) + option_weight c.args.filter.now + total (map key_weight c.args.keys.now)) + 4 ≡ t =
    c.decreases in
    let less : 16 * (total (map bind_weight (take (length c.args.binds.now - 1) (drop 1 c.args.binds.now))) + option_weight c.args.filter.now + total
    (map key_weight c.args.keys.now)) + 6 < t = omega arith in
    λ κs lives. (less, lives)

pub value-sequence-requires : goal.value-sequence-requires
value-sequence-requires g t c =
    let w : weight c.args.expr.now ≡ total (map weight c.in-Seq.parts) + 1 = ap weight c.in-Seq.is ∙ weight-Seq c.in-Seq.parts in
    let f0 : total (map weight c.as_slice.result.now) ≡ total (map weight c.in-Seq.parts) = ap (λ x. total (map weight x)) c.as_slice.ensures in
    let m : 16 * weight c.args.expr.now ≡ t = c.decreases in
    let less : 16 * total (map weight c.as_slice.result.now) + 2 < t = omega arith in
    λ κs lives. (less, lives)

pub value-flwor-requires : goal.value-flwor-requires
value-flwor-requires g t c =
    let w : weight c.args.expr.now ≡ total (map bind_weight c.in-Flwor.binds) + option_weight c.in-Flwor.filter + total (map key_weight
    c.in-Flwor.keys) + weight c.in-Flwor.result + 1 = ap weight c.in-Flwor.is ∙ weight-Flwor c.in-Flwor.binds c.in-Flwor.filter c.in-Flwor.keys
    c.in-Flwor.result in
    let f0 : total (map bind_weight c.as_slice-in-Flwor.result.now) ≡ total (map bind_weight c.in-Flwor.binds) = ap (λ x. total (map bind_weight x))
    c.as_slice-in-Flwor.ensures in
    let f1 : total (map key_weight c.as_slice-in-Flwor-2.result.now) ≡ total (map key_weight c.in-Flwor.keys) = ap (λ x. total (map key_weight x))
    c.as_slice-in-Flwor-2.ensures in
    let f2 : weight c.get.result.now ≡ weight c.in-Flwor.result = ap (λ x. weight x) c.get.ensures in
    let m : 16 * weight c.args.expr.now ≡ t = c.decreases in
    let less : 16 * (total (map bind_weight c.as_slice-in-Flwor.result.now) + option_weight c.in-Flwor.filter + total (map key_weight
    c.as_slice-in-Flwor-2.result.now) + weight c.get.result.now) + 7 < t = omega arith in
    λ κs lives. (less, lives)

pub value-choice-requires : goal.value-choice-requires
value-choice-requires g t c =
    let w : weight c.args.expr.now ≡ weight c.in-If.test + weight c.in-If.yes + weight c.in-If.no + 1 = ap weight c.in-If.is ∙ weight-If c.in-If.test
    c.in-If.yes c.in-If.no in
    let f0 : weight c.get-in-If.result.now ≡ weight c.in-If.test = ap (λ x. weight x) c.get-in-If.ensures in
    let f1 : weight c.get-in-If-2.result.now ≡ weight c.in-If.yes = ap (λ x. weight x) c.get-in-If-2.ensures in
    let f2 : weight c.get-in-If-3.result.now ≡ weight c.in-If.no = ap (λ x. weight x) c.get-in-If-3.ensures in
    let m : 16 * weight c.args.expr.now ≡ t = c.decreases in
    let less : 16 * (weight c.get-in-If.result.now + weight c.get-in-If-2.result.now + weight c.get-in-If-3.result.now) + 3 < t = omega arith in
    λ κs lives. (less, lives)

pub value-or-requires : goal.value-or-requires
value-or-requires g t c =
    let w : weight c.args.expr.now ≡ total (map weight c.in-Or.parts) + 1 = ap weight c.in-Or.is ∙ weight-Or c.in-Or.parts in
    let f0 : total (map weight c.as_slice-in-Or.result.now) ≡ total (map weight c.in-Or.parts) = ap (λ x. total (map weight x))
    c.as_slice-in-Or.ensures in
    let m : 16 * weight c.args.expr.now ≡ t = c.decreases in
    let less : 16 * total (map weight c.as_slice-in-Or.result.now) + 4 < t = omega arith in
    λ κs lives. (less, lives)

pub value-and-requires : goal.value-and-requires
value-and-requires g t c =
    let w : weight c.args.expr.now ≡ total (map weight c.in-And.parts) + 1 = ap weight c.in-And.is ∙ weight-And c.in-And.parts in
    let f0 : total (map weight c.as_slice-in-And.result.now) ≡ total (map weight c.in-And.parts) = ap (λ x. total (map weight x))
    c.as_slice-in-And.ensures in
    let m : 16 * weight c.args.expr.now ≡ t = c.decreases in
    let less : 16 * total (map weight c.as_slice-in-And.result.now) + 4 < t = omega arith in
    λ κs lives. (less, lives)

pub value-compare-requires : goal.value-compare-requires
value-compare-requires g t c =
    let w : weight c.args.expr.now ≡ weight c.in-Compare.left + weight c.in-Compare.right + 1 = ap weight c.in-Compare.is ∙ weight-Compare
    c.in-Compare.left c.in-Compare.op c.in-Compare.right in
    let f0 : weight c.get-in-Compare.result.now ≡ weight c.in-Compare.left = ap (λ x. weight x) c.get-in-Compare.ensures in
    let f1 : weight c.get-in-Compare-2.result.now ≡ weight c.in-Compare.right = ap (λ x. weight x) c.get-in-Compare-2.ensures in
    let m : 16 * weight c.args.expr.now ≡ t = c.decreases in
    let less : 16 * (weight c.get-in-Compare.result.now + weight c.get-in-Compare-2.result.now) + 2 < t = omega arith in
    λ κs lives. (less, lives)

pub value-range-requires : goal.value-range-requires
value-range-requires g t c =
    let w : weight c.args.expr.now ≡ weight c.in-Range.low + weight c.in-Range.high + 1 = ap weight c.in-Range.is ∙ weight-Range c.in-Range.low
    c.in-Range.high in
    let f0 : weight c.get-in-Range.result.now ≡ weight c.in-Range.low = ap (λ x. weight x) c.get-in-Range.ensures in
    let f1 : weight c.get-in-Range-2.result.now ≡ weight c.in-Range.high = ap (λ x. weight x) c.get-in-Range-2.ensures in
    let m : 16 * weight c.args.expr.now ≡ t = c.decreases in
    let less : 16 * (weight c.get-in-Range.result.now + weight c.get-in-Range-2.result.now) + 2 < t = omega arith in
    λ κs lives. (less, lives)

pub value-sum-requires : goal.value-sum-requires
value-sum-requires g t c =
    let w : weight c.args.expr.now ≡ weight c.in-Sum.first + total (map sum_weight c.in-Sum.rest) + 1 = ap weight c.in-Sum.is ∙ weight-Sum
    c.in-Sum.first c.in-Sum.rest in
    let f0 : weight c.get-in-Sum.result.now ≡ weight c.in-Sum.first = ap (λ x. weight x) c.get-in-Sum.ensures in
    let f1 : total (map sum_weight c.as_slice-in-Sum.result.now) ≡ total (map sum_weight c.in-Sum.rest) = ap (λ x. total (map sum_weight x))
    c.as_slice-in-Sum.ensures in
    let m : 16 * weight c.args.expr.now ≡ t = c.decreases in
    let less : 16 * (weight c.get-in-Sum.result.now + total (map sum_weight c.as_slice-in-Sum.result.now)) + 2 < t = omega arith in
    λ κs lives. (less, lives)

pub value-product-requires : goal.value-product-requires
value-product-requires g t c =
    let w : weight c.args.expr.now ≡ weight c.in-Product.first + total (map product_weight c.in-Product.rest) + 1 = ap weight c.in-Product.is ∙
    weight-Product c.in-Product.first c.in-Product.rest in
    let f0 : weight c.get-in-Product.result.now ≡ weight c.in-Product.first = ap (λ x. weight x) c.get-in-Product.ensures in
    let f1 : total (map product_weight c.as_slice-in-Product.result.now) ≡ total (map product_weight c.in-Product.rest) = ap (λ x. total (map
    product_weight x)) c.as_slice-in-Product.ensures in
    let m : 16 * weight c.args.expr.now ≡ t = c.decreases in
    let less : 16 * (weight c.get-in-Product.result.now + total (map product_weight c.as_slice-in-Product.result.now)) + 2 < t = omega arith in
    λ κs lives. (less, lives)

pub value-union-requires : goal.value-union-requires
value-union-requires g t c =
    let w : weight c.args.expr.now ≡ total (map weight c.in-Union.parts) + 1 = ap weight c.in-Union.is ∙ weight-Union c.in-Union.parts in
    let f0 : total (map weight c.as_slice-in-Union.result.now) ≡ total (map weight c.in-Union.parts) = ap (λ x. total (map weight x))
    c.as_slice-in-Union.ensures in
    let m : 16 * weight c.args.expr.now ≡ t = c.decreases in
    let less : 16 * total (map weight c.as_slice-in-Union.result.now) + 3 < t = omega arith in
    λ κs lives. (less, lives)

pub value-signed-requires : goal.value-signed-requires
value-signed-requires g t c =
    let w : weight c.args.expr.now ≡ weight c.in-Signed.inner + 1 = ap weight c.in-Signed.is ∙ weight-Signed c.in-Signed.signs c.in-Signed.inner in
    let f0 : weight c.get-in-Signed.result.now ≡ weight c.in-Signed.inner = ap (λ x. weight x) c.get-in-Signed.ensures in
    let m : 16 * weight c.args.expr.now ≡ t = c.decreases in
    let less : 16 * weight c.get-in-Signed.result.now + 2 < t = omega arith in
    λ κs lives. (less, lives)

pub value-path-requires : goal.value-path-requires
value-path-requires g t c =
    let w : weight c.args.expr.now ≡ start_weight c.in-Path.start + total (map step_weight c.in-Path.rest) + 1 = ap weight c.in-Path.is ∙ weight-Path
    c.in-Path.start c.in-Path.rest in
    let f0 : total (map step_weight c.as_slice-in-Path.result.now) ≡ total (map step_weight c.in-Path.rest) = ap (λ x. total (map step_weight x))
    c.as_slice-in-Path.ensures in
    let m : 16 * weight c.args.expr.now ≡ t = c.decreases in
    let less : 16 * (start_weight c.in-Path.start + total (map step_weight c.as_slice-in-Path.result.now)) + 4 < t = omega arith in
    λ κs lives. (less, lives)

pub value-filter-requires : goal.value-filter-requires
value-filter-requires g t c =
    let w : weight c.args.expr.now ≡ weight c.in-Filter.inner + total (map weight c.in-Filter.preds) + 1 = ap weight c.in-Filter.is ∙ weight-Filter
    c.in-Filter.inner c.in-Filter.preds in
    let f0 : weight c.get-in-Filter.result.now ≡ weight c.in-Filter.inner = ap (λ x. weight x) c.get-in-Filter.ensures in
    let f1 : total (map weight c.as_slice-in-Filter.result.now) ≡ total (map weight c.in-Filter.preds) = ap (λ x. total (map weight x))
    c.as_slice-in-Filter.ensures in
    let m : 16 * weight c.args.expr.now ≡ t = c.decreases in
    let less : 16 * (weight c.get-in-Filter.result.now + total (map weight c.as_slice-in-Filter.result.now)) + 5 < t = omega arith in
    λ κs lives. (less, lives)

pub value-function-requires : goal.value-function-requires
value-function-requires g t c =
    let w : weight c.args.expr.now ≡ total (map weight c.in-Fun.args) + 1 = ap weight c.in-Fun.is ∙ weight-Fun c.in-Fun.name c.in-Fun.args in
    let f0 : total (map weight c.as_slice-in-Fun.result.now) ≡ total (map weight c.in-Fun.args) = ap (λ x. total (map weight x))
    c.as_slice-in-Fun.ensures in
    let m : 16 * weight c.args.expr.now ≡ t = c.decreases in
    let less : 16 * total (map weight c.as_slice-in-Fun.result.now) + 3 < t = omega arith in
    λ κs lives. (less, lives)

pub value-element-requires : goal.value-element-requires
value-element-requires g t c =
    let w : weight c.args.expr.now ≡ option_weight c.in-Element.content + 1 = ap weight c.in-Element.is ∙ weight-Element c.in-Element.name
    c.in-Element.content in
    let m : 16 * weight c.args.expr.now ≡ t = c.decreases in
    let less : 16 * option_weight c.in-Element.content + 3 < t = omega arith in
    λ κs lives. (less, lives)

pub value-attribute-requires : goal.value-attribute-requires
value-attribute-requires g t c =
    let w : weight c.args.expr.now ≡ option_weight c.in-Attribute.content + 1 = ap weight c.in-Attribute.is ∙ weight-Attribute c.in-Attribute.name
    c.in-Attribute.content in
    let m : 16 * weight c.args.expr.now ≡ t = c.decreases in
    let less : 16 * option_weight c.in-Attribute.content + 3 < t = omega arith in
    λ κs lives. (less, lives)

pub value-text_node-requires : goal.value-text_node-requires
value-text_node-requires g t c =
    let w : weight c.args.expr.now ≡ option_weight c.in-TextNode.content + 1 = ap weight c.in-TextNode.is ∙ weight-TextNode c.in-TextNode.content in
    let m : 16 * weight c.args.expr.now ≡ t = c.decreases in
    let less : 16 * option_weight c.in-TextNode.content + 3 < t = omega arith in
    λ κs lives. (less, lives)
