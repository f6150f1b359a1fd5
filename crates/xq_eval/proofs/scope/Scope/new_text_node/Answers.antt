use Rattle.std.proofs.Common.{◌≡◌, length, sym, ap, ◌∙◌, Some}
use Rattle.std.specs.Prelude.{◌==◌}
use Rattle.std.specs.FinMap as forests
use Rattle.std.specs.Option.{option_copied}
use Rattle.xq_ast.specs.declared.tree.Bind.TheOpen.{Expr-F}
use Rattle.xml_model.specs.Constructors as constructors
use Rattle.xml_model.specs.Evaluation as spec
use Rattle.xml_model.specs.Items.{give}
use Rattle.xml_model.specs.Nodes.{atomized}
use Rattle.xq_values.specs.Seen.{made_seen}
use Rattle.xq_eval.specs.Scopes.{items_seen, variables_seen, context_seen}
use Rattle.xq_eval.proofs.Endings.{exits_looking}
use Rattle.xq_eval.proofs.Lists.{text_made}
use Rattle.xq_eval.proofs.Steps.{goes_on, stops, looks_on, looks_no_more}
use Rattle.xq_eval.proofs.scope.Scope.new_text_node.Goals as goal

pub returns-in_err-value : goal.returns-in_err-value
returns-in_err-value g c =
    let nav = c.args.self.now.nav.now in
    let scope = c.args.self.now in
    let docs = forests.get (g.N.Nav.forest nav) in
    let place = g.N.Nav.place nav in
    let env = variables_seen place scope.variables.now in
    let cx = context_seen place (option_copied scope.focus) in
    let before = made_seen c.args.made.now in
    let fx : constructors.limited_text (constructors.spaced (atomized docs (made_seen c.as_slice-2.result.now) (items_seen place
    c.as_slice-3.result.now))) ≡ constructors.limited_text (constructors.spaced (atomized docs before (items_seen place c.args.found))) = λ i.
    constructors.limited_text (constructors.spaced (atomized docs (made_seen (c.as_slice-2.ensures i)) (items_seen place (c.as_slice-3.ensures
    i)))) in
    exits_looking (g.N.Nav.honest nav) (g.N.Nav.passes nav) (λ b. b) (items_seen place) c.from_residual.result c.in_err-value.field-0.0 before
    (constructors.limited_text (constructors.spaced (atomized docs (made_seen c.as_slice-2.result.now) (items_seen place
    c.as_slice-3.result.now)))) (spec.value_of docs (Expr-F.TextNode (Some (λ env cx. give (items_seen place c.args.found)))) env cx before)
    c.from_residual.ensures.1 (λ w code q. text_made docs place c.args.found env cx before (λ e. c.if-is_empty.ensures ∙ ap (λ xs. length xs ==
    0) (c.as_slice.ensures ∙ e)) ∙ (stops _ (looks_no_more _ (sym fx ∙ q)))) c.in_err-value.ensures

pub returns : goal.returns
returns g c =
    let nav = c.args.self.now.nav.now in
    let scope = c.args.self.now in
    let docs = forests.get (g.N.Nav.forest nav) in
    let place = g.N.Nav.place nav in
    let env = variables_seen place scope.variables.now in
    let cx = context_seen place (option_copied scope.focus) in
    let before = made_seen c.args.made.now in
    let fx : constructors.limited_text (constructors.spaced (atomized docs (made_seen c.as_slice-2.result.now) (items_seen place
    c.as_slice-3.result.now))) ≡ constructors.limited_text (constructors.spaced (atomized docs before (items_seen place c.args.found))) = λ i.
    constructors.limited_text (constructors.spaced (atomized docs (made_seen (c.as_slice-2.ensures i)) (items_seen place (c.as_slice-3.ensures
    i)))) in
    λ w. text_made docs place c.args.found env cx before (λ e. c.if-is_empty.ensures ∙ ap (λ xs. length xs == 0) (c.as_slice.ensures ∙ e)) ∙ (goes_on
    _ (looks_on (sym fx ∙ c.in_ok-value.ensures w)) ∙ (c.in_ok-constructed.ensures place))
