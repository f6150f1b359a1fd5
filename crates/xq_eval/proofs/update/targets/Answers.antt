use Rattle.std.proofs.Common.{map, ap, sym, subst, ◌∙◌}
use Rattle.std.specs.FinMap as forests
use Rattle.xml_model.specs.Edits as spec
use Rattle.xq_edits.specs.Seen.{change_seen}
use Rattle.xq_values.specs.Seen.{made_seen}
use Rattle.xq_ast.specs.Documents.{documents}
use Rattle.xq_edits.specs.Documents.{AreEditsOf, AreNamed, asked, edits_by}
use Rattle.xq_edits.specs.Turns.{nodes_of}
use Rattle.xq_eval.proofs.Endings.{finds_same, exits_finding, exits_finding_no_memory}
use Rattle.xq_eval.proofs.Updates.{found_changes_rise, found_changes_named}
use Rattle.xq_eval.proofs.update.targets.Goals as goal

pub returns-in_err-found : goal.returns-in_err-found
returns-in_err-found g c =
    let nav = c.args.nav.now in
    let F = g.N.Nav.forest nav in
    let place = g.N.Nav.place nav in
    exits_finding (g.N.Nav.honest nav) (g.N.Nav.passes nav) (map (change_seen place)) (AreEditsOf place) c.from_residual.result
    c.in_err-found.field-0.0 (made_seen c.changes.new.made)
    (spec.changes (forests.get F) c.args.what.now (made_seen c.new-made.result)) (asked F c.args.what.now) c.from_residual.ensures.1
    (λ w code q. ap (λ made. edits_by (spec.changes (forests.get F) c.args.what.now (made_seen made))) (sym c.new-made.ensures) ∙ ap edits_by q)
    c.in_err-found.ensures

pub returns-in_err-names : goal.returns-in_err-names
returns-in_err-names g c =
    let nav = c.args.nav.now in
    exits_finding_no_memory (g.N.Nav.honest nav) (g.N.Nav.passes nav) (AreEditsOf (g.N.Nav.place nav)) c.from_residual-in_err-names.result (asked
    (g.N.Nav.forest nav) c.args.what.now)
    c.from_residual-in_err-names.ensures.1

pub by_document-requires : goal.by_document-requires
by_document-requires g c =
    let nav = c.args.nav.now in
    let F = g.N.Nav.forest nav in
    let seen = map (change_seen (g.N.Nav.place nav)) c.in_ok-found.found in
    record {
      rising = λ w. found_changes_rise (forests.get F) c.args.what.now (made_seen c.new-made.result) (made_seen c.changes.new.made) seen
          (c.in_ok-found.ensures w);
      named = λ w. subst (λ names. AreNamed F names (nodes_of seen)) (sym (c.in_ok-names.ensures ∙ ap documents c.target_of.ensures))
          (found_changes_named F c.args.what.now (made_seen c.new-made.result) (made_seen c.changes.new.made) seen (c.in_ok-found.ensures w));
    }

pub returns : goal.returns
returns g c =
    let nav = c.args.nav.now in
    let F = g.N.Nav.forest nav in
    let place = g.N.Nav.place nav in
    finds_same (g.N.Nav.honest nav) (g.N.Nav.passes nav) (AreEditsOf place) c.by_document.result _ (asked F c.args.what.now)
    (λ w. sym (ap (λ made. edits_by (spec.changes (forests.get F) c.args.what.now (made_seen made))) (sym c.new-made.ensures)
    ∙ ap edits_by (c.in_ok-found.ensures w))) c.by_document.ensures
