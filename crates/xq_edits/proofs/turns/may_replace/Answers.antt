use Rattle.std.proofs.Common.{◌∙◌, ap, sym, map}
use Rattle.xml_model.specs.declared.edit.EditKind.TheVariants as edit
use Rattle.xml_model.specs.Edits as spec
use Rattle.xml_model.specs.Items.{◌>>?◌}
use Rattle.xq_edits.specs.Seen.{change_seen}
use Rattle.xq_edits.proofs.ByKind.{document_refused}
use Rattle.xq_edits.proofs.turns.may_replace.Goals as goal

pub returns-then-branch : goal.returns-then-branch
returns-then-branch g c = λ h.
    let place = g.N.Nav.place c.args.nav.now in
    ap (λ r. r >>? (λ _. spec.outermost (map (change_seen place) c.args.done.now) (place c.args.target)))
    (document_refused (g.N.Nav.forest c.args.nav.now) (place c.args.target) edit.Delete (sym (c.in_ok-is_document.ensures.gives h) ∙ c.if-branch.true))
