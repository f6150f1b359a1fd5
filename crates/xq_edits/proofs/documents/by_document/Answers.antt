use Rattle.std.proofs.Common.{map, sym, subst}
use Rattle.xml_model.specs.Edits.{by_document}
use Rattle.xq_edits.specs.Documents.{AreEditsOf}
use Rattle.xq_edits.specs.Groups.{AreTold}
use Rattle.xq_edits.specs.Seen.{change_seen}
use Rattle.xq_edits.proofs.Finding.{found_so}
use Rattle.xq_edits.proofs.Groups.{told_all}
use Rattle.xq_edits.proofs.documents.by_document.Goals as goal

pub returns : goal.returns
returns g c =
    let nav = c.args.nav.now in
    let place = g.N.Nav.place nav in
    found_so (g.N.Nav.honest nav) (g.N.Nav.passes nav) (AreEditsOf place) c.in_ok-grouped.field-0 (by_document (map (change_seen place) c.args.changes))
    (λ h. c.in_ok-grouped.ensures place
    (subst (λ l. AreTold place l c.args.changes) (sym c.as_slice.ensures)
    (told_all (g.N.Nav.forest nav) place (λ a b. g.met.N.Nav.named nav a b h) (λ a b. g.met.N.Nav.same nav a b h)
    c.in_ok-roots.roots c.args.names.now c.args.changes (c.in_ok-roots.ensures.nodes h) (c.in_ok-roots.ensures.names h) (c.requires.named h))))
