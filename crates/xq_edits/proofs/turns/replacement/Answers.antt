use Rattle.std.proofs.Common.{◌∙◌, sym, refl, map}
use Rattle.xq_ast.specs.declared.kind.Kind.TheVariants as kind
use Rattle.xq_edits.specs.Seen.{change_seen, content_seen}
use Rattle.xq_edits.proofs.TurnEnds.{document_replaced, node_replaced}
use Rattle.xq_edits.proofs.turns.replacement.Goals as goal

pub returns-in-Document : goal.returns-in-Document
returns-in-Document g c = λ h.
    let place = g.N.Nav.place c.args.nav.now in
    document_replaced (g.N.Nav.forest c.args.nav.now) (map (change_seen place) c.args.done.now) (place c.args.target) (map place c.args.more.now)
    kind.Document (sym c.in-Document.is ∙ c.in_ok-kind_of.ensures.gives h) (content_seen c.args.content) refl

pub returns-in_ok-put_nodes-in-Element : goal.returns-in_ok-put_nodes-in-Element
returns-in_ok-put_nodes-in-Element g c = λ h.
    let place = g.N.Nav.place c.args.nav.now in
    node_replaced (g.N.Nav.forest c.args.nav.now) (map (change_seen place) c.args.done.now) (place c.args.target) (map place c.args.more.now)
    kind.Element (sym c.in-Element.is ∙ c.in_ok-kind_of.ensures.gives h) (content_seen c.args.content) refl refl
    ∙ (sym c.put_nodes.ensures ∙ c.in_ok-put_nodes-in-Element.was)

pub returns-in_ok-put_nodes-in-Text : goal.returns-in_ok-put_nodes-in-Text
returns-in_ok-put_nodes-in-Text g c = λ h.
    let place = g.N.Nav.place c.args.nav.now in
    node_replaced (g.N.Nav.forest c.args.nav.now) (map (change_seen place) c.args.done.now) (place c.args.target) (map place c.args.more.now)
    kind.Text (sym c.in-Text.is ∙ c.in_ok-kind_of.ensures.gives h) (content_seen c.args.content) refl refl
    ∙ (sym c.put_nodes-in-Text.ensures ∙ c.in_ok-put_nodes-in-Text.was)

pub returns-in_ok-put_nodes-in-Pi : goal.returns-in_ok-put_nodes-in-Pi
returns-in_ok-put_nodes-in-Pi g c = λ h.
    let place = g.N.Nav.place c.args.nav.now in
    node_replaced (g.N.Nav.forest c.args.nav.now) (map (change_seen place) c.args.done.now) (place c.args.target) (map place c.args.more.now)
    kind.Pi (sym c.in-Pi.is ∙ c.in_ok-kind_of.ensures.gives h) (content_seen c.args.content) refl refl
    ∙ (sym c.put_nodes-in-Pi.ensures ∙ c.in_ok-put_nodes-in-Pi.was)
