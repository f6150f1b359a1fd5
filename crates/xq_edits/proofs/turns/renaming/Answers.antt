use Rattle.std.proofs.Common.{Ok, ◌∙◌, sym, refl, map, ap}
use Rattle.xq_ast.specs.declared.kind.Kind.TheVariants as kind
use Rattle.xml_model.specs.declared.edit.EditKind.TheVariants as edit
use Rattle.xq_edits.specs.Seen.{change_seen}
use Rattle.xq_edits.proofs.TurnEnds.{name_refused, name_given}
use Rattle.xq_edits.proofs.turns.renaming.Goals as goal

pub returns-in-Element : goal.returns-in-Element
returns-in-Element g c = λ h.
    let place = g.N.Nav.place c.args.nav.now in
    name_given (g.N.Nav.forest c.args.nav.now) (map (change_seen place) c.args.done.now) (place c.args.target) (map place c.args.more.now)
    kind.Element (sym c.in-Element.is ∙ c.in_ok-kind_of.ensures.gives h) c.args.name.now refl refl refl
    ∙ ap (λ name. Ok (edit.Rename name)) (sym c.in_ok-copy.ensures)

pub returns-in-Pi : goal.returns-in-Pi
returns-in-Pi g c = λ h.
    let place = g.N.Nav.place c.args.nav.now in
    name_given (g.N.Nav.forest c.args.nav.now) (map (change_seen place) c.args.done.now) (place c.args.target) (map place c.args.more.now)
    kind.Pi (sym c.in-Pi.is ∙ c.in_ok-kind_of.ensures.gives h) c.args.name.now refl refl refl
    ∙ ap (λ name. Ok (edit.Rename name)) (sym c.in_ok-copy.ensures)

pub returns-in-Document : goal.returns-in-Document
returns-in-Document g c = λ h.
    let place = g.N.Nav.place c.args.nav.now in
    name_refused (g.N.Nav.forest c.args.nav.now) (map (change_seen place) c.args.done.now) (place c.args.target) (map place c.args.more.now)
    kind.Document (sym c.in-Document.is ∙ c.in_ok-kind_of.ensures.gives h) c.args.name.now refl
