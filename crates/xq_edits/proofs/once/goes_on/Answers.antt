use Rattle.std.proofs.Common.{◌∙◌, sym, refl}
use Rattle.xq_ast.specs.declared.kind.Kind.TheVariants as kind
use Rattle.xq_edits.proofs.Elements.{attribute_there, next_other, next_elsewhere}
use Rattle.xq_edits.proofs.once.goes_on.Goals as goal

pub returns-else-target-next-clause-gives : goal.returns-else-target-next-clause-gives
returns-else-target-next-clause-gives g c = λ h at el.
    let place = g.N.Nav.place c.args.nav.now in
    let F = g.N.Nav.forest c.args.nav.now in
    next_elsewhere F place c.args.target (place c.args.element) c.args.more.now c.in-len1-up.len_at_least (attribute_there F (place c.args.target) at)
    (λ m same. g.met.N.Nav.same c.args.nav.now c.args.target m h same) c.if-target-next.false el

pub returns-in-Element-clause-gives : goal.returns-in-Element-clause-gives
returns-in-Element-clause-gives g c = λ h at el.
    let place = g.N.Nav.place c.args.nav.now in
    next_other (g.N.Nav.forest c.args.nav.now) place (place c.args.target) (place c.args.element) c.args.more.now kind.Element
    c.in-len1-up.len_at_least (sym c.in-Element.is ∙ c.in_ok-kind_of.ensures.gives h) refl refl el

pub returns-in-Text-clause-gives : goal.returns-in-Text-clause-gives
returns-in-Text-clause-gives g c = λ h at el.
    let place = g.N.Nav.place c.args.nav.now in
    next_other (g.N.Nav.forest c.args.nav.now) place (place c.args.target) (place c.args.element) c.args.more.now kind.Text
    c.in-len1-up.len_at_least (sym c.in-Text.is ∙ c.in_ok-kind_of.ensures.gives h) refl refl el

pub returns-in-Pi-clause-gives : goal.returns-in-Pi-clause-gives
returns-in-Pi-clause-gives g c = λ h at el.
    let place = g.N.Nav.place c.args.nav.now in
    next_other (g.N.Nav.forest c.args.nav.now) place (place c.args.target) (place c.args.element) c.args.more.now kind.Pi
    c.in-len1-up.len_at_least (sym c.in-Pi.is ∙ c.in_ok-kind_of.ensures.gives h) refl refl el
