use Rattle.std.proofs.Common.{◌∙◌, ap, sym}
use Rattle.std.specs.Option.{option_map}
use Rattle.xq_edits.proofs.NameTests.{of_element}
use Rattle.xq_edits.proofs.once.is_of.Goals as goal

pub returns-clause-gives : goal.returns-clause-gives
returns-clause-gives g c =
    let place = g.N.Nav.place c.args.nav.now in
    of_element (g.N.Nav.honest c.args.nav.now) (g.N.Nav.forest c.args.nav.now) c.is_same.result (place c.args.element) (place c.args.attribute)
    (place c.in-Some.other) (λ h. sym (ap (option_map place) c.in-Some.is) ∙ c.in_ok-other.ensures.gives h) c.is_same.ensures.gives
