use Rattle.std.proofs.Common.{◌≡◌, Some, true, map, ◌∷◌, ◌∙◌, ap, sym}
use Rattle.std.specs.FinMap as forests
use Rattle.std.specs.Option.{option_map}
use Rattle.xml_model.specs.Edits.{element_of}
use Rattle.xq_edits.specs.Seen.{change_seen}
use Rattle.xq_edits.proofs.Elements.{element_above}
use Rattle.xq_edits.proofs.NamesAlong.{rises_behind, rises_to}
use Rattle.xq_edits.proofs.NameTests.{tested_last}
use Rattle.xq_edits.proofs.once.named_once.Goals as goal

pub goes_on-requires : goal.goes_on-requires
goes_on-requires g c =
    let place = g.N.Nav.place c.args.nav.now in
    record {
      rising = λ h. rises_behind (map (change_seen place) c.args.done.now) (place c.args.last.node ∷ map place c.args.more.now) (c.requires.rising h);
    }

pub names_twice-requires : goal.names_twice-requires
names_twice-requires g c =
    let place = g.N.Nav.place c.args.nav.now in
    record { rising = λ h. rises_to (map (change_seen place) c.args.done.now) (place c.args.last.node) (map place c.args.more.now) (c.requires.rising h) }

pub returns-then-branch-2 : goal.returns-then-branch-2
returns-then-branch-2 g c = λ h.
    let F = g.N.Nav.forest c.args.nav.now in
    let place = g.N.Nav.place c.args.nav.now in
    let n = place c.args.last.node in
    let e = place c.in-Some.element in
    let is : element_of n ≡ Some e = element_above F n (Some e) (c.requires.attribute h)
    (sym (ap (option_map place) c.in-Some.is) ∙ c.in_ok-element.ensures.gives h) in
    tested_last (forests.get F) (map (change_seen place) c.args.done.now) (map place c.args.more.now) n c.args.last.what e true is
    (sym (c.in_ok-goes_on.ensures.gives h (c.requires.attribute h) is) ∙ c.if-branch.false)
    (sym c.if-branch-2.true ∙ c.in_ok-names_twice.ensures.gives h)
