use Rattle.std.proofs.Common.{[], ◌∷◌, ◌∙◌, ap, map}
use Rattle.xml_model.specs.Constructors.{has_name_twice}
use Rattle.xq_edits.specs.Seen.{change_seen}
use Rattle.xq_edits.proofs.NamesAlong.{rises_front}
use Rattle.xq_edits.proofs.NameTests.{twice_is}
use Rattle.xq_edits.proofs.names.names_twice.Goals as goal

pub attributes_after-requires : goal.attributes_after-requires
attributes_after-requires g c = record {
  rising = λ h. rises_front (map (change_seen (g.N.Nav.place c.args.nav.now)) c.args.done.now) (g.N.Nav.place c.args.nav.now c.args.last.now.node ∷ [])
      (c.requires.rising h);
}

pub returns-clause-gives : goal.returns-clause-gives
returns-clause-gives g c = λ h.
    let place = g.N.Nav.place c.args.nav.now in
    c.has_name_twice.ensures
    ∙ (ap has_name_twice c.as_slice.ensures
    ∙ twice_is (g.N.Nav.forest c.args.nav.now) (place c.args.element) (map (change_seen place) c.args.done.now) (change_seen place c.args.last.now)
    c.in_ok-all.all (c.requires.rising h) (c.in_ok-all.ensures.gives h))
