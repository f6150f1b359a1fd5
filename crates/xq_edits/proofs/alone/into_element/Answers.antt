use Rattle.xq_edits.specs.Seen.{content_seen}
use Rattle.xq_edits.proofs.SharedNames.{into_repeated, into_shared, into_apart}
use Rattle.xq_edits.proofs.alone.into_element.Goals as goal

pub returns-then-repeats : goal.returns-then-repeats
returns-then-repeats g c = λ h.
    let nav = c.args.nav.now in
    into_repeated (g.N.Nav.forest nav) (g.met.N.Nav.valid nav h) (g.N.Nav.place nav c.args.target) (content_seen c.args.content.now) c.args.repeats c.requires
    c.if-repeats.true

pub returns-then-branch : goal.returns-then-branch
returns-then-branch g c = λ h.
    let nav = c.args.nav.now in
    into_shared (g.N.Nav.forest nav) (g.met.N.Nav.valid nav h) (g.N.Nav.place nav c.args.target) (content_seen c.args.content.now) c.args.repeats c.requires
    c.in_ok-shares_name.field-0 c.as_slice.result.now c.as_slice.ensures (c.in_ok-shares_name.ensures.gives h) c.if-branch.true

pub returns : goal.returns
returns g c = λ h.
    let nav = c.args.nav.now in
    into_apart (g.N.Nav.forest nav) (g.met.N.Nav.valid nav h) (g.N.Nav.place nav c.args.target) (content_seen c.args.content.now) c.args.repeats c.requires
    c.in_ok-shares_name.field-0 c.as_slice.result.now c.in_ok-all_of.field-0 c.as_slice.ensures (c.in_ok-shares_name.ensures.gives h) c.if-branch.false
    c.if-repeats.false c.in_ok-all_of.ensures
