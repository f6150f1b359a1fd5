use Rattle.std.proofs.Common.{◌≡◌}
use Rattle.std.specs.Option.{option_map}
use Rattle.xml_model.specs.declared.nav.TheConstants.{NUMBER_MAX}
use Rattle.xq_edits.specs.Inside.{IsThere, is_inside}
use Rattle.xq_edits.proofs.Within.{at_or_inside, AreThere, left_above}
use Rattle.xq_edits.proofs.inside.stands_in.Given as goal

abbrev pub invariant-up : goal.invariant-up
invariant-up g l = g.N.Nav.honest l.nav → IsThere (g.N.Nav.forest l.nav) (g.N.Nav.place l.nav l.fn.n) →
    (is_inside (g.N.Nav.place l.nav l.fn.n) (g.N.Nav.place l.nav l.fn.outer) ≡ at_or_inside (option_map (g.N.Nav.place l.nav) l.above)
    (g.N.Nav.place l.nav l.fn.outer))
    × AreThere (g.N.Nav.forest l.nav) (option_map (g.N.Nav.place l.nav) l.above)

abbrev pub decreases-up : goal.decreases-up
decreases-up g l = left_above (g.N.Nav.number l.nav) NUMBER_MAX l.above
