use Rattle.std.proofs.Common.{◌≡◌, map, drop}
use Rattle.std.specs.FinMap as forests
use Rattle.xml_model.specs.Atoms.{chained, product_op}
use Rattle.xml_model.specs.Nodes.{atomized}
use Rattle.xq_values.specs.Seen.{item_seen, made_seen}
use Rattle.xq_functions.specs.Operands.{product_seen}
use Rattle.xq_functions.proofs.operators.multiplied.Given as goal

-- the value so far, with the operands that are left, gives what all give
abbrev pub invariant-loop-part : goal.invariant-loop-part
invariant-loop-part g l =
    let atoms = atomized (forests.get (g.N.Nav.forest l.nav)) (made_seen l.made) in
    let place = g.N.Nav.place l.nav in
    g.N.Nav.honest l.nav →
    chained atoms product_op (map (item_seen place) l.left) (map (product_seen place) (drop l.part-index l.rest))
    ≡ chained atoms product_op (map (item_seen place) l.fn.first) (map (product_seen place) l.rest)
