use Rattle.std.proofs.Common.{◌≡◌, ℕ, ◌+◌, ◌<◌, ◌++◌, map, Option, Some, None, IfSome}
use Rattle.std.specs.Option.{option_map}
use Rattle.xml_model.specs.Axes.{held_nodes}
use Rattle.xq_nodes.proofs.Chain.{seen_nodes}
use Rattle.xq_nodes.proofs.walks.held.Given as goal

abbrev left : {I : Type 0} → (I → ℕ) → Option I → ℕ
left number None = 0
left number (Some n) = number n + 1

abbrev pub invariant-loop-at : goal.invariant-loop-at
invariant-loop-at g l =
    (g.N.Nav.honest l.nav → map (g.N.Nav.place l.nav) l.all ++ seen_nodes (g.N.Nav.forest l.nav) (option_map (g.N.Nav.place l.nav) l.at) ≡ held_nodes (g.N.Nav.forest l.nav) (g.N.Nav.place l.nav l.fn.n))
    × IfSome l.at (λ m. g.N.Nav.number l.nav m < g.N.Nav.number l.nav l.fn.n)

abbrev pub decreases-loop-at : goal.decreases-loop-at
decreases-loop-at g l = left (g.N.Nav.number l.nav) l.at
