use Rattle.std.proofs.Common.{◌≡◌, ℕ, ◌+◌, ◌*◌, ◌<◌, ◌++◌, map, Option, Some, None, IfSome}
use Rattle.std.specs.List.{filter, flat_map}
use Rattle.std.specs.Option.{option_map}
use Rattle.xq_nodes.specs.Steps.{fits, inside, is_way_of_attributes, with_way}
use Rattle.xq_nodes.proofs.Chain.{seen_nodes}
use Rattle.xq_nodes.proofs.steps.+inside.Given as goal

abbrev left : {I : Type 0} → (I → ℕ) → Option I → ℕ
left number None = 0
left number (Some n) = number n + 1

abbrev pub decreases-add_inside : goal.decreases-add_inside
decreases-add_inside g l = 3 * g.N.Nav.number l.nav.now l.n

abbrev pub decreases-add_child : goal.decreases-add_child
decreases-add_child g l = 3 * g.N.Nav.number l.nav.now l.n + 1

abbrev pub decreases-add_one : goal.decreases-add_one
decreases-add_one g l = 3 * g.N.Nav.number l.nav.now l.n + 2

abbrev pub invariant-add_inside-loop-at : goal.invariant-add_inside-loop-at
invariant-add_inside-loop-at g l =
    (g.N.Nav.honest l.nav → map (g.N.Nav.place l.nav) l.all
    ++ flat_map (λ s. filter (fits (g.N.Nav.forest l.nav) (is_way_of_attributes l.way) l.test) (with_way l.way (g.N.Nav.forest l.nav) s)) (seen_nodes (g.N.Nav.forest l.nav) (option_map (g.N.Nav.place l.nav) l.at))
    ≡ map (g.N.Nav.place l.nav) l.initial.all ++ filter (fits (g.N.Nav.forest l.nav) (is_way_of_attributes l.way) l.test) (inside l.way (g.N.Nav.forest l.nav) (g.N.Nav.place l.nav l.fn.n)))
    × IfSome l.at (λ m. g.N.Nav.number l.nav m < g.N.Nav.number l.nav l.fn.n)

abbrev pub decreases-add_inside-loop-at : goal.decreases-add_inside-loop-at
decreases-add_inside-loop-at g l = left (g.N.Nav.number l.nav) l.at
