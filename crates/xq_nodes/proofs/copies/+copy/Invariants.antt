use Rattle.std.proofs.Common.{ℕ, ◌+◌, ◌*◌, ◌<◌, map, Option, Some, None, IfSome}
use Rattle.std.specs.Option.{option_map}
use Rattle.xml_model.specs.Nav.{stored_at}
use Rattle.xq_nodes.proofs.Chain.{seen_nodes}
use Rattle.xq_nodes.proofs.Copying.{CopyingFrom}
use Rattle.xq_nodes.proofs.copies.+copy.Given as goal

abbrev left : {I : Type 0} → (I → ℕ) → Option I → ℕ
left number None = 0
left number (Some n) = number n + 1

abbrev pub decreases-copy : goal.decreases-copy
decreases-copy g l = 2 * g.N.Nav.number l.nav.now l.n + 1

abbrev pub decreases-copy_inside : goal.decreases-copy_inside
decreases-copy_inside g l = 2 * g.N.Nav.number l.nav.now l.n

abbrev pub invariant-copy_inside-loop-at : goal.invariant-copy_inside-loop-at
invariant-copy_inside-loop-at g l =
    (g.N.Nav.honest l.nav → CopyingFrom l.inside (stored_at (g.N.Nav.forest l.nav) (g.N.Nav.place l.nav l.fn.n)) (map (stored_at (g.N.Nav.forest l.nav)) (seen_nodes (g.N.Nav.forest l.nav) (option_map (g.N.Nav.place l.nav) l.at))))
    × IfSome l.at (λ m. g.N.Nav.number l.nav m < g.N.Nav.number l.nav l.fn.n)

abbrev pub decreases-copy_inside-loop-at : goal.decreases-copy_inside-loop-at
decreases-copy_inside-loop-at g l = left (g.N.Nav.number l.nav) l.at
