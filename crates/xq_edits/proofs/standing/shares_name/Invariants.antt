use Rattle.std.proofs.Common.{◌≡◌, ℕ, ◌+◌, Option, Some, None}
use Rattle.std.specs.FinMap as forests
use Rattle.xml_model.specs.Edits.{standing_at}
use Rattle.xml_model.specs.Place.{attrs_of}
use Rattle.xq_edits.specs.SharedNames.{share_name}
use Rattle.xq_edits.proofs.SharedNames.{shared_on}
use Rattle.xq_edits.proofs.standing.shares_name.Given as goal

abbrev left : {I : Type 0} → (I → ℕ) → Option I → ℕ
left number None = 0
left number (Some n) = number n + 1

-- the attributes that are left have a name of the content where those of the node have
abbrev pub invariant-loop-at : goal.invariant-loop-at
invariant-loop-at g l =
    (g.N.Nav.honest l.nav → shared_on l.attrs (g.N.Nav.forest l.nav) (g.N.Nav.place l.nav) l.at
    ≡ share_name (attrs_of (standing_at (forests.get (g.N.Nav.forest l.nav)) (g.N.Nav.place l.nav l.fn.n))) l.attrs)

abbrev pub decreases-loop-at : goal.decreases-loop-at
decreases-loop-at g l = left (g.N.Nav.number l.nav) l.at
