-- The commit in doubt that a `Core` holds.
use Rattle.std.specs.Prelude.{ℕ, Option, Some, None}
use Rattle.xml_model.specs.Forest.{Forest}
use Rattle.session_core.specs.declared.keeping.sessions.Unsettled.{Unsettled}

-- whose commit it is, and the documents if it stands
abbrev pub pair_of : Option Unsettled → Option (ℕ × Forest)
pair_of None = None
pair_of (Some u) = Some (u.session, u.forest)
