-- Changes and content as the definition of updates sees them, where it is known for which node each id stands.
use Rattle.std.specs.Prelude.{List}
use Rattle.xml_model.specs.declared.edit.EditKind.{EditKind}
use Rattle.xml_model.specs.declared.edit.EditKind.TheVariants as edit
use Rattle.xml_model.specs.declared.nav.Id.{Id}
use Rattle.xml_model.specs.declared.node.Node.{Node}
use Rattle.xml_model.specs.Edits as edits
use Rattle.xml_model.specs.Nav.{Stored}
use Rattle.xq_edits.specs.declared.change.Change.{Change}
use Rattle.xq_edits.specs.declared.change.NewContent.{NewContent}
use Rattle.xq_edits.specs.declared.change.Removal.{Removal}
use Rattle.xq_edits.specs.declared.change.Removal.TheVariants as removal
use Rattle.xq_edits.specs.declared.change.Side.{Side}
use Rattle.xq_edits.specs.declared.change.Side.TheVariants as side

abbrev pub change_seen : (Id → Stored) → Change → edits.Change
change_seen place c = record { node = place c.node; what = c.what }

abbrev pub content_seen : NewContent → edits.Content
content_seen c = record { attrs = c.attrs; kids = c.kids }

-- nodes that are put on this side
abbrev pub put : Side → List Node → EditKind
put side.Before kids = edit.Before kids
put side.After kids = edit.After kids

abbrev pub removed : Removal → EditKind
removed removal.Whole = edit.Delete
removed removal.Undeep = edit.Undeep
