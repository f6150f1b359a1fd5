use Rattle.std.proofs.Common.{◌≡◌, drop}
use Rattle.xml_model.specs.Nav.{Stored}
use Rattle.xml_model.specs.declared.nav.Id.{Id}
use Rattle.xq_edits.proofs.StoredTargets.{after, whole}
use Rattle.xq_edits.proofs.targets.stored_nodes.Given as goal

-- the nodes found, with those of the items that are left, are those of all items
abbrev pub invariant-loop-item : goal.invariant-loop-item
invariant-loop-item l = (place : Id → Stored) → after place l.nodes (drop l.item-index l.items) ≡ whole place l.items
