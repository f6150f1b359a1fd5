use Rattle.std.proofs.Common.{◌≡◌, ◌++◌, drop}
use Rattle.xml_model.specs.Pyx.{pyx_of}
use Rattle.pyx_text.proofs.listing.+list.Given as goal

-- the lines so far and those of the nodes that are left are the whole
abbrev pub invariant-push_nodes-loop-node : goal.invariant-push_nodes-loop-node
invariant-push_nodes-loop-node l = l.lines ++ pyx_of (drop l.node-index l.node-items) ≡ l.initial.lines ++ pyx_of l.node-items
