-- The documents so far are pushed.
use Rattle.std.proofs.Common.{◌≡◌, ◌++◌, take}
use Rattle.std.specs.List.{flat_map}
use Rattle.slot_store.specs.Head.{document_bytes}
use Rattle.slot_store.proofs.spelling.push_documents.Given as goal

abbrev pub invariant-loop-entry : goal.invariant-loop-entry
invariant-loop-entry l = l.out.items ≡ l.initial.out.items ++ flat_map document_bytes (take l.entry-index l.entries)
