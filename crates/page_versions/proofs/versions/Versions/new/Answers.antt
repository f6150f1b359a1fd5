use Rattle.std.proofs.Common.{arith}
use Rattle.page_versions.proofs.Sounding.{empty_sound}
use Rattle.page_versions.proofs.versions.Versions.new.Goals as goal

pub invariant_of-result : goal.invariant_of-result
invariant_of-result c = empty_sound c.new.result c.new-2.result.slots c.new-3.result.items c.new-4.result.items _ _ c.new.ensures (omega arith)
