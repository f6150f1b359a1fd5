use Rattle.std.proofs.Common.{◌-◌, ◌^◌, vec_len}
use Rattle.page_bytes.proofs.SchemaWalks.{HasLooked}
use Rattle.page_bytes.proofs.schema.schema_entry.Given as goal

abbrev pub decreases-loop-number : goal.decreases-loop-number
decreases-loop-number g l = 2 ^ 64 - vec_len l.passed

abbrev pub invariant-loop-number : goal.invariant-loop-number
invariant-loop-number g l = HasLooked (g.P.Pages.known l.pages) l.fn.space l.fn.id.0 l.from l.number l.passed.items
