use Rattle.std.proofs.Common.{ap, sym, ◌∙◌}
use Rattle.std.specs.FinMap as map
use Rattle.page_versions.proofs.Paging.{entries-of}
use Rattle.page_versions.proofs.table.ChainTable.iter.Goals as goal

pub returns : goal.returns
returns c = c.iter.ensures.rest ∙ sym (entries-of c.self.inside.chains.entries c.iter.ensures.ordered) ∙ ap map.entries c.self.view_is
