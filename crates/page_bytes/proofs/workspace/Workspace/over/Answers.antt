use Rattle.std.proofs.Common.{◌∙◌}
use Rattle.page_bytes.specs.Inside.{work_of}
use Rattle.page_bytes.proofs.Works.{work_of-over}
use Rattle.page_bytes.proofs.workspace.Workspace.over.Goals as goal

pub returns : goal.returns
returns c = (λ j. work_of (c.into_table.ensures j) (c.new.ensures j) (c.new-2.ensures j) (c.new-3.ensures j)) ∙ work_of-over c.args.below
