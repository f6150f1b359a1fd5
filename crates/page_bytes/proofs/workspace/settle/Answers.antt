use Rattle.std.proofs.Common.{ap, ◌∙◌}
use Rattle.std.specs.FinMap as map
use Rattle.page_bytes.proofs.Works.{insert-same}
use Rattle.page_bytes.proofs.workspace.settle.Goals as goal

pub returns-in_err-settle : goal.returns-in_err-settle
returns-in_err-settle c =
    ap (map.insert c.args.drafts.now c.in-Some.id) c.settle.ensures ∙ insert-same c.args.drafts.now c.in-Some.id c.lend.result.now c.lend.ensures.value

pub returns-in_ok-settle : goal.returns-in_ok-settle
returns-in_ok-settle c =
    ap (map.insert c.args.drafts.now c.in-Some.id) c.settle.ensures ∙ insert-same c.args.drafts.now c.in-Some.id c.lend.result.now c.lend.ensures.value
