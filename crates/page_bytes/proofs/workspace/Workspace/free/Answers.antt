use Rattle.std.proofs.Common.{ap, ◌∙◌}
use Rattle.page_bytes.specs.Work.{without_page}
use Rattle.page_bytes.specs.Inside.{work_of}
use Rattle.page_bytes.proofs.Works.{work_of-gone}
use Rattle.page_bytes.proofs.workspace.Workspace.free.Goals as goal

pub returns-clause-ok : goal.returns-clause-ok
returns-clause-ok c =
    let i = c.self.inside in
    (λ j. work_of i.below (c.take.ensures.removed j) (c.in_ok-insert.ensures.ok j) i.whole)
    ∙ work_of-gone i.below i.drafts i.gone i.whole c.args.id ∙ ap (λ w. without_page w c.args.id) c.self.view_is
