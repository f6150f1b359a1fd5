use Rattle.std.proofs.Common.{ap, ◌∙◌}
use Rattle.page_bytes.specs.Work.{with_space}
use Rattle.page_bytes.specs.Inside.{work_of}
use Rattle.page_bytes.proofs.Works.{work_of-opened}
use Rattle.page_bytes.proofs.workspace.Workspace.open_space.Goals as goal

pub returns-clause-ok : goal.returns-clause-ok
returns-clause-ok c =
    let i = c.self.inside in
    (λ j. work_of i.below (c.leave.ensures j) i.gone (c.in_ok-insert.ensures.ok j))
    ∙ work_of-opened i.below i.drafts i.gone i.whole c.args.space ∙ ap (λ w. with_space w c.args.space) c.self.view_is
