use Rattle.std.proofs.Common.{ap, ◌∙◌}
use Rattle.page_bytes.specs.Work.{without_space}
use Rattle.page_bytes.specs.Inside.{work_of}
use Rattle.page_bytes.proofs.Works.{work_of-dropped}
use Rattle.page_bytes.proofs.workspace.Workspace.drop_space.Goals as goal

pub returns : goal.returns
returns c =
    let i = c.self.inside in
    (λ j. work_of (c.leave.ensures j) (c.leave-2.ensures j) (c.leave-3.ensures j) (c.remove.ensures j))
    ∙ work_of-dropped i.below i.drafts i.gone i.whole c.args.space ∙ ap (λ w. without_space w c.args.space) c.self.view_is
