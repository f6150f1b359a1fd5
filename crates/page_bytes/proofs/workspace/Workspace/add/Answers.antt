use Rattle.std.proofs.Common.{ap, ◌∙◌}
use Rattle.std.proofs.lemmas.Result.{on_ok_weaker, on_err_weaker}
use Rattle.page_bytes.specs.Overlay.{overlay}
use Rattle.page_bytes.specs.Work.{with_pages}
use Rattle.page_bytes.specs.Inside.{work_of}
use Rattle.page_bytes.proofs.Sharing.{work_of-added}
use Rattle.page_bytes.proofs.workspace.Workspace.add.Goals as goal

pub returns : goal.returns
returns c =
    let i = c.self.inside in record {
      ok = on_ok_weaker c.add.result
          (λ is. ap (λ b. work_of b i.drafts i.gone i.whole) (is ∙ ap (overlay i.below) c.into_table.ensures)
          ∙ work_of-added i.below i.drafts c.args.more i.gone i.whole ∙ ap (λ w. with_pages w c.args.more) c.self.view_is)
          c.add.ensures.ok;
      err = on_err_weaker c.add.result (λ is. ap (λ b. work_of b i.drafts i.gone i.whole) is ∙ c.self.view_is) c.add.ensures.err;
    }
