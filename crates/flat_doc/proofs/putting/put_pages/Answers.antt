use Rattle.std.proofs.Common.{ap, ◌∙◌}
use Rattle.std.specs.FinMap as map
use Rattle.page_bytes.specs.Work.{Work}
use Rattle.flat_doc.proofs.Spaces.{opened}
use Rattle.flat_doc.proofs.putting.put_pages.Goals as goal

pub put_all-requires : goal.put_all-requires
put_all-requires c =
    ap (λ (w : Work). map.contains_key w.now.whole c.args.space) c.in_ok-open_space.ensures.ok ∙ opened c.args.work.now.now.whole c.args.space
