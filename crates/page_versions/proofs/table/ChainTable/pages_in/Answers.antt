use Rattle.std.proofs.Common.{◌∙◌, ap, ◌&&◌}
use Rattle.std.specs.FinMap as map
use Rattle.page_bytes.specs.declared.ids.PageId.{PageId}
use Rattle.std.specs.Map.{keys_of}
use Rattle.page_versions.specs.Staging.{is_dropped}
use Rattle.page_versions.specs.Inside.{is_listed}
use Rattle.page_versions.proofs.Paging.{listed-filter, listed-keys}
use Rattle.page_versions.proofs.table.ChainTable.pages_in.Goals as goal

pub returns-in-Ok : goal.returns-in-Ok
returns-in-Ok c q =
    let test = λ (id : PageId). is_dropped c.args.spaces.now id.space in let es = c.self.inside.chains.entries in
    ap (λ ps. is_listed ps q) c.in-Ok.ensures ∙ listed-filter test (keys_of es) q
    ∙ ap (λ b. test q && b) (listed-keys es q ∙ ap (λ m. map.contains_key m q) c.self.view_is)
