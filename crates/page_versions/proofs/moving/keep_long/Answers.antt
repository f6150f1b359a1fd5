use Rattle.std.proofs.Common.{◌≡◌, true, nat_lt, length, filter, ap, ◌∙◌, arith, rules, ◌&&◌}
use Rattle.std.proofs.lemmas.Bool.Decides.{nat_tests}
use Rattle.std.proofs.lemmas.Fn.{filter_same}
use Rattle.page_bytes.specs.declared.ids.PageId.{PageId}
use Rattle.page_versions.specs.ChainMap.{chain_in}
use Rattle.page_versions.specs.Inside.{is_listed}
use Rattle.page_versions.specs.Purging.{base}
use Rattle.page_versions.proofs.Paging.{listed-filter}
use Rattle.page_versions.proofs.moving.keep_long.Goals as goal

pub returns-clause-long : goal.returns-clause-long
returns-clause-long c q was many =
    let test = λ (id : PageId). nat_lt 1 (length (base c.args.staged (chain_in c.args.table.now id))) in
    let kept : c.retain.new.self.items ≡ filter test c.args.older.now.items =
    filter_same _ test _ (λ x b f r. let shows = r in (search rules, search rules)) _ _ c.retain.ensures.filtered in
    let passes : test q ≡ true = grind (arith, nat_tests) in
    ap (λ ps. is_listed ps q) kept ∙ listed-filter test c.args.older.now.items q ∙ (λ i. passes i && was i)
