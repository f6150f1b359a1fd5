use Rattle.std.proofs.Common.{◌≡◌, None, not, sym, ap, ◌∙◌, subst}
use Rattle.std.specs.FinMap as map
use Rattle.page_bytes.specs.declared.ids.PageId.{PageId}
use Rattle.page_bytes.specs.Known.{PageMap}
use Rattle.page_bytes.specs.Overlay.{overlay}
use Rattle.page_bytes.proofs.Sharing.{overlay-left, taken_back, on_err_is, on_ok_is}
use Rattle.page_bytes.proofs.table.PageTable+Page.add.Goals as goal

pub returns-then-is_err-clause-err : goal.returns-then-is_err-clause-err
returns-then-is_err-clause-err c =
    let old = c.args.self.now in let now = c.share_all.new.self in
    let new = c.leave_those_of.ensures in
    let same = on_err_is c.share_all.result (sym c.is_err.ensures.value ∙ c.if-is_err.true) c.share_all.ensures.err in
    c.leave_those_of-then-is_err.ensures ∙ ap (λ (m : PageMap). map.retain_keys now (λ id. not (map.contains_key m id))) new
    ∙ taken_back old c.args.more now (subst (λ (m : PageMap). (q : PageId) → map.get m q ≡ None → map.get now q ≡ map.get old q) new same)

pub returns-clause-ok : goal.returns-clause-ok
returns-clause-ok c =
    on_ok_is c.share_all.result (sym c.is_err.ensures.value ∙ c.if-is_err.false) c.share_all.ensures.ok
    ∙ ap (λ (m : PageMap). overlay m c.args.self.now) c.leave_those_of.ensures ∙ overlay-left c.args.self.now c.args.more
