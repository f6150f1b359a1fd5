-- A space that is whole.
use Rattle.std.proofs.Common.{◌≡◌, true, cond, Some, is_some, ap, ◌∙◌}
use Rattle.std.specs.Cmp.{tied_itself}
use Rattle.std.specs.FinMap as map
use Rattle.std.specs.Ordering.{is_eq}
use Rattle.page_bytes.specs.declared.ids.Space.{Space}
use Rattle.page_bytes.specs.Known.{Spaces}
use Rattle.page_bytes.proofs.Orders.{space_cmp-total}

-- a space that was opened is whole
pub opened : (spaces : Spaces) (space : Space) → map.contains_key (map.insert spaces space tt) space ≡ true
opened spaces space =
    ap is_some (map.get-insert space_cmp-total spaces space tt space ∙ ap (λ o. cond (is_eq o) (Some tt) (map.get spaces space)) (tied_itself space_cmp-total space))
