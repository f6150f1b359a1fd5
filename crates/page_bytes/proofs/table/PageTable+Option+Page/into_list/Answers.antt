use Rattle.std.proofs.Common.{sym, ap, ◌∙◌, subst}
use Rattle.std.specs.FinMap as map
use Rattle.std.specs.List.Sorted.{IsStrictlySortedBy}
use Rattle.page_bytes.specs.Order.{page_cmp}
use Rattle.page_bytes.specs.Changes.{ids_of, change_of}
use Rattle.page_bytes.proofs.Orders.{page_cmp-total}
use Rattle.page_bytes.proofs.Tables.{get-map_of}
use Rattle.page_bytes.proofs.ListLemmas.{change_of-listed, ids_of-listed}
use Rattle.page_bytes.proofs.table.PageTable+Option+Page.into_list.Goals as goal

pub returns-in-Ok-clause-rising : goal.returns-in-Ok-clause-rising
returns-in-Ok-clause-rising c =
    subst (IsStrictlySortedBy page_cmp) (sym (ap ids_of c.in-Ok.ensures ∙ ids_of-listed c.self.inside.entries.entries)) c.len-count.ensures.ordered

pub returns-in-Ok-clause-listed : goal.returns-in-Ok-clause-listed
returns-in-Ok-clause-listed c id =
    ap (λ list. change_of list id) c.in-Ok.ensures ∙ change_of-listed c.self.inside.entries.entries id
    ∙ sym (get-map_of page_cmp-total c.self.inside.entries id) ∙ ap (λ m. map.get m id) c.self.view_is
