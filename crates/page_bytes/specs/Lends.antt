-- What a table ends as, once the borrow of one of its values has ended.
use Rattle.std.specs.Borrow.{Fml, RattleType, MutBor, Lends}
use Rattle.std.specs.FinMap as map
use Rattle.page_bytes.specs.declared.ids.PageId.{PageId}
use Rattle.page_bytes.specs.Order.{page_cmp}
use Rattle.page_bytes.specs.contracts.table.PageTable.{the_row}

-- the page has the last value written
abbrev pub lends_entry : (V : RattleType) → MutBor (map.FinMap page_cmp V.Denot) → PageId → MutBor V.Denot → Fml
lends_entry V t id r = Lends (the_row V) V t r (map.insert t.now id)
