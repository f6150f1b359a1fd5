-- The rows of a table's tree, and what an insert and a removal make of rows.
use Rattle.std.specs.Prelude.{ℕ, List, [], ◌∷◌, ◌++◌, Option, Some, None}
use Rattle.std.specs.declared.cmp.Ordering.{Ordering}
use Rattle.std.specs.declared.cmp.Ordering.TheVariants.{Less, Equal, Greater}
use Rattle.page_bytes.specs.declared.ids.PageId.{PageId}
use Rattle.page_bytes.specs.Order.{page_cmp}
use Rattle.slot_store.specs.declared.table.Row.{Row}
use Rattle.slot_store.specs.declared.tree.Tree.{Tree, Leaf, Node'}
use Rattle.slot_store.specs.Head.{EachPair, IsRowBefore}

-- the rows of a tree, from left to right
abbrev pub rows_in : Tree → List Row
rows_in Leaf = []
rows_in (Node' p left row right height) = rows_in left ++ row ∷ rows_in right

-- the rows are in rising order of pages, no two of one page
abbrev pub Rise : List Row → Type 0
Rise rows = EachPair IsRowBefore rows

-- a row and then the others, by how it compares with their first one, which stands before the rest
abbrev pub set_by : Ordering → Row → Row → List Row → List Row → List Row
set_by Less r q qs rest = r ∷ q ∷ qs
set_by Equal r q qs rest = r ∷ qs
set_by Greater r q qs rest = q ∷ rest

-- the rows with this one at its page's place: it takes the place of one of the same page
abbrev pub with_row : Row → List Row → List Row
with_row r [] = r ∷ []
with_row r (q ∷ qs) = set_by (page_cmp r.id q.id) r q qs (with_row r qs)

-- the others, by how a page compares with their first one
abbrev pub cut_by : Ordering → Row → List Row → List Row → List Row
cut_by Less q qs rest = q ∷ qs
cut_by Equal q qs rest = qs
cut_by Greater q qs rest = q ∷ rest

-- the rows without that of the page, if it has one
abbrev pub without_row : PageId → List Row → List Row
without_row id [] = []
without_row id (q ∷ qs) = cut_by (page_cmp id q.id) q qs (without_row id qs)

-- the slot of the first row, if it is the page's, and else what stands behind it
abbrev pub slot_by : Ordering → Row → Option ℕ → Option ℕ
slot_by Less q rest = rest
slot_by Equal q rest = Some q.slot
slot_by Greater q rest = rest

-- the slot of a page, if it has a row
abbrev pub slot_of : PageId → List Row → Option ℕ
slot_of id [] = None
slot_of id (q ∷ qs) = slot_by (page_cmp id q.id) q (slot_of id qs)

-- the first row
abbrev pub first_row : List Row → Option Row
first_row [] = None
first_row (r ∷ rs) = Some r

-- the rows behind the first
abbrev pub later_rows : List Row → List Row
later_rows [] = []
later_rows (r ∷ rs) = rs
