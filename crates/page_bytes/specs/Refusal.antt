-- Which refusal a call on a workspace has to give, by what is known when it is called.
use Rattle.std.specs.Prelude.{◌≡◌, ℕ, List, Option, Some, None, Result, Ok, Err, not, ◌==◌, if◌then◌else◌, ⊤}
use Rattle.std.specs.FinMap as map
use Rattle.page_bytes.specs.declared.ids.Space.{Space}
use Rattle.page_bytes.specs.declared.ids.PageId.{PageId}
use Rattle.page_bytes.specs.declared.end.PageEnd.{PageEnd}
use Rattle.page_bytes.specs.declared.end.PageEnd.TheVariants.{Need, Damaged, Spent, NoMemory}
use Rattle.page_bytes.specs.Known.{Known, is_absent, is_unknown}
use Rattle.page_bytes.specs.Head.{head_of, is_head, next_page, LAST_PAGE}

-- the call answers the refusal if there is one, and else a value, where there is memory
abbrev pub RefusedBy : {X : Type 0} → Option PageEnd → Result X PageEnd → Type 0
RefusedBy (Some e) r = r ≡ Err e
RefusedBy None (Ok x) = ⊤
RefusedBy None (Err e) = e ≡ NoMemory

-- an edit needs a page of which nothing is known
abbrev pub edit_refusal : Known → PageId → Option PageEnd
edit_refusal k id = if is_unknown k id then Some (Need id) else None

-- to free a page, moreover, it has to be there
abbrev pub free_refusal : Known → PageId → Option PageEnd
free_refusal k id = if is_unknown k id then Some (Need id) else if is_absent k id then Some (Damaged id) else None

-- a new page needs the head, which has to be there, to pass its form's test, and to have a next number past its last
abbrev pub head_refusal : PageId → Option (List ℕ) → Option PageEnd
head_refusal head None = Some (Damaged head)
head_refusal head (Some bytes) = if not (is_head bytes) then Some (Damaged head) else if next_page bytes == LAST_PAGE then Some (Spent LAST_PAGE) else None

-- the head is needed where nothing is known of it; else the refusal is by its bytes
abbrev pub fresh_refusal : Known → Space → Option PageEnd
fresh_refusal k space = if is_unknown k (head_of space) then Some (Need (head_of space)) else head_refusal (head_of space) (map.get k.pages (head_of space))
