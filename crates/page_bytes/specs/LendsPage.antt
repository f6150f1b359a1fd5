-- What a workspace ends as, once the borrow of one of its pages has ended.
use Rattle.std.specs.Prelude.{ℕ, List, Result}
use Rattle.std.specs.Borrow.{Fml, MutBor, LendsIfOk}
use Rattle.page_bytes.specs.declared.ids.PageId.{PageId}
use Rattle.page_bytes.specs.Work.{Work, with_page}
use Rattle.page_bytes.specs.contracts.workspace.Workspace as workspace
use Rattle.page_bytes.specs.contracts.page.Draft as draft

-- the page has the last bytes written, and after a refusal the workspace stays
abbrev pub lends_page : {E : Type 0} → MutBor Work → PageId → Result (MutBor (List ℕ)) E → Fml
lends_page w id r = LendsIfOk workspace.the_row draft.the_row w r (with_page w.now id) w.now
