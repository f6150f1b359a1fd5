-- What a page ends as, once the borrow of its bytes has ended.
use Rattle.std.specs.Prelude.{ℕ, List, Result}
use Rattle.std.specs.Borrow.{Fml, MutBor, LendsIfOk}
use Rattle.page_bytes.specs.contracts.page.Page as page
use Rattle.page_bytes.specs.contracts.page.Draft as draft

-- the page has the last bytes written, and after a refusal it stays
abbrev pub lends_draft : {E : Type 0} → MutBor (List ℕ) → Result (MutBor (List ℕ)) E → Fml
lends_draft p r = LendsIfOk page.the_row draft.the_row p r (λ bytes. bytes) p.now
