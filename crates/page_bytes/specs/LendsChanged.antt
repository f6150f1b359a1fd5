-- What a changed page ends as, once the borrow of its bytes has ended.
use Rattle.std.specs.Prelude.{ℕ, List, Result}
use Rattle.std.specs.Borrow.{Fml, MutBor, Lends, LendsIfOk}
use Rattle.page_bytes.specs.contracts.changed.Changed as changed
use Rattle.page_bytes.specs.contracts.page.Draft as draft

-- it has the last bytes written, and after a refusal it stays
abbrev pub lends_changed : {E : Type 0} → MutBor (List ℕ) → Result (MutBor (List ℕ)) E → Fml
lends_changed c r = LendsIfOk changed.the_row draft.the_row c r (λ bytes. bytes) c.now

-- it has the last bytes written
abbrev pub lends_renewed : MutBor (List ℕ) → MutBor (List ℕ) → Fml
lends_renewed c r = Lends changed.the_row draft.the_row c r (λ bytes. bytes)
