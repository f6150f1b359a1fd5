-- What a draft ends as, once the borrow of its bytes has ended.
use Rattle.std.specs.Prelude.{ℕ, List}
use Rattle.std.specs.Borrow.{Fml, MutBor, Lends, Array, u8}
use Rattle.page_bytes.specs.contracts.page.Draft.{the_row}

-- the draft has the last bytes written
abbrev pub lends_bytes : MutBor (List ℕ) → MutBor (List ℕ) → Fml
lends_bytes d r = Lends the_row (Array u8 4096) d r (λ bytes. bytes)
