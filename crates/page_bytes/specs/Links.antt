-- How a call that reads a document's pages asks for one, and what it answers where it can't have it.
use Rattle.std.specs.Prelude.{ℕ, Bool, List, Option, Some, None, Result, Ok, Err, if◌then◌else◌}
use Rattle.std.specs.FinMap as map
use Rattle.page_bytes.specs.declared.ids.Space.{Space}
use Rattle.page_bytes.specs.declared.ids.PageId.{PageId}
use Rattle.page_bytes.specs.declared.end.PageEnd.{PageEnd}
use Rattle.page_bytes.specs.declared.end.PageEnd.TheVariants.{Need, Damaged}
use Rattle.page_bytes.specs.Known.{Known, is_unknown}

-- the page of the space with this number
abbrev pub page_in : Space → ℕ → PageId
page_in space number = record { space = space; number = number }

-- a value is gone on with, and a refusal stays
abbrev pub and_then : {X Y : Type 0} → Result X PageEnd → (X → Result Y PageEnd) → Result Y PageEnd
and_then (Ok x) f = f x
and_then (Err end) f = Err end

-- the page's bytes; where it is absent, the page that leads there is damaged
abbrev pub or_damaged : PageId → Option (List ℕ) → Result (List ℕ) PageEnd
or_damaged from None = Err (Damaged from)
or_damaged from (Some bytes) = Ok bytes

-- a page is needed where nothing is known of it; where it is absent, the page that leads there is damaged
abbrev pub asked : Known → PageId → PageId → Result (List ℕ) PageEnd
asked k from id = if is_unknown k id then Err (Need id) else or_damaged from (map.get k.pages id)

-- what passes a test, and else a damaged page
abbrev pub tested : PageId → Bool → List ℕ → Result (List ℕ) PageEnd
tested id passes bytes = if passes then Ok bytes else Err (Damaged id)
