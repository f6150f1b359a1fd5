-- What a look at a schema page gives, as the definition of the search has it.
use Rattle.std.specs.Prelude.{ℕ}
use Rattle.page_bytes.specs.declared.schema.Found.{Found}
use Rattle.page_bytes.specs.declared.schema.Found.TheVariants.{At, Behind}
use Rattle.page_bytes.specs.Schema as schema
use Rattle.page_bytes.specs.Schema.{Looked, Next}

-- an entry found on the page of this number, or the number of the page after it
abbrev pub looked_as : ℕ → Found → Looked
looked_as number (At at) = schema.Found number at
looked_as number (Behind next) = Next number next
