-- What `get` answers: a text of UTF-8. Another text damages the page of its first piece.
use Rattle.std.specs.Prelude.{◌≡◌, ◌⊎◌, ℕ, List, Result, Ok, Err}
use Rattle.std.specs.Str.{IsUtf8}
use Rattle.page_bytes.specs.declared.ids.Space.{Space}
use Rattle.page_bytes.specs.declared.texts.TextRef.{TextRef}
use Rattle.page_bytes.specs.declared.end.PageEnd.{PageEnd}
use Rattle.page_bytes.specs.declared.end.PageEnd.TheVariants.{Damaged}
use Rattle.page_bytes.specs.Known.{Known}
use Rattle.page_bytes.specs.Links.{page_in}
use Rattle.page_bytes.specs.Texts.{IsTextAt}

-- the text of all pieces, where it is UTF-8; else the first piece's page is damaged, or reading refused
abbrev pub IsStrAt : Known → Space → TextRef → Result (List ℕ) PageEnd → Type 0
IsStrAt k space at (Ok text) = IsTextAt k space at (Ok text) × IsUtf8 text
IsStrAt k space at (Err end) =
    IsTextAt k space at (Err end) ⊎ ((text : List ℕ) × (IsTextAt k space at (Ok text) × (IsUtf8 text → ⊥) × (end ≡ Damaged (page_in space at.page))))
