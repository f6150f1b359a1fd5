-- What a call on texts leaves of the pages: all that is not the texts' own, and all other pieces.
use Rattle.std.specs.Prelude.{◌≡◌, ◌==◌, false, List, [], ◌∷◌}
use Rattle.page_bytes.specs.declared.texts.TextRef.{TextRef}
use Rattle.page_bytes.specs.Own.{Own}
use Rattle.page_bytes.specs.Seen.{PagesByNumber}
use Rattle.page_bytes.specs.Texts.{TEXT_KIND}
use Rattle.text_pages.specs.Meaning.{IsPiece, next_at, bytes_of, is_listed}

-- what is the texts' own: the text pages, and of the head the page that is tried first
abbrev pub texts_own : Own
texts_own = record { is_kind = λ kind. kind == TEXT_KIND; fields = record { page = 0; at = 26; width = 8 } ∷ [] }

-- a piece is as it was: its reference to the next one and its bytes
abbrev pub IsSame : PagesByNumber → PagesByNumber → TextRef → Type 0
IsSame pages new r = IsPiece new r × (next_at new r ≡ next_at pages r) × (bytes_of new r ≡ bytes_of pages r)

-- the pieces that aren't gone are as they were
abbrev pub KeepsPieces : PagesByNumber → PagesByNumber → List TextRef → Type 0
KeepsPieces pages new gone = (r : TextRef) → IsPiece pages r → is_listed gone r ≡ false → IsSame pages new r
