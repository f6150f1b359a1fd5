-- A text that is being written into pages.
use Rattle.std.specs.Prelude.{◌≡◌, ℕ, ◌+◌, ◌-◌, ◌<◌, ◌≤◌, List, [], ◌∷◌, ◌++◌, length, take, drop}
use Rattle.page_bytes.specs.Fields.{with_field}
use Rattle.flat_doc.specs.Pieces.{PIECE_AT, PIECE_BYTES, LENGTH_BYTES, piece}
use Rattle.flat_doc.specs.Putting.{page_of}

-- the text so far, and how often memory was refused
pub record Written : Type 0 where
  pub text : List ℕ
  pub faults : ℕ

-- what runs through the pieces of full pages and then of a page up to a place
abbrev pub running : List (List ℕ) → List ℕ → ℕ → List ℕ
running [] page at = take (at - PIECE_AT) (piece page)
running (full ∷ more) page at = piece full ++ running more page at

abbrev pub written_on : List (List ℕ) → List ℕ → ℕ → ℕ → Written
written_on full page at faults = record { text = drop LENGTH_BYTES (running full page at); faults = faults }

-- pages that are full of their pieces
abbrev pub AreFull : List (List ℕ) → Type 0
AreFull [] = Unit {0}
AreFull (page ∷ pages) = ((page ≡ page_of (piece page)) × (length (piece page) ≡ PIECE_BYTES)) × AreFull pages

-- The page has some bytes, up to a place, and zeros from there on; the pages before it are full; and there is room for the length.
pub record IsOpen (full : List (List ℕ)) (page : List ℕ) (at : ℕ) : Type 0 where
  pub are_full : AreFull full
  pub last : List ℕ
  pub is_last : page ≡ page_of last
  pub place : at ≡ PIECE_AT + length last
  pub short : length last ≤ PIECE_BYTES
  pub has_length : LENGTH_BYTES ≤ length (running full page at)

-- and the page has a byte
pub record IsWritten (full : List (List ℕ)) (page : List ℕ) (at : ℕ) : Type 0 where
  pub is_open : IsOpen full page at
  pub some : PIECE_AT < at

-- these pages have what those had, and room for a byte more
pub record HasRoom (full : List (List ℕ)) (page : List ℕ) (at : ℕ) (new_full : List (List ℕ)) (new_page : List ℕ) (new_at : ℕ) : Type 0 where
  pub is_open : IsOpen new_full new_page new_at
  pub room : new_at < 4096
  pub kept : running new_full new_page new_at ≡ running full page at

-- the first page tells this length
abbrev pub with_length : List (List ℕ) → ℕ → List (List ℕ)
with_length [] n = []
with_length (page ∷ pages) n = with_field LENGTH_BYTES page PIECE_AT n ∷ pages
