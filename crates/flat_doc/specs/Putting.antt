-- What `put_flat` does to the pages.
use Rattle.std.specs.Prelude.{◌≡◌, ◌≢◌, ℕ, zero, suc, ◌+◌, ◌-◌, List, [], ◌∷◌, ◌++◌, length, take, drop, replicate}
use Rattle.std.specs.FinMap as map
use Rattle.byteorder.specs.Endian.{big_bytes}
use Rattle.page_bytes.specs.declared.ids.Space.{Space}
use Rattle.page_bytes.specs.declared.ids.PageId.{PageId}
use Rattle.page_bytes.specs.Known.{is_absent}
use Rattle.page_bytes.specs.Links.{page_in}
use Rattle.page_bytes.specs.Work.{Work, with_page, with_space}
use Rattle.flat_doc.specs.Pieces.{FLAT_KIND, PIECE_BYTES, LENGTH_BYTES, page_count}

-- a page with the first bytes of these, and zeros behind them where they are fewer than its piece has
abbrev pub page_of : List ℕ → List ℕ
page_of bytes = FLAT_KIND ∷ (take PIECE_BYTES bytes ++ replicate (PIECE_BYTES - length bytes) 0)

-- so many pages, each with the next bytes of these
abbrev pub pages_of : ℕ → List ℕ → List (List ℕ)
pages_of zero bytes = []
pages_of (suc more) bytes = page_of bytes ∷ pages_of more (drop PIECE_BYTES bytes)

-- the pages of a text: its length and then the text run through them
abbrev pub flat_pages : List ℕ → List (List ℕ)
flat_pages text = pages_of (page_count (length text)) (big_bytes LENGTH_BYTES (length text) ++ text)

-- the pages of the space from a number on are these, and all else stays
abbrev pub with_pages_from : Work → Space → ℕ → List (List ℕ) → Work
with_pages_from w space n [] = w
with_pages_from w space n (page ∷ pages) = with_pages_from (with_page w (page_in space n) page) space (n + 1) pages

-- the space is whole and has the pages of the text, and no other
abbrev pub with_text : Work → Space → List ℕ → Work
with_text w space text = with_pages_from (with_space w space) space 0 (flat_pages text)

-- Pages of other spaces, what is known of them, and what the workspace was given stay.
pub record KeepsOthers (space : Space) (old new : Work) : Type 0 where
  pub pages : (id : PageId) → id.space ≢ space → map.get new.now.pages id ≡ map.get old.now.pages id
  pub absent : (id : PageId) → id.space ≢ space → is_absent new.now id ≡ is_absent old.now id
  pub below : new.below ≡ old.below
