-- What is known once all pages that a text takes have been looked at.
use Rattle.std.specs.Prelude.{◌≡◌, ℕ, ◌*◌, List, length, Ok}
use Rattle.page_bytes.specs.declared.ids.Space.{Space}
use Rattle.page_bytes.specs.Known.{Known}
use Rattle.flat_doc.specs.Pieces.{PIECE_BYTES, page_count, stated_length}
use Rattle.flat_doc.specs.Reading.{flat_page, pieces}

-- page 0 states this length, and the pages that a text of it takes are there with their pieces
pub record HasLength (k : Known) (space : Space) (n : ℕ) : Type 0 where
  pub first : List ℕ
  pub is_first : flat_page k space 0 ≡ Ok first
  pub stated : stated_length first ≡ n
  pub all : List ℕ
  pub there : pieces k space 0 (page_count n) ≡ Ok all
  pub long : length all ≡ page_count n * PIECE_BYTES
