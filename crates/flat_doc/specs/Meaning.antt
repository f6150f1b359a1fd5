-- When pages stand for a document that is kept flat: their text spells it. They may have any text that does, not the canonical
-- one alone.
use Rattle.std.specs.Prelude.{◌≡◌, ℕ, zero, suc, ◌+◌, ◌<◌, List, [], ◌++◌, length, take, drop, Option, None, Some, IsTrue}
use Rattle.page_bytes.specs.Seen.{PagesByNumber, bytes}
use Rattle.xml_model.specs.declared.node.Doc.{Doc}
use Rattle.flat_doc.specs.Pieces.{LENGTH_BYTES, page_count, is_flat, piece, stated_length}
use Rattle.flat_doc.specs.Reading.{IsTextOf}

-- the page is there, flat, and has 4,096 bytes
abbrev pub IsFlat : Option (List ℕ) → Type 0
IsFlat None = ⊥
IsFlat (Some page) = IsTrue (is_flat page) × (length page ≡ 4096)

-- the pieces of so many pages from one on, joined
abbrev pub joined_pieces : PagesByNumber → ℕ → ℕ → List ℕ
joined_pieces pages n zero = []
joined_pieces pages n (suc more) = piece (bytes pages n) ++ joined_pieces pages (n + 1) more

-- The text stands in the pages: those that it takes are flat, page 0 states its length, and behind that number it runs through
-- their pieces.
pub record HasText (pages : PagesByNumber) (text : List ℕ) : Type 0 where
  pub flat : (n : ℕ) → n < page_count (length text) → IsFlat (pages n)
  pub stated : stated_length (bytes pages 0) ≡ length text
  pub runs : text ≡ take (length text) (drop LENGTH_BYTES (joined_pieces pages 0 (page_count (length text))))

-- the pages stand for the document
pub record StandsForFlat (pages : PagesByNumber) (doc : Doc) : Type 0 where
  pub text : List ℕ
  pub has : HasText pages text
  pub spells : IsTextOf doc text
