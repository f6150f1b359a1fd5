-- What `get_flat` answers, by what is known of the pages.
use Rattle.std.specs.Prelude.{◌≡◌, ◌⊎◌, ℕ, zero, suc, ◌+◌, List, [], ◌++◌, take, drop, Result, Ok, Err, IsErr}
use Rattle.std.specs.Str.{IsUtf8}
use Rattle.page_bytes.specs.declared.ids.Space.{Space}
use Rattle.page_bytes.specs.declared.end.PageEnd.{PageEnd}
use Rattle.page_bytes.specs.declared.end.PageEnd.TheVariants.{Damaged, NoMemory}
use Rattle.page_bytes.specs.Known.{Known}
use Rattle.page_bytes.specs.Head.{head_of}
use Rattle.page_bytes.specs.Links.{page_in, and_then, asked, tested}
use Rattle.xml_model.specs.declared.node.Doc.{Doc}
use Rattle.xml_model.specs.Pyx.{read, split_lines}
use Rattle.flat_doc.specs.Pieces.{LENGTH_BYTES, page_count, is_flat, piece, stated_length}

-- the page with this number, to which page 0 leads. One that is absent damages page 0, and one that isn't flat itself
abbrev pub flat_page : Known → Space → ℕ → Result (List ℕ) PageEnd
flat_page k space n = and_then (asked k (head_of space) (page_in space n)) (λ page. tested (page_in space n) (is_flat page) page)

-- the pieces of so many pages from one on, joined, or why the first of them that can't be had can't
abbrev pub pieces : Known → Space → ℕ → ℕ → Result (List ℕ) PageEnd
pieces k space n zero = Ok []
pieces k space n (suc more) = and_then (flat_page k space n) (λ page. and_then (pieces k space (n + 1) more) (λ rest. Ok (piece page ++ rest)))

-- the text that stands in the pages: as many bytes as page 0 states, behind their number
abbrev pub flat_text : Known → Space → Result (List ℕ) PageEnd
flat_text k space =
    and_then (flat_page k space 0) (λ first.
    and_then (pieces k space 0 (page_count (stated_length first))) (λ all. Ok (take (stated_length first) (drop LENGTH_BYTES all))))

-- a text spells a document where it is UTF-8 and its lines are read as that document
pub record IsTextOf (doc : Doc) (text : List ℕ) : Type 0 where
  pub utf8 : IsUtf8 text
  pub reads : read (split_lines text) ≡ Ok doc

-- a text that is no document's
abbrev pub SpellsNone : List ℕ → Type 0
SpellsNone text = (IsUtf8 text → ⊥) ⊎ IsErr (read (split_lines text))

-- The answer is the document that the text spells. A refusal is that of the first page that can't be had, or the text is no
-- document's, which damages page 0; or there was no memory.
abbrev pub IsFlatDoc : Known → Space → Result Doc PageEnd → Type 0
IsFlatDoc k space (Ok doc) = (text : List ℕ) × ((flat_text k space ≡ Ok text) × IsTextOf doc text)
IsFlatDoc k space (Err end) =
    (end ≡ NoMemory) ⊎ ((flat_text k space ≡ Err end)
    ⊎ ((text : List ℕ) × ((flat_text k space ≡ Ok text) × SpellsNone text × (end ≡ Damaged (head_of space)))))
