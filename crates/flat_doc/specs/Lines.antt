-- How far a text has been read line by line.
use Rattle.std.specs.Prelude.{◌≡◌, ◌⊎◌, ℕ, List, ◌++◌, Result, Ok, Err}
use Rattle.std.specs.Str.{IsUtf8}
use Rattle.page_bytes.specs.declared.ids.Space.{Space}
use Rattle.page_bytes.specs.declared.end.PageEnd.{PageEnd}
use Rattle.page_bytes.specs.declared.end.PageEnd.TheVariants.{Damaged, NoMemory}
use Rattle.page_bytes.specs.Head.{head_of}
use Rattle.xml_model.specs.declared.node.Doc.{Doc}
use Rattle.xml_model.specs.declared.node.RefusedLine.{RefusedLine}
use Rattle.xml_model.specs.Pyx.{Line, Reading, start, after, text_of, IsPlain, ArePlain}
use Rattle.flat_doc.specs.Reading.{IsTextOf, SpellsNone}

-- The text is some lines, which are UTF-8 and were all read, and the beginning of one more.
pub record IsRead (text : List ℕ) (read : Result Reading RefusedLine) (line : List ℕ) : Type 0 where
  pub lines : List Line
  pub whole : text ≡ text_of lines ++ line
  pub plain : ArePlain lines
  pub line_plain : IsPlain line
  pub utf8 : IsUtf8 (text_of lines)
  pub so_far : Reading
  pub is_read : after lines start ≡ Ok so_far
  pub kept : read ≡ Ok so_far

-- the text is read, or there was no memory, or no text that begins with it is a document's
abbrev pub Reads : {T : Type 0} → Space → List ℕ → Result T PageEnd → Result Reading RefusedLine → List ℕ → Type 0
Reads space text (Ok x) read line = IsRead text read line
Reads space text (Err end) read line = (end ≡ NoMemory) ⊎ ((end ≡ Damaged (head_of space)) × ((more : List ℕ) → SpellsNone (text ++ more)))

-- the text's document, or why there is none
abbrev pub GivesDoc : Space → List ℕ → Result Doc PageEnd → Type 0
GivesDoc space text (Ok doc) = IsTextOf doc text
GivesDoc space text (Err end) = (end ≡ NoMemory) ⊎ ((end ≡ Damaged (head_of space)) × SpellsNone text)
