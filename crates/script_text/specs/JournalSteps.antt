-- What the parts of reading a journal answer.
use Rattle.std.specs.Prelude.{◌≡◌, ◌≢◌, ℕ, ◌<◌, ◌==◌, ◌||◌, Bool, false, if◌then◌else◌, List, [], ◌∷◌, ◌++◌, length, codes, IsUtf8, Option, None, Some}
use Rattle.xq_ast.specs.declared.need.LockMode.{LockMode}
use Rattle.xq_ast.specs.declared.need.Need.{Need}
use Rattle.xml_model.specs.Pyx.{Line, text_of}
use Rattle.session_core.specs.declared.history.event.Event.{Event}
use Rattle.script_text.specs.declared.journals.rows.Row.{Row}
use Rattle.script_text.specs.declared.journals.parts.NameText.{NameText}
use Rattle.script_text.specs.declared.journals.parts.ModeText.{ModeText}
use Rattle.script_text.specs.declared.journals.parts.NeedText.{NeedText}
use Rattle.script_text.specs.declared.journals.parts.LinesText.{LinesText}
use Rattle.script_text.specs.declared.journals.reading.EventText.{EventText}
use Rattle.script_text.specs.JournalText.{quoted, mode_text, need_text, needs_text, event_lines, told, AreLines, IsPrinted}
use Rattle.script_text.specs.JournalRows.{AreUtf8, IsRow, lines_behind}

-- a byte more in front of a name
abbrev pub in_name : ℕ → Option (List ℕ × List ℕ) → Option (List ℕ × List ℕ)
in_name b None = None
in_name b (Some found) = Some (b ∷ found.0, found.1)

-- the name whose quotes stand twice, up to the quote that ends it, and what stands after
abbrev pub unquoted : List ℕ → Option (List ℕ × List ℕ)
unquoted [] = None
unquoted (b ∷ []) = if b == 39 then Some ([], []) else None
unquoted (b ∷ c ∷ more) = if b == 39 then (if c == 39 then in_name 39 (unquoted more) else Some ([], c ∷ more)) else in_name b (unquoted (c ∷ more))

-- bytes more in front of a name
abbrev pub behind_name : List ℕ → Option (List ℕ × List ℕ) → Option (List ℕ × List ℕ)
behind_name name None = None
behind_name name (Some found) = Some (name ++ found.0, found.1)

-- one of the bytes is a single quote
abbrev pub has_quote : List ℕ → Bool
has_quote [] = false
has_quote (b ∷ more) = b == 39 || has_quote more

-- the bytes are what stands before their first quote, the quote, and what stands after it
pub record IsCutName (bytes before behind : List ℕ) : Type 0 where
  pub whole : bytes ≡ before ++ 39 ∷ behind
  pub first : has_quote before ≡ false

-- the first byte is there, and is a single quote
abbrev pub begins_quoted : List ℕ → Bool
begins_quoted [] = false
begins_quoted (b ∷ more) = b == 39

-- the name after an opening quote
abbrev pub ReadsName : Option NameText → List ℕ → Type 0
ReadsName (Some found) bytes = IsUtf8 found.name × (unquoted bytes ≡ Some (found.name, found.rest.now))
ReadsName None bytes = unquoted bytes ≡ None

-- a name between quotes
abbrev pub ReadsQuoted : Option NameText → List ℕ → Type 0
ReadsQuoted (Some found) bytes = IsUtf8 found.name × (quoted found.name ++ found.rest.now ≡ bytes) × (begins_quoted found.rest.now ≡ false)
ReadsQuoted None bytes = (name rest : List ℕ) → begins_quoted rest ≡ false → quoted name ++ rest ≢ bytes

-- a space and a mode, and what stands after; or the bytes begin with no such
abbrev pub ReadsMode : Option ModeText → List ℕ → Type 0
ReadsMode (Some found) bytes = codes " " ++ (mode_text found.mode ++ found.rest.now) ≡ bytes
ReadsMode None bytes = (mode : LockMode) (rest : List ℕ) → codes " " ++ (mode_text mode ++ rest) ≢ bytes

-- a need, and what stands after; or the bytes begin with none
abbrev pub ReadsNeed : Option NeedText → List ℕ → Type 0
ReadsNeed (Some found) bytes = IsUtf8 found.need.name × (need_text found.need ++ found.rest.now ≡ bytes)
ReadsNeed None bytes = (need : Need) (rest : List ℕ) → need_text need ++ rest ≢ bytes

-- the bytes are needs, one at least; or they are not
abbrev pub ReadsNeeds : Option (List Need) → List ℕ → Type 0
ReadsNeeds (Some needs) bytes = (0 < length needs) × AreUtf8 needs × (needs_text needs ≡ bytes)
ReadsNeeds None bytes = (needs : List Need) → 0 < length needs → needs_text needs ≢ bytes

-- so many lines
abbrev pub ReadsLines : Option LinesText → ℕ → List ℕ → Type 0
ReadsLines (Some found) count bytes = (length found.lines ≡ count) × AreLines found.lines × (text_of found.lines ++ found.rest.now ≡ bytes)
ReadsLines None count bytes = (lines : List Line) (rest : List ℕ) → length lines ≡ count → AreLines lines → text_of lines ++ rest ≢ bytes

-- an event of a row whose session is known, from what follows the row's words
abbrev pub ReadsRow : Option Event → Row → ℕ → List ℕ → Type 0
ReadsRow (Some e) row session rest = IsRow row session rest e
ReadsRow None row session rest = (e : Event) → IsRow row session rest e → ⊥

-- the same with the lines after its first line
abbrev pub ReadsBehind : Option EventText → Row → ℕ → List ℕ → List ℕ → Type 0
ReadsBehind (Some found) row session rest behind = IsRow row session rest found.event × (text_of (lines_behind found.event) ++ found.rest.now ≡ behind)
ReadsBehind None row session rest behind = (e : Event) (more : List ℕ) → IsRow row session rest e → text_of (lines_behind e) ++ more ≢ behind

-- the first event of a text
abbrev pub ReadsEvent : Option EventText → List ℕ → Type 0
ReadsEvent (Some found) bytes = IsPrinted found.event × (told found.event ≡ found.event) × (text_of (event_lines found.event) ++ found.rest.now ≡ bytes)
ReadsEvent None bytes = (e : Event) (more : List ℕ) → IsPrinted e → text_of (event_lines e) ++ more ≢ bytes
