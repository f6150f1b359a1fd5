-- The journal that some bytes are the text of.
use Rattle.std.specs.Prelude.{◌≡◌, ℕ, List, map, Option, None, Some}
use Rattle.session_core.specs.declared.history.event.Event.{Event}
use Rattle.script_text.specs.JournalText.{text, told, ArePrinted}

-- the bytes are the text of this journal, and it keeps nothing besides
pub record IsToldBy (bytes : List ℕ) (journal : List Event) : Type 0 where
  pub written : text journal ≡ bytes
  pub printed : ArePrinted journal
  pub told : map told journal ≡ journal

-- the bytes are the text of no journal
abbrev pub TellNothing : List ℕ → Type 0
TellNothing bytes = (journal : List Event) → ArePrinted journal → text journal ≡ bytes → ⊥

-- what the bytes tell, where they tell something
abbrev pub Tells : List ℕ → Option (List Event) → Type 0
Tells bytes (Some journal) = IsToldBy bytes journal
Tells bytes None = TellNothing bytes

-- two journals with one text differ only in what a text does not tell
abbrev pub TextTellsItsJournal : Type 0
TextTellsItsJournal = (a b : List Event) → ArePrinted a → ArePrinted b → text a ≡ text b → map told a ≡ map told b
