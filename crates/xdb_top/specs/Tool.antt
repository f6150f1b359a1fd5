-- What the tool does, by its words and its answer.
use Rattle.std.specs.Prelude.{◌≡◌, ℕ, ◌+◌, ◌<◌, ◌≤◌, ◌⊎◌, Bool, true, false, if◌then◌else◌, List, [], ◌∷◌, length, map, codes, Option, None, Some, Result, Ok, Err, String, string_bytes}
use Rattle.std.specs.Str.{bytes_eq}
use Rattle.std.specs.Io.KnownBytes.{prepend_known, append_known, IsAtEnd}
use Rattle.std.specs.declared.alloc.Global.{Global}
use Rattle.byte_edge.specs.Faults.{Rises}
use Rattle.byte_edge.specs.Took.{AppendedPrefix}
use Rattle.xml_model.specs.declared.node.Doc.{Doc}
use Rattle.xml_model.specs.Pyx.{pyx, text_of}
use Rattle.session_core.specs.declared.history.event.Event.{Event}
use Rattle.session_core.specs.History.Legal.{SoFar}
use Rattle.script_text.specs.declared.scripts.session_calls.Script.{Script}
use Rattle.script_text.specs.JournalText as journals
use Rattle.xdb_top.specs.declared.command.Command.{Command}
use Rattle.xdb_top.specs.declared.command.Command.TheVariants.{Pyx, Play}
use Rattle.xdb_top.specs.declared.fault.InputFault.{InputFault}
use Rattle.xdb_top.specs.declared.fault.TopFault.{TopFault}
use Rattle.xdb_top.specs.declared.fault.TopFault.TheVariants.{BadWords, BadInput, TooLarge, ReadFault, WriteFault, NoMemory}
use Rattle.xdb_top.specs.declared.fault.TheConstants.{INPUT_BYTES_MAX}
use Rattle.xdb_top.specs.Input.{spelled, spelled_script}
use Rattle.xdb_top.specs.Played.{start, IsWholePlay, IsPartPlay}

-- ---- words and statuses

-- the command that is the one word
abbrev pub command_named : List ℕ → Option Command
command_named word = if bytes_eq word (codes "pyx") then Some Pyx else (if bytes_eq word (codes "play") then Some Play else None)

-- the command that the words are, if they are one
abbrev pub command_of : List (List ℕ) → Option Command
command_of [] = None
command_of (word ∷ []) = command_named word
command_of (word ∷ other ∷ words) = None

-- the words of the command line as bytes
abbrev pub words_of : List (String Global) → List (List ℕ)
words_of words = map string_bytes words

-- the exit status
abbrev pub status_of : Option TopFault → ℕ
status_of None = 0
status_of (Some BadWords) = 1
status_of (Some (BadInput line why)) = 2
status_of (Some TooLarge) = 2
status_of (Some ReadFault) = 4
status_of (Some WriteFault) = 5
status_of (Some NoMemory) = 6

-- whether the fault is the source's, or the sink's
abbrev pub is_read_fault : Option TopFault → Bool
is_read_fault (Some ReadFault) = true
is_read_fault _ = false

-- the fault is the sink's
abbrev pub is_write_fault : Option TopFault → Bool
is_write_fault (Some WriteFault) = true
is_write_fault _ = false

-- A count of faults rose where a fault is answered, and with any other answer is as before.
abbrev pub HasFaultCause : Bool → ℕ → ℕ → Type 0
HasFaultCause true before now = Rises before now
HasFaultCause false before now = now ≡ before

-- ---- a command that reads an input and writes a text

-- the whole input was taken, within the limit
pub record IsWhole (input : List ℕ) (rest : Option (List ℕ)) : Type 0 where
  pub ended : IsAtEnd rest
  pub within : length input ≤ INPUT_BYTES_MAX

-- a text of what the input spells was written
pub record IsWritten {X : Type 0} (spells : List ℕ → Result X InputFault) (IsText : X → List ℕ → Type 0) (input : List ℕ)
    (written new : Option (List ℕ)) : Type 0 where
  pub what : X
  pub is : spells input ≡ Ok what
  pub text : List ℕ
  pub text_is : IsText what text
  pub appended : new ≡ append_known written text

-- a prefix of it was
pub record IsPartlyWritten {X : Type 0} (spells : List ℕ → Result X InputFault) (IsText : X → List ℕ → Type 0) (input : List ℕ)
    (written new : Option (List ℕ)) : Type 0 where
  pub what : X
  pub is : spells input ≡ Ok what
  pub text : List ℕ
  pub text_is : IsText what text
  pub prefix : AppendedPrefix text written new

-- What each answer says of the input that was taken, of what the source has left, and of what the sink holds. Where memory
-- was wanting, `Lacks` says what else is known of the input.
abbrev pub Answers : {X : Type 0} → (List ℕ → Result X InputFault) → (X → List ℕ → Type 0) → (List ℕ → Option (List ℕ) → Type 0) → List ℕ → Option (List ℕ)
    → Option (List ℕ) → Option (List ℕ) → Option TopFault → Type 0
Answers spells IsText Lacks input rest written new None = IsWhole input rest × IsWritten spells IsText input written new
Answers spells IsText Lacks input rest written new (Some BadWords) = ⊥
Answers spells IsText Lacks input rest written new (Some (BadInput line why)) =
    IsWhole input rest × (spells input ≡ Err (record { line = line; why = why })) × (new ≡ written)
Answers spells IsText Lacks input rest written new (Some TooLarge) = (INPUT_BYTES_MAX < length input) × (new ≡ written)
Answers spells IsText Lacks input rest written new (Some ReadFault) = (length input ≤ INPUT_BYTES_MAX) × (new ≡ written)
Answers spells IsText Lacks input rest written new (Some WriteFault) = IsWhole input rest × IsPartlyWritten spells IsText input written new
Answers spells IsText Lacks input rest written new (Some NoMemory) = (new ≡ written) × Lacks input rest

-- The command took some bytes from the front of what the source had, one more than the limit at most, and answered for them.
pub record IsAnswered {X : Type 0} (spells : List ℕ → Result X InputFault) (IsText : X → List ℕ → Type 0) (Lacks : List ℕ → Option (List ℕ) → Type 0)
    (before after written new : Option (List ℕ)) (fault : Option TopFault) : Type 0 where
  pub input : List ℕ
  pub taken : before ≡ prepend_known input after
  pub at_most : length input ≤ INPUT_BYTES_MAX + 1
  pub answer : Answers spells IsText Lacks input after written new fault

-- ---- the commands

-- the canonical text of a document
abbrev pub IsCanonical : Doc → List ℕ → Type 0
IsCanonical doc text = text ≡ text_of (pyx doc)

-- the text of the journal of a script that was played whole
abbrev pub IsPlayedText : List Event → Script → List ℕ → Type 0
IsPlayedText journal script text = IsWholePlay start script journal × (text ≡ journals.text journal)

-- where memory was wanting nothing is said of a document
abbrev pub LacksForDocument : List ℕ → Option (List ℕ) → Type 0
LacksForDocument input rest = Unit {0}

-- the whole input was taken, it spells a script, and that script was played in part
pub record IsPlayedInPart (journal : List Event) (input : List ℕ) (rest : Option (List ℕ)) : Type 0 where
  pub whole : IsWhole input rest
  pub script : Script
  pub is : spelled_script input ≡ Ok script
  pub part : IsPartPlay start script journal

-- where memory was wanting there are no events, or the script was played in part
abbrev pub LacksForPlay : List Event → List ℕ → Option (List ℕ) → Type 0
LacksForPlay journal input rest = (journal ≡ []) ⊎ IsPlayedInPart journal input rest

-- a journal is there only where scripts were played
abbrev pub HasJournal : Option TopFault → List Event → Type 0
HasJournal None journal = Unit {0}
HasJournal (Some BadWords) journal = journal ≡ []
HasJournal (Some (BadInput line why)) journal = journal ≡ []
HasJournal (Some TooLarge) journal = journal ≡ []
HasJournal (Some ReadFault) journal = journal ≡ []
HasJournal (Some WriteFault) journal = Unit {0}
HasJournal (Some NoMemory) journal = Unit {0}

-- What the tool did: where the words are no command, nothing. `play` has a journal that is legal so far, whatever it
-- answers: that of the whole script where a text was to be written, and of a part of it where memory was wanting.
abbrev pub DoesCommand : Option Command → (before after written new : Option (List ℕ)) → Option TopFault → List Event → Type 0
DoesCommand None before after written new fault journal = (fault ≡ Some BadWords) × (after ≡ before) × (new ≡ written) × (journal ≡ [])
DoesCommand (Some Pyx) before after written new fault journal = IsAnswered spelled IsCanonical LacksForDocument before after written new fault × (journal ≡ [])
DoesCommand (Some Play) before after written new fault journal =
    IsAnswered spelled_script (IsPlayedText journal) (LacksForPlay journal) before after written new fault × HasJournal fault journal × SoFar start journal
