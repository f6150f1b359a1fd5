-- What the parts of the tool say to one another.
use Rattle.std.specs.Prelude.{◌≡◌, ℕ, ◌+◌, ◌<◌, ◌≤◌, List, length, Option, None, Some, Result, Ok, Err}
use Rattle.std.specs.Io.KnownBytes.{prepend_known}
use Rattle.byte_edge.specs.declared.reading.ReadEnd.{ReadEnd}
use Rattle.byte_edge.specs.declared.reading.ReadEnd.TheVariants as reads
use Rattle.script_text.specs.declared.scripts.fault.ScriptFault.{ScriptFault}
use Rattle.script_text.specs.declared.scripts.fault.ScriptFault.TheVariants as scripts
use Rattle.xdb_top.specs.declared.fault.InputFault.{InputFault}
use Rattle.xdb_top.specs.declared.fault.InputRefusal.TheVariants.{Script}
use Rattle.xdb_top.specs.declared.fault.TopFault.{TopFault}
use Rattle.xdb_top.specs.declared.fault.TopFault.TheVariants.{BadWords, BadInput, TooLarge, ReadFault, WriteFault, NoMemory}
use Rattle.xdb_top.specs.declared.fault.TheConstants.{INPUT_BYTES_MAX}
use Rattle.xdb_top.specs.declared.input.InputEnd.{InputEnd}
use Rattle.xdb_top.specs.declared.input.InputEnd.TheVariants.{Fault}
use Rattle.xdb_top.specs.declared.input.InputEnd.TheVariants as inputs
use Rattle.xdb_top.specs.Tool.{IsWhole}

-- the fault of an answer, if it is one
abbrev pub fault_of : {T : Type 0} → Result T TopFault → Option TopFault
fault_of (Ok x) = None
fault_of (Err fault) = Some fault

-- the faults of the parts as faults of the whole
abbrev pub of_read : ReadEnd → TopFault
of_read reads.ReadFault = ReadFault
of_read reads.TooLarge = TooLarge
of_read reads.NoMemory = NoMemory

-- a fault of the input with its line and its cause, or want of memory
abbrev pub of_input : InputEnd → TopFault
of_input (Fault fault) = BadInput fault.line fault.why
of_input inputs.NoMemory = NoMemory

-- a refusal of a script with its line and its cause, or want of memory
abbrev pub of_script : ScriptFault → TopFault
of_script (scripts.Refused refused) = BadInput refused.line (Script refused.why)
of_script scripts.NoMemory = NoMemory

-- What reading the input says of it, by its answer: the input was refused, or a fault of reading came.
abbrev pub Reads : {X : Type 0} → (List ℕ → Result X InputFault) → List ℕ → Option (List ℕ) → Result X TopFault → Type 0
Reads spells input rest (Ok what) = IsWhole input rest × (spells input ≡ Ok what)
Reads spells input rest (Err BadWords) = ⊥
Reads spells input rest (Err (BadInput line why)) = IsWhole input rest × (spells input ≡ Err (record { line = line; why = why }))
Reads spells input rest (Err TooLarge) = INPUT_BYTES_MAX < length input
Reads spells input rest (Err ReadFault) = length input ≤ INPUT_BYTES_MAX
Reads spells input rest (Err WriteFault) = ⊥
Reads spells input rest (Err NoMemory) = Unit {0}

-- an input was taken from the source, of at most one byte more than is allowed, and the answer is right for it
pub record IsRead {X : Type 0} (spells : List ℕ → Result X InputFault) (before after : Option (List ℕ)) (result : Result X TopFault) : Type 0 where
  pub input : List ℕ
  pub taken : before ≡ prepend_known input after
  pub at_most : length input ≤ INPUT_BYTES_MAX + 1
  pub reads : Reads spells input after result
