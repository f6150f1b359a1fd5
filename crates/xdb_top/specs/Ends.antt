-- What reading an input answers.
use Rattle.std.specs.Prelude.{◌≡◌, List, Result, Ok, Err, IsOk}
use Rattle.xml_model.specs.declared.node.Doc.{Doc}
use Rattle.xml_model.specs.declared.node.RefusedLine.{RefusedLine}
use Rattle.xml_model.specs.Pyx.{Reading, Line, after, ◌>>=◌}
use Rattle.pyx_text.specs.declared.fault.PyxFault.{PyxFault}
use Rattle.pyx_text.specs.declared.fault.PyxFault.TheVariants.{Refused}
use Rattle.pyx_text.specs.declared.fault.PyxFault.TheVariants as faults
use Rattle.xdb_top.specs.declared.fault.InputFault.{InputFault}
use Rattle.xdb_top.specs.declared.input.InputEnd.{InputEnd}
use Rattle.xdb_top.specs.declared.input.InputEnd.TheVariants.{Fault, NoMemory}
use Rattle.xdb_top.specs.Input.{fault_at}

-- the answer is what the definition gives, unless memory ran out
abbrev pub Gives : Result Doc InputEnd → Result Doc InputFault → Type 0
Gives (Ok doc) defined = defined ≡ Ok doc
Gives (Err (Fault fault)) defined = defined ≡ Err fault
Gives (Err NoMemory) defined = Unit {0}

-- a reader has taken these lines, or one of them was refused
abbrev pub ReadsLines : {T : Type 0} → Result T InputEnd → (old new : Result Reading RefusedLine) → List Line → Type 0
ReadsLines (Ok x) old new lines = (new ≡ (old >>= after lines)) × IsOk new
ReadsLines (Err (Fault fault)) old new lines = (refused : RefusedLine) × ((old >>= after lines) ≡ Err refused) × (fault ≡ fault_at refused)
ReadsLines (Err NoMemory) old new lines = Unit {0}

-- a reader's fault as an end of the input
abbrev pub end_of : PyxFault → InputEnd
end_of (Refused refused) = Fault (fault_at refused)
end_of faults.NoMemory = NoMemory
