-- What a reader answers to a line, and at the end.
use Rattle.std.specs.Prelude.{◌≡◌, Result, Ok, Err, IsOk}
use Rattle.xml_model.specs.declared.node.Doc.{Doc}
use Rattle.xml_model.specs.declared.node.RefusedLine.{RefusedLine}
use Rattle.xml_model.specs.Pyx.{Reading, Line, step, ended, ◌>>=◌}
use Rattle.pyx_text.specs.declared.fault.PyxFault.{PyxFault}
use Rattle.pyx_text.specs.declared.fault.PyxFault.TheVariants.{Refused, NoMemory}

-- What a reader has read before and after a line. A refusal stays, whatever comes. For want of memory, which
-- no reader that refused answers, the line counts as not given.
abbrev pub TakesLine : {T : Type 0} → Result T PyxFault → Line → (old new : Result Reading RefusedLine) → Type 0
TakesLine (Ok x) line old new = (new ≡ (old >>= step line)) × IsOk new
TakesLine (Err (Refused e)) line old new = (new ≡ (old >>= step line)) × (new ≡ Err e)
TakesLine (Err NoMemory) line old new = (new ≡ old) × IsOk old

-- what has been read, as a document
abbrev pub end_of : Result Reading RefusedLine → Result Doc RefusedLine
end_of read = read >>= ended

-- the document, or the first refusal; ending takes no memory
abbrev pub Ends : Result Doc PyxFault → Result Doc RefusedLine → Type 0
Ends (Ok doc) read = read ≡ Ok doc
Ends (Err (Refused e)) read = read ≡ Err e
Ends (Err NoMemory) read = ⊥
