-- What the bytes of an input spell.
use Rattle.std.specs.Prelude.{ℕ, ◌+◌, ◌==◌, List, length, take, count_by, Result, Ok, Err, if◌then◌else◌}
use Rattle.std.specs.Str.Lossy.{utf8_valid_len}
use Rattle.xml_model.specs.declared.node.Doc.{Doc}
use Rattle.xml_model.specs.declared.node.RefusedLine.{RefusedLine}
use Rattle.xml_model.specs.Pyx.{Reading, start, after, read, split_lines, split_ended_lines}
use Rattle.script_text.specs.declared.scripts.fault.RefusedScript.{RefusedScript}
use Rattle.script_text.specs.declared.scripts.session_calls.Script.{Script}
use Rattle.script_text.specs.Scripts.{script}
use Rattle.xdb_top.specs.declared.fault.InputFault.{InputFault}
use Rattle.xdb_top.specs.declared.fault.InputRefusal.TheVariants.{NotUtf8, Pyx, Script as ScriptWhy}

-- a refusal of PYX as a fault of the input
abbrev pub fault_at : RefusedLine → InputFault
fault_at refused = record { line = refused.line; why = Pyx refused.why }

-- a refusal of PYX is a fault of the input, at its line
abbrev pub of_text : Result Doc RefusedLine → Result Doc InputFault
of_text (Ok doc) = Ok doc
of_text (Err refused) = Err (fault_at refused)

-- The lines that are whole before the first bad byte are read; where none of them is refused, the line of
-- that byte is.
abbrev pub not_text : List ℕ → Result Reading RefusedLine → Result Doc InputFault
not_text front (Ok reading) = Err (record { line = count_by (λ b. b == 10) front + 1; why = NotUtf8 })
not_text front (Err refused) = Err (fault_at refused)

-- the fault of an input that is not UTF-8: a refused line before its first bad byte, or else the line of that byte
abbrev pub up_to_bad_byte : List ℕ → Result Doc InputFault
up_to_bad_byte front = not_text front (after (split_ended_lines front) start)

-- the document that the bytes spell, or the first fault
abbrev pub spelled : List ℕ → Result Doc InputFault
spelled bytes = if utf8_valid_len bytes == length bytes then of_text (read (split_lines bytes)) else up_to_bad_byte (take (utf8_valid_len bytes) bytes)

-- a refusal of a script is a fault of the input, at its line
abbrev pub of_script : Result Script RefusedScript → Result Script InputFault
of_script (Ok read) = Ok read
of_script (Err refused) = Err (record { line = refused.line; why = ScriptWhy refused.why })

-- the script that the bytes spell, or the first fault
abbrev pub spelled_script : List ℕ → Result Script InputFault
spelled_script bytes = of_script (script (split_lines bytes))
