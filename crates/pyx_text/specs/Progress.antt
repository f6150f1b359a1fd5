-- What a reader under way has read.
use Rattle.std.specs.Prelude.{◌≡◌, List, map, reverse, Option, None, Some, Result, Ok, Err}
use Rattle.xml_model.specs.declared.node.RefusedLine.{RefusedLine}
use Rattle.xml_model.specs.Pyx.{Reading, OpenElement, Form, refusal, stepped}
use Rattle.pyx_text.specs.declared.fault.PyxFault.{PyxFault}
use Rattle.pyx_text.specs.declared.fault.PyxFault.TheVariants.{Refused, NoMemory}
use Rattle.pyx_text.specs.declared.open_tag.OpenTag.{OpenTag}
use Rattle.pyx_text.specs.declared.progress.Progress.{Progress}

-- an open element as it is kept: its name, its attributes so far and the nodes before it
abbrev pub open_of : OpenTag → OpenElement
open_of tag = record { name = tag.name; attrs = tag.attrs.items; before = tag.before.items }

-- the innermost element comes first
abbrev pub stack_of : List OpenTag → List OpenElement
stack_of tags = map open_of (reverse tags)

-- what a reader under way has read, as a reading
abbrev pub reading_of : Progress → Reading
reading_of p = record { stack = stack_of p.stack.items; here = p.here.items; in_tag = p.in_tag; nodes = p.nodes; bytes = p.bytes; lines = p.lines }

-- a line of this form was taken or refused as the definition says, or nothing has changed
abbrev pub Takes : {T : Type 0} → Result T PyxFault → Reading → Reading → Form → Type 0
Takes (Ok x) old new form = stepped (refusal form old) form old ≡ Ok new
Takes (Err (Refused e)) old new form = stepped (refusal form old) form old ≡ Err e
Takes (Err NoMemory) old new form = new ≡ old

-- what has been read, or the refusal where there was one
abbrev pub read_so_far : Option RefusedLine → Progress → Result Reading RefusedLine
read_so_far None p = Ok (reading_of p)
read_so_far (Some refusal) p = Err refusal
