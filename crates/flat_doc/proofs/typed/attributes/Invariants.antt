use Rattle.std.proofs.Common.{take, IsUtf8}
use Rattle.pyx_text.proofs.LineText.{attributes_text}
use Rattle.flat_doc.proofs.typed.attributes.Given as goal

-- the lines of the attributes so far are UTF-8
abbrev pub invariant-loop-attr : goal.invariant-loop-attr
invariant-loop-attr l = IsUtf8 (attributes_text (take l.attr-index l.attrs))
