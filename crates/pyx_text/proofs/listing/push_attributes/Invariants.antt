use Rattle.std.proofs.Common.{◌≡◌, ◌++◌, map, drop}
use Rattle.xml_model.specs.Pyx.{attribute_line}
use Rattle.pyx_text.proofs.listing.push_attributes.Given as goal

-- the lines so far and those of the attributes that are left are the whole
abbrev pub invariant-loop-attr : goal.invariant-loop-attr
invariant-loop-attr l = l.lines ++ map attribute_line (drop l.attr-index l.attr-items) ≡ l.initial.lines ++ map attribute_line l.attr-items
