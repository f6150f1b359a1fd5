use Rattle.std.proofs.Common.{◌≡◌, drop}
use Rattle.xml_model.specs.Trees.{has_attribute}
use Rattle.xml_model.proofs.valid.has_attribute.Given as goal

abbrev pub invariant-loop-attr : goal.invariant-loop-attr
invariant-loop-attr l = has_attribute l.name (drop l.attr-index l.attrs) ≡ has_attribute l.name l.attrs
