use Rattle.std.proofs.Common.{◌≡◌, ◌+◌, ◌++◌, map, drop, vec_len}
use Rattle.xml_model.specs.Numbering.{attr_rows}
use Rattle.xml_model.specs.TreeRows.{row_of}
use Rattle.xml_model.proofs.tree_rows.add_attrs.Given as goal

abbrev pub invariant-loop-i : goal.invariant-loop-i
invariant-loop-i l =
    (map row_of l.rows.items ++ attr_rows (l.i + 1) (drop l.i l.attr-items) ≡ map row_of l.initial.rows.items ++ attr_rows 1 l.attr-items)
    × (vec_len l.rows ≡ vec_len l.initial.rows + l.i)
