use Rattle.std.proofs.Common.{◌≡◌, ◌≤◌, ◌+◌, ◌-◌, ◌++◌, map, drop, vec_len}
use Rattle.xml_model.specs.Numbering.{kid_rows, node_rows}
use Rattle.xml_model.specs.TreeRows.{row_of}
use Rattle.xml_model.specs.Trees.{count_of}
use Rattle.xml_model.proofs.tree_rows.+add.Given as goal

abbrev pub invariant-add_kids-loop-kid : goal.invariant-add_kids-loop-kid
invariant-add_kids-loop-kid l =
    (map row_of l.rows.items ++ kid_rows (vec_len l.rows - l.parent) (map node_rows (drop l.kid-index l.kid-items))
    ≡ map row_of l.initial.rows.items ++ kid_rows (vec_len l.initial.rows - l.parent) (map node_rows l.kid-items))
    × (l.parent ≤ vec_len l.rows) × (vec_len l.rows + count_of (drop l.kid-index l.kid-items) ≡ vec_len l.initial.rows + count_of l.kid-items)
