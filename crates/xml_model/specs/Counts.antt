-- What a reading has counted. The limits of nodes and of bytes are compared with these numbers.
use Rattle.std.specs.Prelude.{◌≡◌, ℕ, ◌+◌, List, [], ◌∷◌, length}
use Rattle.xml_model.specs.Trees.{count_of, bytes_of, value_bytes}
use Rattle.xml_model.specs.Pyx.{OpenElement, Reading}

-- the nodes of open elements: each element, its attributes, and the nodes that stand before it in its list
abbrev pub open_nodes : List OpenElement → ℕ
open_nodes [] = 0
open_nodes (e ∷ outer) = 1 + length e.attrs + count_of e.before + open_nodes outer

-- the bytes of their values
abbrev pub open_bytes : List OpenElement → ℕ
open_bytes [] = 0
open_bytes (e ∷ outer) = value_bytes e.attrs + bytes_of e.before + open_bytes outer

-- The two counters of a reading are all nodes and all bytes of values that it holds: those inside the innermost
-- open element, and those of the open elements.
pub record IsCounted (r : Reading) : Type 0 where
  pub nodes : r.nodes ≡ count_of r.here + open_nodes r.stack
  pub bytes : r.bytes ≡ bytes_of r.here + open_bytes r.stack
