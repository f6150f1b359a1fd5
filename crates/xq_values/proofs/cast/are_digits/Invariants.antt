use Rattle.std.proofs.Common.{◌≡◌, drop}
use Rattle.std.specs.List.{list_all}
use Rattle.xq_ast.specs.Names as names
use Rattle.xq_values.proofs.cast.are_digits.Given as goal

abbrev pub invariant-loop-byte : goal.invariant-loop-byte
invariant-loop-byte l = list_all names.is_digit (drop l.byte-index l.bytes) ≡ list_all names.is_digit l.bytes
