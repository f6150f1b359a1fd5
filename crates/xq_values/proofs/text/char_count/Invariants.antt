use Rattle.std.proofs.Common.{◌≡◌, ◌≤◌, ◌+◌, drop}
use Rattle.std.specs.Fmt as fmt
use Rattle.xq_values.specs.Words as words
use Rattle.xq_values.proofs.text.char_count.Given as goal

abbrev pub invariant-loop-byte : goal.invariant-loop-byte
invariant-loop-byte l = (l.count + words.chars_of (drop l.byte-index l.byte-items) ≡ fmt.char_count l.byte-items) × (l.count ≤ l.byte-index)
