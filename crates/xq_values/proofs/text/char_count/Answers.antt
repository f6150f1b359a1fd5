use Rattle.std.proofs.Common.{◌≡◌, arith}
use Rattle.std.specs.Fmt as fmt
use Rattle.xq_values.specs.Words as words
use Rattle.xq_values.proofs.Words.{chars_is}
use Rattle.xq_values.proofs.text.char_count.Goals as goal

pub loop-byte-init : goal.loop-byte-init
loop-byte-init c =
    let same : words.chars_of c.as_bytes-byte-items.result.now ≡ fmt.char_count c.as_bytes-byte-items.result.now = chars_is c.as_bytes-byte-items.result.now in
    (omega arith, omega arith)
