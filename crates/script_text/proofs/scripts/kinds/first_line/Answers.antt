use Rattle.std.proofs.Common.{◌≢◌, ◌<◌, length, [], arith, rules}
use Rattle.script_text.proofs.ScriptLines.{first_ended, first_whole}
use Rattle.script_text.proofs.scripts.kinds.first_line.Goals as goal

pub returns-then-end-bytes : goal.returns-then-end-bytes
returns-then-end-bytes c =
    let some : c.args.bytes.now ≢ [] = search rules in
    first_whole c.args.bytes.now c.line_len-end.result some c.if-end-bytes.true c.line_len-end.ensures.before

pub returns : goal.returns
returns c =
    let less : c.line_len-end.result < length c.args.bytes.now = omega (arith, c.line_len-end.ensures.within) in
    first_ended c.args.bytes.now c.line_len-end.result less (c.line_len-end.ensures.found less) c.line_len-end.ensures.before
