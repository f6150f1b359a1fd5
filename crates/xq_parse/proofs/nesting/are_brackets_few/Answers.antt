use Rattle.std.proofs.Common.{arith}
use Rattle.xq_parse.proofs.Steps.{too_many}
use Rattle.xq_parse.proofs.nesting.are_brackets_few.Goals as goal

pub returns-then-opened-gt-BRACKETS_MAX : goal.returns-then-opened-gt-BRACKETS_MAX
returns-then-opened-gt-BRACKETS_MAX c =
    too_many c.args.tokens.now c.loop-token.token-index c.loop-token.opened _ c.token-item.result (omega arith) c.token-item.is c.loop-token.invariant.1
    (omega (arith, c.open_behind-opened.ensures)) c.loop-token.invariant.0
