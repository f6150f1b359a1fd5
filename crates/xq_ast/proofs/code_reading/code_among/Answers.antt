use Rattle.std.proofs.Common.{◌<◌, length, rules, arith}
use Rattle.xq_ast.proofs.Tables.{next_is_word}
use Rattle.xq_ast.proofs.code_reading.code_among.Goals as goal

pub returns-then-eq-clause-found : goal.returns-then-eq-clause-found
returns-then-eq-clause-found c =
    let less : c.loop-code.code-index < length c.args.codes.now = omega arith in
    let word = next_is_word c.args.codes.now c.loop-code.code-index _ less c.loop-code.invariant.1 in
    let text = c.word.ensures word.0 in
    (search (rules, text), word.1)
