use Rattle.std.proofs.Common.{arith}
use Rattle.xq_ast.specs.Readings as spec
use Rattle.xq_ast.specs.declared.limits.TheConstants.{SINGLES_MAX}
use Rattle.xq_parse.proofs.Parts.{query_alone}
use Rattle.xq_parse.proofs.rows.query.Goals as goal

pub returns-in-empty : goal.returns-in-empty
returns-in-empty c =
    query_alone (spec.single SINGLES_MAX) c.args.tokens.now c.new-parser.result c.left.result.now c.expr.new.self c.in_ok-expr.expr
    c.new-parser.ensures c.in_ok-expr.ensures c.left.ensures (omega (arith, c.in-empty.len_below))
