use Rattle.std.proofs.Common.{◌≡◌, ◌≤◌, nat_le, drop}
use Rattle.xq_ast.specs.Parsed as spec
use Rattle.xq_ast.specs.declared.limits.TheConstants.{BRACKETS_MAX}
use Rattle.xq_parse.proofs.nesting.are_brackets_few.Given as goal

abbrev pub invariant-loop-token : goal.invariant-loop-token
invariant-loop-token l =
    (nat_le (spec.most_open l.opened (drop l.token-index l.tokens)) BRACKETS_MAX ≡ nat_le (spec.most_open 0 l.tokens) BRACKETS_MAX) × (l.opened ≤ BRACKETS_MAX)
