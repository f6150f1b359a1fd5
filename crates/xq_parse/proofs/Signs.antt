-- Signs: those that were read, before those that the rest reads.
use Rattle.std.proofs.Common.{List, ◌++◌}
use Rattle.xq_ast.specs.declared.token.Token.{Token}
use Rattle.xq_ast.specs.declared.tree.Sign.{Sign}

-- signs before the signs that were read
abbrev pub in_front : List Sign → List Sign × List Token → List Sign × List Token
in_front front r = (front ++ r.0, r.1)
