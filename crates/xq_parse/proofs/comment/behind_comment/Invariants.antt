use Rattle.std.proofs.Common.{◌≡◌, ◌≤◌, ◌+◌, length}
use Rattle.xq_ast.specs.Tokens as spec
use Rattle.xq_parse.proofs.comment.behind_comment.Given as goal

abbrev pub invariant-comments : goal.invariant-comments
invariant-comments l = (spec.behind_comments (length l.rest) l.opened l.rest ≡ spec.behind_comments (length l.inside) 1 l.inside)
    × (l.opened + length l.rest ≤ length l.inside + 1)

abbrev pub decreases-comments : goal.decreases-comments
decreases-comments l = length l.rest
