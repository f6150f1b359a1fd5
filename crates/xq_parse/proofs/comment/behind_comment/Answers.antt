use Rattle.std.proofs.Common.{arith, length, Some}
use Rattle.xq_ast.specs.Tokens as spec
use Rattle.xq_parse.proofs.Steps.{comment_kept}
use Rattle.xq_parse.proofs.comment.behind_comment.Goals as goal

pub comments-preserved : goal.comments-preserved
comments-preserved c = (
  comment_kept c.comments.opened c.comments.rest.now (spec.behind_comments (length c.args.inside.now) 1 c.args.inside.now) (Some c.in_ok-turn.turn)
      (omega arith) c.in_ok-turn.ensures.turned c.comments.invariant.0,
  omega (arith, c.in_ok-turn.ensures.few),
)
