use Rattle.std.proofs.Common.{rules, ap, ◌∙◌, ◌++◌}
use Rattle.pyx_text.proofs.Replaced.{turn, last_turn}
use Rattle.pyx_text.proofs.Escapes.{unescaped-cut, unescaped-plain}
use Rattle.pyx_text.proofs.escape.unescape.Goals as goal

pub loop-before-preserved : goal.loop-before-preserved
loop-before-preserved c = (
  search rules,
  turn _ _ _ _ _ _ _ _ c.in_ok-push_str.ensures.ok c.in_ok-push_str-2.ensures.ok
      (unescaped-cut _ _ _ c.in-Some.ensures ∙ ap (λ r. c.in-Some.before.now ++ r) c.escape_at-escape.ensures.means) c.loop-before.invariant.1,
)

pub returns : goal.returns
returns c = last_turn _ _ _ _ _ c.in_ok-push_str-3.ensures.ok (unescaped-plain _ c.in_default.ensures) c.loop-before.invariant.1
