use Rattle.std.proofs.Common.{rules}
use Rattle.pyx_text.proofs.Replaced.{turn, last_turn}
use Rattle.pyx_text.proofs.Escapes.{escaped-cut, escaped-lacking}
use Rattle.pyx_text.proofs.escape.push_escaped.Goals as goal

pub loop-before-preserved : goal.loop-before-preserved
loop-before-preserved c =
    (search rules, turn _ _ _ _ _ _ _ _ c.in_ok-push_lines.ensures c.in_ok-push_str.ensures.ok (escaped-cut _ _ _ c.in-Some.ensures) c.loop-before.invariant.1)

pub returns : goal.returns
returns c = last_turn _ _ _ _ _ c.in_ok-push_lines-2.ensures (escaped-lacking _ c.in_default.ensures) c.loop-before.invariant.1
