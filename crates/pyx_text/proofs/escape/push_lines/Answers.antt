use Rattle.std.proofs.Common.{rules}
use Rattle.pyx_text.proofs.Replaced.{turn, last_turn}
use Rattle.pyx_text.proofs.Escapes.{lines-cut, lines-lacking}
use Rattle.pyx_text.proofs.escape.push_lines.Goals as goal

pub loop-before-preserved : goal.loop-before-preserved
loop-before-preserved c =
    (search rules, turn _ _ _ _ _ _ _ _ c.in_ok-push_tabs.ensures c.in_ok-push_str.ensures.ok (lines-cut _ _ _ c.in-Some.ensures) c.loop-before.invariant.1)

pub returns : goal.returns
returns c = last_turn _ _ _ _ _ c.in_ok-push_tabs-2.ensures (lines-lacking _ c.in_default.ensures) c.loop-before.invariant.1
