use Rattle.std.proofs.Common.{rules}
use Rattle.pyx_text.proofs.Replaced.{turn, last_turn}
use Rattle.pyx_text.proofs.Escapes.{tabs-cut, tabs-lacking}
use Rattle.pyx_text.proofs.escape.push_tabs.Goals as goal

pub loop-before-preserved : goal.loop-before-preserved
loop-before-preserved c =
    (search rules, turn _ _ _ _ _ _ _ _ c.in_ok-push_str.ensures.ok c.in_ok-push_str-2.ensures.ok (tabs-cut _ _ _ c.in-Some.ensures) c.loop-before.invariant.1)

pub returns : goal.returns
returns c = last_turn _ _ _ _ _ c.in_ok-push_str-3.ensures.ok (tabs-lacking _ c.in_default.ensures) c.loop-before.invariant.1
