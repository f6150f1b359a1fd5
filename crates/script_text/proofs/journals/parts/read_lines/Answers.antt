use Rattle.std.proofs.Common.{◌+◌, ◌<◌, ◌∷◌, [], ◌++◌, IsUtf8, rules, arith, subst, sym}
use Rattle.script_text.proofs.EventRows.{LinesSoFar, line_read, lines_end}
use Rattle.script_text.proofs.journals.parts.read_lines.Goals as goal

pub loop-preserved : goal.loop-preserved
loop-preserved c =
    let utf8 : IsUtf8 c.in-Some.line.now = search rules in
    let more = line_read c.loop.counter c.loop.lines c.in-Some.line.now c.loop.rest.now c.in-Some.more.now c.args.text.now c.loop.invariant.1 c.in-Some.ensures
    utf8 in
    let item = c.in_ok-of.ensures in
    let pushed = c.in_ok-push.ensures.ok in (
      search rules,
      subst (λ ls. LinesSoFar (c.loop.counter + 1) ls c.in-Some.more.now c.args.text.now) (sym pushed)
          (subst (λ line. LinesSoFar (c.loop.counter + 1) (c.loop.lines ++ line ∷ []) c.in-Some.more.now c.args.text.now) (sym item) more),
    )

pub returns-in_default : goal.returns-in_default
returns-in_default c =
    let less : c.loop.counter < c.args.count = omega arith in
    lines_end c.loop.counter c.args.count c.loop.lines c.loop.rest.now c.args.text.now c.loop.invariant.1 less c.in_default.ensures
