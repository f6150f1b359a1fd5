use Rattle.std.proofs.Common.{sym}
use Rattle.xq_parse.proofs.Steps.{string_goes_on}
use Rattle.xq_parse.proofs.string.string.Goals as goal

pub parts-preserved : goal.parts-preserved
parts-preserved c =
    string_goes_on c.args.quote c.in-Holds.byte c.parts.rest.now c.in-Holds.after.now c.parts.text c.push.new.self _ c.requires
    (sym c.in-Holds.ensures) c.in_ok-push-in-Holds.ensures.ok c.parts.invariant
