use Rattle.std.proofs.Common.{None, sym}
use Rattle.xq_ast.specs.declared.call.Call.TheVariants.{Drop}
use Rattle.session_run.specs.Effects.{IsChanged, IsEffect}
use Rattle.session_run.proofs.Statements.{if_ok, drop_there, drop_missing}
use Rattle.session_run.proofs.statement.take_away.Goals as goal

pub returns-in-Some-clause-effect : goal.returns-in-Some-clause-effect
returns-in-Some-clause-effect c =
    let changes = c.args.changes.now.changes in
    if_ok (IsChanged c.args.name.now None) (IsEffect (Drop c.args.name.now) changes c.args.base.now) c.changed.result
    (λ effect gone. drop_there c.args.name.now changes c.args.base.now effect _ (sym c.in-Some.ensures.document) gone) c.changed.ensures.changed

pub returns-in-None-clause-effect : goal.returns-in-None-clause-effect
returns-in-None-clause-effect c =
    drop_missing c.args.name.now c.args.changes.now.changes c.args.base.now c.refused.result
    (sym c.in-None.ensures.document) c.refused.ensures.says c.refused.ensures.changes
