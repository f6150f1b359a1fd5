use Rattle.std.proofs.Common.{sym, ap}
use Rattle.xq_ast.specs.declared.call.Call.TheVariants.{Create}
use Rattle.session_run.specs.Effects.{IsEffect, IsPut}
use Rattle.session_run.proofs.Statements.{empty_is_valid, if_ok, create_taken, create_free}
use Rattle.session_run.proofs.statement.create.Goals as goal

pub returns-in-Some-clause-effect : goal.returns-in-Some-clause-effect
returns-in-Some-clause-effect c =
    create_taken c.args.name.now c.args.changes.now.changes c.args.base.now c.refused.result _
    (sym c.in-Some.ensures.document) c.refused.ensures.says c.refused.ensures.changes

pub put-requires-clause-valid : goal.put-requires-clause-valid
put-requires-clause-valid c = empty_is_valid c.new.result c.new.ensures

pub returns-in-None-clause-effect : goal.returns-in-None-clause-effect
returns-in-None-clause-effect c =
    let changes = c.args.changes.now.changes in
    if_ok (IsPut c.args.name.now (record { kids = c.new.result })) (IsEffect (Create c.args.name.now) changes c.args.base.now) c.put.result
    (λ effect put. create_free c.args.name.now changes c.args.base.now effect (record { kids = c.new.result })
    (ap (λ k. record { kids = k }) (sym c.new.ensures)) (sym c.in-None.ensures.document) put)
    c.put.ensures.put
