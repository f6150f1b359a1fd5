use Rattle.std.proofs.Common.{sym}
use Rattle.xq_ast.specs.declared.call.Call.TheVariants.{Load}
use Rattle.xml_model.proofs.ReadIsValid.{read_is_valid}
use Rattle.session_run.specs.Effects.{IsEffect, IsPut}
use Rattle.session_run.proofs.Statements.{if_ok, load_taken, load_free}
use Rattle.session_run.proofs.statement.load.Goals as goal

pub returns-in-Some-clause-effect : goal.returns-in-Some-clause-effect
returns-in-Some-clause-effect c =
    load_taken c.args.name.now c.args.lines.now c.args.changes.now.changes c.args.base.now c.refused.result _
    (sym c.in-Some.ensures.document) c.refused.ensures.says c.refused.ensures.changes

pub put-requires-clause-valid : goal.put-requires-clause-valid
put-requires-clause-valid c = read_is_valid c.args.lines.now c.in-Ok.doc c.in-Ok.ensures

pub returns-in-Ok-clause-effect : goal.returns-in-Ok-clause-effect
returns-in-Ok-clause-effect c =
    let changes = c.args.changes.now.changes in
    if_ok (IsPut c.args.name.now c.in-Ok.doc) (IsEffect (Load c.args.name.now c.args.lines.now) changes c.args.base.now) c.put.result
    (λ effect put. load_free c.args.name.now c.args.lines.now changes c.args.base.now effect c.in-Ok.doc c.in-Ok.ensures (sym c.in-None.ensures.document) put)
    c.put.ensures.put
