use Rattle.std.proofs.Common.{◌++◌}
use Rattle.xdb_top.specs.Turns.{one_by_one}
use Rattle.xdb_top.proofs.Starting.{off_at_start}
use Rattle.xdb_top.proofs.Playing.{where_err}
use Rattle.xdb_top.proofs.play.play_on.Goals as goal

pub returns-in_err-seats-clause-off : goal.returns-in_err-seats-clause-off
returns-in_err-seats-clause-off c = where_err c.from_residual.result
    (off_at_start c.args.script.now.sessions (c.args.script.now.order ++ one_by_one 1 c.args.script.now.sessions) c.args.core.now c.requires.empty)
