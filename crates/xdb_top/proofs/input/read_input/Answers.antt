use Rattle.xdb_top.proofs.Lines.{spelled-text}
use Rattle.xdb_top.proofs.input.read_input.Goals as goal

pub returns-in-Ok : goal.returns-in-Ok
returns-in-Ok c = rw (spelled-text c.args.bytes.now c.in-Ok.ensures.cases.1, ← c.in-Ok.ensures.cases.0) c.read_text.ensures
