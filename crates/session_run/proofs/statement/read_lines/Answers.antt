use Rattle.std.proofs.Common.{◌+◌, drop, get_or, length, ap, ◌∙◌, sym, arith}
use Rattle.xml_model.specs.Pyx.{after, ◌>>=◌}
use Rattle.session_run.proofs.Lines.{next_line, refused_at}
use Rattle.session_run.proofs.statement.read_lines.Goals as goal

pub returns-in-Err : goal.returns-in-Err
returns-in-Err c = refused_at c.in-Err.fault c.loop-line.reader c.line.new.self c.line-item.result
    (drop (c.loop-line.line-index + 1) c.args.lines.now) c.args.lines.now c.in-Err.ensures
    (ap (λ rest. c.loop-line.reader >>= after rest)
    (sym (next_line c.args.lines.now c.loop-line.line-index c.line-item.result (omega (arith, ap length c.as_slice-line-items.ensures)) (c.line-item.is
    ∙ ap (λ ls. get_or ls c.loop-line.line-index c.line-item.result) c.as_slice-line-items.ensures))) ∙ c.loop-line.invariant)
