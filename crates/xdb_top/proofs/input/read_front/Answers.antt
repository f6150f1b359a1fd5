use Rattle.std.proofs.Common.{◌≡◌, ap, ◌∙◌}
use Rattle.xml_model.specs.Pyx.{start, after, split_ended_lines, ◌>>=◌}
use Rattle.xdb_top.proofs.Lines.{not_text-Ok}
use Rattle.xdb_top.proofs.input.read_front.Goals as goal

pub returns : goal.returns
returns c =
    let read : c.read_ended_lines.new.reader ≡ after (split_ended_lines c.args.front.now) start =
    c.in_ok-read_ended_lines.ensures.0 ∙ ap (λ r. r >>= after (split_ended_lines c.args.front.now)) c.new-reader.ensures in
    rw c.newlines.ensures (not_text-Ok c.args.front.now (after (split_ended_lines c.args.front.now) start) (rw (← read) c.in_ok-read_ended_lines.ensures.1))
