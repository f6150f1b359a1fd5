use Rattle.std.proofs.Common.{sym}
use Rattle.flat_doc.proofs.FirstNewline.{none_found, cut_found}
use Rattle.flat_doc.proofs.cuts.cut_line.Goals as goal

pub returns-in_err-end : goal.returns-in_err-end
returns-in_err-end c = rw c.from_residual.ensures (none_found c.args.bytes.now (sym c.in_err-end.ensures))

pub returns : goal.returns
returns c = cut_found c.args.bytes.now c.in_ok-end.end (sym c.in_ok-end.ensures)
