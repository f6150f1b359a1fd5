use Rattle.std.proofs.Common.{vec_len, rules}
use Rattle.byte_edge.proofs.Pieces.{took_too_many, took_in_vain}
use Rattle.byte_edge.proofs.reading.read_by.Goals as goal

pub returns-then-count-room-clause-took : goal.returns-then-count-room-clause-took
returns-then-count-room-clause-took g c =
    took_too_many c.args.limit (vec_len c.pieces.bytes) c.in-Ok.count (g.R.Source.rest c.args.from.now) (g.R.Source.rest c.pieces.from)
    (g.R.Source.rest c.take.new.self) c.pieces.bytes.items c.take.new.into
    c.pieces.bytes.ok.0 c.pieces.invariant.0 (search rules) c.pieces.invariant.1 c.in-Ok.ensures.taken (search rules) (search rules)

pub returns-then-is_err-clause-took : goal.returns-then-is_err-clause-took
returns-then-is_err-clause-took g c =
    took_in_vain c.args.limit (vec_len c.pieces.bytes) c.in-Ok.count (g.R.Source.rest c.args.from.now) (g.R.Source.rest c.pieces.from)
    (g.R.Source.rest c.take.new.self) c.pieces.bytes.items c.take.new.into
    c.pieces.bytes.ok.0 c.pieces.invariant.0 (search rules) c.pieces.invariant.1 c.in-Ok.ensures.taken (search rules)
