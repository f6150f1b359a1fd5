use Rattle.std.proofs.Common.{[], ◌∷◌}
use Rattle.byte_edge.proofs.Sent.{failed, broke_before}
use Rattle.byte_edge.proofs.pending.send_byte.Goals as goal

pub returns-in_err-make_room : goal.returns-in_err-make_room
returns-in_err-make_room g c = failed c.from_residual.result c.from_residual.ensures.0 (broke_before (c.args.byte ∷ []) c.in_err-make_room.ensures.sends)
