use Rattle.std.proofs.Common.{take}
use Rattle.script_text.specs.Pieces.{pieces_text}
use Rattle.byte_edge.specs.Sending.{Sent, stage}
use Rattle.script_text.proofs.journals.pieces.send_pieces.Given as goal

-- the pieces so far were sent
abbrev pub invariant-loop-piece : goal.invariant-loop-piece
invariant-loop-piece g l =
    Sent (pieces_text (take l.piece-index l.pieces)) (stage (g.W.Sink.written l.fn.to) (g.W.Sink.faults l.fn.to) l.fn.pending)
    (stage (g.W.Sink.written l.to) (g.W.Sink.faults l.to) l.pending)
