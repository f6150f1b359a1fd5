use Rattle.std.proofs.Common.{refl}
use Rattle.script_text.specs.Pieces.{piece_text, pieces_text}
use Rattle.script_text.proofs.EventText.{pieces_text-append, pieces_text-one}
use Rattle.byte_edge.proofs.Sent.{failed, sent_none, sent_next, broke_next}
use Rattle.script_text.proofs.journals.pieces.send_pieces.Goals as goal

pub loop-piece-init : goal.loop-piece-init
loop-piece-init g c = sent_none _

pub returns-in_err-send_piece : goal.returns-in_err-send_piece
returns-in_err-send_piece g c =
    failed c.from_residual.result c.from_residual.ensures.0
    (broke_next pieces_text piece_text pieces_text-append pieces_text-one c.args.pieces.now c.loop-piece.piece-index _ _ c.loop-piece-test.true refl
    c.loop-piece.invariant c.in_err-send_piece.ensures)

pub loop-piece-preserved : goal.loop-piece-preserved
loop-piece-preserved g c =
    sent_next pieces_text piece_text pieces_text-append pieces_text-one c.args.pieces.now c.loop-piece.piece-index _ _ c.loop-piece-test.true refl
    c.loop-piece.invariant c.in_ok-send_piece.ensures
