use Rattle.std.proofs.Common.{arith}
use Rattle.xq_parse.proofs.Steps.{pieces_go_on, piece_utf8, piece_shrinks}
use Rattle.xq_parse.proofs.piece.tokens.Goals as goal

pub pieces-smaller : goal.pieces-smaller
pieces-smaller c = piece_shrinks c.pieces.rest.now _ c.in_ok-piece.ensures

pub pieces-preserved : goal.pieces-preserved
pieces-preserved c = record {
  utf8 = piece_utf8 c.pieces.rest.now _ c.in_ok-piece.ensures c.pieces.invariant.utf8;
  tokens = pieces_go_on (λ s. s.token) c.pieces.rest.now c.in_ok-piece.piece.rest.now c.in_ok-piece.piece.token c.pieces.all.tokens c.add.new.self.tokens _
      c.in_ok-piece.ensures c.in_ok-add.ensures.tokens c.pieces.invariant.tokens;
  lengths = pieces_go_on (λ s. s.bytes) c.pieces.rest.now c.in_ok-piece.piece.rest.now c.in_ok-piece.piece.token c.pieces.all.lengths c.add.new.self.lengths _
      c.in_ok-piece.ensures c.in_ok-add.ensures.lengths c.pieces.invariant.lengths;
}

pub overflow_sub-rest : goal.overflow_sub-rest
overflow_sub-rest c = omega (arith, piece_shrinks c.pieces.rest.now _ c.in_ok-piece.ensures)
