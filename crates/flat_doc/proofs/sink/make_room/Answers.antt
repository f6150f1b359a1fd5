use Rattle.std.proofs.Common.{[], ◌∷◌, ◌++◌, sym, subst, arith}
use Rattle.flat_doc.specs.Sink.{HasRoom}
use Rattle.flat_doc.proofs.Running.{turned}
use Rattle.flat_doc.proofs.sink.make_room.Goals as goal

pub returns-clause-ok : goal.returns-clause-ok
returns-clause-ok c =
    let full = c.args.full.now.items in let page = c.args.page.now in let at = c.args.at.now in
    subst (λ f. HasRoom full page at f c.turn.new.page 1) (sym c.in_ok-turn.ensures.full)
    (subst (λ p. HasRoom full page at (full ++ page ∷ []) p 1) (sym c.in_ok-turn.ensures.page) (turned full page at c.requires (omega (arith, c.if-at-lt-PAGE_BYTES.false))))
