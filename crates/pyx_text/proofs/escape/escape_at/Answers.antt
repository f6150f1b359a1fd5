use Rattle.pyx_text.proofs.Escapes.{stands_for_itself}
use Rattle.pyx_text.proofs.escape.escape_at.Goals as goal

pub returns-in_default-behind-2-clause-means : goal.returns-in_default-behind-2-clause-means
returns-in_default-behind-2-clause-means c =
    stands_for_itself c.args.after.now c.in_default.ensures c.in_default-behind.ensures c.in_default-behind-2.ensures
