use Rattle.std.proofs.Common.{IsTrue, subst}
use Rattle.xdb_top.specs.Typed.{AreTyped}
use Rattle.xdb_top.proofs.Whole.{whole_where_ok, nothing_of_it, part_play}
use Rattle.xdb_top.proofs.play.play.Goals as goal

pub returns-in_default-clause-part : goal.returns-in_default-clause-part
returns-in_default-clause-part c = nothing_of_it c.args.script.now c.new-in_default.result c.new-in_default.ensures

pub returns-clause-whole : goal.returns-clause-whole
returns-clause-whole c = λ is.
    whole_where_ok c.play_on.result c.args.script.now c.play_on.new.core c.close-journal.result c.play_on.ensures.played
    c.close-journal.ensures.legal c.close-journal.ensures.journal
    c.typed.ensures (subst IsTrue c.is_ok-is_whole.ensures.value is)

pub returns-clause-part : goal.returns-clause-part
returns-clause-part c =
    part_play c.args.script.now c.play_on.new.core c.close-journal.ensures.legal c.play_on.ensures.base
    (subst AreTyped c.close-journal.ensures.journal c.typed.ensures) c.play_on.result c.close-journal.result c.play_on.ensures.played
    c.play_on.ensures.off c.close-journal.ensures.journal
