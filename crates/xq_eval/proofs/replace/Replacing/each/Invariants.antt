use Rattle.std.proofs.Common.{length}
use Rattle.std.specs.FinMap as forests
use Rattle.xq_eval.specs.Meanings.{means}
use Rattle.xq_eval.proofs.Replacing.{AreReplaced}
use Rattle.xq_values.specs.Seen.{made_seen}
use Rattle.xq_eval.proofs.replace.Replacing.each.Given as goal

abbrev pub invariant-loop-rest : goal.invariant-loop-rest
invariant-loop-rest g l =
    g.N.Nav.honest l.self.nav.now →
    AreReplaced (g.N.Nav.place l.self.nav.now) (forests.get (g.N.Nav.forest l.self.nav.now)) l.self.name
    (means (forests.get (g.N.Nav.forest l.self.nav.now)) l.self.by.now) l.targets (made_seen l.fn.made) l.done l.rest (made_seen l.made)

abbrev pub decreases-loop-rest : goal.decreases-loop-rest
decreases-loop-rest g l = length l.rest
