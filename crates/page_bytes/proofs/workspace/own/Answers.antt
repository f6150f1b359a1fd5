use Rattle.std.proofs.Common.{sym, ◌∙◌}
use Rattle.page_bytes.proofs.Works.{Owns-drafted}
use Rattle.page_bytes.proofs.workspace.own.Goals as goal

pub returns-then-has-clause-ok : goal.returns-then-has-clause-ok
returns-then-has-clause-ok c = Owns-drafted c.args.drafts.now c.args.below.now c.args.id (sym c.has.ensures ∙ c.if-has.true)
