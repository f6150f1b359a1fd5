use Rattle.std.proofs.Common.{sym, ap, ◌∙◌}
use Rattle.std.specs.Option.{option_copied}
use Rattle.xq_nodes.proofs.Places.{no_root}
use Rattle.xq_nodes.proofs.constructed.stands_at.Goals as goal

pub returns-in-None : goal.returns-in-None
returns-in-None c =
    no_root c.args.made.now c.args.at.now.tree c.args.at.now.place (ap option_copied (sym c.in-None.is) ∙ c.nth_root.ensures)
