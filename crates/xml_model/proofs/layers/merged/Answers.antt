use Rattle.std.proofs.Common.{ap, ◌∙◌}
use Rattle.xml_model.specs.Changes.{laid_over, changes_of_entries}
use Rattle.xml_model.proofs.Laying.{laid-no-entries}
use Rattle.xml_model.proofs.layers.merged.Goals as goal

pub returns : goal.returns
returns c = λ F below.
    c.in_ok-lay-2.ensures F below
    ∙ ap (laid_over (changes_of_entries c.args.newer.now.entries))
    (c.in_ok-lay.ensures F below
    ∙ ap (laid_over (changes_of_entries c.args.older.now.entries)) (laid-no-entries c.in_ok-all.all.entries c.in_ok-all.ensures.len F))
