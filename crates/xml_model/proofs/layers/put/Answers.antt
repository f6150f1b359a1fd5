use Rattle.std.proofs.Common.{◌∙◌}
use Rattle.std.specs.FinMap as map
use Rattle.xml_model.specs.Changes.{changes_of_entries}
use Rattle.xml_model.proofs.Entries.{entries-insert}
use Rattle.xml_model.proofs.layers.put.Goals as goal

pub returns : goal.returns
returns c =
    entries-insert c.args.all.now c.insert.new.self c.in_ok-name.name c.in_ok-after.after c.in_ok-insert.ensures.updates
    ∙ (λ i. map.insert (changes_of_entries c.args.all.now.entries) (c.in_ok-name.ensures.ok i) (c.in_ok-after.ensures i))
