use Rattle.std.proofs.Common.{Some, ap, ◌∙◌}
use Rattle.std.specs.Arc.{arc_value}
use Rattle.std.specs.FinMap as map
use Rattle.xml_model.specs.Changes.{no_changes, laid_over}
use Rattle.xml_model.proofs.Laying.{laid-one, laid-none}
use Rattle.xml_model.proofs.forest.DocMap.insert.Goals as goal

pub returns-clause-ok : goal.returns-clause-ok
returns-clause-ok c =
    c.drop-2.view_is ∙ c.in_ok-self-inside.ensures
    ∙ ap (λ changes. laid_over changes c.args.self.now) (c.in_ok-insert.ensures.ok
    ∙ ap (λ changes. map.insert changes c.args.name (Some (arc_value c.in_ok-shared.shared))) c.new-change.ensures)
    ∙ laid-one no_changes c.args.name (Some (arc_value c.in_ok-shared.shared)) c.args.self.now
    ∙ (λ i. map.insert (laid-none c.args.self.now i) c.args.name (c.in_ok-shared.ensures.ok i))
