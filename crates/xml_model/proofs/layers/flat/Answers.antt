use Rattle.std.proofs.Common.{ap, refl, ◌∙◌}
use Rattle.xml_model.specs.Forest.{no_documents}
use Rattle.xml_model.specs.Changes.{laid_over, changes_of_entries}
use Rattle.xml_model.proofs.Laying.{laid-none, layers-more}
use Rattle.xml_model.proofs.layers.flat.Goals as goal

pub loop-layer-init : goal.loop-layer-init
loop-layer-init c = ap (λ es. laid_over (changes_of_entries es) no_documents) c.new-all.ensures.empty ∙ laid-none no_documents

pub loop-layer-preserved : goal.loop-layer-preserved
loop-layer-preserved c =
    c.in_ok-lay.ensures no_documents refl ∙ ap (laid_over (changes_of_entries c.deref.result.now.entries)) c.loop-layer.invariant
    ∙ layers-more c.args.layers.now c.loop-layer.layer-index c.layer-item.result c.deref.result.now c.loop-layer-test.true c.layer-item.is c.deref.ensures
