use Rattle.std.proofs.Common.{ap, sym, ◌∙◌}
use Rattle.std.specs.FinMap as map
use Rattle.xml_model.specs.Changes.{forest_of_layers, unshared}
use Rattle.xml_model.proofs.Entries.{entry_of, get-entries}
use Rattle.xml_model.proofs.Laying.{seen_as, no-layers, get-newest}
use Rattle.std.specs.Ordering.{nat_cmp}
use Rattle.std.specs.Cmp.Lexicographic.{slice_cmp}
use Rattle.xml_model.proofs.layers.document.Goals as goal

pub returns-in-Some-get : goal.returns-in-Some-get
returns-in-Some-get c =
    ap unshared c.as_ref.ensures.value
    ∙ ap (λ o. seen_as o (map.get (forest_of_layers c.in-Some.rest.now) c.args.name.now)) (ap entry_of c.in-Some-get.ensures.value
    ∙ sym (get-entries c.deref.result.now.entries c.args.name.now))
    ∙ sym (get-newest c.loop-layer.older.now c.in-Some.rest.now c.in-Some.layer.now c.deref.result.now c.args.name.now c.in-Some.ensures.cases.0
    c.deref.ensures)
    ∙ sym c.loop-layer.invariant

pub loop-layer-preserved : goal.loop-layer-preserved
loop-layer-preserved c =
    c.loop-layer.invariant
    ∙ get-newest c.loop-layer.older.now c.in-Some.rest.now c.in-Some.layer.now c.deref.result.now c.args.name.now c.in-Some.ensures.cases.0 c.deref.ensures
    ∙ ap (λ o. seen_as o (map.get (forest_of_layers c.in-Some.rest.now) c.args.name.now)) (get-entries c.deref.result.now.entries c.args.name.now
    ∙ ap entry_of (sym c.in_default-get.ensures.value))

pub returns : goal.returns
returns c =
    sym (c.loop-layer.invariant ∙ ap (λ F. map.get F c.args.name.now) (no-layers c.loop-layer.older.now c.in_default.ensures.cases)
    ∙ map.get-empty (slice_cmp nat_cmp) c.args.name.now)
