use Rattle.std.proofs.Common.{◌≡◌, [], ◌++◌, append-nil, sym, ap, ◌∙◌}
use Rattle.std.specs.FinMap as map
use Rattle.std.specs.Map.Iter.{deref_pair}
use Rattle.std.proofs.lemmas.Map.Iter.{rest_all}
use Rattle.xml_model.specs.Changes.{forest_of_layers}
use Rattle.xml_model.proofs.Sorting.{names_in, names-sorted}
use Rattle.xml_model.proofs.forest.DocMap.names.Goals as goal

pub returns : goal.returns
returns c =
    let none : c.loop-name.name-iterator ≡ [] = rest_all deref_pair c.loop-name.name-iterator c.next.new.self c.next.result c.in-None.is c.next.ensures.steps in
    sym (append-nil c.loop-name.names)
    ∙ ap (λ left. c.loop-name.names ++ names_in left) (sym none)
    ∙ c.loop-name.invariant
    ∙ ap names_in c.into_iter-name-iterator.ensures.into_iter_gives.0
    ∙ names-sorted c.in_ok-all.all.entries c.sort_keys.new.self.entries c.sort_keys.ensures.reordered.0 c.sort_keys.ensures.unique
    c.in_ok-sort_keys.ensures.sorted
    ∙ ap map.keys (c.in_ok-all.ensures ∙ ap forest_of_layers c.deref.ensures.value ∙ c.self.view_is)
