use Rattle.std.proofs.Common.{◌≡◌, [], ◌++◌, append-nil, sym, ap, ◌∙◌}
use Rattle.std.specs.Map.Iter.{deref_pair}
use Rattle.std.proofs.lemmas.Map.Iter.{rest_all}
use Rattle.doc_locks.specs.Locks.{needs_of}
use Rattle.doc_locks.proofs.Sorting.{needs_in, needs-sorted}
use Rattle.doc_locks.proofs.held.HeldNames.into_needs.Goals as goal

pub returns : goal.returns
returns c =
    let none : c.loop-name.name-iterator ≡ [] = rest_all deref_pair c.loop-name.name-iterator c.next.new.self c.next.result c.in-None.is c.next.ensures.steps in
    sym (append-nil c.loop-name.needs)
    ∙ ap (λ left. c.loop-name.needs ++ needs_in left) (sym none)
    ∙ c.loop-name.invariant
    ∙ ap needs_in c.into_iter-name-iterator.ensures.into_iter_gives.0
    ∙ needs-sorted c.self.inside.modes.entries c.sort_keys.new.self.entries c.sort_keys.ensures.reordered.0 c.sort_keys.ensures.unique
    c.in_ok-sort_keys.ensures.sorted
    ∙ ap needs_of c.self.view_is
