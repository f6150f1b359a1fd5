use Rattle.std.proofs.Common.{◌≡◌, ◌≤◌, [], ◌∷◌, length, List, ap, sym, subst, ◌∙◌, arith, refl}
use Rattle.indexmap.specs.IndexMap.{spare}
use Rattle.doc_locks.specs.Names.{names_of_entries}
use Rattle.doc_locks.specs.Locks.{with_needs}
use Rattle.doc_locks.proofs.held.put_all.Goals as goal

no_items : {X : Type 0} (xs : List X) → length xs ≡ 0 → xs ≡ []
no_items [] is = refl
no_items (x ∷ xs) is = absurd (omega arith)

pub loop-need-init : goal.loop-need-init
loop-need-init c = record {
  put = ap (λ ns. with_needs ns (names_of_entries c.args.modes.now.entries)) c.into_iter-need-iterator.ensures.into_iter_gives.0;
  room = subst (λ ns. length ns ≤ spare c.args.modes.now) (sym c.into_iter-need-iterator.ensures.into_iter_gives.0) c.requires.room;
}

pub put-requires : goal.put-requires
put-requires c = record {
  room = let some : length c.loop-need.need-iterator.rest.items ≡ length (c.in-Some.need ∷ c.next.new.self.rest.items) = ap length c.in-Some.ensures.steps.0 in
      let room = c.loop-need.invariant.room in omega arith;
}

pub loop-need-preserved : goal.loop-need-preserved
loop-need-preserved c = record {
  put = ap (with_needs c.next.new.self.rest.items) c.put.ensures.put
      ∙ sym (ap (λ ns. with_needs ns (names_of_entries c.loop-need.modes.entries)) c.in-Some.ensures.steps.0) ∙ c.loop-need.invariant.put;
  room = let some : length c.loop-need.need-iterator.rest.items ≡ length (c.in-Some.need ∷ c.next.new.self.rest.items) = ap length c.in-Some.ensures.steps.0 in
      let room = c.loop-need.invariant.room in omega arith;
}

pub returns : goal.returns
returns c = let none = no_items c.loop-need.need-iterator.rest.items (sym c.loop-need.need-iterator.rest.ok.0 ∙ c.in-None.ensures.steps.0) in
    sym (ap (λ ns. with_needs ns (names_of_entries c.loop-need.modes.entries)) none) ∙ c.loop-need.invariant.put
