use Rattle.std.proofs.Common.{◌≡◌, List, ◌∷◌, [], length, refl, sym, ap, subst, ◌∙◌, arith}
use Rattle.std.specs.Vec.Iter.{into_iter_items}
use Rattle.session_run.specs.Effects.{AreValidChanges, with_change, with_changes}
use Rattle.session_run.proofs.changes.put_all.Goals as goal

none_of : {A : Type 0} (xs : List A) → length xs ≡ 0 → xs ≡ []
none_of [] is = refl
none_of (x ∷ xs) is = absurd (omega arith)

pub loop-change-preserved : goal.loop-change-preserved
loop-change-preserved c =
    let at = c.loop-change in
    let x = c.in-Some.change in
    let rest = into_iter_items c.next.new.self in
    let steps : into_iter_items at.change-iterator ≡ x ∷ rest = c.in-Some.ensures.steps.0 in
    record {
      all = ap (with_changes rest) c.put.ensures.changes ∙ sym (ap (λ cs. with_changes cs at.changes.changes) steps) ∙ at.invariant.all;
      left = let was = at.invariant.left in let gone = c.in-Some.ensures.steps.1 in let short = ap length steps in omega arith;
      valid = (subst AreValidChanges steps at.invariant.valid).1;
      room = let was = at.invariant.room in let short = ap length steps in let taken = c.put.ensures.room in omega arith;
    }

pub put-requires-clause-room : goal.put-requires-clause-room
put-requires-clause-room c =
    let was = c.loop-change.invariant.room in let short = ap length c.in-Some.ensures.steps.0 in omega arith

pub put-requires-clause-named : goal.put-requires-clause-named
put-requires-clause-named c = (subst AreValidChanges c.in-Some.ensures.steps.0 c.loop-change.invariant.valid).0.0

pub put-requires-clause-valid : goal.put-requires-clause-valid
put-requires-clause-valid c = (subst AreValidChanges c.in-Some.ensures.steps.0 c.loop-change.invariant.valid).0.1

pub returns : goal.returns
returns c =
    let at = c.loop-change in
    let none = c.in-None.ensures.steps in
    let empty : into_iter_items at.change-iterator ≡ [] = none_of _ (sym at.invariant.left ∙ none.0) in
    sym (ap (λ cs. with_changes cs at.changes.changes) empty) ∙ at.invariant.all
