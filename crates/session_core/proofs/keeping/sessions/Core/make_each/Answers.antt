use Rattle.std.proofs.Common.{◌≡◌, ◌∷◌, [], length, sym, ap, subst, ◌∙◌, append_assoc, append-nil, arith}
use Rattle.std.specs.Vec.Iter.{into_iter_items}
use Rattle.session_core.specs.Keeping.CoreCalls.{CanMake, AreMade}
use Rattle.session_core.proofs.Making.{made_more, none_of}
use Rattle.session_core.proofs.keeping.sessions.Core.make_each.Goals as goal

pub make-requires : goal.make-requires
make-requires c = let at = c.loop-call in
    (subst (λ l. CanMake l at.self) c.in-Some.ensures.steps.0 at.invariant.2).0

pub loop-call-preserved : goal.loop-call-preserved
loop-call-preserved c =
    let at = c.loop-call in
    let x = c.in-Some.call in
    let steps : into_iter_items at.call-iterator ≡ x ∷ into_iter_items c.next.new.self = c.in-Some.ensures.steps.0 in (
      append_assoc at.yielded (x ∷ []) _ ∙ rw (← steps) at.invariant.0,
      made_more at.yielded x _ _ _ at.invariant.1 c.in_ok-make.ensures.made,
      (subst (λ l. CanMake l at.self) steps at.invariant.2).1 c.make.new.self c.in_ok-make.ensures.made,
      let was = at.invariant.3 in
          let gone = c.in-Some.ensures.steps.1 in
          let short = ap length steps in
          omega arith,
    )

pub returns-clause-made : goal.returns-clause-made
returns-clause-made c =
    let at = c.loop-call in
    let none = c.in-None.ensures.steps in
    let empty : into_iter_items at.call-iterator ≡ [] = none_of _ (sym at.invariant.3 ∙ none.0) in
    let all = sym (append-nil at.yielded) ∙ rw empty at at.invariant.0 in
    subst (λ l. AreMade l c.args.self.now at.self) all at.invariant.1
