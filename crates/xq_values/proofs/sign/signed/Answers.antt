use Rattle.std.proofs.Common.{◌≡◌, ap, ◌∙◌, subst, drop, arith}
use Rattle.xq_values.specs.Signs.{again, SignsGive}
use Rattle.xq_values.proofs.Signs.{more_sign}
use Rattle.xq_values.proofs.sign.signed.Goals as goal

pub loop-left-preserved : goal.loop-left-preserved
loop-left-preserved c = (
  omega arith,
  more_sign c.args.signs.now c.args.value.now c.loop-left.left c.loop-left.found c.signed_again-found.result (omega arith) c.loop-left.invariant.0 c.loop-left.invariant.1
      (c.signed_again-found.ensures ∙ ap (λ m. again m c.loop-left.found) c.minus_at-minus.ensures),
)

pub returns : goal.returns
returns c =
    let none : c.loop-left.left ≡ 0 = omega arith in
    subst (λ k. SignsGive (drop k c.args.signs.now) c.args.value.now c.loop-left.found) none c.loop-left.invariant.1
