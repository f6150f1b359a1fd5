use Rattle.std.proofs.Common.{◌≡◌, ◌∙◌, append_assoc, arith, to_z, of_z, w64}
use Rattle.std.proofs.lemmas.Int.{ints}
use Rattle.order_labels.proofs.CodeOrder.{code-parts}
use Rattle.order_labels.proofs.key.Key.push_code.Goals as goal

pub returns-clause-code : goal.returns-clause-code
returns-clause-code c =
    let same : to_z w64 (of_z w64 c.self.inside.integer) ≡ c.self.inside.integer = omega (arith, ints) in
    c.in_ok-extend_from_slice.ensures.items ∙ rw (c.in_ok-push_integer.ensures, c.as_slice.ensures.value, ← c.self.view_is, code-parts, append_assoc, same)
