-- What options tell: that they are equal, and that one thing after another gave a value.
use Rattle.std.proofs.Common.{◌≡◌, Option, Some, None, refl}
use Rattle.xq_ast.specs.Tokens.{◌>>=◌}

-- where one thing after another gives a value, the first gave one, and the second gave the value from it
pub bind_some : {A B : Type 0} (o : Option A) (f : A → Option B) (y : B) → (o >>= f) ≡ Some y → (x : A) × (o ≡ Some x) × (f x ≡ Some y)
bind_some None f y e = cc
bind_some (Some x) f y e = (x, refl, e)

-- equal options have equal values
pub some_is : {A : Type 0} {x y : A} → Some x ≡ Some y → x ≡ y
some_is e = cc
