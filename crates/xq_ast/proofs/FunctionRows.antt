-- Worked rows of the table of functions.
use Rattle.std.proofs.Common.{◌≡◌, true, false, refl}
use Rattle.std.specs.Prelude.{codes}
use Rattle.xq_ast.specs.Functions.{is_function}

-- count(1), position() and concat(1, 1, 1) are calls of functions; count(), position(1), concat(1) and foo(1) are none
counts : is_function (codes "count") 1 ≡ true
counts = refl

no_count : is_function (codes "count") 0 ≡ false
no_count = refl

concats : is_function (codes "concat") 3 ≡ true
concats = refl

no_concat : is_function (codes "concat") 1 ≡ false
no_concat = refl

no_position : is_function (codes "position") 1 ≡ false
no_position = refl

no_function : is_function (codes "foo") 1 ≡ false
no_function = refl
