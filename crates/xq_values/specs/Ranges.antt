-- How many integers a range has.
use Rattle.std.specs.Prelude.{ℕ, ◌+◌, ℤ, pos, ◌-ℤ◌, int_lt, int_le, unsigned_abs, Result, Ok, Err, if◌then◌else◌}
use Rattle.xq_ast.specs.declared.code.Code.{Code}
use Rattle.xq_ast.specs.declared.code.Code.TheVariants.{TooManyItems}
use Rattle.xml_model.specs.declared.limits.TheConstants.{ITEMS_MAX}

abbrev pub count_of : ℤ → ℤ → Result ℕ Code
count_of n m =
    if int_lt m n then Ok 0 else
    (if int_le (pos ITEMS_MAX) (m -ℤ n) then Err TooManyItems else Ok (unsigned_abs (m -ℤ n) + 1))
