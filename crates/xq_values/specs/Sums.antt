-- Sums, one integer after another: what is left of them once 64 bits did not hold the total.
use Rattle.std.specs.Prelude.{ℤ, ◌+ℤ◌, [], ◌∷◌, Option, Some, None, Result, ok_or, if◌then◌else◌}
use Rattle.xq_ast.specs.declared.code.Code.{Code}
use Rattle.xq_ast.specs.declared.code.Code.TheVariants.{FOAR0002}
use Rattle.xml_model.specs.Items.{◌>>?◌}
use Rattle.xml_model.specs.Atoms.{Atoms, is_long, summand}

-- the total with one integer more, where 64 bits have held all of them
abbrev pub plus : Option ℤ → ℤ → Option ℤ
plus None n = None
plus (Some total) n = if is_long (total +ℤ n) then Some (total +ℤ n) else None

-- all are still cast where the total is past 64 bits
abbrev pub summed : Option ℤ → Atoms → Result ℤ Code
summed total [] = ok_or total FOAR0002
summed total (a ∷ more) = summand a >>? (λ n. summed (plus total n) more)
