-- The lists that operators on integers give.
use Rattle.std.specs.Prelude.{ℤ, [], ◌∷◌, Option, Some, None, Result, Ok, Err, ◌≡◌}
use Rattle.xq_ast.specs.declared.code.Code.{Code}
use Rattle.xml_model.specs.Items.{Items, integer}
use Rattle.xml_model.specs.declared.value.Atom.TheVariants as atom
use Rattle.xml_model.specs.Atoms.{Atoms}
use Rattle.xq_values.specs.declared.arithmetic.Operands.{Operands}

-- an integer as a list
abbrev pub one : Result ℤ Code → Result Items Code
one (Ok n) = Ok (integer n ∷ [])
one (Err code) = Err code

-- nothing, or an integer, as a list
abbrev pub listed : Result (Option ℤ) Code → Result Items Code
listed (Ok None) = Ok []
listed (Ok (Some n)) = Ok (integer n ∷ [])
listed (Err code) = Err code

-- what an operator gives of two operands, and nothing where there are none
abbrev pub applied : (ℤ → ℤ → Result Items Code) → Result (Option Operands) Code → Result Items Code
applied op (Ok None) = Ok []
applied op (Ok (Some both)) = op both.left both.right
applied op (Err code) = Err code

-- what atomizing does to what an operator gives
pub record IsPlain (atoms : Items → Atoms) : Type 0 where
  pub none : atoms [] ≡ []
  pub integer : (n : ℤ) → atoms (integer n ∷ []) ≡ atom.Int n ∷ []
