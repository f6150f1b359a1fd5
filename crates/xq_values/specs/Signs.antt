-- Signs in front of a value.
use Rattle.std.specs.Prelude.{◌≡◌, ℕ, ℤ, pos, Bool, slice_index_or, List, [], ◌∷◌, Option, Some, None, Result, Ok, Err}
use Rattle.xq_ast.specs.declared.code.Code.{Code}
use Rattle.xq_ast.specs.declared.tree.Sign.{Sign}
use Rattle.xq_ast.specs.declared.tree.Sign.TheVariants.{Plus}
use Rattle.xml_model.specs.declared.value.Atom.TheVariants as atom
use Rattle.xml_model.specs.Items.{Items}
use Rattle.xml_model.specs.Atoms.{Atoms, operated, sum_op, is_minus, signed_by}
use Rattle.xq_values.specs.Lists.{listed, IsPlain}

-- whether the sign at this place is `-`
abbrev pub is_minus_at : List Sign → ℕ → Bool
is_minus_at signs at = is_minus (slice_index_or signs at Plus)

-- a sign before these values
abbrev pub with_sign : Bool → Atoms → Result Items Code
with_sign minus values = operated (sum_op minus) (atom.Int (pos 0) ∷ []) values

-- a sign before what the signs behind it gave
abbrev pub again : Bool → Result (Option ℤ) Code → Result Items Code
again minus (Err code) = Err code
again minus (Ok None) = with_sign minus []
again minus (Ok (Some n)) = with_sign minus (atom.Int n ∷ [])

-- what the signs make of any value that atomizes to the operand
abbrev pub SignsGive : List Sign → Atoms → Result (Option ℤ) Code → Type 0
SignsGive signs operand result =
    (atoms : Items → Atoms) → IsPlain atoms → (value : Items) → atoms value ≡ operand → listed result ≡ signed_by atoms signs value
