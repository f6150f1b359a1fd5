-- An integer alone tests the position, and all else its effective boolean value.
use Rattle.std.specs.Prelude.{◌≡◌, ℕ, pos, Bool, [], ◌∷◌, Option, Some, None, option_map, Result, Ok, refl}
use Rattle.std.specs.Ordering.{int_eq}
use Rattle.xq_ast.specs.declared.code.Code.{Code}
use Rattle.xml_model.specs.Atoms.{effective_boolean}
use Rattle.xml_model.specs.Evaluation.{holds_at}
use Rattle.xml_model.specs.Items.{Items, node, string, integer, boolean}
use Rattle.xq_eval.specs.Predicates.{integer_alone}

-- what the test of the position says, and else the effective boolean value
abbrev pub holds_or : Items → Option Bool → Result Bool Code
holds_or items None = effective_boolean items
holds_or items (Some b) = Ok b

-- so a predicate holds
pub holds_is : (position : ℕ) (items : Items) → holds_or items (option_map (λ n. int_eq n (pos position)) (integer_alone items)) ≡ holds_at position items
holds_is position [] = refl
holds_is position (integer n ∷ []) = refl
holds_is position (integer n ∷ item ∷ items) = refl
holds_is position (node n ∷ items) = refl
holds_is position (string text ∷ items) = refl
holds_is position (boolean b ∷ items) = refl
