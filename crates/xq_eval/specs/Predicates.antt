-- Whether a predicate holds of an item.
use Rattle.std.specs.Prelude.{Bool, ℤ, [], ◌∷◌, Option, Some, None}
use Rattle.xml_model.specs.Items.{Making, plain, ◌>>=◌, Items, node, string, integer, boolean}
use Rattle.xml_model.specs.Evaluation.{holds_at}
use Rattle.xml_model.specs.FunctionAnswers.{Context, Focus}
use Rattle.xml_model.specs.Tuples.{Bindings, Means}

-- whatever the context was before
abbrev pub holds_in : Means → Focus → Bindings → Context → Making Bool
holds_in means focus env cx = means env (Some focus) >>= (λ value. plain (holds_at focus.position value))

-- an integer that stands alone
abbrev pub integer_alone : Items → Option ℤ
integer_alone [] = None
integer_alone (integer n ∷ []) = Some n
integer_alone (integer n ∷ item ∷ items) = None
integer_alone (node n ∷ items) = None
integer_alone (string text ∷ items) = None
integer_alone (boolean b ∷ items) = None
