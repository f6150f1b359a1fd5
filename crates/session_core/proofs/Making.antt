-- Calls of a core, made one after another.
use Rattle.std.proofs.Common.{◌≡◌, List, [], ◌∷◌, ◌++◌, length, refl, subst, arith}
use Rattle.session_core.specs.declared.keeping.calls.CoreCall.{CoreCall}
use Rattle.session_core.specs.Keeping.Kept.{Kept}
use Rattle.session_core.specs.Keeping.CoreCalls.{Makes, AreMade}

-- one call more
pub made_more : (calls : List CoreCall) (call : CoreCall) (old between new : Kept) → AreMade calls old between → Makes call between new
    → AreMade (calls ++ call ∷ []) old new
made_more [] call old between new none makes = (new, (subst (λ k. Makes call k new) none makes, refl))
made_more (first ∷ more) call old between new made makes = (made.0, (made.1.0, made_more more call made.0 between new made.1.1 makes))

-- a list of calls of length 0 is empty
pub none_of : (calls : List CoreCall) → length calls ≡ 0 → calls ≡ []
none_of [] none = refl
none_of (call ∷ more) none = absurd (omega (arith, none))
