-- Variables that are bound for a while.
use Rattle.std.proofs.Common.{◌≡◌, List, [], ◌∷◌, ◌++◌, length, take, refl, ap}

-- what was added behind a list is taken back
pub taken_back : {A : Type 0} (xs ys : List A) → take (length xs) (xs ++ ys) ≡ xs
taken_back [] ys = refl
taken_back (x ∷ xs) ys = ap (λ l. x ∷ l) (taken_back xs ys)
