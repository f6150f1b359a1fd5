-- Texts cut at their first space.
use Rattle.std.proofs.Common.{◌≡◌, ◌≢◌, ℕ, suc, ◌<◌, Bool, true, false, ◌||◌, List, [], ◌∷◌, ◌++◌, length, get_or, nat_eq, refl, ap, sym, ◌∙◌, arith}
use Rattle.xq_ast.specs.CodeWords.{has_space}

-- neither holds where not one of two holds
neither : (a b : Bool) → (a || b) ≡ false → (a ≡ false) × (b ≡ false)
neither false b e = (refl, e)
neither true b e = cc

either_false : (a b : Bool) → a ≡ false → b ≡ false → (a || b) ≡ false
either_false a b p q = rw (p, q) refl

not_eq : (a b : ℕ) → a ≢ b → nat_eq a b ≡ false
not_eq a b ne = grind (arith, ne)

differ : (a b : ℕ) → nat_eq a b ≡ false → a ≢ b
differ a b test e = grind arith

-- bytes that are no space at any index have no space
pub no_space_by_index : (bytes : List ℕ) → ((i : ℕ) → i < length bytes → get_or bytes i 0 ≢ 32) → has_space bytes ≡ false
no_space_by_index [] lacks = refl
no_space_by_index (b ∷ bs) lacks =
    either_false (nat_eq b 32) (has_space bs) (not_eq b 32 (lacks 0 (omega arith)))
    (no_space_by_index bs (λ i h. let less : suc i < length (b ∷ bs) = omega arith in lacks (suc i) less))

-- what has a space inside has one
pub space_inside : (before behind : List ℕ) → has_space (before ++ 32 ∷ behind) ≡ true
space_inside [] behind = refl
space_inside (b ∷ bs) behind = ap (λ t. nat_eq b 32 || t) (space_inside bs behind) ∙ or_true (nat_eq b 32)
  where
    or_true : (a : Bool) → (a || true) ≡ true
    or_true true = refl
    or_true false = refl

-- a text is cut in one way
pub cut_once : (a a' b b' : List ℕ) → has_space a ≡ false → has_space a' ≡ false → a ++ 32 ∷ b ≡ a' ++ 32 ∷ b' → (a ≡ a') × (b ≡ b')
cut_once [] [] b b' p q e = (refl, cc)
cut_once [] (x ∷ xs) b b' p q e = let first : 32 ≡ x = cc in absurd (differ x 32 (neither (nat_eq x 32) (has_space xs) q).0 (sym first))
cut_once (x ∷ xs) [] b b' p q e = let first : x ≡ 32 = cc in absurd (differ x 32 (neither (nat_eq x 32) (has_space xs) p).0 first)
cut_once (x ∷ xs) (y ∷ ys) b b' p q e =
    let first : x ≡ y = cc in
    let rest : xs ++ 32 ∷ b ≡ ys ++ 32 ∷ b' = cc in
    let both = cut_once xs ys b b' (neither (nat_eq x 32) (has_space xs) p).1 (neither (nat_eq y 32) (has_space ys) q).1 rest in
    (let tails : xs ≡ ys = both.0 in cc, both.1)

-- what follows one word is the same where the whole is
pub same_behind : (word a b : List ℕ) → word ++ a ≡ word ++ b → a ≡ b
same_behind [] a b e = e
same_behind (x ∷ xs) a b e = let rest : xs ++ a ≡ xs ++ b = cc in same_behind xs a b rest
