-- Codes whose text is one word, and texts that are read word by word.
use Rattle.std.specs.Prelude.{◌≡◌, ◌≢◌, ℕ, Bool, false, ◌||◌, ◌==◌, List, [], ◌∷◌, ◌++◌}
use Rattle.xq_ast.specs.CodeText.{HasNoMark}
use Rattle.xq_ast.specs.declared.code.Code.{Code}
use Rattle.xq_ast.specs.declared.code.Code.TheVariants.{Pyx, Spent, Damaged}

-- the code's text has no number
abbrev pub IsWord : Code → Type 0
IsWord (Pyx why line) = ⊥
IsWord (Spent kind number) = ⊥
IsWord (Damaged commit ordinal page) = ⊥
IsWord _ = Unit {0}

-- all items are words, and their marks go from 0 to 0
abbrev pub AreWords : List Code → Type 0
AreWords [] = Unit {0}
AreWords (c ∷ cs) = IsWord c × HasNoMark c × AreWords cs

-- none of the items has this text as its name
abbrev pub Misses : {A : Type 0} → (A → List ℕ) → List ℕ → List A → Type 0
Misses name text [] = Unit {0}
Misses name text (x ∷ xs) = (name x ≢ text) × Misses name text xs

-- some byte is a space
abbrev pub has_space : List ℕ → Bool
has_space [] = false
has_space (b ∷ bs) = b == 32 || has_space bs

-- the bytes are what stands before their first space, the space, and what stands behind it
pub record IsCut (bytes before behind : List ℕ) : Type 0 where
  pub whole : bytes ≡ before ++ 32 ∷ behind
  pub first : has_space before ≡ false
