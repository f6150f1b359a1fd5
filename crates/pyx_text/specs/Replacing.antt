-- Lists in which single items are replaced by lists.
use Rattle.std.specs.Prelude.{ℕ, List, [], ◌∷◌, ◌++◌, ◌==◌, if◌then◌else◌}

-- each item replaced by what f gives for it
abbrev pub replaced : (ℕ → List ℕ) → List ℕ → List ℕ
replaced f [] = []
replaced f (b ∷ bs) = f b ++ replaced f bs

-- a tab as a backslash and t, all else as it is
abbrev pub tab : ℕ → List ℕ
tab b = if b == 9 then 92 ∷ 116 ∷ [] else b ∷ []

-- a newline as a backslash and n, a tab as above
abbrev pub line_or_tab : ℕ → List ℕ
line_or_tab b = if b == 10 then 92 ∷ 110 ∷ [] else tab b
