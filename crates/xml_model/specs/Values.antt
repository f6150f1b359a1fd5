-- How a value stands in a line: newline, tab and backslash are escaped.
use Rattle.std.specs.Prelude.{ℕ, List, [], ◌∷◌, ◌++◌, ◌==◌, if◌then◌else◌}

-- the byte, or for a newline, a tab or a backslash two: a backslash, and n, t or a backslash
abbrev pub escaped_byte : ℕ → List ℕ
escaped_byte b = if b == 10 then 92 ∷ 110 ∷ [] else (if b == 9 then 92 ∷ 116 ∷ [] else (if b == 92 then 92 ∷ 92 ∷ [] else b ∷ []))

-- the value as it stands in a line: each byte escaped
abbrev pub escaped : List ℕ → List ℕ
escaped [] = []
escaped (b ∷ bs) = escaped_byte b ++ escaped bs

abbrev mutual
  -- the value that is spelled so; each list of bytes spells one
  pub unescaped : List ℕ → List ℕ
  unescaped [] = []
  unescaped (b ∷ bs) = if b == 92 then behind_backslash bs else b ∷ unescaped bs

  -- a backslash before any other character, or at the end, stands for itself
  pub behind_backslash : List ℕ → List ℕ
  behind_backslash [] = 92 ∷ []
  behind_backslash (b ∷ bs) =
      if b == 110 then 10 ∷ unescaped bs else (if b == 116 then 9 ∷ unescaped bs else (if b == 92 then 92 ∷ unescaped bs else 92 ∷ b ∷ unescaped bs))
