-- How symbols are spelled.
use Rattle.std.specs.Prelude.{ℕ, List, [], ◌∷◌, codes}
use Rattle.xq_ast.specs.declared.token.Symbol.{Symbol}
use Rattle.xq_ast.specs.declared.token.Symbol.TheVariants.{OpenRound, CloseRound, OpenSquare, CloseSquare, OpenCurly, CloseCurly, Comma, Slash, SlashSlash, At, Dot, DotDot, ColonColon, Assign, Equal, NotEqual, Less, LessOrEqual, Greater, GreaterOrEqual, Plus, Minus, Star, Bar, Dollar}

-- each symbol as it stands in a text
abbrev pub spelling : Symbol → List ℕ
spelling OpenRound = codes "("
spelling CloseRound = codes ")"
spelling OpenSquare = codes "["
spelling CloseSquare = codes "]"
spelling OpenCurly = codes "{"
spelling CloseCurly = codes "}"
spelling Comma = codes ","
spelling Slash = codes "/"
spelling SlashSlash = codes "//"
spelling At = codes "@"
spelling Dot = codes "."
spelling DotDot = codes ".."
spelling ColonColon = codes "::"
spelling Assign = codes ":="
spelling Equal = codes "="
spelling NotEqual = codes "!="
spelling Less = codes "<"
spelling LessOrEqual = codes "<="
spelling Greater = codes ">"
spelling GreaterOrEqual = codes ">="
spelling Plus = codes "+"
spelling Minus = codes "-"
spelling Star = codes "*"
spelling Bar = codes "|"
spelling Dollar = codes "$"

-- each symbol with its spelling
abbrev pub rows : List Symbol → List (List ℕ × Symbol)
rows [] = []
rows (s ∷ symbols) = (spelling s, s) ∷ rows symbols
