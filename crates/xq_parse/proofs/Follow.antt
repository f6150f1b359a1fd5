-- What tokens begin with, and what goes on with them. The rank of tokens says which operators could take them as their
-- own: none for 0, else the operators from the loosest on, and at last what would make another word of a name.
use Rattle.std.proofs.Common.{◌≡◌, ℕ, ◌<◌, ◌≤◌, Bool, true, false, List, [], ◌∷◌, ◌++◌, Option, Some, None, refl, ap, subst, arith}
use Rattle.std.specs.Prelude.{bytes_eq, if◌then◌else◌, codes}
use Rattle.xq_ast.specs.declared.token.Symbol.{Symbol}
use Rattle.xq_ast.specs.declared.token.Symbol.TheVariants.{OpenRound, CloseRound, OpenSquare, CloseSquare, OpenCurly, CloseCurly, Comma, Slash, SlashSlash, At, Dot, DotDot, ColonColon, Equal, NotEqual, Less, LessOrEqual, Greater, GreaterOrEqual, Plus, Minus, Star, Bar, Dollar}
use Rattle.xq_ast.specs.declared.token.Token.{Token}
use Rattle.xq_ast.specs.declared.token.Token.TheVariants.{Name, Text, Int, Symbol as Mark}
use Rattle.xq_ast.specs.Readings.{Behind, close_round, close_curly, open_square, word, compare_op, sum_op, product_op, union_op, slash, behind_name, there, signs}
use Rattle.xq_parse.proofs.Taken.{same_bytes}

-- the tokens begin with an opening curly bracket
abbrev pub is_curly : List Token → Bool
is_curly (Mark OpenCurly ∷ ts) = true
is_curly _ = false

-- the rank of a symbol: 0 for what ends an expression, 3 to 9 for operators, 10 for all else
abbrev pub symbol_rank : Symbol → ℕ
symbol_rank CloseRound = 0
symbol_rank CloseSquare = 0
symbol_rank CloseCurly = 0
symbol_rank Comma = 0
symbol_rank Equal = 3
symbol_rank NotEqual = 3
symbol_rank Less = 3
symbol_rank LessOrEqual = 3
symbol_rank Greater = 3
symbol_rank GreaterOrEqual = 3
symbol_rank Plus = 5
symbol_rank Minus = 5
symbol_rank Star = 6
symbol_rank Bar = 7
symbol_rank Slash = 8
symbol_rank SlashSlash = 8
symbol_rank OpenSquare = 9
symbol_rank _ = 10

-- a word, before a curly bracket or not
abbrev pub word_rank : List ℕ → Bool → ℕ
word_rank w true = 10
word_rank w false =
    if bytes_eq w (codes "union") then 7
    else if bytes_eq w (codes "idiv") then 6
    else if bytes_eq w (codes "mod") then 6
    else if bytes_eq w (codes "to") then 4
    else if bytes_eq w (codes "and") then 2
    else if bytes_eq w (codes "or") then 1
    else 0

-- the rank of tokens by the first of them; no tokens have 0, and texts and integers have 10
abbrev pub rank : List Token → ℕ
rank [] = 0
rank (Text value ∷ ts) = 10
rank (Int value ∷ ts) = 10
rank (Name w ∷ ts) = word_rank w (is_curly ts)
rank (Mark s ∷ ts) = symbol_rank s

-- ---- operators that are not there

word_absent : (v w : List ℕ) (k : ℕ) (us : List Token) (c b : Bool) → k ≤ word_rank v false → k ≤ 10 → word_rank w c < k → bytes_eq w v ≡ b
    → (if b then (let x : Option (List Token) = Some us in x) else None) ≡ None
word_absent v w k us c false least small less same = refl
word_absent v w k us true true least small less same = absurd (omega arith)
word_absent v w k us false true least small less same = let high = ap (λ x. word_rank x false) (same_bytes w v same) in absurd (omega (arith, high))

-- a word of a higher rank
pub word_none : (v : List ℕ) (k : ℕ) → k ≤ word_rank v false → k ≤ 10 → (ts : List Token) → rank ts < k → word v ts ≡ None
word_none v k least small (Name w ∷ us) less = word_absent v w k us (is_curly us) (bytes_eq w v) least small less refl
word_none v k least small _ less = refl

there_none : (look : List Token → Option (List Token)) (ts : List Token) → look ts ≡ None → there look ts ≡ None
there_none look ts e = rw e refl

-- tokens of a rank below 1 do not begin with `or`
pub or_none : (ts : List Token) → rank ts < 1 → there (word (codes "or")) ts ≡ None
or_none ts less = there_none (word (codes "or")) ts (word_none (codes "or") 1 (omega arith) (omega arith) ts less)

-- tokens of a rank below 2 do not begin with `and`
pub and_none : (ts : List Token) → rank ts < 2 → there (word (codes "and")) ts ≡ None
and_none ts less = there_none (word (codes "and")) ts (word_none (codes "and") 2 (omega arith) (omega arith) ts less)

-- tokens of a rank below 4 do not begin with `to`
pub to_none : (ts : List Token) → rank ts < 4 → there (word (codes "to")) ts ≡ None
to_none ts less = there_none (word (codes "to")) ts (word_none (codes "to") 4 (omega arith) (omega arith) ts less)

-- tokens of a rank below 3 do not begin with the operator of a comparison
pub compare_none : (ts : List Token) → rank ts < 3 → compare_op ts ≡ None
compare_none (Mark Equal ∷ ts) less = absurd (omega arith)
compare_none (Mark NotEqual ∷ ts) less = absurd (omega arith)
compare_none (Mark Less ∷ ts) less = absurd (omega arith)
compare_none (Mark LessOrEqual ∷ ts) less = absurd (omega arith)
compare_none (Mark Greater ∷ ts) less = absurd (omega arith)
compare_none (Mark GreaterOrEqual ∷ ts) less = absurd (omega arith)
compare_none _ less = refl

-- tokens of a rank below 5 do not begin with + or -
pub sum_none : (ts : List Token) → rank ts < 5 → sum_op ts ≡ None
sum_none (Mark Plus ∷ ts) less = absurd (omega arith)
sum_none (Mark Minus ∷ ts) less = absurd (omega arith)
sum_none _ less = refl

-- tokens of a rank below 6 do not begin with the operator of a product
pub product_none : (ts : List Token) → rank ts < 6 → product_op ts ≡ None
product_none (Mark Star ∷ ts) less = absurd (omega arith)
product_none (Name w ∷ ts) less = by_words (bytes_eq w (codes "idiv")) (bytes_eq w (codes "mod")) refl refl
  where
    by_words : (b c : Bool) → bytes_eq w (codes "idiv") ≡ b → bytes_eq w (codes "mod") ≡ c → product_op (Name w ∷ ts) ≡ None
    by_words true c p q = absurd (high (is_curly ts) (subst (λ x. word_rank x (is_curly ts) < 6) (same_bytes w (codes "idiv") p) less))
      where
        high : (d : Bool) → word_rank (codes "idiv") d < 6 → ⊥
        high true l = omega arith
        high false l = omega arith
    by_words false true p q = absurd (high (is_curly ts) (subst (λ x. word_rank x (is_curly ts) < 6) (same_bytes w (codes "mod") q) less))
      where
        high : (d : Bool) → word_rank (codes "mod") d < 6 → ⊥
        high true l = omega arith
        high false l = omega arith
    by_words false false p q = rw (p, q) refl
product_none _ less = refl

-- tokens of a rank below 7 do not begin with the operator of a union
pub union_none : (ts : List Token) → rank ts < 7 → there union_op ts ≡ None
union_none (Mark Bar ∷ ts) less = absurd (omega arith)
union_none (Name w ∷ ts) less = there_none union_op (Name w ∷ ts) (word_absent (codes "union") w 7 ts (is_curly ts) (bytes_eq w (codes "union")) (omega arith) (omega arith) less refl)
union_none _ less = refl

-- tokens of a rank below 8 do not begin with / or //
pub slash_none : (ts : List Token) → rank ts < 8 → slash ts ≡ None
slash_none (Mark Slash ∷ ts) less = absurd (omega arith)
slash_none (Mark SlashSlash ∷ ts) less = absurd (omega arith)
slash_none _ less = refl

-- tokens of a rank below 9 do not begin with an opening square bracket
pub square_none : (ts : List Token) → rank ts < 9 → there open_square ts ≡ None
square_none (Mark OpenSquare ∷ ts) less = absurd (omega arith)
square_none _ less = refl

-- a name is no more than a name
pub behind_none : (ts : List Token) → rank ts < 10 → behind_name ts ≡ Behind.other
behind_none (Mark Dollar ∷ ts) less = absurd (omega arith)
behind_none (Mark OpenRound ∷ ts) less = absurd (omega arith)
behind_none (Mark OpenCurly ∷ ts) less = absurd (omega arith)
behind_none (Mark ColonColon ∷ ts) less = absurd (omega arith)
behind_none (Name w ∷ Mark OpenCurly ∷ ts) less = absurd (omega arith)
behind_none _ less = refl

-- ---- how expressions begin

-- a path may begin with this token
abbrev pub path_token : Token → Bool
path_token (Name w) = true
path_token (Text value) = true
path_token (Int value) = true
path_token (Mark Dollar) = true
path_token (Mark OpenRound) = true
path_token (Mark Dot) = true
path_token (Mark At) = true
path_token (Mark DotDot) = true
path_token (Mark Star) = true
path_token _ = false

-- an expression may begin with this token: a sign, or what a path begins with
abbrev pub start_token : Token → Bool
start_token (Mark Plus) = true
start_token (Mark Minus) = true
start_token t = path_token t

-- a path may begin so
abbrev pub begins_path : List Token → Bool
begins_path [] = false
begins_path (t ∷ ts) = path_token t

-- an expression may begin so
abbrev pub starts : List Token → Bool
starts [] = false
starts (t ∷ ts) = start_token t

-- tokens that a path may begin with stay so, whatever follows them
pub path_append : (ts us : List Token) → begins_path ts ≡ true → begins_path (ts ++ us) ≡ true
path_append (t ∷ ts) us h = h
path_append [] us h = cc

-- tokens that an expression may begin with stay so, whatever follows them
pub starts_append : (ts us : List Token) → starts ts ≡ true → starts (ts ++ us) ≡ true
starts_append (t ∷ ts) us h = h
starts_append [] us h = cc

-- what a path may begin with an expression may begin with
pub path_starts : (ts : List Token) → begins_path ts ≡ true → starts ts ≡ true
path_starts (Mark Plus ∷ ts) h = refl
path_starts (Mark Minus ∷ ts) h = refl
path_starts _ h = h

-- no sign stands before a path
pub no_signs : (ts : List Token) → begins_path ts ≡ true → signs ts ≡ ([], ts)
no_signs (Mark Plus ∷ ts) h = cc
no_signs (Mark Minus ∷ ts) h = cc
no_signs _ h = refl

-- an expression does not begin with an opening curly bracket
pub starts_no_curly : (ts : List Token) → starts ts ≡ true → is_curly ts ≡ false
starts_no_curly (Mark OpenCurly ∷ ts) h = cc
starts_no_curly _ h = refl

-- an expression does not begin with a closing round bracket
pub starts_no_close_round : (ts : List Token) → starts ts ≡ true → close_round ts ≡ None
starts_no_close_round (Mark CloseRound ∷ ts) h = cc
starts_no_close_round _ h = refl

-- an expression does not begin with a closing curly bracket
pub starts_no_close_curly : (ts : List Token) → starts ts ≡ true → close_curly ts ≡ None
starts_no_close_curly (Mark CloseCurly ∷ ts) h = cc
starts_no_close_curly _ h = refl

-- a word before an expression has its own rank
pub word_rank_is : (w : List ℕ) (ts : List Token) → starts ts ≡ true → rank (Name w ∷ ts) ≡ word_rank w false
word_rank_is w ts h = ap (word_rank w) (starts_no_curly ts h)
