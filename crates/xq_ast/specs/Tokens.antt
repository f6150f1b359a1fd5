-- Tokens: what the text of a call splits into. A text is its bytes; a byte from 128 on is a part of a character
-- beyond ASCII, so such characters need no case of their own.
-- A reading gives what the bytes begin with and the bytes behind it, or None where they begin with nothing of the
-- kind. Where a reading goes on and on, its first number bounds its turns, and the number of bytes is enough.
use Rattle.std.specs.Prelude.{ℕ, zero, suc, ◌+◌, ◌*◌, ◌-◌, ◌==◌, nat_le, Bool, false, not, ◌&&◌, ◌||◌, if◌then◌else◌, List, [], ◌∷◌, ◌++◌, length, map, drop, take_while, fold, pos, codes, Option, None, Some, option_map}
use Rattle.std.specs.List.{prefix_len}
use Rattle.xq_ast.specs.declared.limits.TheConstants.{INTEGER_MAX}
use Rattle.xq_ast.specs.Names.{is_digit, begins_part, continues_part}
use Rattle.xq_ast.specs.declared.token.Symbol.{Symbol}
use Rattle.xq_ast.specs.declared.token.Symbol.TheVariants.{OpenRound, CloseRound, OpenSquare, CloseSquare, OpenCurly, CloseCurly, Comma, Slash, SlashSlash, At, Dot, DotDot, ColonColon, Assign, Equal, NotEqual, Less, LessOrEqual, Greater, GreaterOrEqual, Plus, Minus, Star, Bar, Dollar}
use Rattle.xq_ast.specs.declared.token.Token.{Token}
use Rattle.xq_ast.specs.declared.token.Token.TheVariants as token

-- goes on with what is there, and stays at None
infixl 10 ◌>>=◌
abbrev pub ◌>>=◌ : {A B : Type 0} → Option A → (A → Option B) → Option B
None >>= f = None
(Some x) >>= f = f x

-- what the bytes begin with and the bytes behind it, or None where they begin with nothing of the kind
abbrev pub Reading : Type 0 → Type 0
Reading A = List ℕ → Option (A × List ℕ)

-- ---- characters

-- space, tab, newline and carriage return
abbrev pub is_space : ℕ → Bool
is_space b = b == 32 || b == 9 || b == 10 || b == 13

-- the single and the double quote
abbrev pub is_quote : ℕ → Bool
is_quote b = b == 39 || b == 34

-- ---- what bytes begin with

-- the first byte is there and passes
abbrev pub begins : (ℕ → Bool) → List ℕ → Bool
begins p [] = false
begins p (b ∷ bytes) = p b

-- what stands behind the longest front whose bytes all pass
abbrev pub behind_front : (ℕ → Bool) → List ℕ → List ℕ
behind_front p bytes = drop (prefix_len p bytes) bytes

-- what stands behind a word, where the bytes begin with it
abbrev pub behind : List ℕ → List ℕ → Option (List ℕ)
behind [] bytes = Some bytes
behind (w ∷ word) [] = None
behind (w ∷ word) (b ∷ bytes) = if w == b then behind word bytes else None

-- the meaning of this row where its spelling stood, and else what the other rows give
abbrev pub row_or : {A : Type 0} → Option (List ℕ) → A → Option (A × List ℕ) → Option (A × List ℕ)
row_or (Some rest) meaning others = Some (meaning, rest)
row_or None meaning others = others

-- the meaning of the first row of a table with whose spelling the bytes begin
abbrev pub first_row : {A : Type 0} → List (List ℕ × A) → Reading A
first_row [] bytes = None
first_row (row ∷ rows) bytes = row_or (behind row.0 bytes) row.1 (first_row rows bytes)

-- ---- names

-- what stands behind a colon, where a second part begins there
abbrev pub second_part : List ℕ → Option (List ℕ)
second_part [] = None
second_part (c ∷ bytes) = if c == 58 && begins begins_part bytes then Some bytes else None

-- the first part of a name alone, or with a colon and the second part where one begins behind it
abbrev pub with_second : List ℕ → List ℕ → Option (List ℕ) → List ℕ × List ℕ
with_second first rest None = (first, rest)
with_second first rest (Some second) = (first ++ 58 ∷ take_while continues_part second, behind_front continues_part second)

-- a name: a part, or two parts with one colon between
abbrev pub name : List ℕ → List ℕ × List ℕ
name bytes =
    let rest = behind_front continues_part bytes in
    with_second (take_while continues_part bytes) rest (second_part rest)

-- ---- integers

-- the number with one digit more at its end
abbrev pub digit_more : ℕ → ℕ → ℕ
digit_more n digit = 10 * n + (digit - 48)

-- the number, if it is not above the greatest integer and no character of a name follows
abbrev pub integer_of : ℕ → List ℕ → Option (ℕ × List ℕ)
integer_of value rest = if nat_le value INTEGER_MAX && not (begins continues_part rest) then Some (value, rest) else None

-- digits that no character of a name follows
abbrev pub integer : Reading ℕ
integer bytes = integer_of (fold digit_more 0 (take_while is_digit bytes)) (behind_front is_digit bytes)

-- ---- strings

-- what an ampersand and these characters stand for
abbrev pub references : List (List ℕ × List ℕ)
references =
    (codes "amp;", codes "&") ∷ (codes "lt;", codes "<") ∷ (codes "gt;", codes ">") ∷ (codes "quot;", codes "\"") ∷ (codes "apos;", codes "'") ∷ []

-- how a string goes on: with what it holds next and the bytes behind that, with its end, or with a fault
pub data StringPart : Type 0 where
  holds : List ℕ → List ℕ → StringPart
  ends : List ℕ → StringPart
  fault : StringPart

-- a second quote stands for itself
abbrev pub behind_quote : Option (List ℕ) → ℕ → List ℕ → StringPart
behind_quote (Some rest) quote bytes = StringPart.holds (quote ∷ []) rest
behind_quote None quote bytes = StringPart.ends bytes

-- what a reference stands for, or a fault where the ampersand begins none
abbrev pub behind_ampersand : Option (List ℕ × List ℕ) → StringPart
behind_ampersand (Some r) = StringPart.holds r.0 r.1
behind_ampersand None = StringPart.fault

-- how a string goes on: a quote of its own kind ends it or stands twice for itself, an ampersand begins a reference,
-- any other byte stands for itself, and a text that ends first is a fault
abbrev pub string_part : ℕ → List ℕ → StringPart
string_part quote [] = StringPart.fault
string_part quote (b ∷ bytes) =
    if b == quote then behind_quote (behind (quote ∷ []) bytes) quote bytes
    else if b == 38 then behind_ampersand (first_row references bytes)
    else StringPart.holds (b ∷ []) bytes

-- what a string holds from this part on
abbrev pub string_from : StringPart → Reading (List ℕ) → Option (List ℕ × List ℕ)
string_from (StringPart.holds bytes rest) more = more rest >>= (λ r. Some (bytes ++ r.0, r.1))
string_from (StringPart.ends rest) more = Some ([], rest)
string_from StringPart.fault more = None

-- the text of a string, behind its opening quote
abbrev pub string : ℕ → ℕ → Reading (List ℕ)
string zero quote bytes = None
string (suc n) quote bytes = string_from (string_part quote bytes) (string n quote)

-- ---- comments

-- with an opening mark one more is open, with a closing mark one less
abbrev pub comment_turn : Option (List ℕ) → Option (List ℕ) → List ℕ → ℕ → (ℕ → List ℕ → Option (List ℕ)) → Option (List ℕ)
comment_turn (Some rest) closed bytes open_ more = more (suc (suc open_)) rest
comment_turn None (Some rest) bytes open_ more = more open_ rest
comment_turn None None [] open_ more = None
comment_turn None None (b ∷ bytes) open_ more = more (suc open_) bytes

-- what stands behind so many open comments
abbrev pub behind_comments : ℕ → ℕ → List ℕ → Option (List ℕ)
behind_comments n zero bytes = Some bytes
behind_comments zero (suc open_) bytes = None
behind_comments (suc n) (suc open_) bytes = comment_turn (behind (codes "(:") bytes) (behind (codes ":)") bytes) bytes open_ (behind_comments n)

-- ---- tokens

-- the symbols; where one begins another, the longer stands first
abbrev pub symbols : List (List ℕ × Symbol)
symbols =
    (codes "//", SlashSlash) ∷ (codes "..", DotDot) ∷ (codes "::", ColonColon) ∷ (codes ":=", Assign) ∷ (codes "!=", NotEqual)
    ∷ (codes "<=", LessOrEqual) ∷ (codes ">=", GreaterOrEqual)
    ∷ (codes "(", OpenRound) ∷ (codes ")", CloseRound) ∷ (codes "[", OpenSquare) ∷ (codes "]", CloseSquare)
    ∷ (codes "{", OpenCurly) ∷ (codes "}", CloseCurly) ∷ (codes ",", Comma) ∷ (codes "/", Slash) ∷ (codes "@", At)
    ∷ (codes ".", Dot) ∷ (codes "=", Equal) ∷ (codes "<", Less) ∷ (codes ">", Greater) ∷ (codes "+", Plus)
    ∷ (codes "-", Minus) ∷ (codes "*", Star) ∷ (codes "|", Bar) ∷ (codes "$", Dollar) ∷ []

-- a token, or None for what parts tokens
abbrev pub Piece : Type 0
Piece = Option Token

-- what parts tokens is no token
abbrev pub parting : List ℕ → Option (Piece × List ℕ)
parting rest = Some (None, rest)

-- the token made of what was read
abbrev pub a_token : {A : Type 0} → (A → Token) → A × List ℕ → Option (Piece × List ℕ)
a_token make r = Some (Some (make r.0), r.1)

-- a comment where the mark of one stands, else a symbol
abbrev pub comment_or_symbol : Option (List ℕ) → Reading Piece
comment_or_symbol (Some inside) bytes = behind_comments (length inside) 1 inside >>= parting
comment_or_symbol None bytes = first_row symbols bytes >>= a_token token.Symbol

-- what a text begins with
abbrev pub piece : Reading Piece
piece [] = None
piece (b ∷ bytes) =
    if is_space b then parting bytes
    else if is_quote b then (string (length bytes) b bytes >>= a_token token.Text)
    else if is_digit b then (integer (b ∷ bytes) >>= a_token (λ n. token.Int (pos n)))
    else if begins_part b then a_token token.Name (name (b ∷ bytes))
    else comment_or_symbol (behind (codes "(:") (b ∷ bytes)) (b ∷ bytes)

-- a token of a text, and how many bytes it has there in its own spelling
pub record Spelled : Type 0 where
  pub token : Token
  pub bytes : ℕ

-- the tokens of a piece and of what follows it, of which the piece is spelled with so many bytes
abbrev pub with_piece : Piece → ℕ → List Spelled → List Spelled
with_piece None bytes more = more
with_piece (Some t) bytes more = record { token = t; bytes = bytes } ∷ more

-- the first number bounds the pieces; any number from the length on gives the same
abbrev pub pieces : ℕ → List ℕ → Option (List Spelled)
pieces n [] = Some []
pieces zero (b ∷ bytes) = None
pieces (suc n) (b ∷ bytes) = piece (b ∷ bytes) >>= (λ r. pieces n r.1 >>= (λ more. Some (with_piece r.0 (length (b ∷ bytes) - length r.1) more)))

-- the tokens of a text as they are spelled, or None where it does not split into tokens
abbrev pub spelled : List ℕ → Option (List Spelled)
spelled bytes = pieces (length bytes) bytes

-- the tokens of a text
abbrev pub tokens : List ℕ → Option (List Token)
tokens bytes = option_map (map (λ s. s.token)) (spelled bytes)

-- how many bytes each of them has
abbrev pub token_lengths : List ℕ → Option (List ℕ)
token_lengths bytes = option_map (map (λ s. s.bytes)) (spelled bytes)
