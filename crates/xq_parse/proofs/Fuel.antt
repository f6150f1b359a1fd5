-- The bound on the turns of a reading never tells, since each turn leaves fewer bytes: so a reading is one turn, and
-- then the reading of what the turn leaves.
use Rattle.std.proofs.Common.{◌≡◌, ℕ, zero, suc, ◌-◌, ◌<◌, ◌≤◌, List, [], ◌∷◌, ◌++◌, length, Option, None, Some, refl, ap, arith}
use Rattle.std.specs.Prelude.{codes}
use Rattle.xq_ast.specs.Tokens as spec
use Rattle.xq_ast.specs.Tokens.{◌>>=◌, behind, string_part, string_from, string, comment_turn, behind_comments, piece, pieces, spelled, with_piece, Spelled}
use Rattle.xq_parse.proofs.Behind.{IsPartOf, word_behind, part_is, piece_behind}

-- ---- comments

turn_same : (f g : ℕ → List ℕ → Option (List ℕ)) (opened : ℕ) (opens closes : Option (List ℕ)) (bytes : List ℕ)
    → ((k : ℕ) (after : List ℕ) → length after < length bytes → f k after ≡ g k after)
    → behind (codes "(:") bytes ≡ opens → behind (codes ":)") bytes ≡ closes
    → comment_turn opens closes bytes opened f ≡ comment_turn opens closes bytes opened g
turn_same f g opened (Some after) closes bytes same o c = same (suc (suc opened)) after (word_behind (codes "(:") bytes after refl o).less
turn_same f g opened None (Some after) bytes same o c = same opened after (word_behind (codes ":)") bytes after refl c).less
turn_same f g opened None None [] same o c = refl
turn_same f g opened None None (b ∷ bytes) same o c = same (suc opened) bytes (omega arith)

comments_fuel : (n m opened : ℕ) (bytes : List ℕ) → length bytes ≤ n → length bytes ≤ m → behind_comments n opened bytes ≡ behind_comments m opened bytes
comments_fuel n m zero bytes h i = refl
comments_fuel zero zero (suc opened) bytes h i = refl
comments_fuel zero (suc m) (suc opened) [] h i = refl
comments_fuel zero (suc m) (suc opened) (b ∷ bytes) h i = absurd (omega arith)
comments_fuel (suc n) zero (suc opened) [] h i = refl
comments_fuel (suc n) zero (suc opened) (b ∷ bytes) h i = absurd (omega arith)
comments_fuel (suc n) (suc m) (suc opened) bytes h i =
    turn_same (behind_comments n) (behind_comments m) opened (behind (codes "(:") bytes) (behind (codes ":)") bytes) bytes
    (λ k after less. comments_fuel n m k after (omega arith) (omega arith)) refl refl

-- one turn of a comment
pub comment_step : (opened : ℕ) (bytes : List ℕ)
    → behind_comments (length bytes) (suc opened) bytes
    ≡ comment_turn (behind (codes "(:") bytes) (behind (codes ":)") bytes) bytes opened (λ k after. behind_comments (length after) k after)
comment_step opened [] = refl
comment_step opened (b ∷ bytes) =
    turn_same (behind_comments (length bytes)) (λ k after. behind_comments (length after) k after) opened (behind (codes "(:") (b ∷ bytes))
    (behind (codes ":)") (b ∷ bytes)) (b ∷ bytes)
    (λ k after less. comments_fuel (length bytes) (length after) k after (omega arith) (omega arith)) refl refl

-- ---- strings

from_same : (f g : List ℕ → Option (List ℕ × List ℕ)) (bytes : List ℕ) (p : spec.StringPart) → IsPartOf bytes p
    → ((rest : List ℕ) → length rest < length bytes → f rest ≡ g rest) → string_from p f ≡ string_from p g
from_same f g bytes (spec.StringPart.holds text rest) is same =
    ap (λ o. o >>= (λ r. let x : Option (List ℕ × List ℕ) = Some (text ++ r.0, r.1) in x)) (same rest is.less)
from_same f g bytes (spec.StringPart.ends rest) is same = refl
from_same f g bytes spec.StringPart.fault is same = refl

string_fuel : (n m quote : ℕ) (bytes : List ℕ) → quote < 128 → length bytes ≤ n → length bytes ≤ m → string n quote bytes ≡ string m quote bytes
string_fuel zero zero quote bytes small h i = refl
string_fuel zero (suc m) quote [] small h i = refl
string_fuel zero (suc m) quote (b ∷ bytes) small h i = absurd (omega arith)
string_fuel (suc n) zero quote [] small h i = refl
string_fuel (suc n) zero quote (b ∷ bytes) small h i = absurd (omega arith)
string_fuel (suc n) (suc m) quote bytes small h i =
    from_same (string n quote) (string m quote) bytes (string_part quote bytes) (part_is quote bytes small)
    (λ rest less. string_fuel n m quote rest small (omega arith) (omega arith))

-- one part of a string
pub string_step : (quote : ℕ) (bytes : List ℕ) → quote < 128
    → string (length bytes) quote bytes ≡ string_from (string_part quote bytes) (λ rest. string (length rest) quote rest)
string_step quote [] small = refl
string_step quote (b ∷ bytes) small =
    from_same (string (length bytes) quote) (λ rest. string (length rest) quote rest) (b ∷ bytes) (string_part quote (b ∷ bytes))
    (part_is quote (b ∷ bytes) small)
    (λ rest less. string_fuel (length bytes) (length rest) quote rest small (omega arith) (omega arith))

-- ---- tokens

-- the tokens of a piece of `bytes` and of what `more` reads after it
abbrev pub piece_then : List ℕ → (List ℕ → Option (List Spelled)) → spec.Piece × List ℕ → Option (List Spelled)
piece_then bytes more r = more r.1 >>= (λ rest. Some (with_piece r.0 (length bytes - length r.1) rest))

piece_same : (f g : List ℕ → Option (List Spelled)) (bytes : List ℕ) (o : Option (spec.Piece × List ℕ)) → piece bytes ≡ o
    → ((rest : List ℕ) → length rest < length bytes → f rest ≡ g rest)
    → (o >>= piece_then bytes f) ≡ (o >>= piece_then bytes g)
piece_same f g bytes None e same = refl
piece_same f g bytes (Some r) e same =
    ap (λ o. o >>= (λ more. let x : Option (List Spelled) = Some (with_piece r.0 (length bytes - length r.1) more) in x))
    (same r.1 (piece_behind bytes r e).less)

pieces_fuel : (n m : ℕ) (bytes : List ℕ) → length bytes ≤ n → length bytes ≤ m → pieces n bytes ≡ pieces m bytes
pieces_fuel n m [] h i = refl
pieces_fuel zero m (b ∷ bytes) h i = absurd (omega arith)
pieces_fuel (suc n) zero (b ∷ bytes) h i = absurd (omega arith)
pieces_fuel (suc n) (suc m) (b ∷ bytes) h i =
    piece_same (pieces n) (pieces m) (b ∷ bytes) (piece (b ∷ bytes)) refl (λ rest less. pieces_fuel n m rest (omega arith) (omega arith))

-- one piece of a text
pub pieces_step : (b : ℕ) (bytes : List ℕ)
    → pieces (length (b ∷ bytes)) (b ∷ bytes) ≡ (piece (b ∷ bytes) >>= piece_then (b ∷ bytes) (λ rest. pieces (length rest) rest))
pieces_step b bytes =
    piece_same (pieces (length bytes)) (λ rest. pieces (length rest) rest) (b ∷ bytes) (piece (b ∷ bytes)) refl
    (λ rest less. pieces_fuel (length bytes) (length rest) rest (omega arith) (omega arith))

-- any bound from the length on gives the same tokens
pub any_bound : (bound : ℕ) (bytes : List ℕ) → length bytes ≤ bound → pieces bound bytes ≡ spelled bytes
any_bound bound bytes enough = pieces_fuel bound (length bytes) bytes enough (omega arith)
