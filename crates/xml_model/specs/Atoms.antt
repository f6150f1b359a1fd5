-- Atomic values: atomizing (XML Path Language 2.0, section 2.4.2), casts, comparison (section 3.5.2), arithmetic (section
-- 3.4), `to` (section 3.3.1) and the effective boolean value (section 2.4.3). Integers have 64 bits with a sign.
use Rattle.std.specs.Prelude.{ℕ, ◌+◌, ◌==◌, ℤ, pos, neg_ℤ, ◌+ℤ◌, ◌-ℤ◌, ◌*ℤ◌, int_div, int_rem, int_lt, int_le, unsigned_abs, nat_lt, Bool, true, false, not, ◌&&◌, ◌||◌, if◌then◌else◌, List, [], ◌∷◌, length, map, reverse, fold, codes, bytes_eq, Option, Some, None, Result, Ok, Err, option_map, ok_or}
use Rattle.std.specs.List.{list_all, range_with_len}
use Rattle.std.specs.Fmt.{signed_decimal}
use Rattle.std.specs.Ordering.{nat_cmp, int_cmp, bool_cmp, int_eq, is_eq, is_ne, is_lt, is_le, is_gt, is_ge}
use Rattle.std.specs.Cmp.Lexicographic.{slice_cmp}
use Rattle.std.specs.declared.cmp.Ordering.{Ordering}
use Rattle.xq_ast.specs.declared.code.Code.{Code}
use Rattle.xq_ast.specs.declared.code.Code.TheVariants.{XPTY0004, FOAR0001, FOAR0002, FORG0001, FORG0006, TooManyItems}
use Rattle.xq_ast.specs.declared.limits.TheConstants.{INTEGER_MAX}
use Rattle.xq_ast.specs.declared.tree.CompareOp.{CompareOp}
use Rattle.xq_ast.specs.declared.tree.CompareOp.TheVariants.{Eq, Ne, Lt, Le, Gt, Ge}
use Rattle.xq_ast.specs.declared.tree.ProductOp.{ProductOp}
use Rattle.xq_ast.specs.declared.tree.ProductOp.TheVariants.{Times, Idiv, Mod}
use Rattle.xq_ast.specs.declared.tree.Sign.{Sign}
use Rattle.xq_ast.specs.declared.tree.Sign.TheVariants.{Plus, Minus}
use Rattle.xq_ast.specs.Names.{is_digit}
use Rattle.xq_ast.specs.Tokens.{is_space, behind_front, digit_more}
use Rattle.xml_model.specs.declared.limits.TheConstants.{ITEMS_MAX}
use Rattle.xml_model.specs.declared.value.Atom.{Atom}
use Rattle.xml_model.specs.declared.value.Atom.TheVariants as atom
use Rattle.xml_model.specs.Items.{Items, node, string, integer, boolean, ◌>>?◌}

abbrev pub Atoms : Type 0
Atoms = List Atom

-- ---- texts and casts

abbrev pub boolean_text : Bool → List ℕ
boolean_text true = codes "true"
boolean_text false = codes "false"

-- the text of a value: an integer in decimal, with `-` where it is negative, and a truth value `true` or `false`
abbrev pub atom_text : Atom → List ℕ
atom_text (atom.Untyped text) = text
atom_text (atom.Text text) = text
atom_text (atom.Int n) = signed_decimal n
atom_text (atom.Truth b) = boolean_text b

-- without spaces, tabs, newlines and carriage returns at both ends
abbrev pub trimmed : List ℕ → List ℕ
trimmed text = reverse (behind_front is_space (reverse (behind_front is_space text)))

-- the number that digits spell; there is one digit at least
abbrev pub digits_of : List ℕ → Option ℕ
digits_of [] = None
digits_of (d ∷ digits) = if list_all is_digit (d ∷ digits) then Some (fold digit_more 0 (d ∷ digits)) else None

-- an optional sign, then digits
abbrev pub signed_of : List ℕ → Option ℤ
signed_of [] = None
signed_of (b ∷ bytes) =
    if b == 43 then option_map pos (digits_of bytes) else
    (if b == 45 then option_map (λ n. neg_ℤ (pos n)) (digits_of bytes) else option_map pos (digits_of (b ∷ bytes)))

-- 64 bits hold the number
abbrev pub is_long : ℤ → Bool
is_long n = int_le (neg_ℤ (pos (INTEGER_MAX + 1))) n && int_le n (pos INTEGER_MAX)

-- the number, or the code where 64 bits do not hold it
abbrev pub long_or : Code → ℤ → Result ℤ Code
long_or code n = if is_long n then Ok n else Err code

-- an untyped value cast to an integer
abbrev pub to_integer : List ℕ → Result ℤ Code
to_integer text = ok_or (signed_of (trimmed text)) FORG0001 >>? long_or FORG0001

-- an untyped value cast to a truth value
abbrev pub to_boolean : List ℕ → Result Bool Code
to_boolean text =
    let t = trimmed text in
    if bytes_eq t (codes "true") || bytes_eq t (codes "1") then Ok true else
    (if bytes_eq t (codes "false") || bytes_eq t (codes "0") then Ok false else Err FORG0001)

-- ---- the effective boolean value

-- nothing is false and a node in front true; a value alone is tested by itself, and more of them have no such value
abbrev pub effective_boolean : Items → Result Bool Code
effective_boolean [] = Ok false
effective_boolean (node n ∷ more) = Ok true
effective_boolean (string text ∷ []) = Ok (nat_lt 0 (length text))
effective_boolean (integer n ∷ []) = Ok (not (int_eq n (pos 0)))
effective_boolean (boolean b ∷ []) = Ok b
effective_boolean (string text ∷ item ∷ more) = Err FORG0006
effective_boolean (integer n ∷ item ∷ more) = Err FORG0006
effective_boolean (boolean b ∷ item ∷ more) = Err FORG0006

-- ---- comparison

-- texts by their code points: the bytes of UTF-8 have the same order
abbrev pub text_cmp : List ℕ → List ℕ → Ordering
text_cmp = slice_cmp nat_cmp

-- whether two values in this order compare so
abbrev pub ordered_by : CompareOp → Ordering → Bool
ordered_by Eq = is_eq
ordered_by Ne = is_ne
ordered_by Lt = is_lt
ordered_by Le = is_le
ordered_by Gt = is_gt
ordered_by Ge = is_ge

-- untyped values are compared as strings with each other and with strings, and else cast to the other's type
abbrev pub atom_cmp : Atom → Atom → Result Ordering Code
atom_cmp (atom.Untyped a) (atom.Untyped b) = Ok (text_cmp a b)
atom_cmp (atom.Untyped a) (atom.Text b) = Ok (text_cmp a b)
atom_cmp (atom.Untyped a) (atom.Int b) = to_integer a >>? (λ n. Ok (int_cmp n b))
atom_cmp (atom.Untyped a) (atom.Truth b) = to_boolean a >>? (λ t. Ok (bool_cmp t b))
atom_cmp (atom.Text a) (atom.Untyped b) = Ok (text_cmp a b)
atom_cmp (atom.Text a) (atom.Text b) = Ok (text_cmp a b)
atom_cmp (atom.Text a) (atom.Int b) = Err XPTY0004
atom_cmp (atom.Text a) (atom.Truth b) = Err XPTY0004
atom_cmp (atom.Int a) (atom.Untyped b) = to_integer b >>? (λ n. Ok (int_cmp a n))
atom_cmp (atom.Int a) (atom.Text b) = Err XPTY0004
atom_cmp (atom.Int a) (atom.Int b) = Ok (int_cmp a b)
atom_cmp (atom.Int a) (atom.Truth b) = Err XPTY0004
atom_cmp (atom.Truth a) (atom.Untyped b) = to_boolean b >>? (λ t. Ok (bool_cmp a t))
atom_cmp (atom.Truth a) (atom.Text b) = Err XPTY0004
atom_cmp (atom.Truth a) (atom.Int b) = Err XPTY0004
atom_cmp (atom.Truth a) (atom.Truth b) = Ok (bool_cmp a b)

-- the first that is true or fails ends it
abbrev pub or_else : Bool → Result Bool Code → Result Bool Code
or_else true others = Ok true
or_else false others = others

-- a value of the left side with those of the right, one after another
abbrev pub some_right : CompareOp → Atom → Atoms → Result Bool Code
some_right op a [] = Ok false
some_right op a (b ∷ bs) = atom_cmp a b >>? (λ o. or_else (ordered_by op o) (some_right op a bs))

-- some pair compares so; pairs are taken left value by left value
abbrev pub compares : CompareOp → Atoms → Atoms → Result Bool Code
compares op [] bs = Ok false
compares op (a ∷ more) bs = some_right op a bs >>? (λ is_found. or_else is_found (compares op more bs))

-- ---- arithmetic

-- the integer that an operand is made
abbrev pub operand : Atom → Result ℤ Code
operand (atom.Untyped text) = to_integer text
operand (atom.Text text) = Err XPTY0004
operand (atom.Int n) = Ok n
operand (atom.Truth b) = Err XPTY0004

-- what is made of two operands. Where one side is empty it is nothing. More than one value on a side is XPTY0004, and
-- then each is made an integer, the left first.
abbrev pub operated : (ℤ → ℤ → Result Items Code) → Atoms → Atoms → Result Items Code
operated op [] bs = Ok []
operated op (a ∷ more) [] = Ok []
operated op (a ∷ []) (b ∷ []) = operand a >>? (λ n. operand b >>? op n)
operated op (a ∷ []) (b ∷ c ∷ bs) = Err XPTY0004
operated op (a ∷ d ∷ more) (b ∷ bs) = Err XPTY0004

-- an operator whose result must have 64 bits
abbrev pub within_long : (ℤ → ℤ → ℤ) → ℤ → ℤ → Result Items Code
within_long op n m = long_or FOAR0002 (op n m) >>? (λ k. Ok (integer k ∷ []))

-- a division; none by zero
abbrev pub divided : (ℤ → ℤ → ℤ) → ℤ → ℤ → Result Items Code
divided op n m = if int_eq m (pos 0) then Err FOAR0001 else within_long op n m

abbrev pub sum_op : Bool → ℤ → ℤ → Result Items Code
sum_op false = within_long (λ n m. n +ℤ m)
sum_op true = within_long (λ n m. n -ℤ m)

-- `idiv` truncates towards zero, and `mod` has the sign of the dividend
abbrev pub product_op : ProductOp → ℤ → ℤ → Result Items Code
product_op Times = within_long (λ n m. n *ℤ m)
product_op Idiv = divided int_div
product_op Mod = divided int_rem

-- operators with their right operands, from the left; the first argument atomizes
abbrev pub chained : {O : Type 0} → (Items → Atoms) → (O → ℤ → ℤ → Result Items Code) → Items → List (O × Items) → Result Items Code
chained atoms op left [] = Ok left
chained atoms op left (part ∷ parts) = operated (op part.0) (atoms left) (atoms part.1) >>? (λ found. chained atoms op found parts)

-- `-` subtracts
abbrev pub is_minus : Sign → Bool
is_minus Plus = false
is_minus Minus = true

-- signs from the inside out: each adds its value to 0, or subtracts it from 0
abbrev pub signed_by : (Items → Atoms) → List Sign → Items → Result Items Code
signed_by atoms [] value = Ok value
signed_by atoms (sign ∷ signs) value =
    signed_by atoms signs value >>? (λ found. operated (sum_op (is_minus sign)) (atom.Int (pos 0) ∷ []) (atoms found))

-- the integers from one to another, both among them: none where the first is greater, and
-- TooManyItems where there are more than a value may have
abbrev pub range_of : ℤ → ℤ → Result Items Code
range_of n m =
    if int_lt m n then Ok [] else
    (if int_le (pos ITEMS_MAX) (m -ℤ n) then Err TooManyItems else Ok (map (λ k. integer (n +ℤ pos k)) (range_with_len 0 (unsigned_abs (m -ℤ n) + 1))))

-- ---- sums

-- what an item of a sum is made: a string or a truth value is none
abbrev pub summand : Atom → Result ℤ Code
summand (atom.Untyped text) = to_integer text
summand (atom.Text text) = Err FORG0006
summand (atom.Int n) = Ok n
summand (atom.Truth b) = Err FORG0006

-- all of them, from the left
abbrev pub summands : Atoms → Result (List ℤ) Code
summands [] = Ok []
summands (a ∷ more) = summand a >>? (λ n. summands more >>? (λ ns. Ok (n ∷ ns)))

-- added from the left
abbrev pub added_up : ℤ → List ℤ → Result ℤ Code
added_up total [] = Ok total
added_up total (n ∷ ns) = long_or FOAR0002 (total +ℤ n) >>? (λ more. added_up more ns)

-- all are cast, and then added
abbrev pub sum_of : Atoms → Result ℤ Code
sum_of values = summands values >>? added_up (pos 0)
