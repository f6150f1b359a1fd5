-- Decimal numbers, written and read.
use Rattle.std.proofs.Common.{◌≡◌, ◌≢◌, ℕ, zero, suc, ◌<◌, ◌^◌, List, length, get_or, false, Ok, Err, ap, sym, subst, ◌∙◌, arith}
use Rattle.std.specs.Fmt.{decimal}
use Rattle.std.specs.Int.{IsInRange}
use Rattle.std.specs.Str.Parse.{AllDigits, digits_value, ParsesUnsigned}
use Rattle.std.proofs.lemmas.Fmt.{decimal_is_IsNumeral, parse-decimal, decimal_digit, first_decimal, decimal_nonempty, decimal-digits_value}
use Rattle.std.proofs.lemmas.Str.Parse.{IsNumeralModel, numerals_by_value, tells_digits, not_in_digits, parse_plain}
use Rattle.xq_ast.specs.CodeWords.{has_space}
use Rattle.xq_ast.proofs.Cuts.{no_space_by_index}

own : IsNumeralModel (AllDigits 10) (digits_value 10)
own = numerals_by_value (AllDigits 10) tells_digits

-- no byte of a number is one that is no digit
digits_lack : (n c : ℕ) → n < 2 ^ 64 → (IsInRange 48 57 c → ⊥) → (i : ℕ) → i < length (decimal n) → get_or (decimal n) i 0 ≢ c
digits_lack n c small out = not_in_digits own (decimal n) c (decimal_is_IsNumeral n small).0.1 out

-- a number of 64 bits has no space in its decimal spelling
pub has_space-decimal : (n : ℕ) → n < 2 ^ 64 → has_space (decimal n) ≡ false
has_space-decimal n small = no_space_by_index (decimal n) (digits_lack n 32 small (λ h. omega arith))

-- a number has no sign
pub unsigned-decimal : (n : ℕ) → n < 2 ^ 64 → get_or (decimal n) 0 0 ≢ 43
unsigned-decimal n small = digits_lack n 43 small (λ h. omega arith) 0 (decimal_nonempty n small)

-- a number that begins with a zero is 0
pub zero-decimal : (n : ℕ) → n < 2 ^ 64 → get_or (decimal n) 0 0 ≡ 48 → length (decimal n) ≡ 1
zero-decimal zero small e = ap length (decimal_digit 0 (omega arith))
zero-decimal (suc n) small e = absurd (omega (arith, first_decimal (suc n) (omega arith) small))

-- what is read from a text that begins as a number is written so
pub read_is_written : (bytes : List ℕ) (n : ℕ) → ParsesUnsigned {E = ℕ} 64 10 bytes (Ok n) → get_or bytes 0 0 ≢ 43 → (get_or bytes 0 0 ≡ 48 → length bytes ≡ 1)
    → decimal n ≡ bytes
read_is_written bytes n reads unsigned zeros =
    let plain = parse_plain own {E = ℕ} 64 bytes (Ok n) reads unsigned in
    ap decimal plain.1 ∙ decimal-digits_value own bytes plain.0.0 plain.0.1 zeros plain.0.2

-- a number that is written is read
pub written_is_read : {E : Type 0} (bytes : List ℕ) (e : E) → ParsesUnsigned 64 10 bytes (Err e) → (n : ℕ) → n < 2 ^ 64 → decimal n ≢ bytes
written_is_read bytes e reads n small written = let read = parse-decimal 64 n bytes (Err e) small small (sym written) reads in cc

-- a text that does not begin as a number is none
pub no_number : (bytes : List ℕ) → ((get_or bytes 0 0 ≢ 43) × (get_or bytes 0 0 ≡ 48 → length bytes ≡ 1) → ⊥) → (n : ℕ) → n < 2 ^ 64 → decimal n ≢ bytes
no_number bytes not n small written =
    let Begins : List ℕ → Type 0 = λ bs. (get_or bs 0 0 ≢ 43) × (get_or bs 0 0 ≡ 48 → length bs ≡ 1) in
    not (subst Begins written (unsigned-decimal n small, zero-decimal n small))
