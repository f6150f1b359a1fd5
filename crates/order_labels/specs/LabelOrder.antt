-- The codes of keys, and the order of codes and labels: by bytes, a prefix before what it begins.
use Rattle.std.specs.Prelude.{◌≡◌, ℕ, zero, suc, ◌+◌, ◌-◌, ◌/◌, ◌%◌, ◌^◌, ◌<◌, ◌≤◌, ℤ, pos, negsuc, ◌<ℤ◌, ◌⊎◌, List, [], ◌∷◌, ◌++◌, map, nat_lt, if◌then◌else◌}
use Rattle.std.specs.Ordering.{nat_cmp}
use Rattle.std.specs.Cmp.Lexicographic.{slice_cmp}
use Rattle.std.specs.declared.cmp.Ordering.{Ordering}
use Rattle.std.specs.declared.cmp.Ordering.TheVariants.{Less}
use Rattle.order_labels.specs.KeyValue.{KeyValue}

-- the first of n, n + 1 and so on, after at most `steps` steps, with i < 254^n
abbrev pub digit_count_from : ℕ → ℕ → ℕ → ℕ
digit_count_from zero n i = n
digit_count_from (suc steps) n i = if nat_lt i (254 ^ n) then n else digit_count_from steps (n + 1) i

-- the least n, at least 1, with i < 254^n, for an i below 254^7
unfoldable pub digit_count : ℕ → ℕ
digit_count i = digit_count_from 6 1 i

-- n digits, at least 1, are enough for i, and fewer are not
pub record IsDigitCount (i n : ℕ) : Type 0 where
  pub at_least_1 : 1 ≤ n
  pub enough : i < 254 ^ n
  pub least : (m : ℕ) → 1 ≤ m → i < 254 ^ m → n ≤ m

-- the n digits of i to the base 254, highest first
abbrev pub digits : ℕ → ℕ → List ℕ
digits zero i = []
digits (suc n) i = (i / 254 ^ n) ∷ digits n (i % 254 ^ n)

-- An integer's part of the code. From 0 on: the byte 128 + n, then the n digits of i, each plus 2.
-- Below 0, where `negsuc w` is -w - 1: the byte 128 - n, then the n digits of w, each as 255 minus the digit.
unfoldable pub integer_code : ℤ → List ℕ
integer_code (pos i) = (128 + digit_count i) ∷ map (λ d. d + 2) (digits (digit_count i) i)
integer_code (negsuc w) = (128 - digit_count w) ∷ map (λ d. 255 - d) (digits (digit_count w) w)

-- a key's code: its integer's part, then the bytes of its fraction
unfoldable pub code : KeyValue → List ℕ
code k = integer_code k.integer ++ k.fraction

-- the order by bytes: at the first place where they differ the lower byte is below, and a prefix is below what it begins
abbrev pub byte_order : List ℕ → List ℕ → Ordering
byte_order = slice_cmp nat_cmp

-- the first is before the second in this order
abbrev pub IsBelow : List ℕ → List ℕ → Type 0
IsBelow a b = byte_order a b ≡ Less

-- keys are ordered by their codes' bytes
abbrev pub IsKeyBelow : KeyValue → KeyValue → Type 0
IsKeyBelow a b = IsBelow (code a) (code b)

-- the order of keys without codes: by the integer, then by the fraction's bytes
abbrev pub IsLower : KeyValue → KeyValue → Type 0
IsLower a b = (a.integer <ℤ b.integer) ⊎ ((a.integer ≡ b.integer) × IsBelow a.fraction b.fraction)
