-- Integers of 64 bits.
use Rattle.std.proofs.Common.{◌≡◌, ℕ, zero, suc, ◌+◌, ◌<◌, ◌≤◌, ◌^◌, Bool, true, false, [], ◌∷◌, refl, ap, sym, ◌∙◌, arith, ℤ, pos, Option, Some, None, Result, Ok, Err}
use Rattle.std.specs.Prelude.{negsuc, neg_ℤ, nat_le, FitsSigned, ok_or, if◌then◌else◌, ◌&&◌}
use Rattle.std.specs.Int.{w64}
use Rattle.std.specs.Option.{SomeIff}
use Rattle.std.proofs.lemmas.Bool.{le-leb, leb-true}
use Rattle.xq_ast.specs.declared.code.Code.{Code}
use Rattle.xq_ast.specs.declared.code.Code.TheVariants.{FOAR0002}
use Rattle.xq_ast.specs.declared.limits.TheConstants.{INTEGER_MAX}
use Rattle.xml_model.specs.Items.{Items, integer, ◌>>?◌}
use Rattle.xml_model.specs.Atoms.{is_long, long_or}
use Rattle.xq_values.specs.Lists.{one}

small : (n : ℕ) → n < 2 ^ 63 → nat_le n INTEGER_MAX ≡ true
small n less = le-leb n INTEGER_MAX (omega arith)

within_bound : (n : ℕ) → nat_le n INTEGER_MAX ≡ true → n < 2 ^ 63
within_bound n e = let le : n ≤ INTEGER_MAX = leb-true n INTEGER_MAX e in omega arith

both_true : (b : Bool) → b ≡ true → (b && true) ≡ true
both_true true e = refl
both_true false e = absurd (cc)

first_true : (b : Bool) → (b && true) ≡ true → b ≡ true
first_true true e = refl
first_true false e = absurd (cc)

-- an integer that fits 64 bits passes the test of them
pub fits_is_long : (z : ℤ) → FitsSigned w64 z → is_long z ≡ true
fits_is_long (pos n) f = small n f.sfits
fits_is_long (negsuc n) f = both_true (nat_le n INTEGER_MAX) (small n f.sfits)

-- and one that passes it fits them
pub long_is_fit : (z : ℤ) → is_long z ≡ true → FitsSigned w64 z
long_is_fit (pos n) e = record { sfits = within_bound n e }
long_is_fit (negsuc n) e = record { sfits = within_bound n (first_true (nat_le n INTEGER_MAX) e) }

-- the integer as a list
abbrev pub in_list : ℤ → Result Items Code
in_list k = Ok (integer k ∷ [])

not_long : (b : Bool) (z : ℤ) → (b ≡ true → FitsSigned w64 z) → (FitsSigned w64 z → ⊥) → (if b then Ok z else Err FOAR0002) >>? in_list ≡ Err FOAR0002
not_long true z fits none = absurd (none (fits refl))
not_long false z fits none = refl

is_fit : (b : Bool) (z : ℤ) → b ≡ true → (if b then Ok z else Err FOAR0002) >>? in_list ≡ Ok (integer z ∷ [])
is_fit true z e = refl
is_fit false z e = absurd (cc)

-- what a checked operation gives is the defined result
pub within : (o : Option ℤ) (z : ℤ) → SomeIff o (FitsSigned w64 z) z → one (ok_or o FOAR0002) ≡ (long_or FOAR0002 z >>? in_list)
within None z none = sym (not_long (is_long z) z (long_is_fit z) none)
within (Some x) z some = ap (λ k. one (Ok k)) some.1 ∙ sym (is_fit (is_long z) z (fits_is_long z some.0))

-- ---- what digits spell

-- a number below 2 ^ 63 passes the test of 64 bits
pub positive_long : (n : ℕ) → n ≤ INTEGER_MAX → is_long (pos n) ≡ true
positive_long n le = fits_is_long (pos n) (record { sfits = omega arith })

-- and so does its negative
pub negative_long : (n : ℕ) → n ≤ INTEGER_MAX + 1 → is_long (neg_ℤ (pos n)) ≡ true
negative_long zero le = refl
negative_long (suc n) le = fits_is_long (negsuc n) (record { sfits = omega arith })
