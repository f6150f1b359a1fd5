-- The characters of names and of their parts.
use Rattle.std.proofs.Common.{◌≡◌, ℕ, Bool, true, false, not, ◌&&◌, ◌||◌, nat_le, refl, sym, subst, true≢false, eqb-true}
use Rattle.std.specs.Prelude.{◌==◌, codes}
use Rattle.xq_ast.specs.Names.{is_letter, is_digit, is_colon, begins_name, continues_name, is_name, begins_part, continues_part}

-- worked rows
name_of_all_kinds : is_name (codes "a1-.b:_") ≡ true
name_of_all_kinds = refl

name_that_begins_with_a_digit : is_name (codes "1a") ≡ false
name_that_begins_with_a_digit = refl

no_name_is_empty : is_name (codes "") ≡ false
no_name_is_empty = refl

colon_in_a_part : continues_part 58 ≡ false
colon_in_a_part = refl

without_colon : (l u h c : Bool) → c ≡ false → ((l || u || c || h) && not c) ≡ (l || u || h)
without_colon true u h false is = refl
without_colon false true h false is = refl
without_colon false false true false is = refl
without_colon false false false false is = refl
without_colon l u h true is = absurd (true≢false is)

begins_by : (b : ℕ) (c : Bool) → is_colon b ≡ c → begins_part b ≡ (is_letter b || b == 95 || nat_le 128 b)
begins_by b true is = subst (λ x. begins_part x ≡ (is_letter x || x == 95 || nat_le 128 x)) (sym (eqb-true b 58 is)) refl
begins_by b false is = without_colon (is_letter b) (b == 95) (nat_le 128 b) (is_colon b) is

-- a part begins with a letter, `_` or a character beyond ASCII
pub begins_part_is : (b : ℕ) → begins_part b ≡ (is_letter b || b == 95 || nat_le 128 b)
begins_part_is b = begins_by b (is_colon b) refl

more_without : (n d m p c : Bool) → c ≡ false → ((n || d || m || p) && not c) ≡ ((n && not c) || d || m || p)
more_without true d m p false is = refl
more_without false true m p false is = refl
more_without false false true p false is = refl
more_without false false false true false is = refl
more_without false false false false false is = refl
more_without n d m p true is = absurd (true≢false is)

continues_by : (b : ℕ) (c : Bool) → is_colon b ≡ c → continues_part b ≡ (begins_part b || is_digit b || b == 45 || b == 46)
continues_by b true is = subst (λ x. continues_part x ≡ (begins_part x || is_digit x || x == 45 || x == 46)) (sym (eqb-true b 58 is)) refl
continues_by b false is = more_without (begins_name b) (is_digit b) (b == 45) (b == 46) (is_colon b) is

-- it goes on with these, digits, `-` and `.`
pub continues_part_is : (b : ℕ) → continues_part b ≡ (begins_part b || is_digit b || b == 45 || b == 46)
continues_part_is b = continues_by b (is_colon b) refl
