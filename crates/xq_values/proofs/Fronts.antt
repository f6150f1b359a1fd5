-- Fronts of lists of bytes, what stands before the back, and digits.
use Rattle.std.proofs.Common.{◌≡◌, ℕ, suc, ◌+◌, ◌*◌, ◌-◌, ◌<◌, ◌≤◌, Bool, true, false, List, [], ◌∷◌, ◌++◌, length, take, drop, get_or, fold, refl, ap, sym, ◌∙◌, arith, drop-cons, Some, None}
use Rattle.std.specs.Prelude.{reverse, nat_le, if◌then◌else◌}
use Rattle.std.specs.List.{prefix_len, list_all}
use Rattle.std.proofs.lemmas.List.{reverse-append, reverse-reverse, length-reverse, length-drop, take-append-drop}
use Rattle.std.proofs.lemmas.Bool.{le-leb}
use Rattle.std.proofs.lemmas.Bool.Decides.{nat_tests}
use Rattle.xq_ast.specs.Names.{is_digit}
use Rattle.xq_ast.specs.Tokens.{digit_more, behind_front, is_space}
use Rattle.xml_model.specs.Atoms.{trimmed, digits_of}
use Rattle.xq_values.specs.Digits.{up_to}

-- the longest front that passes is no longer than the bytes
pub prefix_len_le : (p : ℕ → Bool) (bytes : List ℕ) → prefix_len p bytes ≤ length bytes
prefix_len_le p [] = omega arith
prefix_len_le p (b ∷ bytes) = by_test (p b) (prefix_len_le p bytes)
  where
    by_test : (t : Bool) → prefix_len p bytes ≤ length bytes → (if t then 1 + prefix_len p bytes else 0) ≤ length (b ∷ bytes)
    by_test true more = omega arith
    by_test false more = omega arith

-- nor the longest back that passes
pub suffix_len_le : (p : ℕ → Bool) (bytes : List ℕ) → prefix_len p (reverse bytes) ≤ length bytes
suffix_len_le p bytes = let le = prefix_len_le p (reverse bytes) in omega (arith, length-reverse bytes)

take_seam : (xs ys : List ℕ) → take (length xs) (xs ++ ys) ≡ xs
take_seam [] ys = refl
take_seam (x ∷ xs) ys = ap (λ r. x ∷ r) (take_seam xs ys)

-- what stands before the last n bytes, from the back
pub before_back : (n : ℕ) (xs : List ℕ) → take (length xs - n) xs ≡ reverse (drop n (reverse xs))
before_back n xs =
    let front : List ℕ = reverse (drop n (reverse xs)) in
    let back : List ℕ = reverse (take n (reverse xs)) in
    let whole : xs ≡ front ++ back = sym (reverse-reverse xs) ∙ (ap reverse (sym (take-append-drop n (reverse xs))) ∙ reverse-append (take n (reverse xs)) (drop n (reverse xs))) in
    let long : length front ≡ length xs - n = length-reverse (drop n (reverse xs)) ∙ (length-drop n (reverse xs) ∙ ap (λ k. k - n) (length-reverse xs)) in
    ap (λ k. take k xs) (sym long) ∙ (ap (take (length front)) whole ∙ take_seam front back)

-- both ends cut off at once
pub trimmed_is : (bytes rest : List ℕ) (n m : ℕ) → n ≡ prefix_len is_space bytes → rest ≡ drop n bytes → m ≡ prefix_len is_space (reverse rest)
    → take (length rest - m) rest ≡ trimmed bytes
trimmed_is bytes rest n m front cut back =
    let e : rest ≡ behind_front is_space bytes = cut ∙ ap (λ k. drop k bytes) front in
    ap (λ k. take (length rest - k) rest) back
    ∙ (before_back (prefix_len is_space (reverse rest)) rest ∙ ap (λ r. reverse (behind_front is_space (reverse r))) e)

-- ---- digits

grows : (value : ℕ) (digits : List ℕ) → value ≤ fold digit_more value digits
grows value [] = omega arith
grows value (d ∷ digits) = let more = grows (10 * value + (d - 48)) digits in omega arith

-- a number that is past the limit stays so
past_limit : (most : ℕ) (digits : List ℕ) (i value : ℕ) → i < length digits → fold digit_more value (drop i digits) ≡ fold digit_more 0 digits
    → most < 10 * value + (get_or digits i 0 - 48) → most < fold digit_more 0 digits
past_limit most digits i value less so_far past =
    let more = grows (10 * value + (get_or digits i 0 - 48)) (drop (suc i) digits) in
    let e : fold digit_more value (drop i digits) ≡ fold digit_more (10 * value + (get_or digits i 0 - 48)) (drop (suc i) digits) =
    ap (fold digit_more value) (drop-cons digits i 0 less) in
    omega arith

not_le : (n most : ℕ) → most < n → nat_le n most ≡ false
not_le n most less = grind (arith, nat_tests)

too_great : (most n : ℕ) → most < n → None ≡ up_to most (Some n)
too_great most n past = by_test (nat_le n most) (not_le n most past)
  where
    by_test : (t : Bool) → t ≡ false → None ≡ (if t then Some n else None)
    by_test true e = absurd (cc)
    by_test false e = refl

-- a number past the limit is none
pub is_past : (most : ℕ) (digits : List ℕ) (i value : ℕ) → i < length digits → fold digit_more value (drop i digits) ≡ fold digit_more 0 digits
    → most < 10 * value + (get_or digits i 0 - 48) → None ≡ up_to most (Some (fold digit_more 0 digits))
is_past most digits i value less so_far past = too_great most (fold digit_more 0 digits) (past_limit most digits i value less so_far past)

-- and one that is not is itself
pub is_within : (most n value : ℕ) → value ≤ most → value ≡ n → Some value ≡ up_to most (Some n)
is_within most n value le e = by_test (nat_le n most) (le-leb n most (omega arith))
  where
    by_test : (t : Bool) → t ≡ true → Some value ≡ (if t then Some n else None)
    by_test true same = ap (λ k. Some k) e
    by_test false same = absurd (cc)

-- what digits spell, of a text that is not empty
pub digits_are : (bytes : List ℕ) → 0 < length bytes → digits_of bytes ≡ (if list_all is_digit bytes then Some (fold digit_more 0 bytes) else None)
digits_are [] less = absurd (omega arith)
digits_are (d ∷ digits) less = refl
