-- What bytes begin with.
use Rattle.std.proofs.Common.{◌≡◌, ◌≢◌, ℕ, zero, suc, ◌+◌, ◌≤◌, Bool, true, false, List, [], ◌∷◌, ◌++◌, length, take, drop, Option, None, Some, MatchOption, nat_eq, Bor, refl, ap, ◌∙◌, arith}
use Rattle.std.specs.Prelude.{option_map, take_while, if◌then◌else◌}
use Rattle.std.specs.List.{prefix_len}
use Rattle.std.proofs.lemmas.Bool.Decides.{nat_tests}
use Rattle.xq_ast.specs.Tokens.{behind, behind_front, begins}

-- the test finds a number equal to itself
pub nat_eq-same : (b : ℕ) → nat_eq b b ≡ true
nat_eq-same b = grind (arith, nat_tests)

-- numbers that the test finds equal are equal
pub nat_eq-true : (a b : ℕ) → nat_eq a b ≡ true → a ≡ b
nat_eq-true a b e = grind (arith, nat_tests)

-- the test does not find different numbers equal
pub nat_eq-differ : (a b : ℕ) → a ≢ b → nat_eq a b ≡ false
nat_eq-differ a b ne = grind (arith, nat_tests, ne)

-- a list is its first n items and then the others
pub take_drop : (n : ℕ) (xs : List ℕ) → xs ≡ take n xs ++ drop n xs
take_drop zero xs = refl
take_drop (suc n) [] = refl
take_drop (suc n) (x ∷ xs) = ap (λ ys. x ∷ ys) (take_drop n xs)

-- ---- words

-- after a word stands what follows it
pub behind-append : (word rest : List ℕ) → behind word (word ++ rest) ≡ Some rest
behind-append [] rest = refl
behind-append (w ∷ word) rest = rw (nat_eq-same w) (behind-append word rest)

-- where something was found after a word, the bytes are the word and that
pub behind-whole : (word bytes rest : List ℕ) → behind word bytes ≡ Some rest → bytes ≡ word ++ rest
behind-whole [] bytes rest e = cc
behind-whole (w ∷ word) [] rest e = cc
behind-whole (w ∷ word) (b ∷ bytes) rest e = by_test (nat_eq w b) refl e (behind-whole word bytes rest)
  where
    by_test : (t : Bool) → nat_eq w b ≡ t → (if t then behind word bytes else None) ≡ Some rest → (behind word bytes ≡ Some rest → bytes ≡ word ++ rest)
        → b ∷ bytes ≡ w ∷ (word ++ rest)
    by_test true same e more = let first : w ≡ b = nat_eq-true w b same in let others : bytes ≡ word ++ rest = more e in cc
    by_test false other e more = cc

none_behind : (word bytes : List ℕ) (o : Option (List ℕ)) → behind word bytes ≡ o → ((rest : List ℕ) → bytes ≢ word ++ rest) → o ≡ None
none_behind word bytes None e none = refl
none_behind word bytes (Some rest) e none = absurd (none rest (behind-whole word bytes rest e))

-- what `strip_prefix` gives
pub behind_stripped : (word bytes : List ℕ) (r : Option (Bor (List ℕ))) → MatchOption r ((rest : List ℕ) → bytes ≢ word ++ rest) (λ x. bytes ≡ word ++ x.now)
    → behind word bytes ≡ option_map (λ rest. rest.now) r
behind_stripped word bytes None none = none_behind word bytes (behind word bytes) refl none
behind_stripped word bytes (Some x) whole = ap (behind word) whole ∙ behind-append word x.now

-- ---- fronts

-- bytes are their longest front that passes and what stands after it
pub front_whole : (p : ℕ → Bool) (bytes : List ℕ) → bytes ≡ take_while p bytes ++ behind_front p bytes
front_whole p bytes = take_drop (prefix_len p bytes) bytes

one_more : (b : ℕ) (bytes : List ℕ) (n : ℕ) → drop (1 + n) (b ∷ bytes) ≡ drop n bytes
one_more b bytes n = let e : 1 + n ≡ suc n = omega arith in rw e refl

-- one more byte in front that passes leaves what stands after the front as it is
pub behind_front-passing : (p : ℕ → Bool) (b : ℕ) (bytes : List ℕ) → p b ≡ true → behind_front p (b ∷ bytes) ≡ behind_front p bytes
behind_front-passing p b bytes passes = rw passes (one_more b bytes (prefix_len p bytes))

-- what stands after the longest front that passes does not begin with a byte that does
pub front_ends : (p : ℕ → Bool) (bytes : List ℕ) → begins p (behind_front p bytes) ≡ false
front_ends p [] = refl
front_ends p (b ∷ bytes) = by_test (p b) refl (front_ends p bytes)
  where
    by_test : (t : Bool) → p b ≡ t → begins p (behind_front p bytes) ≡ false → begins p (drop (if t then 1 + prefix_len p bytes else 0) (b ∷ bytes)) ≡ false
    by_test true passes more = ap (begins p) (one_more b bytes (prefix_len p bytes)) ∙ more
    by_test false fails more = fails

-- the longest front that passes is no longer than the bytes
pub prefix_len_le : (p : ℕ → Bool) (bytes : List ℕ) → prefix_len p bytes ≤ length bytes
prefix_len_le p [] = omega arith
prefix_len_le p (b ∷ bytes) = by_test (p b) (prefix_len_le p bytes)
  where
    by_test : (t : Bool) → prefix_len p bytes ≤ length bytes → (if t then 1 + prefix_len p bytes else 0) ≤ length (b ∷ bytes)
    by_test true more = omega arith
    by_test false more = omega arith
