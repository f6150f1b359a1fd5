-- What is seen of the pages of a set, where others aren't looked at.
use Rattle.std.proofs.Common.{◌≡◌, ◌≢◌, ℕ, ◌<◌, ◌==◌, ◌||◌, Bool, true, false, [], None, unwrap_or, length, refl, ap, if◌then◌else◌, arith}
use Rattle.std.proofs.lemmas.Bool.Decides.{nat_tests}
use Rattle.page_bytes.specs.Seen.{PagesByNumber, bytes, only, also}

-- what is the same of a page is the same of it in a set
pub bytes-only : (set : ℕ → Bool) (old new : PagesByNumber) (n : ℕ) → bytes new n ≡ bytes old n → bytes (only set new) n ≡ bytes (only set old) n
unfolding bytes
bytes-only set old new n same = at (set n)
  where
    at : (b : Bool) → unwrap_or (if b then new n else None) [] ≡ unwrap_or (if b then old n else None) []
    at true = same
    at false = refl

-- a page of the set is seen as it is
pub bytes-in : (set : ℕ → Bool) (pages : PagesByNumber) (n : ℕ) → set n ≡ true → bytes (only set pages) n ≡ bytes pages n
unfolding bytes
bytes-in set pages n is = ap (λ b. unwrap_or (if b then pages n else None) []) is

-- a page that has bytes is of the set
pub in-bytes : (set : ℕ → Bool) (pages : PagesByNumber) (n : ℕ) → 0 < length (bytes (only set pages) n) → set n ≡ true
unfolding bytes
in-bytes set pages n some = at (set n) some
  where
    at : (b : Bool) → 0 < length (unwrap_or (if b then pages n else None) []) → b ≡ true
    at true some = refl
    at false some = absurd (omega (arith, some))

-- a page that comes to the set
pub also-in : (set : ℕ → Bool) (n : ℕ) → also set n n ≡ true
also-in set n = itself n (set n)
  where
    itself : (n : ℕ) (b : Bool) → (n == n || b) ≡ true
    itself n b = grind (arith, nat_tests)

-- all that were of the set before are of it still
pub also-true : (set : ℕ → Bool) (n q : ℕ) → set q ≡ true → also set n q ≡ true
also-true set n q is = either (q == n) (set q) is
  where
    either : (a b : Bool) → b ≡ true → (a || b) ≡ true
    either true b is = refl
    either false b is = is

-- all others are in it as they were
pub also-beside : (set : ℕ → Bool) (pages : PagesByNumber) (n q : ℕ) → q ≢ n → bytes (only (also set n) pages) q ≡ bytes (only set pages) q
unfolding bytes
also-beside set pages n q differ = ap (λ b. unwrap_or (if b || set q then pages q else None) []) (apart q n differ)
  where
    apart : (q n : ℕ) → q ≢ n → (q == n) ≡ false
    apart q n differ = grind (arith, nat_tests)
