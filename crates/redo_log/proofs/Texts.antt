-- Whether bytes are text.
use Rattle.std.proofs.Common.{◌≡◌, ℕ, Bool, true, false, List, refl}
use Rattle.std.specs.Prelude.{IsUtf8, IsTrue, ◌&&◌}
use Rattle.redo_log.specs.Reading.{is_name}
use Rattle.std.specs.Str.{is_utf8}
use Rattle.std.proofs.lemmas.Str.{IsUtf8-from_is_utf8}

-- where bytes are not UTF-8, the test for it is false
pub no_text : (bytes : List ℕ) → (IsUtf8 bytes → ⊥) → false ≡ is_utf8 bytes
no_text bytes not = by_test (is_utf8 bytes) (λ is. absurd (not (IsUtf8-from_is_utf8 bytes is)))
  where
    by_test : (b : Bool) → (b ≡ true → false ≡ b) → false ≡ b
    by_test true h = h refl
    by_test false h = refl

-- a name is text
pub name_is_text : (bytes : List ℕ) → IsTrue (is_name bytes) → IsUtf8 bytes
name_is_text bytes named = IsUtf8-from_is_utf8 bytes (first _ _ (first _ _ named))
  where
    first : (a b : Bool) → (a && b) ≡ true → a ≡ true
    first true b t = refl
    first false b t = t
