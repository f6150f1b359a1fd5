-- Worked rows of the definitions.
use Rattle.std.proofs.Common.{◌≡◌, inl, ⊎_elim, ℕ, [], ◌∷◌, length, refl, ap, arith}
use Rattle.page_device.specs.Write.{overlay}
use Rattle.page_device.specs.Memory.{Kept, at_rest, wrote, marked, CanBe}

-- two writes that overlap, and one that leaves a gap
abbrev unsynced : Kept
unsynced = wrote (wrote (wrote (at_rest (1 ∷ 2 ∷ 3 ∷ 4 ∷ 5 ∷ 6 ∷ [])) 2 (7 ∷ 7 ∷ [])) 3 (8 ∷ 8 ∷ [])) 9 (9 ∷ 9 ∷ [])

is_read : unsynced.now ≡ 1 ∷ 2 ∷ 7 ∷ 8 ∷ 8 ∷ 6 ∷ 0 ∷ 0 ∷ 0 ∷ 9 ∷ 9 ∷ []
is_read = refl

has_ones : marked unsynced.synced unsynced.writes ≡ 1 ∷ 2 ∷ 255 ∷ 255 ∷ 255 ∷ 6 ∷ 255 ∷ 255 ∷ 255 ∷ 255 ∷ 255 ∷ []
has_ones = refl

nothing_written : overlay (1 ∷ []) 5 [] ≡ 1 ∷ []
nothing_written = refl

-- a byte that is written may be any byte in an image
any_byte : (x : ℕ) → CanBe (wrote (at_rest (1 ∷ 2 ∷ 3 ∷ [])) 1 (7 ∷ [])) (1 ∷ x ∷ 3 ∷ [])
any_byte x = (
  1 ∷ x ∷ 3 ∷ [],
  record {
    torn = record { before = refl; after = refl; no_shorter = omega arith; no_longer = omega arith };
    long =
        inl refl;
  },
  refl,
)

-- and the file may be as long as before, or as after
not_grown : CanBe (wrote (at_rest (1 ∷ [])) 2 (7 ∷ [])) (1 ∷ [])
not_grown = (1 ∷ [], record { torn = record { before = refl; after = refl; no_shorter = omega arith; no_longer = omega arith }; long = inl refl }, refl)

-- but no other length
no_other_length : (x : ℕ) → CanBe (wrote (at_rest (1 ∷ [])) 2 (7 ∷ [])) (1 ∷ x ∷ []) → ⊥
no_other_length x c = ⊎_elim (λ same. omega (arith, ap length c.2, same)) (λ same. omega (arith, ap length c.2, same)) c.1.long
