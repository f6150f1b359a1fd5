-- What a write makes of the bytes of one file.
use Rattle.std.proofs.Common.{◌≡◌, ℕ, zero, suc, ◌+◌, ◌-◌, ◌<◌, ◌≤◌, List, [], ◌∷◌, ◌++◌, length, take, drop, replicate, sym, ap, ◌∙◌, rules, arith, add-zero}
use Rattle.std.proofs.lemmas.List.{append-nil, take-append-drop, take-append-le, take_at, places, same_lists}
use Rattle.page_device.specs.Write.{overlay, filled}

-- how many bytes stand behind a file does not matter for what stands before a place
pub take-padded : (old : List ℕ) (at more byte : ℕ) → at ≤ more
    → take at (old ++ replicate (more - length old) byte) ≡ take at (old ++ replicate (at - length old) byte)
take-padded old at more byte le = same_lists _ _ (search (rules, places)) (λ k d h. grind (arith, places))

-- a file that was made this long ends there
pub drop-padded : (old : List ℕ) (more byte : ℕ) → drop more (old ++ replicate (more - length old) byte) ≡ drop more old
drop-padded old more byte = same_lists _ _ (search (rules, places)) (λ k d h. grind (arith, places))

-- the file was made long enough, and then its range was written
pub overlaid : (old : List ℕ) (at : ℕ) (bytes : List ℕ) → 0 < length bytes
    → take at (old ++ replicate (at + length bytes - length old) 0) ++ bytes ++ drop (at + length bytes) (old ++ replicate (at + length bytes - length old) 0)
    ≡ overlay old at bytes
overlaid old at [] some = absurd (omega arith)
overlaid old at (b ∷ bs) some =
    ap (λ (z : List ℕ × List ℕ). z.0 ++ (b ∷ bs) ++ z.1)
    (λ i. (take-padded old at (at + length (b ∷ bs)) 0 (omega arith) i, drop-padded old (at + length (b ∷ bs)) 0 i))

-- the file was made long enough with bytes 255, and then n of them were written in its range
pub filled_in : (old : List ℕ) (at n : ℕ) → 0 < n
    → take at (old ++ replicate (at + n - length old) 255) ++ replicate n 255 ++ drop (at + n) (old ++ replicate (at + n - length old) 255) ≡ filled old at n
filled_in old at zero some = absurd (omega arith)
filled_in old at (suc n) some =
    ap (λ (z : List ℕ × List ℕ). z.0 ++ replicate (suc n) 255 ++ z.1)
    (λ i. (take-padded old at (at + suc n) 255 (omega arith) i, drop-padded old (at + suc n) 255 i))

-- a vector after a change of its slice
pub written_back : (n : ℕ) (bytes items : List ℕ) → length bytes ≡ length items → n ≡ length items → take n (bytes ++ drop (length bytes) items) ≡ bytes
written_back n bytes items same long = take_at bytes (drop (length bytes) items) n (omega arith)

-- a write that begins within the file leaves no gap
pub overlay-inside : (old : List ℕ) (at : ℕ) (bytes : List ℕ) → at ≤ length old → overlay old at bytes ≡ take at old ++ bytes ++ drop (at + length bytes) old
overlay-inside old at [] le =
    sym (ap (λ (l : List ℕ). l ++ drop (at + 0) old) (append-nil (take at old))
    ∙ (ap (λ (n : ℕ). take at old ++ drop n old) (add-zero at) ∙ take-append-drop at old))
overlay-inside old at (b ∷ bs) le =
    ap (λ (l : List ℕ). l ++ (b ∷ bs) ++ drop (at + length (b ∷ bs)) old) (take-append-le at old (replicate (at - length old) 0) le)
