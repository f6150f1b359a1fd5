-- Ranges of a page's bytes: parts of them, and what writes to other places leave of them.
use Rattle.std.proofs.Common.{◌≡◌, ℕ, ◌+◌, ◌-◌, ◌≤◌, ◌⊎◌, ⊎_elim, inl, inr, List, length, take, drop, refl, sym, ap, ◌∙◌, arith}
use Rattle.std.proofs.lemmas.List.{take-take, drop-take, drop-drop}
use Rattle.page_bytes.specs.Fields.{bytes_at, with_bytes, field}
use Rattle.page_bytes.proofs.FieldLaws.{bytes_at-written, bytes_at-before, bytes_at-behind}

-- either of two cases
pub split : {A B C : Type 0} → A ⊎ B → (A → C) → (B → C) → C
split (inl a) f g = f a
split (inr b) f g = g b

-- two ranges are apart, the one before the other
abbrev pub Apart : ℕ → ℕ → ℕ → ℕ → Type 0
Apart q n to m = (q + n ≤ to) ⊎ (to + m ≤ q)

-- a part of a part is a part
pub bytes_at-part : (page : List ℕ) (low m i n : ℕ) → i + n ≤ m → bytes_at i n (bytes_at low m page) ≡ bytes_at (low + i) n page
bytes_at-part page low m i n inside =
    let more : i + (m - i) ≡ m = omega (arith, inside) in
    ap (λ m. take n (drop i (take m (drop low page)))) (sym more)
    ∙ ap (take n) (drop-take i (m - i) (drop low page))
    ∙ take-take n (m - i) (drop i (drop low page)) (omega (arith, inside))
    ∙ ap (take n) (drop-drop i low page)

-- a part of what was written
pub bytes_at-inside : (page : List ℕ) (to : ℕ) (bytes : List ℕ) (i n : ℕ) → to ≤ length page → i + n ≤ length bytes
    → bytes_at (to + i) n (with_bytes page to bytes) ≡ bytes_at i n bytes
bytes_at-inside page to bytes i n within inside =
    sym (bytes_at-part (with_bytes page to bytes) to (length bytes) i n inside) ∙ ap (bytes_at i n) (bytes_at-written page to bytes within)

-- what stands apart from a write stays
pub bytes_beside : (q n : ℕ) (page : List ℕ) (to : ℕ) (bytes : List ℕ) → Apart q n to (length bytes) → to + length bytes ≤ length page
    → bytes_at q n (with_bytes page to bytes) ≡ bytes_at q n page
bytes_beside q n page to bytes apart within = ⊎_elim
    (λ before. bytes_at-before page q n to bytes before (omega (arith, within)))
    (λ behind. bytes_at-behind page q n to bytes behind (omega (arith, within)))
    apart

-- a field is what its bytes are, wherever they stand
pub field-moved : (n at to : ℕ) (page new : List ℕ) → bytes_at to n new ≡ bytes_at at n page → field n to new ≡ field n at page
unfolding field
field-moved n at to page new same = rw same refl
