-- Slots of a file: which ones a write leaves, and what it puts into its own.
use Rattle.std.proofs.Common.{◌≡◌, ℕ, ◌+◌, ◌-◌, ◌*◌, ◌<◌, ◌≤◌, min, List, [], ◌∷◌, ◌++◌, length, take, drop, replicate, false, ◌==◌, refl, sym, ap, ◌∙◌, subst, arith, length-append, length-take, append_assoc, ⊎_elim}
use Rattle.std.specs.List.{list_any}
use Rattle.std.proofs.lemmas.List.{length-replicate, take_at, drop_at, drop-take, drop-drop, take-take}
use Rattle.std.proofs.lemmas.Bool.{cases_order, eq-eqb, or_parts, both_ways}
use Rattle.page_device.specs.Write.{overlay, Torn}
use Rattle.page_device.specs.MemoryLaws.{torn_overlay}
use Rattle.slot_store.specs.Slots.{slot_in, IsInside}

-- a range that lies in the front of a list is one of the front
pub range_in_front : (xs : List ℕ) (a n m : ℕ) → a + n ≤ m → take n (drop a (take m xs)) ≡ take n (drop a xs)
range_in_front xs a n m le = let e : a + (m - a) ≡ m = omega arith in
    ap (λ (j : ℕ). take n (drop a (take j xs))) (sym e) ∙ (ap (take n) (drop-take a (m - a) xs) ∙ take-take n (m - a) (drop a xs) (omega arith))

-- lists with the same front have the same ranges in it
pub same_range : (xs ys : List ℕ) (a n m : ℕ) → a + n ≤ m → take m xs ≡ take m ys → take n (drop a xs) ≡ take n (drop a ys)
same_range xs ys a n m le same = sym (range_in_front xs a n m le) ∙ (ap (λ (l : List ℕ). take n (drop a l)) same ∙ range_in_front ys a n m le)

-- lists that are the same from a place on are so from each later one on
pub same_behind : (xs ys : List ℕ) (a b : ℕ) → b ≤ a → drop b xs ≡ drop b ys → drop a xs ≡ drop a ys
same_behind xs ys a b le same = let e : b + (a - b) ≡ a = omega arith in
    ap (λ (j : ℕ). drop j xs) (sym e) ∙ (sym (drop-drop (a - b) b xs) ∙ (ap (drop (a - b)) same ∙ (drop-drop (a - b) b ys ∙ ap (λ (j : ℕ). drop j ys) e)))

-- a write of one slot leaves each other slot that lay inside the file
pub torn_slot : (slot s : ℕ) (old new : List ℕ) → Torn (slot * 4096) 4096 old new → (s ≡ slot → ⊥) → IsInside old s → slot_in new s ≡ slot_in old s
torn_slot slot s old new torn other inside = ⊎_elim (λ same. absurd (other same)) (⊎_elim before behind) (cases_order s slot)
  where
    before : s < slot → slot_in new s ≡ slot_in old s
    before less = same_range new old (s * 4096) 4096 (min (slot * 4096) (length old)) (omega (arith, less, inside)) torn.before

    behind : slot < s → slot_in new s ≡ slot_in old s
    behind more = ap (take 4096) (same_behind new old (s * 4096) (slot * 4096 + 4096) (omega (arith, more)) torn.after)

-- what a write of some bytes at a place leaves there
pub overlay_at : (old : List ℕ) (at : ℕ) (bytes : List ℕ) → 0 < length bytes → take (length bytes) (drop at (overlay old at bytes)) ≡ bytes
overlay_at old at [] some = absurd (omega (arith, some))
overlay_at old at (b ∷ bs) some =
    let front = take at (old ++ replicate (at - length old) 0) in let rest = drop (at + length (b ∷ bs)) old in
    let long : length front ≡ at = omega (
      arith,
      length-take at (old ++ replicate (at - length old) 0),
      length-append old (replicate (at - length old) 0),
      length-replicate {A = ℕ} (at - length old) 0,
    ) in
    ap (λ (l : List ℕ). take (length (b ∷ bs)) (drop at l)) (append_assoc front (b ∷ bs) rest)
    ∙ (ap (take (length (b ∷ bs))) (drop_at front ((b ∷ bs) ++ rest) at long) ∙ take_at (b ∷ bs) rest (length (b ∷ bs)) refl)

-- and the file reaches to its end
pub overlay_reaches : (old : List ℕ) (at : ℕ) (bytes : List ℕ) → 0 < length bytes → at + length bytes ≤ length (overlay old at bytes)
overlay_reaches old at [] some = absurd (omega (arith, some))
overlay_reaches old at (b ∷ bs) some =
    let front = take at (old ++ replicate (at - length old) 0) in let rest = drop (at + length (b ∷ bs)) old in
    omega (
      arith,
      length-take at (old ++ replicate (at - length old) 0),
      length-append old (replicate (at - length old) 0),
      length-replicate {A = ℕ} (at - length old) 0,
      length-append (front ++ (b ∷ bs)) rest,
      length-append front (b ∷ bs),
    )

-- a slot that was written has its page
pub written_slot : (old : List ℕ) (slot : ℕ) (page : List ℕ) → length page ≡ 4096 → slot_in (overlay old (slot * 4096) page) slot ≡ page
written_slot old slot page long =
    ap (λ (n : ℕ). take n (drop (slot * 4096) (overlay old (slot * 4096) page))) (sym long) ∙ overlay_at old (slot * 4096) page (omega (arith, long))

-- and lies inside the file
pub written_inside : (old : List ℕ) (slot : ℕ) (page : List ℕ) → length page ≡ 4096 → IsInside (overlay old (slot * 4096) page) slot
written_inside old slot page long = omega (arith, long, overlay_reaches old (slot * 4096) page (omega (arith, long)))

-- the write of a page is one of the outcomes of a write of its slot
pub written_torn : (old : List ℕ) (slot : ℕ) (page : List ℕ) → length page ≡ 4096 → Torn (slot * 4096) 4096 old (overlay old (slot * 4096) page)
written_torn old slot page long = subst (λ (n : ℕ). Torn (slot * 4096) n old (overlay old (slot * 4096) page)) long (torn_overlay old (slot * 4096) page)

-- a number that no test finds in a list of one is another
pub not_only : (t s : ℕ) → list_any (λ u. u == s) (t ∷ []) ≡ false → s ≡ t → ⊥
not_only t s none same = both_ways (t == s) (or_parts (t == s) false none).0 (eq-eqb t s (sym same))
