-- What a page is like once a piece was taken out: its slot is free, and every other piece reads as before.
use Rattle.std.proofs.Common.{◌≡◌, ◌≢◌, ℕ, zero, suc, ◌+◌, ◌-◌, ◌<◌, ◌≤◌, ◌==◌, ◌&&◌, ◌⊎◌, inl, inr, Bool, true, false, not, nat_lt, List, length, slice_index, refl, sym, ap, ◌∙◌, subst, if◌then◌else◌, arith}
use Rattle.std.proofs.lemmas.Bool.{ltb-true, ltb-false}
use Rattle.std.proofs.lemmas.Bool.Decides.{nat_tests}
use Rattle.page_bytes.specs.Fields.{bytes_at, field, with_field}
use Rattle.page_bytes.specs.Texts.{slot_at, slot_count, piece_at, piece_length, next_piece, piece_text}
use Rattle.page_bytes.proofs.FieldLaws.{field-written, field-bytes_at, slice_index-bytes_at}
use Rattle.text_pages.specs.declared.forms.Hole.{Hole}
use Rattle.text_pages.specs.Slots.{lowest, with_slot, hole_of, moved_slot, moved_slots, moved_pieces, closed}
use Rattle.text_pages.specs.Inside.{IsHole}
use Rattle.text_pages.specs.Meaning.{HasPiece, IsSound}
use Rattle.page_bytes.proofs.WrittenFields.{length-with_field, bytes_apart, field_apart}
use Rattle.text_pages.proofs.Holes.{length-bytes_at, length-moved_slots, length-moved_pieces, length-slots_closed, lowest-closed}
use Rattle.text_pages.proofs.PageWithPiece.{slot_order}
use Rattle.text_pages.proofs.Ranges.{split, field-moved, Apart, bytes_beside, bytes_at-inside, bytes_at-part}

-- the slot after a move: where its piece begins then
abbrev pub moved_to : Hole → ℕ → ℕ
moved_to hole at = if not (at == 0) && nat_lt at hole.at then at + hole.length else at

module _ (hole : Hole) (inside : IsHole hole) where
  -- a slot that moves leaves each range beside its first field
  beside_moved : (n q m : ℕ) (page : List ℕ) → n < 1022 → length page ≡ 4096 → Apart q m (slot_at n) 2
      → bytes_at q m (moved_slot hole n page) ≡ bytes_at q m page
  beside_moved n q m page below long apart = at (not (piece_at n page == 0) && nat_lt (piece_at n page) hole.at)
    where
      at : (b : Bool) → bytes_at q m (if b then with_field 2 page (slot_at n) (piece_at n page + hole.length) else page) ≡ bytes_at q m page
      at true = bytes_apart m q 2 page (slot_at n) (piece_at n page + hole.length) apart (omega (arith, long, below))
      at false = refl

  -- and has then where its piece begins
  moved_at : (n : ℕ) (page : List ℕ) → n < 1022 → length page ≡ 4096 → piece_at n (moved_slot hole n page) ≡ moved_to hole (piece_at n page)
  moved_at n page below long = at (not (piece_at n page == 0)) (nat_lt (piece_at n page) hole.at) refl
    where
      at : (some low : Bool) → nat_lt (piece_at n page) hole.at ≡ low
          → piece_at n (if some && low then with_field 2 page (slot_at n) (piece_at n page + hole.length) else page)
          ≡ (if some && low then piece_at n page + hole.length else piece_at n page)
      at true true is = let less = ltb-true (piece_at n page) hole.at is in
          field-written 2 (slot_at n) (piece_at n page + hole.length) page (omega (arith, less, inside)) (omega (arith, long, below))
      at true false is = refl
      at false low is = refl

  -- slots that move leave each range beside them
  beside_all_moved : (n q m : ℕ) (page : List ℕ) → n ≤ 1022 → length page ≡ 4096 → (q + m ≤ 8) ⊎ (slot_at n ≤ q)
      → bytes_at q m (moved_slots hole n page) ≡ bytes_at q m page
  beside_all_moved zero q m page below long apart = refl
  beside_all_moved (suc n) q m page below long apart =
      beside_moved n q m (moved_slots hole n page) (omega (arith, below)) (length-moved_slots hole inside n page (omega (arith, below)) long)
      (split apart (λ l. inl (omega (arith, l))) (λ r. inr (omega (arith, r))))
      ∙ beside_all_moved n q m page (omega (arith, below)) long (split apart (λ l. inl l) (λ r. inr (omega (arith, r))))

  -- the second field of a slot stays
  lengths_stay : (n s : ℕ) (page : List ℕ) → n ≤ 1022 → length page ≡ 4096 → piece_length s (moved_slots hole n page) ≡ piece_length s page
  lengths_stay zero s page below long = refl
  lengths_stay (suc n) s page below long =
      field-bytes_at 2 (slot_at s + 2) (moved_slots hole n page) (moved_slot hole n (moved_slots hole n page))
      (beside_moved n (slot_at s + 2) 2 (moved_slots hole n page) (omega (arith, below)) (length-moved_slots hole inside n page (omega (arith, below)) long)
      (second_field s n))
      ∙ lengths_stay n s page (omega (arith, below)) long
    where
      second_field : (s n : ℕ) → Apart (slot_at s + 2) 2 (slot_at n) 2
      second_field s n = at (nat_lt s n) refl
        where
          at : (b : Bool) → nat_lt s n ≡ b → Apart (slot_at s + 2) 2 (slot_at n) 2
          at true is = let less = ltb-true s n is in inl (omega (arith, less))
          at false is = let past = ltb-false s n is in inr (omega (arith, past))

  -- a slot behind those that move stays
  later_stays : (n s : ℕ) (page : List ℕ) → n ≤ 1022 → length page ≡ 4096 → n ≤ s → piece_at s (moved_slots hole n page) ≡ piece_at s page
  later_stays n s page below long past =
      field-bytes_at 2 (slot_at s) page (moved_slots hole n page) (beside_all_moved n (slot_at s) 2 page below long (inr (omega (arith, past))))

  -- and one of them moves
  pub slot_moves : (n s : ℕ) (page : List ℕ) → n ≤ 1022 → length page ≡ 4096 → s < n → piece_at s (moved_slots hole n page) ≡ moved_to hole (piece_at s page)
  slot_moves zero s page below long less = absurd (omega (arith, less))
  slot_moves (suc n) s page below long less = at (nat_lt s n) refl (λ before. slot_moves n s page (omega (arith, below)) long before)
    where
      at : (b : Bool) → nat_lt s n ≡ b → (s < n → piece_at s (moved_slots hole n page) ≡ moved_to hole (piece_at s page))
          → piece_at s (moved_slot hole n (moved_slots hole n page)) ≡ moved_to hole (piece_at s page)
      at true is earlier =
          let before = ltb-true s n is in
          field-bytes_at 2 (slot_at s) (moved_slots hole n page) (moved_slot hole n (moved_slots hole n page))
          (beside_moved n (slot_at s) 2 (moved_slots hole n page) (omega (arith, below)) (length-moved_slots hole inside n page (omega (arith, below)) long)
          (inl (omega (arith, before))))
          ∙ earlier before
      at false is earlier =
          let past = ltb-false s n is in
          let last : s ≡ n = omega (arith, past, less) in
          subst (λ s. piece_at s (moved_slot hole n (moved_slots hole n page)) ≡ moved_to hole (piece_at s page)) (sym last)
          (moved_at n (moved_slots hole n page) (omega (arith, below)) (length-moved_slots hole inside n page (omega (arith, below)) long)
          ∙ ap (moved_to hole) (later_stays n n page (omega (arith, below)) long (omega arith)))

-- a slot's piece is taken out of a sound page
module _ (page : List ℕ) (slot : ℕ) (sound : IsSound page) (has : HasPiece page slot) where
  -- the hole that the piece leaves
  abbrev pub hole : Hole
  hole = hole_of slot page

  -- the hole's slot is one of the page's, at most 1,022, and its bytes are inside, not before the lowest piece
  pub is_hole : IsHole (hole_of slot page)
  is_hole = let slots = sound.slots in let low = sound.low in let within = sound.inside slot has in (omega (arith, slots, low), has.0, within.0, within.2)

  abbrev moved : List ℕ
  moved = moved_pieces (hole_of slot page) page

  abbrev slots_moved : List ℕ
  slots_moved = moved_slots (hole_of slot page) (slot_count page) moved

  abbrev freed : List ℕ
  freed = with_slot slot 0 0 slots_moved

  -- the page with the hole closed
  abbrev pub new : List ℕ
  new = closed (hole_of slot page) page

  long_moved : length moved ≡ 4096
  long_moved = length-moved_pieces hole is_hole page sound.long

  long_slots : length slots_moved ≡ 4096
  long_slots = length-moved_slots hole is_hole (slot_count page) moved is_hole.0 long_moved

  long_freed : length freed ≡ 4096
  long_freed = length-slots_closed hole is_hole page sound.long

  -- the page still has 4,096 bytes
  pub long_new : length new ≡ 4096
  long_new = let long = long_freed in length-with_field 2 freed 4 (lowest page + piece_length slot page) (omega (arith, long)) ∙ long_freed

  -- the lowest piece begins as much later as the piece was long
  pub new_lowest : lowest new ≡ lowest page + piece_length slot page
  new_lowest = lowest-closed hole is_hole page sound.long

  -- ranges beside the writes
  beside_low : (q n : ℕ) → Apart q n 4 2 → bytes_at q n new ≡ bytes_at q n freed
  beside_low q n apart = let long = long_freed in bytes_apart n q 2 freed 4 (lowest page + piece_length slot page) apart (omega (arith, long))

  below : slot < 1022
  below = let some = has.0 in let most = is_hole.0 in omega (arith, some, most)

  beside_slot : (q n : ℕ) → Apart q n (slot_at slot) 4 → bytes_at q n freed ≡ bytes_at q n slots_moved
  beside_slot q n apart =
      let long = long_slots in let s = below in
      let half = length-with_field 2 slots_moved (slot_at slot) 0 (omega (arith, long, s)) in
      bytes_apart n q 2 (with_field 2 slots_moved (slot_at slot) 0) (slot_at slot + 2) 0
      (split apart (λ l. inl (omega (arith, l))) (λ r. inr (omega (arith, r)))) (omega (arith, long, s, half))
      ∙ bytes_apart n q 2 slots_moved (slot_at slot) 0 (split apart (λ l. inl (omega (arith, l))) (λ r. inr (omega (arith, r)))) (omega (arith, long, s))

  size : length (bytes_at (lowest page) (piece_at slot page - lowest page) page) ≡ piece_at slot page - lowest page
  size = let long = sound.long in let most = is_hole in length-bytes_at (lowest page) (piece_at slot page - lowest page) page (omega (arith, long, most))

  beside_pieces : (q n : ℕ) → (q + n ≤ lowest page) ⊎ (piece_at slot page + piece_length slot page ≤ q) → bytes_at q n moved ≡ bytes_at q n page
  beside_pieces q n apart =
      let long = sound.long in let most = is_hole in let is = size in
      bytes_beside q n page (lowest page + piece_length slot page) (bytes_at (lowest page) (piece_at slot page - lowest page) page)
      (split apart (λ l. inl (omega (arith, l))) (λ r. inr (omega (arith, r, is, most)))) (omega (arith, long, most, is))

  -- what stands behind the slots
  behind_slots : (q n : ℕ) → slot_at (slot_count page) ≤ q → bytes_at q n new ≡ bytes_at q n moved
  behind_slots q n behind =
      let some = has.0 in
      beside_low q n (inr (omega (arith, behind))) ∙ beside_slot q n (inr (omega (arith, behind, some)))
      ∙ beside_all_moved hole is_hole (slot_count page) q n moved is_hole.0 long_moved (inr behind)

  -- what stands before them
  before_slots : (q n : ℕ) → q + n ≤ 4 → bytes_at q n new ≡ bytes_at q n page
  before_slots q n before =
      let slots = sound.slots in
      beside_low q n (inl before) ∙ beside_slot q n (inl (omega (arith, before)))
      ∙ beside_all_moved hole is_hole (slot_count page) q n moved is_hole.0 long_moved (inl (omega (arith, before)))
      ∙ beside_pieces q n (inl (omega (arith, before, slots)))

  -- the page still has its kind
  pub new_kind : slice_index new 0 ≡ slice_index page 0
  new_kind = sym (slice_index-bytes_at new 0) ∙ ap (λ l. slice_index l 0) (before_slots 0 1 (omega arith)) ∙ slice_index-bytes_at page 0

  -- the page has as many slots as before
  pub new_count : slot_count new ≡ slot_count page
  new_count = field-bytes_at 2 2 page new (before_slots 2 2 (omega arith))

  -- the slot is free
  pub slot_free : piece_at slot new ≡ 0
  slot_free =
      let long = long_slots in let s = below in
      let half = length-with_field 2 slots_moved (slot_at slot) 0 (omega (arith, long, s)) in
      field-bytes_at 2 (slot_at slot) freed new (beside_low (slot_at slot) 2 (inr (omega arith)))
      ∙ field_apart 2 (slot_at slot) 2 (with_field 2 slots_moved (slot_at slot) 0) (slot_at slot + 2) 0 (inl (omega arith)) (omega (arith, long, s, half))
      ∙ field-written 2 (slot_at slot) 0 slots_moved (omega arith) (omega (arith, long, s))

  -- another slot follows its piece
  moved_slot_is : (s : ℕ) → s < slot_count page → piece_at s moved ≡ piece_at s page
  moved_slot_is s inside = let slots = sound.slots in field-bytes_at 2 (slot_at s) page moved (beside_pieces (slot_at s) 2 (inl (omega (arith, slots, inside))))

  other_apart : (s off : ℕ) → s ≢ slot → off + 2 ≤ 4 → Apart (slot_at s + off) 2 (slot_at slot) 4
  other_apart s off differ part = split (slot_order s slot differ) (λ l. inl (omega (arith, l, part))) (λ r. inr (omega (arith, r)))

  -- every other slot says where its piece is after the move
  pub slot_moved : (s : ℕ) → s < slot_count page → s ≢ slot → piece_at s new ≡ moved_to hole (piece_at s page)
  slot_moved s inside differ =
      let apart : Apart (slot_at s) 2 (slot_at slot) 4 = split (slot_order s slot differ) (λ l. inl (omega (arith, l))) (λ r. inr (omega (arith, r))) in
      field-bytes_at 2 (slot_at s) freed new (beside_low (slot_at s) 2 (inr (omega arith)))
      ∙ field-bytes_at 2 (slot_at s) slots_moved freed (beside_slot (slot_at s) 2 apart)
      ∙ slot_moves hole is_hole (slot_count page) s moved is_hole.0 long_moved inside
      ∙ ap (moved_to hole) (moved_slot_is s inside)

  -- every other piece is as long as it was
  pub length_stays : (s : ℕ) → s < slot_count page → s ≢ slot → piece_length s new ≡ piece_length s page
  length_stays s inside differ =
      let slots = sound.slots in
      field-bytes_at 2 (slot_at s + 2) freed new (beside_low (slot_at s + 2) 2 (inr (omega arith)))
      ∙ field-bytes_at 2 (slot_at s + 2) slots_moved freed (beside_slot (slot_at s + 2) 2 (other_apart s 2 differ (omega arith)))
      ∙ lengths_stay hole is_hole (slot_count page) s moved is_hole.0 long_moved
      ∙ field-bytes_at 2 (slot_at s + 2) page moved (beside_pieces (slot_at s + 2) 2 (inl (omega (arith, slots, inside))))

  -- another piece is as it was, where its slot leads
  module _ (s : ℕ) (there : HasPiece page s) (differ : s ≢ slot) where
    -- it is below the hole and has moved, or above and stays
    pub record IsMoved : Type 0 where
      pub at : piece_at s new ≡ piece_at s page + piece_length slot page
      pub before : piece_at s page + piece_length s page ≤ piece_at slot page

    -- it is above the hole, and begins where it did
    pub record IsStill : Type 0 where
      pub at : piece_at s new ≡ piece_at s page
      pub behind : piece_at slot page + piece_length slot page ≤ piece_at s page

    -- each other piece is one or the other
    pub either_place : IsMoved ⊎ IsStill
    either_place = at (nat_lt (piece_at s page) (piece_at slot page)) refl
      where
        some : (piece_at s page == 0) ≡ false
        some = let past = there.1 in positive (piece_at s page) past
          where
            positive : (n : ℕ) → 0 < n → (n == 0) ≡ false
            positive n past = grind (arith, nat_tests)

        moved_is : (b : Bool) → nat_lt (piece_at s page) (piece_at slot page) ≡ b
            → piece_at s new ≡ (if b then piece_at s page + piece_length slot page else piece_at s page)
        moved_is b is = slot_moved s there.0 differ ∙ (λ i. if not (some i) && is i then piece_at s page + piece_length slot page else piece_at s page)

        at : (b : Bool) → nat_lt (piece_at s page) (piece_at slot page) ≡ b → IsMoved ⊎ IsStill
        at true is =
            let less = ltb-true (piece_at s page) (piece_at slot page) is in let large = (sound.inside slot has).1 in
            inl (record {
              at = moved_is true is;
              before =
                  split (sound.apart s slot there has differ) (λ before. before) (λ behind. absurd (omega (arith, behind, less, large)));
            })
        at false is =
            let past = ltb-false (piece_at s page) (piece_at slot page) is in let large = (sound.inside s there).1 in
            inr (record {
              at = moved_is false is;
              behind =
                  split (sound.apart s slot there has differ) (λ before. absurd (omega (arith, before, past, large))) (λ behind. behind);
            })

    -- a part of it
    pub part_is : (off n : ℕ) → off + n ≤ piece_length s page → bytes_at (piece_at s new + off) n new ≡ bytes_at (piece_at s page + off) n page
    part_is off n part = split either_place moved_part still_part
      where
        moved_part : IsMoved → bytes_at (piece_at s new + off) n new ≡ bytes_at (piece_at s page + off) n page
        moved_part m =
            let low = (sound.inside s there).0 in let before = m.before in let slots = sound.slots in let long = sound.long in let most = is_hole in let is =
            size in
            let offset : ℕ = piece_at s page - lowest page + off in
            let from : piece_at s new + off ≡ (lowest page + piece_length slot page) + offset = let at = m.at in omega (arith, at, low) in
            ap (λ q. bytes_at q n new) from
            ∙ behind_slots ((lowest page + piece_length slot page) + offset) n (omega (arith, slots))
            ∙ bytes_at-inside page (lowest page + piece_length slot page) (bytes_at (lowest page) (piece_at slot page - lowest page) page) offset n
            (omega (arith, long, most)) (omega (arith, is, part, before, low))
            ∙ bytes_at-part page (lowest page) (piece_at slot page - lowest page) offset n (omega (arith, part, before, low))
            ∙ ap (λ q. bytes_at q n page) (omega (arith, low))

        still_part : IsStill → bytes_at (piece_at s new + off) n new ≡ bytes_at (piece_at s page + off) n page
        still_part m =
            let behind = m.behind in let low = (sound.inside s there).0 in let slots = sound.slots in
            ap (λ at. bytes_at (at + off) n new) m.at ∙ behind_slots (piece_at s page + off) n (omega (arith, low, slots))
            ∙ beside_pieces (piece_at s page + off) n (inr (omega (arith, behind)))

    field_moves : (n off : ℕ) → off + n ≤ piece_length s page → field n (piece_at s new + off) new ≡ field n (piece_at s page + off) page
    field_moves n off part = field-moved n (piece_at s page + off) (piece_at s new + off) page new (part_is off n part)

    -- it leads to the piece that it led to
    pub same_next : next_piece s new ≡ next_piece s page
    same_next =
        let large = (sound.inside s there).1 in
        let page_is : field 8 (piece_at s new) new ≡ field 8 (piece_at s page) page = ap (λ q. field 8 q new) (omega arith)
        ∙ field_moves 8 0 (omega (arith, large)) ∙ ap (λ q. field 8 q page) (omega arith) in
        let slot_is : field 2 (piece_at s new + 8) new ≡ field 2 (piece_at s page + 8) page = field_moves 2 8 (omega (arith, large)) in
        λ i. record { page = page_is i; slot = slot_is i }

    -- it has the text that it had
    pub same_text : piece_text s new ≡ piece_text s page
    same_text =
        let large = (sound.inside s there).1 in
        ap (λ n. bytes_at (piece_at s new + 10) (n - 10) new) (length_stays s there.0 differ) ∙ part_is 10 (piece_length s page - 10) (omega (arith, large))

    -- the page still has it
    pub still_has : HasPiece new s
    still_has = let count = new_count in let inside = there.0 in let some = there.1 in (
      omega (arith, count, inside),
      split either_place (λ (m : IsMoved). let at = m.at in omega (arith, at, some)) (λ (m : IsStill). let at = m.at in
          omega (arith, at, some)),
    )
