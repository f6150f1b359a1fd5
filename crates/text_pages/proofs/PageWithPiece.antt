-- What a page is like once a piece was put in: the piece reads back, and every other piece reads as before.
use Rattle.std.proofs.Common.{◌≡◌, ◌≢◌, ℕ, ◌+◌, ◌-◌, ◌<◌, ◌≤◌, ◌^◌, ◌⊎◌, inl, inr, Bool, true, false, nat_lt, List, length, slice_index, refl, sym, ap, ◌∙◌, subst, arith}
use Rattle.std.proofs.lemmas.Bool.{ltb-true, ltb-false}
use Rattle.page_bytes.specs.declared.texts.TextRef.{TextRef}
use Rattle.page_bytes.specs.Fields.{bytes_at, field, with_field}
use Rattle.page_bytes.specs.Texts.{slot_at, slot_count, piece_at, piece_length, next_piece, piece_text}
use Rattle.page_bytes.proofs.FieldLaws.{length-with_bytes, bytes_at-written, field-written, field-bytes_at, slice_index-bytes_at}
use Rattle.text_pages.specs.declared.forms.Place.{Place}
use Rattle.text_pages.specs.Slots.{lowest, with_slot, with_content, with_piece}
use Rattle.text_pages.specs.Meaning.{HasPiece}
use Rattle.page_bytes.proofs.WrittenFields.{length-with_field, bytes_apart, field_apart}
use Rattle.text_pages.proofs.Holes.{length-with_slot}
use Rattle.text_pages.proofs.Ranges.{split, Apart, bytes_beside}

-- a place that a page has for a piece of k bytes: a free slot, or a new one behind the last, and room below all pieces
pub record IsPlace (page : List ℕ) (place : Place) (k : ℕ) : Type 0 where
  pub slot : place.slot < place.count
  pub count : place.count ≤ 1022
  pub behind : slot_at place.count ≤ place.at
  pub inside : place.at + k ≤ 4096
  pub old : (s : ℕ) → s < place.count → s ≢ place.slot → s < slot_count page
  pub kept : (s : ℕ) → s < slot_count page → s < place.count
  pub free : HasPiece page place.slot → ⊥
  pub above : (s : ℕ) → HasPiece page s → place.at + k ≤ piece_at s page

-- of two different slots one is before the other
pub slot_order : (s t : ℕ) → s ≢ t → (s < t) ⊎ (t < s)
slot_order s t differ = at (nat_lt s t) refl
  where
    at : (b : Bool) → nat_lt s t ≡ b → (s < t) ⊎ (t < s)
    at true is = inl (ltb-true s t is)
    at false is = let past = ltb-false s t is in at_more (nat_lt t s) refl past
      where
        at_more : (b : Bool) → nat_lt t s ≡ b → (t ≤ s) → (s < t) ⊎ (t < s)
        at_more true more past = inr (ltb-true t s more)
        at_more false more past = let low = ltb-false t s more in absurd (differ (omega (arith, low, past)))

module _ (page : List ℕ) (place : Place) (next : TextRef) (text : List ℕ) (long : length page ≡ 4096) (p : IsPlace page place (10 + length text)) where
  abbrev first : List ℕ
  first = with_field 8 page place.at next.page

  abbrev second : List ℕ
  second = with_field 2 first (place.at + 8) next.slot

  abbrev content : List ℕ
  content = with_content place.at next text page

  abbrev slotted : List ℕ
  slotted = with_slot place.slot place.at (10 + length text) (with_content place.at next text page)

  abbrev counted : List ℕ
  counted = with_field 2 slotted 2 place.count

  long_first : length first ≡ 4096
  long_first = let inside = p.inside in length-with_field 8 page place.at next.page (omega (arith, inside, long)) ∙ long

  long_second : length second ≡ 4096
  long_second = let inside = p.inside in let same = long_first in length-with_field 2 first (place.at + 8) next.slot (omega (arith, inside, same)) ∙ long_first

  long_content : length content ≡ 4096
  long_content = let inside = p.inside in let same = long_second in length-with_bytes second (place.at + 10) text (omega (arith, inside, same)) ∙ long_second

  below : place.slot < 1022
  below = let slot = p.slot in let count = p.count in omega (arith, slot, count)

  long_slotted : length slotted ≡ 4096
  long_slotted = length-with_slot place.slot place.at (10 + length text) content below long_content

  long_counted : length counted ≡ 4096
  long_counted = let same = long_slotted in length-with_field 2 slotted 2 place.count (omega (arith, same)) ∙ long_slotted

  -- the page still has 4,096 bytes
  pub long_new : length (with_piece place next text page) ≡ 4096
  long_new = let same = long_counted in length-with_field 2 counted 4 place.at (omega (arith, same)) ∙ long_counted

  -- the page has as many slots as the place says
  pub new_count : slot_count (with_piece place next text page) ≡ place.count
  new_count =
      let same = long_counted in let count = p.count in let long = long_slotted in
      field_apart 2 2 2 counted 4 place.at (inl (omega arith)) (omega (arith, same))
      ∙ field-written 2 2 place.count slotted (omega (arith, count)) (omega (arith, long))

  -- the new piece is the lowest
  pub new_lowest : lowest (with_piece place next text page) ≡ place.at
  new_lowest = let same = long_counted in let inside = p.inside in field-written 2 4 place.at counted (omega (arith, inside)) (omega (arith, same))

  -- what the two last writes leave
  headed : (q n : ℕ) → (q + n ≤ 2) ⊎ (6 ≤ q) → bytes_at q n (with_piece place next text page) ≡ bytes_at q n slotted
  headed q n apart =
      let same = long_counted in let long = long_slotted in
      bytes_apart n q 2 counted 4 place.at (split apart (λ l. inl (omega (arith, l))) (λ r. inr (omega (arith, r)))) (omega (arith, same))
      ∙ bytes_apart n q 2 slotted 2 place.count (split apart (λ l. inl (omega (arith, l))) (λ r. inr (omega (arith, r)))) (omega (arith, long))

  -- what the slot's two writes leave
  beside_slot : (q n : ℕ) → Apart q n (slot_at place.slot) 4 → bytes_at q n slotted ≡ bytes_at q n content
  beside_slot q n apart =
      let long = long_content in let slot = below in
      let half = length-with_field 2 content (slot_at place.slot) place.at (omega (arith, long, slot)) in
      bytes_apart n q 2 (with_field 2 content (slot_at place.slot) place.at) (slot_at place.slot + 2) (10 + length text)
      (split apart (λ l. inl (omega (arith, l))) (λ r. inr (omega (arith, r)))) (omega (arith, long, slot, half))
      ∙ bytes_apart n q 2 content (slot_at place.slot) place.at (split apart (λ l. inl (omega (arith, l))) (λ r. inr (omega (arith, r))))
      (omega (arith, long, slot))

  -- and those of the piece
  beside_content : (q n : ℕ) → Apart q n place.at (10 + length text) → bytes_at q n content ≡ bytes_at q n page
  beside_content q n apart =
      let inside = p.inside in let one = long_first in let two = long_second in
      bytes_beside q n second (place.at + 10) text (split apart (λ l. inl (omega (arith, l))) (λ r. inr (omega (arith, r)))) (omega (arith, two, inside))
      ∙ bytes_apart n q 2 first (place.at + 8) next.slot (split apart (λ l. inl (omega (arith, l))) (λ r. inr (omega (arith, r)))) (omega (arith, one, inside))
      ∙ bytes_apart n q 8 page place.at next.page (split apart (λ l. inl (omega (arith, l))) (λ r. inr (omega (arith, r)))) (omega (arith, long, inside))

  -- a range beside the slot and the piece stays
  pub beside_all : (q n : ℕ) → (q + n ≤ 2) ⊎ (6 ≤ q) → Apart q n (slot_at place.slot) 4 → Apart q n place.at (10 + length text)
      → bytes_at q n (with_piece place next text page) ≡ bytes_at q n page
  beside_all q n head slot piece = headed q n head ∙ beside_slot q n slot ∙ beside_content q n piece

  -- the page still has its kind
  pub new_kind : slice_index (with_piece place next text page) 0 ≡ slice_index page 0
  new_kind =
      let inside = p.behind in
      sym (slice_index-bytes_at (with_piece place next text page) 0)
      ∙ ap (λ l. slice_index l 0) (beside_all 0 1 (inl (omega arith)) (inl (omega arith)) (inl (omega (arith, inside))))
      ∙ slice_index-bytes_at page 0

  -- another slot stays
  same_slot : (s off : ℕ) → s < place.count → s ≢ place.slot → off + 2 ≤ 4
      → field 2 (slot_at s + off) (with_piece place next text page) ≡ field 2 (slot_at s + off) page
  same_slot s off inside differ part =
      let behind = p.behind in
      field-bytes_at 2 (slot_at s + off) page (with_piece place next text page) (beside_all (slot_at s + off) 2 (inr (omega arith))
      (split (slot_order s place.slot differ) (λ l. inl (omega (arith, l, part))) (λ r. inr (omega (arith, r)))) (inl (omega (arith, behind, inside, part))))

  -- every other piece begins where it did
  pub same_at : (s : ℕ) → s < place.count → s ≢ place.slot → piece_at s (with_piece place next text page) ≡ piece_at s page
  same_at s inside differ = ap (λ n. field 2 n (with_piece place next text page)) (omega arith) ∙ same_slot s 0 inside differ (omega arith)
      ∙ ap (λ n. field 2 n page) (omega arith)

  -- every other piece is as long as it was
  pub same_length : (s : ℕ) → s < place.count → s ≢ place.slot → piece_length s (with_piece place next text page) ≡ piece_length s page
  same_length s inside differ = same_slot s 2 inside differ (omega arith)

  -- the new slot
  pub new_at : piece_at place.slot (with_piece place next text page) ≡ place.at
  new_at =
      let long = long_content in let slot = below in let inside = p.inside in
      let half = length-with_field 2 content (slot_at place.slot) place.at (omega (arith, long, slot)) in
      field-bytes_at 2 (slot_at place.slot) slotted (with_piece place next text page) (headed (slot_at place.slot) 2 (inr (omega arith)))
      ∙ field_apart 2 (slot_at place.slot) 2 (with_field 2 content (slot_at place.slot) place.at) (slot_at place.slot + 2) (10 + length text)
      (inl (omega arith)) (omega (arith, long, slot, half))
      ∙ field-written 2 (slot_at place.slot) place.at content (omega (arith, inside)) (omega (arith, long, slot))

  -- the new piece has its ten bytes of reference and the text's
  pub new_length : piece_length place.slot (with_piece place next text page) ≡ 10 + length text
  new_length =
      let long = long_content in let slot = below in let inside = p.inside in
      let half = length-with_field 2 content (slot_at place.slot) place.at (omega (arith, long, slot)) in
      field-bytes_at 2 (slot_at place.slot + 2) slotted (with_piece place next text page) (headed (slot_at place.slot + 2) 2 (inr (omega arith)))
      ∙ field-written 2 (slot_at place.slot + 2) (10 + length text) (with_field 2 content (slot_at place.slot) place.at) (omega (arith, inside))
      (omega (arith, long, slot, half))

  -- a range of the new piece
  of_piece : (q n : ℕ) → place.at ≤ q → bytes_at q n (with_piece place next text page) ≡ bytes_at q n content
  of_piece q n behind =
      let low = p.behind in let slot = p.slot in
      headed q n (inr (omega (arith, low, behind))) ∙ beside_slot q n (inr (omega (arith, low, behind, slot)))

  -- the new piece leads to the reference that was given, if its page has eight bytes and its slot two
  pub new_next : next.page < 256 ^ 8 → next.slot < 256 ^ 2 → next_piece place.slot (with_piece place next text page) ≡ next
  new_next page_small slot_small =
      let new = with_piece place next text page in
      let inside = p.inside in let one = long_first in let two = long_second in
      let page_is : field 8 place.at new ≡ next.page =
      field-bytes_at 8 place.at content new (of_piece place.at 8 (omega arith))
      ∙ field-bytes_at 8 place.at second content (bytes_beside place.at 8 second (place.at + 10) text (inl (omega arith)) (omega (arith, two, inside)))
      ∙ field_apart 8 place.at 2 first (place.at + 8) next.slot (inl (omega arith)) (omega (arith, one, inside))
      ∙ field-written 8 place.at next.page page page_small (omega (arith, long, inside)) in
      let slot_is : field 2 (place.at + 8) new ≡ next.slot =
      field-bytes_at 2 (place.at + 8) content new (of_piece (place.at + 8) 2 (omega arith))
      ∙ field-bytes_at 2 (place.at + 8) second content
      (bytes_beside (place.at + 8) 2 second (place.at + 10) text (inl (omega arith)) (omega (arith, two, inside)))
      ∙ field-written 2 (place.at + 8) next.slot first slot_small (omega (arith, one, inside)) in
      ap (λ at. record { page = field 8 at new; slot = field 2 (at + 8) new }) new_at ∙ (λ i. record { page = page_is i; slot = slot_is i })

  -- the new piece has the text that was given
  pub new_text : piece_text place.slot (with_piece place next text page) ≡ text
  new_text =
      let new = with_piece place next text page in
      let two = long_second in let inside = p.inside in
      let size : piece_length place.slot new - 10 ≡ length text = let is = new_length in omega (arith, is) in
      (λ i. bytes_at (new_at i + 10) (size i) new) ∙ of_piece (place.at + 10) (length text) (omega arith)
      ∙ bytes_at-written second (place.at + 10) text (omega (arith, two, inside))

  -- an old piece is as it was
  module _ (s : ℕ) (has : HasPiece page s) (small : 11 ≤ piece_length s page) (fits : piece_at s page + piece_length s page ≤ 4096) where
    differs : s ≢ place.slot
    differs is = p.free (subst (HasPiece page) is has)

    was_inside : s < place.count
    was_inside = p.kept s has.0

    -- the page still has it
    pub still_has : HasPiece (with_piece place next text page) s
    still_has = let count = new_count in let same = same_at s was_inside differs in let some = has.1 in let inside = was_inside in
        (omega (arith, count, inside), omega (arith, same, some))

    range_stays : (off n : ℕ) → off + n ≤ piece_length s page
        → bytes_at (piece_at s page + off) n (with_piece place next text page) ≡ bytes_at (piece_at s page + off) n page
    range_stays off n part =
        let above = p.above s has in let low = p.behind in let slot = p.slot in
        beside_all (piece_at s page + off) n (inr (omega (arith, above, low))) (inr (omega (arith, above, low, slot))) (inr (omega (arith, above)))

    -- it leads to the piece that it led to
    pub same_next : next_piece s (with_piece place next text page) ≡ next_piece s page
    same_next =
        let new = with_piece place next text page in let at = piece_at s page in
        let page_is : field 8 at new ≡ field 8 at page = ap (λ n. field 8 n new) (omega arith)
        ∙ field-bytes_at 8 (at + 0) page new (range_stays 0 8 (omega (arith, small))) ∙ ap (λ n. field 8 n page) (omega arith) in
        let slot_is : field 2 (at + 8) new ≡ field 2 (at + 8) page = field-bytes_at 2 (at + 8) page new (range_stays 8 2 (omega (arith, small))) in
        ap (λ at. record { page = field 8 at new; slot = field 2 (at + 8) new }) (same_at s was_inside differs)
        ∙ (λ i. record { page = page_is i; slot = slot_is i })

    -- it has the text that it had
    pub same_text : piece_text s (with_piece place next text page) ≡ piece_text s page
    same_text =
        let new = with_piece place next text page in
        let at = same_at s was_inside differs in let size = same_length s was_inside differs in
        (λ i. bytes_at (at i + 10) (size i - 10) new) ∙ range_stays 10 (piece_length s page - 10) (omega (arith, small))
