-- What the tests of a text page say, as facts.
use Rattle.std.proofs.Common.{◌≡◌, ℕ, ◌+◌, ◌<◌, ◌≤◌, ◌==◌, ◌&&◌, true, not, nat_le, nat_lt, List, slice_index}
use Rattle.std.proofs.lemmas.Bool.{ltb-true, leb-true, eqb-true}
use Rattle.page_bytes.proofs.Askings.{first_true, second_true, not_none}
use Rattle.page_bytes.specs.Texts.{slot_count, piece_at, piece_length, has_piece}
use Rattle.text_pages.specs.Slots.{lowest, slots_end, is_writable, may_go}

module _ (page : List ℕ) where
  -- a page that may be written to is a text page, with its slots before its lowest piece and that inside
  pub slotted_is : is_writable page ≡ true → (slice_index page 0 ≡ 5) × (slots_end page ≤ lowest page) × (lowest page ≤ 4096)
  slotted_is is =
      let five = slice_index page 0 == 5 in let slots = nat_le (slots_end page) (lowest page) in let low = nat_le (lowest page) 4096 in (
        eqb-true (slice_index page 0) 5 (first_true five slots (first_true (five && slots) low is)),
        leb-true (slots_end page) (lowest page)
            (second_true five slots (first_true (five && slots) low is)),
        leb-true (lowest page) 4096 (second_true (five && slots) low is),
      )

  -- a slot with a piece is one of the page's slots, and its piece begins past byte 0
  pub has_piece_is : (slot : ℕ) → has_piece slot page ≡ true → (slot < slot_count page) × (0 < piece_at slot page)
  has_piece_is slot is =
      let inside = nat_lt slot (slot_count page) in let some = not (piece_at slot page == 0) in
      (ltb-true slot (slot_count page) (first_true inside some is), not_none (piece_at slot page) (second_true inside some is))

  -- a piece that may go has a byte of text, ends inside the page and isn't before the lowest piece
  pub may_go_is : (slot : ℕ) → may_go slot page ≡ true
      → (11 ≤ piece_length slot page) × (piece_at slot page + piece_length slot page ≤ 4096) × (lowest page ≤ piece_at slot page)
  may_go_is slot is =
      let behind = nat_le (slots_end page) (piece_at slot page) in let long = nat_le 11 (piece_length slot page) in let within =
      nat_le (piece_at slot page + piece_length slot page) 4096 in
      let high = nat_le (lowest page) (piece_at slot page) in
      let piece = first_true (behind && long && within) high is in (
        leb-true 11 (piece_length slot page) (second_true behind long (first_true (behind && long) within piece)),
        leb-true (piece_at slot page + piece_length slot page) 4096 (second_true (behind && long) within piece),
        leb-true (lowest page) (piece_at slot page) (second_true (behind && long && within) high is),
      )
