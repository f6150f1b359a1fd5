-- A text page stays one where pieces and slots are written, whatever else its bytes are.
use Rattle.std.proofs.Common.{ℕ, zero, suc, ◌+◌, ◌-◌, ◌<◌, ◌≤◌, ◌==◌, ◌&&◌, Bool, true, false, not, nat_lt, List, length, if◌then◌else◌, arith}
use Rattle.page_bytes.specs.declared.texts.TextRef.{TextRef}
use Rattle.page_bytes.specs.Fields.{bytes_at, with_field}
use Rattle.page_bytes.specs.Texts.{TEXT_KIND, slot_at, piece_at}
use Rattle.page_bytes.proofs.WrittenFields.{IsOfKind, of_field, of_bytes}
use Rattle.text_pages.specs.declared.forms.Place.{Place}
use Rattle.text_pages.specs.declared.forms.Hole.{Hole}
use Rattle.text_pages.specs.Slots.{with_slot, with_content, with_piece, only_place, page_with_piece, moved_slot, moved_slots, moved_pieces, closed}
use Rattle.text_pages.specs.Inside.{IsHole}
use Rattle.text_pages.proofs.Holes.{length-bytes_at, slots_closed}
use Rattle.text_pages.proofs.Places.{blank, blank_kind, blank_long}

-- 4,096 bytes, and the kind of a text page
abbrev pub IsOfText : List ℕ → Type 0
IsOfText page = IsOfKind TEXT_KIND page

of_slot : (slot at len : ℕ) (page : List ℕ) → IsOfText page → slot < 1022 → IsOfText (with_slot slot at len page)
of_slot slot at len page is below =
    of_field TEXT_KIND 2 (with_field 2 page (slot_at slot) at) (slot_at slot + 2) len
    (of_field TEXT_KIND 2 page (slot_at slot) at is (omega arith) (omega (arith, below))) (omega arith) (omega (arith, below))

-- a piece is put in
pub of_piece : (place : Place) (next : TextRef) (text page : List ℕ) → IsOfText page → place.slot < 1022 → 1 ≤ place.at → place.at + (10 + length text) ≤ 4096
    → IsOfText (with_piece place next text page)
of_piece place next text page is below past within =
    let first = with_field 8 page place.at next.page in let second = with_field 2 first (place.at + 8) next.slot in
    let slotted = with_slot place.slot place.at (10 + length text) (with_content place.at next text page) in
    let one : IsOfText first = of_field TEXT_KIND 8 page place.at next.page is past (omega (arith, within)) in
    let two : IsOfText second = of_field TEXT_KIND 2 first (place.at + 8) next.slot one (omega arith) (omega (arith, within)) in
    let content : IsOfText (with_content place.at next text page) = of_bytes TEXT_KIND second (place.at + 10) text two (omega arith) (omega (arith, within)) in
    of_field TEXT_KIND 2 (with_field 2 slotted 2 place.count) 4 place.at
    (of_field TEXT_KIND 2 slotted 2 place.count (of_slot place.slot place.at (10 + length text) (with_content place.at next text page) content below)
    (omega arith) (omega arith)) (omega arith) (omega arith)

-- a new page with a text of at most 4,074 bytes has 4,096 bytes and the kind of a text page
pub of_new_page : (next : TextRef) (text : List ℕ) → length text ≤ 4074 → IsOfText (page_with_piece next text)
of_new_page next text short =
    of_piece (only_place text) next text blank (record { long = blank_long; kind_is = blank_kind }) (omega arith) (omega (arith, short)) (omega (arith, short))

-- a piece is taken out
module _ (hole : Hole) (inside : IsHole hole) (past : 1 ≤ hole.lowest) where
  of_moved_slot : (n : ℕ) (page : List ℕ) → IsOfText page → n < 1022 → IsOfText (moved_slot hole n page)
  of_moved_slot n page is below = at (not (piece_at n page == 0) && nat_lt (piece_at n page) hole.at)
    where
      at : (b : Bool) → IsOfText (if b then with_field 2 page (slot_at n) (piece_at n page + hole.length) else page)
      at true = of_field TEXT_KIND 2 page (slot_at n) (piece_at n page + hole.length) is (omega arith) (omega (arith, below))
      at false = is

  of_moved_slots : (n : ℕ) (page : List ℕ) → IsOfText page → n ≤ 1022 → IsOfText (moved_slots hole n page)
  of_moved_slots zero page is below = is
  of_moved_slots (suc n) page is below = of_moved_slot n (moved_slots hole n page) (of_moved_slots n page is (omega (arith, below))) (omega (arith, below))

  -- a page with a hole closed inside it has its 4,096 bytes and its kind still
  pub of_closed : (page : List ℕ) → IsOfText page → IsOfText (closed hole page)
  of_closed page is =
      let long = is.long in let size = length-bytes_at hole.lowest (hole.at - hole.lowest) page (omega (arith, long, inside)) in
      let pieces : IsOfText (moved_pieces hole page) =
      of_bytes TEXT_KIND page (hole.lowest + hole.length) (bytes_at hole.lowest (hole.at - hole.lowest) page) is (omega (arith, past))
      (omega (arith, size, inside)) in
      let slots = of_moved_slots hole.count (moved_pieces hole page) pieces inside.0 in
      of_field TEXT_KIND 2 (slots_closed hole inside page) 4 (hole.lowest + hole.length)
      (of_slot hole.slot 0 0 (moved_slots hole hole.count (moved_pieces hole page)) slots (omega (arith, inside))) (omega arith) (omega arith)
