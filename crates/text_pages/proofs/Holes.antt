-- What a page is like once a piece was taken out: its length and its lowest piece.
use Rattle.std.proofs.Common.{◌≡◌, ℕ, zero, suc, ◌+◌, ◌-◌, ◌<◌, ◌≤◌, ◌==◌, ◌&&◌, Bool, true, false, not, nat_lt, List, length, drop, ◌∙◌, arith, if◌then◌else◌, length-drop}
use Rattle.std.proofs.lemmas.List.{length-take-le}
use Rattle.page_bytes.specs.Fields.{bytes_at, with_field}
use Rattle.page_bytes.specs.Texts.{slot_at, piece_at}
use Rattle.page_bytes.proofs.FieldLaws.{length-with_bytes, field-written}
use Rattle.text_pages.specs.declared.forms.Hole.{Hole}
use Rattle.text_pages.specs.Slots.{lowest, with_slot, moved_slot, moved_slots, moved_pieces, closed}
use Rattle.text_pages.specs.Inside.{IsHole}
use Rattle.page_bytes.proofs.WrittenFields.{length-with_field}

-- n bytes inside a page are n bytes
pub length-bytes_at : (at n : ℕ) (page : List ℕ) → at + n ≤ length page → length (bytes_at at n page) ≡ n
length-bytes_at at n page inside = let left = length-drop at page in length-take-le n (drop at page) (omega (arith, left, inside))

-- a page in which a slot is written still has 4,096 bytes
pub length-with_slot : (slot at len : ℕ) (page : List ℕ) → slot < 1022 → length page ≡ 4096 → length (with_slot slot at len page) ≡ 4096
length-with_slot slot at len page below long =
    let first = length-with_field 2 page (slot_at slot) at (omega (arith, long, below)) in
    length-with_field 2 (with_field 2 page (slot_at slot) at) (slot_at slot + 2) len (omega (arith, long, below, first)) ∙ first ∙ long

module _ (hole : Hole) (inside : IsHole hole) where
  -- a page in which one slot follows its piece still has 4,096 bytes
  pub length-moved_slot : (n : ℕ) (page : List ℕ) → n < 1022 → length page ≡ 4096 → length (moved_slot hole n page) ≡ 4096
  length-moved_slot n page below long = at (not (piece_at n page == 0) && nat_lt (piece_at n page) hole.at)
    where
      at : (b : Bool) → length (if b then with_field 2 page (slot_at n) (piece_at n page + hole.length) else page) ≡ 4096
      at true = length-with_field 2 page (slot_at n) (piece_at n page + hole.length) (omega (arith, long, below)) ∙ long
      at false = long

  -- a page in which all slots follow their pieces still has 4,096 bytes
  pub length-moved_slots : (n : ℕ) (page : List ℕ) → n ≤ 1022 → length page ≡ 4096 → length (moved_slots hole n page) ≡ 4096
  length-moved_slots zero page below long = long
  length-moved_slots (suc n) page below long =
      length-moved_slot n (moved_slots hole n page) (omega (arith, below)) (length-moved_slots n page (omega (arith, below)) long)

  -- a page in which the pieces below the hole are moved up still has 4,096 bytes
  pub length-moved_pieces : (page : List ℕ) → length page ≡ 4096 → length (moved_pieces hole page) ≡ 4096
  length-moved_pieces page long =
      let size = length-bytes_at hole.lowest (hole.at - hole.lowest) page (omega (arith, long, inside)) in
      length-with_bytes page (hole.lowest + hole.length) (bytes_at hole.lowest (hole.at - hole.lowest) page) (omega (arith, long, size, inside)) ∙ long

  -- the page with its pieces and slots moved and the hole's slot free, all but the lowest piece noted
  abbrev pub slots_closed : List ℕ → List ℕ
  slots_closed page = with_slot hole.slot 0 0 (moved_slots hole hole.count (moved_pieces hole page))

  -- this page still has 4,096 bytes
  pub length-slots_closed : (page : List ℕ) → length page ≡ 4096 → length (slots_closed page) ≡ 4096
  length-slots_closed page long =
      length-with_slot hole.slot 0 0 (moved_slots hole hole.count (moved_pieces hole page)) (omega (arith, inside))
      (length-moved_slots hole.count (moved_pieces hole page) inside.0 (length-moved_pieces page long))

  -- the lowest piece is higher by the hole's length
  pub lowest-closed : (page : List ℕ) → length page ≡ 4096 → lowest (closed hole page) ≡ hole.lowest + hole.length
  lowest-closed page long =
      let same = length-slots_closed page long in
      field-written 2 4 (hole.lowest + hole.length) (slots_closed page) (omega (arith, inside)) (omega (arith, same))
