-- One text page, by its bytes: its slots, the room between them and its lowest piece, a piece put in, and one taken out.
use Rattle.std.specs.Prelude.{ℕ, zero, suc, ◌+◌, ◌-◌, Bool, true, not, ◌&&◌, ◌||◌, ◌==◌, nat_le, nat_lt, List, [], ◌∷◌, length, slice_index, Option, Some, None, if◌then◌else◌}
use Rattle.page_bytes.specs.declared.texts.TextRef.{TextRef}
use Rattle.page_bytes.specs.Fields.{field, with_field, bytes_at, with_bytes}
use Rattle.page_bytes.specs.Texts.{TEXT_KIND, slot_count, slot_at, piece_at, piece_length, is_piece}
use Rattle.page_bytes.specs.Work.{zeros}
use Rattle.text_pages.specs.declared.forms.Place.{Place}
use Rattle.text_pages.specs.declared.forms.Hole.{Hole}

-- where the lowest piece begins
abbrev pub lowest : List ℕ → ℕ
lowest page = field 2 4 page

-- where the slots end
abbrev pub slots_end : List ℕ → ℕ
slots_end page = slot_at (slot_count page)

-- whether a page passes the test of a text page that is written to: its kind, and that its lowest piece is behind its slots and
-- inside it, so that a piece may be put between them or taken out. For reading it is enough that the slots lie inside the page
abbrev pub is_writable : List ℕ → Bool
is_writable page = slice_index page 0 == TEXT_KIND && nat_le (slots_end page) (lowest page) && nat_le (lowest page) 4096

-- the room between the slots and the lowest piece
abbrev pub room : List ℕ → ℕ
room page = lowest page - slots_end page

-- the first free slot from a slot on, among so many, or the one behind them
abbrev pub free_from : ℕ → ℕ → List ℕ → ℕ
free_from zero slot page = slot
free_from (suc n) slot page = if piece_at slot page == 0 then slot else free_from n (slot + 1) page

-- the slot that a new piece gets: the first free one, or a new one behind the last
abbrev pub free_slot : List ℕ → ℕ
free_slot page = free_from (slot_count page) 0 page

-- and how many slots the page has then
abbrev pub slots_then : List ℕ → ℕ
slots_then page = if free_slot page == slot_count page then slot_count page + 1 else slot_count page

-- where a piece of k bytes goes: right below the lowest piece, if it then is behind the slots
abbrev pub place_for : ℕ → List ℕ → Option Place
place_for k page =
    if nat_le (slot_at (slots_then page) + k) (lowest page) then Some (record { slot = free_slot page; count = slots_then page; at = lowest page - k })
    else None

-- the page with a slot's two fields written
abbrev pub with_slot : ℕ → ℕ → ℕ → List ℕ → List ℕ
with_slot slot at len page = with_field 2 (with_field 2 page (slot_at slot) at) (slot_at slot + 2) len

-- the page with a piece written: the reference to the next one and the bytes of text
abbrev pub with_content : ℕ → TextRef → List ℕ → List ℕ → List ℕ
with_content at next text page = with_bytes (with_field 2 (with_field 8 page at next.page) (at + 8) next.slot) (at + 10) text

-- the page with a piece put in at a place, which is the lowest then
abbrev pub with_piece : Place → TextRef → List ℕ → List ℕ → List ℕ
with_piece place next text page =
    with_field 2 (with_field 2 (with_slot place.slot place.at (10 + length text) (with_content place.at next text page)) 2 place.count) 4 place.at

-- a new text page, with one piece
abbrev pub only_place : List ℕ → Place
only_place text = record { slot = 0; count = 1; at = 4096 - (10 + length text) }

-- a page of zeros but for its kind, with the piece put at its end
abbrev pub page_with_piece : TextRef → List ℕ → List ℕ
page_with_piece next text = with_piece (only_place text) next text (with_bytes zeros 0 (TEXT_KIND ∷ []))

-- the hole that a slot's piece leaves
abbrev pub hole_of : ℕ → List ℕ → Hole
hole_of slot page = record { slot = slot; at = piece_at slot page; length = piece_length slot page; count = slot_count page; lowest = lowest page }

-- the slot follows its piece where that was below the hole
abbrev pub moved_slot : Hole → ℕ → List ℕ → List ℕ
moved_slot hole slot page =
    if not (piece_at slot page == 0) && nat_lt (piece_at slot page) hole.at then with_field 2 page (slot_at slot) (piece_at slot page + hole.length)
    else page

-- so many slots follow their pieces
abbrev pub moved_slots : Hole → ℕ → List ℕ → List ℕ
moved_slots hole zero page = page
moved_slots hole (suc n) page = moved_slot hole n (moved_slots hole n page)

-- the pieces below the hole are moved up by its length
abbrev pub moved_pieces : Hole → List ℕ → List ℕ
moved_pieces hole page = with_bytes page (hole.lowest + hole.length) (bytes_at hole.lowest (hole.at - hole.lowest) page)

-- the page without the hole's piece: the pieces below it have moved up with their slots, and its slot is free
abbrev pub closed : Hole → List ℕ → List ℕ
closed hole page = with_field 2 (with_slot hole.slot 0 0 (moved_slots hole hole.count (moved_pieces hole page))) 4 (hole.lowest + hole.length)

-- whether of so many slots all but this one are free
abbrev pub others_free : ℕ → ℕ → List ℕ → Bool
others_free zero slot page = true
others_free (suc n) slot page = others_free n slot page && (n == slot || piece_at n page == 0)

-- whether a slot's piece is the page's only one
abbrev pub is_only : ℕ → List ℕ → Bool
is_only slot page = others_free (slot_count page) slot page

-- whether a slot's piece may be taken out: it lies right, and not before the lowest piece
abbrev pub may_go : ℕ → List ℕ → Bool
may_go slot page = is_piece slot page && nat_le (lowest page) (piece_at slot page)
