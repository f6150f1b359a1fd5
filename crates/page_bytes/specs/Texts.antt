-- Texts, which stand in pieces on text pages. A text page, of kind 5, has the number of its slots at 2 and the slots from
-- 8 on: where a piece begins, which is 0 where the slot is free, and how long it is. A piece is a reference to the next
-- one, of ten bytes, and at least one byte of the text. The reference with page 0 leads to no piece.
use Rattle.std.specs.Prelude.{◌≡◌, ℕ, zero, suc, ◌+◌, ◌-◌, ◌*◌, ◌<◌, ◌⊎◌, Bool, not, ◌&&◌, ◌==◌, nat_le, nat_lt, List, [], ◌++◌, slice_index, Result, Ok, Err, if◌then◌else◌}
use Rattle.page_bytes.specs.declared.ids.Space.{Space}
use Rattle.page_bytes.specs.declared.texts.TextRef.{TextRef}
use Rattle.page_bytes.specs.declared.end.PageEnd.{PageEnd}
use Rattle.page_bytes.specs.declared.end.PageEnd.TheVariants.{Damaged, NoMemory}
use Rattle.page_bytes.specs.Known.{Known}
use Rattle.page_bytes.specs.Fields.{field, bytes_at}
use Rattle.page_bytes.specs.Links.{page_in, and_then, asked, tested}

-- the first byte of every text page
abbrev pub TEXT_KIND : ℕ
TEXT_KIND = 5

-- how many slots a text page has
abbrev pub slot_count : List ℕ → ℕ
slot_count page = field 2 2 page

-- where a slot stands
abbrev pub slot_at : ℕ → ℕ
slot_at slot = 8 + slot * 4

-- where a slot's piece begins, and how long it is
abbrev pub piece_at : ℕ → List ℕ → ℕ
piece_at slot page = field 2 (slot_at slot) page

-- how many bytes the piece of a slot has, its reference among them
abbrev pub piece_length : ℕ → List ℕ → ℕ
piece_length slot page = field 2 (slot_at slot + 2) page

-- whether a page passes the test of a text page that is read: its kind, and that its slots lie inside it. Where its lowest piece
-- begins isn't asked: that is asked of a page that is written to
abbrev pub is_readable : List ℕ → Bool
is_readable page = slice_index page 0 == TEXT_KIND && nat_le (slot_at (slot_count page)) 4096

-- whether it has a piece in a slot
abbrev pub has_piece : ℕ → List ℕ → Bool
has_piece slot page = nat_lt slot (slot_count page) && not (piece_at slot page == 0)

-- whether that piece lies behind the slots and inside the page, and has a byte of text
abbrev pub is_piece : ℕ → List ℕ → Bool
is_piece slot page = nat_le (slot_at (slot_count page)) (piece_at slot page) && nat_le 11 (piece_length slot page) && nat_le
    (piece_at slot page + piece_length slot page) 4096

-- the reference to the next piece, and the bytes of the text
abbrev pub next_piece : ℕ → List ℕ → TextRef
next_piece slot page = record { page = field 8 (piece_at slot page) page; slot = field 2 (piece_at slot page + 8) page }

-- the bytes of the text in a piece: all after its reference of ten bytes
abbrev pub piece_text : ℕ → List ℕ → List ℕ
piece_text slot page = bytes_at (piece_at slot page + 10) (piece_length slot page - 10) page

-- the page of a piece to which the page `from` leads, once it has passed its tests. A page without the slot damages `from`
abbrev pub piece_page : Known → Space → ℕ → TextRef → Result (List ℕ) PageEnd
piece_page k space from at =
    and_then (asked k (page_in space from) (page_in space at.page)) (λ bytes.
    and_then (tested (page_in space at.page) (is_readable bytes) bytes) (λ page.
    and_then (tested (page_in space from) (has_piece at.slot page) page) (λ page.
    tested (page_in space at.page) (is_piece at.slot page) page)))

-- how far a text has been read: the piece that is next, the page that leads there, and the bytes so far
pub record Joined : Type 0 where
  pub at : TextRef
  pub from : ℕ
  pub text : List ℕ

-- the text read so far with the piece of this page joined on, and the piece after it next
abbrev pub with_piece : Joined → List ℕ → Joined
with_piece so_far page = record { at = next_piece so_far.at.slot page; from = so_far.at.page; text = so_far.text ++ piece_text so_far.at.slot page }

-- one piece more, if there is one
abbrev pub joined_more : Known → Space → Joined → Result Joined PageEnd
joined_more k space so_far =
    if so_far.at.page == 0 then Ok so_far else and_then (piece_page k space so_far.from so_far.at) (λ page. Ok (with_piece so_far page))

-- so many pieces from a reference on. The reference that a call is given is named by its own page
abbrev pub joined : Known → Space → TextRef → ℕ → Result Joined PageEnd
joined k space at zero = Ok (record { at = at; from = at.page; text = [] })
joined k space at (suc n) = and_then (joined k space at n) (joined_more k space)

-- the pieces lead back to one that was passed: the page with the link that does so is damaged
abbrev pub LeadsBack : Known → Space → TextRef → PageEnd → Type 0
LeadsBack k space at end =
    (m : ℕ) × ((n : ℕ) × ((r : Joined)
    × ((s : Joined) × ((m < n) × (joined k space at m ≡ Ok r) × (joined k space at n ≡ Ok s) × (s.at ≡ r.at) × (0 < r.at.page)
    × (end ≡ Damaged (page_in space s.from))))))

-- the text is that of all pieces from the reference on. A refusal is that of the first piece that can't be had, or the
-- pieces lead back
abbrev pub IsTextAt : Known → Space → TextRef → Result (List ℕ) PageEnd → Type 0
IsTextAt k space at (Ok text) = (n : ℕ) × ((r : Joined) × ((joined k space at n ≡ Ok r) × (r.at.page ≡ 0) × (text ≡ r.text)))
IsTextAt k space at (Err end) = (end ≡ NoMemory) ⊎ (((n : ℕ) × (joined k space at n ≡ Err end)) ⊎ LeadsBack k space at end)
