-- How the calls ask for the head and for text pages.
use Rattle.std.specs.Prelude.{ℕ, ◌==◌, nat_lt, Bool, true, List, Option, Some, None, Result, Ok, if◌then◌else◌}
use Rattle.page_bytes.specs.declared.ids.Space.{Space}
use Rattle.page_bytes.specs.declared.texts.TextRef.{TextRef}
use Rattle.page_bytes.specs.declared.end.PageEnd.{PageEnd}
use Rattle.page_bytes.specs.Fields.{field}
use Rattle.page_bytes.specs.Known.{Known}
use Rattle.page_bytes.specs.Head.{head_in}
use Rattle.page_bytes.specs.Links.{page_in, and_then, asked, tested}
use Rattle.page_bytes.specs.Texts.{has_piece}
use Rattle.text_pages.specs.declared.forms.Place.{Place}
use Rattle.text_pages.specs.declared.forms.Tried.{Tried}
use Rattle.text_pages.specs.declared.forms.Tried.TheVariants.{Absent, Full, Fits}
use Rattle.text_pages.specs.Slots.{is_writable, room, place_for, may_go}

-- the text page that is tried first, as the head has it: its number, or 0
abbrev pub tried_first : List ℕ → ℕ
tried_first head = field 8 26 head

-- the head's one, once the head has passed its test
abbrev pub first_in : Known → Space → Result ℕ PageEnd
first_in k space = and_then (head_in k space) (λ head. Ok (tried_first head))

-- a text page to which the page `from` leads, once it has passed its test
abbrev pub text_page : Known → Space → ℕ → ℕ → Result (List ℕ) PageEnd
text_page k space from number =
    and_then (asked k (page_in space from) (page_in space number)) (λ page. tested (page_in space number) (is_writable page) page)

-- what the page with this number has for a piece of k bytes
abbrev pub offered : ℕ → Option Place → List ℕ → Tried
offered number (Some place) page = Fits place
offered number None page = Full (room page)

-- what the page that is tried first has for a piece of `size` bytes, if there is one
abbrev pub tried_in : Known → Space → ℕ → ℕ → Result Tried PageEnd
tried_in k space number size =
    if number == 0 then Ok Absent else and_then (text_page k space 0 number) (λ page. Ok (offered number (place_for size page) page))

-- the room of the page that is tried first, if there is one
abbrev pub room_in : Known → Space → ℕ → Result (Option ℕ) PageEnd
room_in k space number = if number == 0 then Ok None else and_then (text_page k space 0 number) (λ page. Ok (Some (room page)))

-- whether a page with so much room is to be tried first: there is none, or it has less room
abbrev pub is_roomier : ℕ → Option ℕ → Bool
is_roomier more None = true
is_roomier more (Some less) = nat_lt less more

-- the page of a piece to which the page `from` leads, once both have passed their tests. A page without the slot damages `from`
abbrev pub piece_in : Known → Space → ℕ → TextRef → Result (List ℕ) PageEnd
piece_in k space from at =
    and_then (text_page k space from at.page) (λ page.
    and_then (tested (page_in space from) (has_piece at.slot page) page) (λ page.
    tested (page_in space at.page) (may_go at.slot page) page))
