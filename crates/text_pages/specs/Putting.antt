-- How a text is put on pages: piece by piece, from the last one to the first.
use Rattle.std.specs.Prelude.{ℕ, zero, suc, ◌+◌, ◌-◌, ◌*◌, ◌/◌, List, length, Option, Some, None, Result, Ok, if◌then◌else◌}
use Rattle.page_bytes.specs.declared.ids.Space.{Space}
use Rattle.page_bytes.specs.declared.texts.TextRef.{TextRef}
use Rattle.page_bytes.specs.declared.end.PageEnd.{PageEnd}
use Rattle.page_bytes.specs.Fields.{with_field, bytes_at}
use Rattle.page_bytes.specs.Head.{head_of}
use Rattle.page_bytes.specs.Links.{page_in, and_then}
use Rattle.page_bytes.specs.Refusal.{fresh_refusal}
use Rattle.page_bytes.specs.Work.{Work, with_page, first_bytes, with_fresh, next_in}
use Rattle.text_pages.specs.declared.forms.Place.{Place}
use Rattle.text_pages.specs.declared.forms.Tried.{Tried}
use Rattle.text_pages.specs.declared.forms.Tried.TheVariants.{Absent, Full, Fits}
use Rattle.text_pages.specs.Slots.{with_piece, page_with_piece}
use Rattle.text_pages.specs.Finding.{first_in, tried_in, is_roomier}
use Rattle.page_bytes.specs.Answers.{unless}

-- how many bytes of text a piece has at most
abbrev pub PIECE_MOST : ℕ
PIECE_MOST = 4074

-- and how many bytes it has then with its reference to the next one
abbrev pub MOST_SIZE : ℕ
MOST_SIZE = 4084

-- the reference to no piece, which is that of the empty text
abbrev pub nowhere : TextRef
nowhere = record { page = 0; slot = 0 }

-- how many pieces a text has, and each by its number
abbrev pub piece_count : List ℕ → ℕ
piece_count bytes = (length bytes + 4073) / PIECE_MOST

-- the n-th piece of a text, from 0
abbrev pub piece_of : ℕ → List ℕ → List ℕ
piece_of n bytes = bytes_at (n * PIECE_MOST) PIECE_MOST bytes

-- the head has this page as the one that is tried first
abbrev pub with_first : Work → Space → ℕ → Work
with_first w space number = with_page w (head_of space) (with_field 8 (first_bytes w.now (head_of space)) 26 number)

-- a page has a piece more
abbrev pub with_piece_on : Work → Space → ℕ → Place → TextRef → List ℕ → Work
with_piece_on w space number place next text = with_page w (page_in space number) (with_piece place next text (first_bytes w.now (page_in space number)))

-- a new page has one piece and nothing else
abbrev pub with_new_page : Work → Space → TextRef → List ℕ → Work
with_new_page w space next text = with_page (with_fresh w space) (page_in space (next_in w space)) (page_with_piece next text)

-- how much room a new page with this text has left
abbrev pub room_left : List ℕ → ℕ
room_left text = PIECE_MOST - length text

-- a piece is put on a new page, which is tried first from then on if it has more room than the page that was tried
abbrev pub new_piece_in : Work → Space → Option ℕ → TextRef → List ℕ → Result (TextRef × Work) PageEnd
new_piece_in w space tried next text =
    unless (fresh_refusal w.now space) (
      record { page = next_in w space; slot = 0 },
      if is_roomier (room_left text) tried then with_first (with_new_page w space next text) space (next_in w space)
          else with_new_page w space next text,
    )

-- a piece is put on the page that is tried first where it fits there, and else on a new one
abbrev pub put_on : Work → Space → ℕ → Tried → TextRef → List ℕ → Result (TextRef × Work) PageEnd
put_on w space number Absent next text = new_piece_in w space None next text
put_on w space number (Full room) next text = new_piece_in w space (Some room) next text
put_on w space number (Fits place) next text = Ok (record { page = number; slot = place.slot }, with_piece_on w space number place next text)

-- a piece is put before the reference `next`, with the page that the head tries first looked at first
abbrev pub piece_put_in : Work → Space → TextRef → List ℕ → Result (TextRef × Work) PageEnd
piece_put_in w space next text =
    and_then (first_in w.now space) (λ number.
    and_then (tried_in w.now space number (10 + length text)) (λ tried. put_on w space number tried next text))

-- so many pieces of a text, from the first on, are put before the reference `next`
abbrev pub pieces_put_in : ℕ → Work → Space → TextRef → List ℕ → Result (TextRef × Work) PageEnd
pieces_put_in zero w space next bytes = Ok (next, w)
pieces_put_in (suc n) w space next bytes = and_then (piece_put_in w space next (piece_of n bytes)) (λ put. pieces_put_in n put.1 space put.0 bytes)

-- a text is put
abbrev pub put_in : Work → Space → List ℕ → Result (TextRef × Work) PageEnd
put_in w space bytes = pieces_put_in (piece_count bytes) w space nowhere bytes
