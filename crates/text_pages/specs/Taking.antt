-- How a text is taken away: piece by piece, from the first one on. The reference to the next one is read before a piece goes,
-- so a chain that leads back comes to a slot that is free by then, or to a page that was freed.
use Rattle.std.specs.Prelude.{◌≡◌, ℕ, zero, suc, ◌+◌, ◌⊎◌, ◌==◌, List, Result, Ok, Err, if◌then◌else◌}
use Rattle.page_bytes.specs.declared.ids.Space.{Space}
use Rattle.page_bytes.specs.declared.texts.TextRef.{TextRef}
use Rattle.page_bytes.specs.declared.end.PageEnd.{PageEnd}
use Rattle.page_bytes.specs.declared.end.PageEnd.TheVariants.{NoMemory}
use Rattle.page_bytes.specs.Links.{page_in, and_then}
use Rattle.page_bytes.specs.Texts.{piece_length, next_piece}
use Rattle.page_bytes.specs.Known.{Known}
use Rattle.page_bytes.specs.Work.{Work, with_page, without_page, first_bytes}
use Rattle.text_pages.specs.declared.forms.Hole.{Hole}
use Rattle.text_pages.specs.declared.forms.Leaving.{Leaving}
use Rattle.text_pages.specs.Slots.{room, hole_of, is_only, closed}
use Rattle.text_pages.specs.Finding.{first_in, room_in, is_roomier, piece_in}
use Rattle.text_pages.specs.Putting.{with_first, put_in}

-- what is known of a piece before it goes
abbrev pub leaving_of : ℕ → List ℕ → Leaving
leaving_of slot page = record { only = is_only slot page; hole = hole_of slot page; room = room page + piece_length slot page; next = next_piece slot page }

-- the same, of a piece that has passed its tests
abbrev pub leaving_in : Known → Space → ℕ → TextRef → Result Leaving PageEnd
leaving_in k space from at = and_then (piece_in k space from at) (λ page. Ok (leaving_of at.slot page))

-- a page goes with its only piece. Where it was the one that is tried first there is none then
abbrev pub page_freed_in : Work → Space → ℕ → Result (Unit {0} × Work) PageEnd
page_freed_in w space number =
    and_then (first_in w.now space) (λ first.
    Ok (tt, if first == number then with_first (without_page w (page_in space number)) space 0 else without_page w (page_in space number)))

-- a page has so much room now. It is tried first from then on if another one is that has less
abbrev pub roomier_in : Work → Space → ℕ → ℕ → ℕ → Result (Unit {0} × Work) PageEnd
roomier_in w space first number room =
    if first == number then Ok (tt, w)
    else and_then (room_in w.now space first) (λ tried. Ok (tt, if is_roomier room tried then with_first w space number else w))

-- a page that is there has one piece less
abbrev pub with_hole : Work → Space → ℕ → Hole → Work
with_hole w space number hole = with_page w (page_in space number) (closed hole (first_bytes w.now (page_in space number)))

-- a piece goes from a page on which others stay
abbrev pub hole_made_in : Work → Space → ℕ → Hole → ℕ → Result (Unit {0} × Work) PageEnd
hole_made_in w space number hole room = and_then (first_in w.now space) (λ first. roomier_in (with_hole w space number hole) space first number room)

-- a piece goes from its page
abbrev pub piece_gone_in : Work → Space → ℕ → Leaving → Result (Unit {0} × Work) PageEnd
piece_gone_in w space number leaving =
    if leaving.only then page_freed_in w space number else hole_made_in w space number leaving.hole leaving.room

-- a piece to which the page `from` leads is taken away, and the reference to the next one is given
abbrev pub piece_taken_in : Work → Space → ℕ → TextRef → Result (TextRef × Work) PageEnd
piece_taken_in w space from at =
    and_then (leaving_in w.now space from at) (λ leaving.
    and_then (piece_gone_in w space at.page leaving) (λ gone. Ok (leaving.next, gone.1)))

-- how far a text has been taken away: the piece that is next, the page that led there, and the workspace
pub record Taken : Type 0 where
  pub at : TextRef
  pub from : ℕ
  pub work : Work

-- one piece more, if there is one
abbrev pub taken_more : Space → Taken → Result Taken PageEnd
taken_more space so_far =
    if so_far.at.page == 0 then Ok so_far
    else and_then (piece_taken_in so_far.work space so_far.from so_far.at) (λ taken. Ok (record { at = taken.0; from = so_far.at.page; work = taken.1 }))

-- so many pieces from a reference on. The reference that a call is given is named by its own page
abbrev pub taken_in : Work → Space → TextRef → ℕ → Result Taken PageEnd
taken_in w space at zero = Ok (record { at = at; from = at.page; work = w })
taken_in w space at (suc n) = and_then (taken_in w space at n) (taken_more space)

-- the text is gone with all its pieces. A refusal is that of the first piece that can't be taken away
abbrev pub IsRemoved : Work → Space → TextRef → Result (Unit {0}) PageEnd → Work → Type 0
IsRemoved w space at (Ok done) new = (n : ℕ) × ((t : Taken) × ((taken_in w space at n ≡ Ok t) × (t.at.page ≡ 0) × (new ≡ t.work)))
IsRemoved w space at (Err end) new = (end ≡ NoMemory) ⊎ ((n : ℕ) × (taken_in w space at n ≡ Err end))

-- the text is gone, and another one is put. A refusal is that of the one or the other
abbrev pub IsReplaced : Work → Space → TextRef → List ℕ → Result TextRef PageEnd → Work → Type 0
IsReplaced w space at bytes (Ok ref) new =
    (n : ℕ) × ((t : Taken) × ((taken_in w space at n ≡ Ok t) × (t.at.page ≡ 0) × (put_in t.work space bytes ≡ Ok (ref, new))))
IsReplaced w space at bytes (Err end) new =
    (end ≡ NoMemory) ⊎ (((n : ℕ) × (taken_in w space at n ≡ Err end))
    ⊎ ((n : ℕ) × ((t : Taken) × ((taken_in w space at n ≡ Ok t) × (t.at.page ≡ 0) × (put_in t.work space bytes ≡ Err end)))))
