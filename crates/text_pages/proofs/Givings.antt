-- What the calls read where the pages are in the form of texts: the head, a text page, a piece, or a page is needed.
use Rattle.std.proofs.Common.{◌≡◌, ◌≢◌, ℕ, ◌+◌, ◌<◌, ◌≤◌, ◌==◌, ◌&&◌, inl, Bool, true, false, not, nat_le, nat_lt, List, slice_index, Option, Some, None, Ok, refl, sym, ap, ◌∙◌, subst, arith, IsTrue, if◌then◌else◌}
use Rattle.std.proofs.lemmas.Bool.Decides.{nat_tests}
use Rattle.page_bytes.specs.declared.ids.Space.{Space}
use Rattle.page_bytes.specs.declared.ids.PageId.{PageId}
use Rattle.page_bytes.specs.declared.texts.TextRef.{TextRef}
use Rattle.page_bytes.specs.Head.{head_of, is_head, head_in}
use Rattle.page_bytes.specs.Known.{Known, is_there}
use Rattle.page_bytes.specs.Links.{page_in, and_then, asked, tested}
use Rattle.page_bytes.specs.Texts.{TEXT_KIND, slot_count, piece_at, piece_length, has_piece}
use Rattle.text_pages.specs.declared.forms.Tried.TheVariants.{Absent}
use Rattle.text_pages.specs.Slots.{lowest, slots_end, is_writable, room, place_for, may_go}
use Rattle.text_pages.specs.Finding.{tried_first, first_in, text_page, offered, tried_in, room_in, piece_in}
use Rattle.page_bytes.specs.Seen.{bytes}
use Rattle.text_pages.specs.Meaning.{IsTextPage, HasPiece, IsSound, IsForm, IsPiece}
use Rattle.page_bytes.proofs.Askings.{Gives, gives_then}
use Rattle.text_pages.proofs.PageSteps.{head_is_none}
use Rattle.text_pages.proofs.Reached.{among, asked-among}

-- a sound page passes the tests
pub slotted : (page : List ℕ) → slice_index page 0 ≡ TEXT_KIND → IsSound page → is_writable page ≡ true
slotted page kind sound = passes (slice_index page 0) (slots_end page) (lowest page) kind sound.slots sound.low
  where
    passes : (k e l : ℕ) → k ≡ 5 → e ≤ l → l ≤ 4096 → (k == 5 && nat_le e l && nat_le l 4096) ≡ true
    passes k e l five slots low = grind (arith, nat_tests)

-- a page that has a piece in a slot passes that test
pub has_piece_true : (page : List ℕ) (slot : ℕ) → HasPiece page slot → has_piece slot page ≡ true
has_piece_true page slot has = passes slot (slot_count page) (piece_at slot page) has.0 has.1
  where
    passes : (s c a : ℕ) → s < c → 0 < a → (nat_lt s c && not (a == 0)) ≡ true
    passes s c a inside some = grind (arith, nat_tests)

-- each piece of a sound page passes the test of one that may be taken out
pub may_go_true : (page : List ℕ) (slot : ℕ) → IsSound page → HasPiece page slot → may_go slot page ≡ true
may_go_true page slot sound has =
    let within = sound.inside slot has in let slots = sound.slots in
    passes (slots_end page) (piece_at slot page) (piece_length slot page) (lowest page) (omega (arith, slots, within)) within.1 within.2 within.0
  where
    passes : (e a n l : ℕ) → e ≤ a → 11 ≤ n → a + n ≤ 4096 → l ≤ a → (nat_le e a && nat_le 11 n && nat_le (a + n) 4096 && nat_le l a) ≡ true
    passes e a n l behind long within low = grind (arith, nat_tests)

module _ (set : ℕ → Bool) (k : Known) (all : PageId → Option (List ℕ)) (space : Space) where
  module _ (form : IsForm (among set k all space)) where
    -- the page that is tried first
    pub first-is : Gives k all space (first_in k space) (tried_first (bytes (among set k all space) 0)) (IsTrue (is_there k (head_of space)))
    first-is =
        let head = bytes (among set k all space) 0 in let long = form.long in
        gives_then k all space (head_in k space) (λ head. Ok (tried_first head)) head _
        (gives_then k all space (asked k (head_of space) (head_of space)) (λ head. tested (head_of space) (is_head head) head) head head
        (asked-among set k all space (head_of space) 0 (omega (arith, long)))
        (λ there. inl (ap (λ b. tested (head_of space) b head) form.head, there)))
        (λ there. inl (refl, there))

    -- a text page
    pub text_page-is : (from n : ℕ) → IsTextPage (among set k all space) n
        → Gives k all space (text_page k space from n) (bytes (among set k all space) n) (IsTrue (is_there k (page_in space n)))
    text_page-is from n is =
        let page = bytes (among set k all space) n in let long = (form.sound n is).long in
        gives_then k all space (asked k (page_in space from) (page_in space n)) (λ page. tested (page_in space n) (is_writable page) page) page _
        (asked-among set k all space (page_in space from) n (omega (arith, long)))
        (λ there. inl (ap (λ b. tested (page_in space n) b page) (slotted page is (form.sound n is)), there))

    text_past : (n : ℕ) → IsTextPage (among set k all space) n → (n == 0) ≡ false
    text_past n is = past n (λ zero_is. head_is_none (bytes (among set k all space) 0) form.head (subst (IsTextPage (among set k all space)) zero_is is))
      where
        past : (n : ℕ) → n ≢ 0 → (n == 0) ≡ false
        past n differ = grind (arith, nat_tests)

    -- what it has for a piece, and its room
    pub tried-is : (n size : ℕ) → IsTextPage (among set k all space) n
        → Gives k all space (tried_in k space n size) (offered n (place_for size (bytes (among set k all space) n)) (bytes (among set k all space) n))
        (IsTrue (is_there k (page_in space n)))
    tried-is n size is =
        let page = bytes (among set k all space) n in
        subst (λ b. Gives k all space (if b then Ok Absent else and_then (text_page k space 0 n) (λ page. Ok (offered n (place_for size page) page)))
        (offered n (place_for size page) page) (IsTrue (is_there k (page_in space n)))) (sym (text_past n is))
        (gives_then k all space (text_page k space 0 n) (λ page. Ok (offered n (place_for size page) page)) page _ (text_page-is 0 n is)
        (λ there. inl (refl, there)))

    -- the room of a text page is given, or the page is needed
    pub room-is : (n : ℕ) → IsTextPage (among set k all space) n
        → Gives k all space (room_in k space n) (Some (room (bytes (among set k all space) n))) (Unit {0})
    room-is n is =
        let page = bytes (among set k all space) n in
        subst (λ b. Gives k all space (if b then Ok None else and_then (text_page k space 0 n) (λ page. Ok (Some (room page)))) (Some (room page)) (Unit {0}))
        (sym (text_past n is))
        (gives_then k all space (text_page k space 0 n) (λ page. Ok (Some (room page))) page _ (text_page-is 0 n is) (λ there. inl (refl, tt)))

    -- a piece
    pub piece-is : (from : ℕ) (at : TextRef) → IsPiece (among set k all space) at
        → Gives k all space (piece_in k space from at) (bytes (among set k all space) at.page) (IsTrue (is_there k (page_in space at.page)))
    piece-is from at is =
        let page = bytes (among set k all space) at.page in
        gives_then k all space (text_page k space from at.page)
        (λ page. and_then (tested (page_in space from) (has_piece at.slot page) page) (λ page. tested (page_in space at.page) (may_go at.slot page) page))
        page _ (text_page-is from at.page is.0)
        (λ there. inl (
          ap (λ b. and_then (tested (page_in space from) b page) (λ page. tested (page_in space at.page) (may_go at.slot page) page))
              (has_piece_true page at.slot is.1)
              ∙ ap (λ b. tested (page_in space at.page) b page) (may_go_true page at.slot (form.sound at.page is.0) is.1),
          there,
        ))
