-- What the workspace may be once a piece was taken away, and what the tests before that say.
use Rattle.std.proofs.Common.{◌≡◌, ℕ, ◌==◌, Bool, true, false, List, length, Option, Some, Ok, sym, ap, ◌∙◌, subst, unwrap_or, if◌then◌else◌, arith}
use Rattle.std.specs.FinMap as map
use Rattle.page_bytes.specs.declared.ids.Space.{Space}
use Rattle.page_bytes.specs.declared.ids.PageId.{PageId}
use Rattle.page_bytes.specs.declared.texts.TextRef.{TextRef}
use Rattle.page_bytes.specs.Head.{head_of, is_head, head_in}
use Rattle.page_bytes.specs.Known.{Known}
use Rattle.page_bytes.specs.Links.{page_in, and_then, asked, tested}
use Rattle.page_bytes.specs.Texts.{has_piece}
use Rattle.page_bytes.specs.Work.{Work, without_page, zeros}
use Rattle.text_pages.specs.Slots.{is_writable, hole_of, may_go}
use Rattle.text_pages.specs.Finding.{tried_first, first_in, room_in, is_roomier, text_page, piece_in}
use Rattle.text_pages.specs.Putting.{with_first}
use Rattle.text_pages.specs.Taking.{leaving_of, leaving_in, page_freed_in, roomier_in, with_hole, hole_made_in, piece_gone_in, piece_taken_in}
use Rattle.text_pages.specs.Inside.{IsLong, IsHole}
use Rattle.page_bytes.proofs.Askings.{both_gave, test_passed, asked_there, one_value}
use Rattle.text_pages.proofs.Passing.{slotted_is, has_piece_is, may_go_is}

-- a head that was tested is there
pub first_there : (k : Known) (space : Space) (n : ℕ) → first_in k space ≡ Ok n
    → (head : List ℕ) × ((map.get k.pages (head_of space) ≡ Some head) × (n ≡ tried_first head) × (is_head head ≡ true))
first_there k space n is =
    let whole = both_gave (head_in k space) (λ head. Ok (tried_first head)) n is in
    let asked_is = both_gave (asked k (head_of space) (head_of space)) (λ head. tested (head_of space) (is_head head) head) whole.0 whole.1.0 in
    let passed = test_passed (head_of space) (is_head asked_is.0) asked_is.0 whole.0 asked_is.1.1 in (
      asked_is.0,
      (
        asked_there k (head_of space) (head_of space) asked_is.0 asked_is.1.0,
        sym (one_value (tried_first whole.0) n whole.1.1) ∙ ap tried_first (sym passed.1),
        passed.0,
      ),
    )

-- a text page that was tested is there
pub slotted_there : (k : Known) (space : Space) (from number : ℕ) (page : List ℕ) → text_page k space from number ≡ Ok page
    → (map.get k.pages (page_in space number) ≡ Some page) × (is_writable page ≡ true)
slotted_there k space from number page is =
    let id = page_in space number in
    let found = both_gave (asked k (page_in space from) id) (λ page. tested id (is_writable page) page) page is in
    let slotted = test_passed id (is_writable found.0) found.0 page found.1.1 in
    (asked_there k (page_in space from) id found.0 found.1.0 ∙ (λ i. Some (slotted.1 i)), ap is_writable (sym slotted.1) ∙ slotted.0)

-- a page that was tested for a piece is there, with what its tests say
pub record IsTested (k : Known) (space : Space) (at : TextRef) (page : List ℕ) : Type 0 where
  pub there : map.get k.pages (page_in space at.page) ≡ Some page
  pub slotted : is_writable page ≡ true
  pub has : has_piece at.slot page ≡ true
  pub may : may_go at.slot page ≡ true

-- a piece that was given for taking away is on this page, which is there, and both passed their tests
pub piece_there : (k : Known) (space : Space) (from : ℕ) (at : TextRef) (page : List ℕ) → piece_in k space from at ≡ Ok page → IsTested k space at page
piece_there k space from at page is =
    let id = page_in space at.page in
    let found = both_gave (text_page k space from at.page)
    (λ page. and_then (tested (page_in space from) (has_piece at.slot page) page) (λ page. tested id (may_go at.slot page) page)) page is in
    let first = slotted_there k space from at.page found.0 found.1.0 in
    let second = both_gave (tested (page_in space from) (has_piece at.slot found.0) found.0) (λ page. tested id (may_go at.slot page) page) page found.1.1 in
    let has = test_passed (page_in space from) (has_piece at.slot found.0) found.0 second.0 second.1.0 in
    let may = test_passed id (may_go at.slot second.0) second.0 page second.1.1 in
    let same = has.1 ∙ may.1 in
    record {
      there = first.0 ∙ (λ i. Some (same i));
      slotted = ap is_writable (sym same) ∙ first.1;
      has = ap (has_piece at.slot) (sym same) ∙ has.0;
      may = ap (may_go at.slot) (sym may.1) ∙ may.0;
    }

-- a hole that a tested piece leaves is inside its page
pub hole_inside : (k : Known) (space : Space) (at : TextRef) (page : List ℕ) → IsTested k space at page → IsHole (hole_of at.slot page)
hole_inside k space at page t =
    let slotted = slotted_is page t.slotted in let has = has_piece_is page at.slot t.has in let may = may_go_is page at.slot t.may in
    (omega (arith, slotted), has.0, may.2, may.1)

-- a page that is there as one of 4,096 bytes has 4,096 bytes
pub long_bytes : (k : Known) (id : PageId) (page : List ℕ) → map.get k.pages id ≡ Some page → IsLong k id → length page ≡ 4096
long_bytes k id page is long = ap (λ (o : Option (List ℕ)). length (unwrap_or o zeros)) (sym is) ∙ long

-- what the workspace may be once a piece was taken away
module _ (w : Work) (space : Space) (at : TextRef) (P : Work → Type 0) where
  -- all of it, where the head and the page of the piece are these
  pub record EachCase (page : List ℕ) : Type 0 where
    -- the page went, and where it was tried first none is
    pub freed : (b : Bool) → P (if b then with_first (without_page w (page_in space at.page)) space 0 else without_page w (page_in space at.page))
    -- the piece went, and its page may be tried first
    pub holed : (b : Bool) → P
        (if b then with_first (with_hole w space at.page (hole_of at.slot page)) space at.page else with_hole w space at.page (hole_of at.slot page))

  module _ (page : List ℕ) (cases : (head : List ℕ) → map.get w.now.pages (head_of space) ≡ Some head → EachCase page) where
    abbrev gone_page : Work
    gone_page = without_page w (page_in space at.page)

    abbrev gone_piece : Work
    gone_piece = with_hole w space at.page (hole_of at.slot page)

    freed_case : (gone : Unit {0} × Work) → page_freed_in w space at.page ≡ Ok gone → P gone.1
    freed_case gone is =
        let first = both_gave (first_in w.now space) (λ first. Ok (tt, if first == at.page then with_first gone_page space 0 else gone_page)) gone is in
        let head = first_there w.now space first.0 first.1.0 in
        subst (λ (r : Unit {0} × Work). P r.1) (one_value _ gone first.1.1) ((cases head.0 head.1.0).freed (first.0 == at.page))

    noted_case : (first room : ℕ) (head : List ℕ) (gone : Unit {0} × Work) → map.get w.now.pages (head_of space) ≡ Some head → (b : Bool)
        → (if b then Ok (tt, gone_piece) else and_then (room_in gone_piece.now space first)
        (λ tried. Ok (tt, if is_roomier room tried then with_first gone_piece space at.page else gone_piece))) ≡ Ok gone → P gone.1
    noted_case first room head gone there true is = subst (λ (r : Unit {0} × Work). P r.1) (one_value (tt, gone_piece) gone is) ((cases head there).holed false)
    noted_case first room head gone there false is =
        let tried = both_gave (room_in gone_piece.now space first)
        (λ tried. Ok (tt, if is_roomier room tried then with_first gone_piece space at.page else gone_piece)) gone is in
        subst (λ (r : Unit {0} × Work). P r.1) (one_value _ gone tried.1.1) ((cases head there).holed (is_roomier room tried.0))

    holed_case : (room : ℕ) (gone : Unit {0} × Work) → hole_made_in w space at.page (hole_of at.slot page) room ≡ Ok gone → P gone.1
    holed_case room gone is =
        let first = both_gave (first_in w.now space) (λ first. roomier_in gone_piece space first at.page room) gone is in
        let head = first_there w.now space first.0 first.1.0 in noted_case first.0 room head.0 gone head.1.0 (first.0 == at.page) first.1.1

    either_case : (room : ℕ) (gone : Unit {0} × Work) (b : Bool)
        → (if b then page_freed_in w space at.page else hole_made_in w space at.page (hole_of at.slot page) room) ≡ Ok gone → P gone.1
    either_case room gone true is = freed_case gone is
    either_case room gone false is = holed_case room gone is

  -- what holds in each case, with the page and the head that were found, holds of the workspace after a piece was taken
  pub taken_case : (from : ℕ) (next : TextRef) (new : Work)
      → ((page head : List ℕ) → IsTested w.now space at page → map.get w.now.pages (head_of space) ≡ Some head → EachCase page)
      → piece_taken_in w space from at ≡ Ok (next, new) → P new
  taken_case from next new cases is =
      let looked = both_gave (leaving_in w.now space from at) (λ leaving. and_then (piece_gone_in w space at.page leaving) (λ gone. Ok (leaving.next, gone.1)))
      (next, new) is in
      let found = both_gave (piece_in w.now space from at) (λ page. Ok (leaving_of at.slot page)) looked.0 looked.1.0 in
      let page = found.0 in
      let leaving_is : leaving_of at.slot page ≡ looked.0 = one_value (leaving_of at.slot page) looked.0 found.1.1 in
      let gone = both_gave (piece_gone_in w space at.page looked.0) (λ (gone : Unit {0} × Work). Ok (looked.0.next, gone.1)) (next, new) looked.1.1 in
      let new_is : gone.0.1 ≡ new = ap (λ (p : TextRef × Work). p.1) (one_value (looked.0.next, gone.0.1) (next, new) gone.1.1) in
      subst P new_is
      (either_case page (λ head there. cases page head (piece_there w.now space from at page found.1.0) there) (leaving_of at.slot page).room gone.0
      (leaving_of at.slot page).only
      (ap (piece_gone_in w space at.page) leaving_is ∙ gone.1.0))
