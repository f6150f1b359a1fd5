-- What the calls on texts write is the texts' own.
use Rattle.std.proofs.Common.{◌≡◌, ℕ, ◌+◌, ◌<◌, ◌≤◌, ◌^◌, ◌==◌, Bool, true, false, not, List, length, slice_index, Option, Some, None, Result, Ok, IfOk, refl, sym, ap, ◌∙◌, subst, is_some, unwrap_or, eq-eqb, if◌then◌else◌, lit≤, arith}
use Rattle.std.specs.FinMap as map
use Rattle.page_bytes.specs.declared.ids.Space.{Space}
use Rattle.page_bytes.specs.declared.ids.PageId.{PageId}
use Rattle.page_bytes.specs.declared.texts.TextRef.{TextRef}
use Rattle.page_bytes.specs.declared.end.PageEnd.{PageEnd}
use Rattle.page_bytes.specs.Fields.{with_field}
use Rattle.page_bytes.specs.Head.{head_of, with_next_page}
use Rattle.page_bytes.specs.Links.{page_in, and_then}
use Rattle.page_bytes.specs.Own.{HasOwnPage, KeepsToOwn}
use Rattle.page_bytes.specs.Refusal.{fresh_refusal}
use Rattle.page_bytes.specs.Seen.{seen}
use Rattle.page_bytes.specs.Texts.{TEXT_KIND}
use Rattle.page_bytes.specs.Work.{Work, with_page, without_page, with_fresh, first_bytes, next_in, zeros}
use Rattle.page_bytes.proofs.Owning.{own_more, own_twice, own_behind, own_page, own_freed, own_field, own_fresh, on_page as in_head, Stays, stays_page, stays_twice, stays_fresh}
use Rattle.page_bytes.proofs.PageWrites.{next_positive, get_with_page, get_head_without, get_head_beside}
use Rattle.page_bytes.proofs.SeenPages.{page-first}
use Rattle.text_pages.specs.declared.forms.Place.{Place}
use Rattle.text_pages.specs.declared.forms.Tried.{Tried}
use Rattle.text_pages.specs.declared.forms.Tried.TheVariants.{Absent, Full, Fits}
use Rattle.text_pages.specs.Slots.{is_writable, place_for, with_piece, page_with_piece, hole_of, closed}
use Rattle.text_pages.specs.Finding.{first_in, text_page, offered, tried_in, is_roomier}
use Rattle.text_pages.specs.Putting.{with_first, with_piece_on, with_new_page, room_left, new_piece_in, put_on, piece_put_in}
use Rattle.text_pages.specs.Taking.{with_hole, piece_taken_in}
use Rattle.text_pages.specs.Inside.{IsLong, IsFirstLong}
use Rattle.text_pages.specs.Keeping.{texts_own}
use Rattle.text_pages.proofs.Heads.{raised_long}
use Rattle.text_pages.proofs.TextKinds.{IsOfText, of_piece, of_new_page, of_closed}
use Rattle.page_bytes.proofs.Askings.{not_none, both_gave, one_value, unless_gave}
use Rattle.text_pages.proofs.Passing.{slotted_is}
use Rattle.text_pages.proofs.Places.{place_within}
use Rattle.text_pages.proofs.TakeCases.{slotted_there, IsTested, hole_inside, long_bytes, EachCase, taken_case}

-- a page that is placed on was tested, and has the place
record IsOffered (w : Work) (space : Space) (n size : ℕ) (place : Place) : Type 0 where
  positive : 0 < n
  page : List ℕ
  there : map.get w.now.pages (page_in space n) ≡ Some page
  slotted : is_writable page ≡ true
  fits : place_for size page ≡ Some place

offered_is : (w : Work) (space : Space) (n size : ℕ) (place : Place) → tried_in w.now space n size ≡ Ok (Fits place) → IsOffered w space n size place
offered_is w space n size place is = at (n == 0) refl is
  where
    placed : (o : Option Place) (page : List ℕ) → (let r : Result Tried PageEnd = Ok (offered n o page) in r ≡ Ok (Fits place)) → o ≡ Some place
    placed None page is = cc
    placed (Some p) page is = cc

    at : (b : Bool) → (n == 0) ≡ b
        → (if b then Ok Absent else and_then (text_page w.now space 0 n) (λ page. Ok (offered n (place_for size page) page))) ≡ Ok (Fits place)
        → IsOffered w space n size place
    at true none is = cc
    at false some is =
        let found = both_gave (text_page w.now space 0 n) (λ page. Ok (offered n (place_for size page) page)) (Fits place) is in
        let tested = slotted_there w.now space 0 n found.0 found.1.0 in
        record {
          positive = not_none n (ap not some);
          page = found.0;
          there = tested.0;
          slotted = tested.1;
          fits =
              placed (place_for size found.0) found.0 found.1.1;
        }

module _ (all : PageId → Option (List ℕ)) (space : Space) where
  abbrev Owned : ℕ → Work → Work → Type 0
  Owned most w new = KeepsToOwn texts_own most w new all space

  -- where a page is made, none is freed
  abbrev Puts : Work → Work → Type 0
  Puts w new = Owned 1 w new × Stays all space w new

  first_stays : (w : Work) (x : ℕ) → Stays all space w (with_first w space x)
  first_stays w x = stays_page all space w 0 (with_field 8 (first_bytes w.now (head_of space)) 26 x)

  -- a page that was tested is one of the texts'
  was_own : (w : Work) (n : ℕ) (page : List ℕ) → map.get w.now.pages (page_in space n) ≡ Some page → is_writable page ≡ true
      → HasOwnPage texts_own (seen w.now all space n)
  was_own w n page is slotted =
      let first : first_bytes w.now (page_in space n) ≡ page = ap (λ o. unwrap_or o zeros) is in
      let known : seen w.now all space n ≡ Some page = page-first w.now all space n (ap is_some is) ∙ (λ i. Some (first i)) in
      subst (HasOwnPage texts_own) (sym known) (eq-eqb (slice_index page 0) TEXT_KIND (slotted_is page slotted).0)

  -- so are its bytes, which an edit begins with
  first_of_text : (w : Work) (n : ℕ) (page : List ℕ) → map.get w.now.pages (page_in space n) ≡ Some page → is_writable page ≡ true
      → IsLong w.now (page_in space n) → IsOfText (first_bytes w.now (page_in space n))
  first_of_text w n page is slotted long = record {
    long = long;
    kind_is = ap (λ (o : Option (List ℕ)). slice_index (unwrap_or o zeros) 0) is ∙ (slotted_is page slotted).0;
  }

  -- another page is tried first
  first_own : (w : Work) (x : ℕ) (head : List ℕ) → map.get w.now.pages (head_of space) ≡ Some head → length head ≡ 4096 → Owned 0 w (with_first w space x)
  first_own w x head is long =
      own_field texts_own all space w 8 26 x (ap is_some is) (ap (λ (o : Option (List ℕ)). length (unwrap_or o zeros)) is ∙ long) (lit≤ tt) (lit≤ tt)
      (λ at n beside. in_head 0 beside.0)

  -- a piece is taken away
  module _ (w : Work) (at : TextRef) (past : 0 < at.page) (long_head : IsLong w.now (head_of space)) (long_page : IsLong w.now (page_in space at.page)) where
    cases : (page head : List ℕ) → IsTested w.now space at page → map.get w.now.pages (head_of space) ≡ Some head → EachCase w space at (Owned 0 w) page
    cases page head t there =
        let long = long_bytes w.now (head_of space) head there long_head in let id = page_in space at.page in
        let freed = without_page w id in let hole = hole_of at.slot page in let holed = with_hole w space at.page hole in
        let slotted = slotted_is page t.slotted in let was = was_own w at.page page t.there t.slotted in
        let is = of_closed hole (hole_inside w.now space at page t) (omega (arith, slotted)) (first_bytes w.now id)
        (first_of_text w at.page page t.there t.slotted long_page) in
        let gone : Owned 0 w freed = own_freed texts_own all space w at.page past was in
        let less : Owned 0 w holed =
        own_page texts_own all space w at.page (closed hole (first_bytes w.now id)) past was
        (eq-eqb (slice_index (closed hole (first_bytes w.now id)) 0) TEXT_KIND is.kind_is) in
        let forgotten = first_own freed 0 head (get_head_without w space at.page past ∙ there) long in
        let renamed = first_own holed at.page head (get_head_beside w space at.page (closed hole (first_bytes w.now id)) past ∙ there) long in
        record {
          freed = λ b. elim b as (λ b. Owned 0 w (if b then with_first freed space 0 else freed)) [
            | true ↦ own_behind texts_own all space w freed
                (with_first freed space 0) 0 gone forgotten
            | false ↦ gone
          ];
          holed = λ b. elim b as (λ b. Owned 0 w (if b then with_first holed space at.page else holed)) [
            | true ↦ own_behind texts_own all space w holed
                (with_first holed space at.page) 0 less renamed
            | false ↦ less
          ];
        }

    -- a piece that was taken away has kept to the texts' own and made no page
    pub taken_own : (from : ℕ) (next : TextRef) (new : Work) → piece_taken_in w space from at ≡ Ok (next, new) → KeepsToOwn texts_own 0 w new all space
    taken_own from next new is = taken_case w space at (Owned 0 w) from next new cases is

  -- a piece is put
  module _ (w : Work) (next : TextRef) (text : List ℕ) (short : length text ≤ 4074) (long_head : IsLong w.now (head_of space)) (put : TextRef)
      (small : put.page < 256 ^ 8) (new : Work) where
    -- on a page that has a place
    on_page : (n : ℕ) (place : Place) → IsOffered w space n (10 + length text) place → IsLong w.now (page_in space n)
        → Puts w (with_piece_on w space n place next text)
    on_page n place o long =
        let id = page_in space n in let slotted = slotted_is o.page o.slotted in
        let within = place_within o.page (10 + length text) place slotted.2 (omega arith) o.fits in
        let is = of_piece place next text (first_bytes w.now id) (first_of_text w n o.page o.there o.slotted long) within.0 within.1 within.2 in (
          own_more texts_own all space w (with_piece_on w space n place next text) 0 1 (lit≤ tt)
              (own_page texts_own all space w n (with_piece place next text (first_bytes w.now id)) o.positive (was_own w n o.page o.there o.slotted)
              (eq-eqb (slice_index (with_piece place next text (first_bytes w.now id)) 0) TEXT_KIND is.kind_is)),
          stays_page all space w n (with_piece place next text (first_bytes w.now id)),
        )

    -- on a new page, which may be tried first then
    abbrev made : Work
    made = with_new_page w space next text

    on_made : fresh_refusal w.now space ≡ None → next_in w space < 256 ^ 8 → (b : Bool) → Puts w (if b then with_first made space (next_in w space) else made)
    on_made none fits b =
        let n = next_in w space in let fresh = with_fresh w space in let is = of_new_page next text short in
        let head = with_next_page (first_bytes w.now (head_of space)) (n + 1) in
        let here : map.get made.now.pages (head_of space) ≡ Some head = get_head_beside fresh space n (page_with_piece next text) (next_positive w space none)
        ∙ get_with_page (with_page w (page_in space n) zeros) (head_of space) head in
        let more : Owned 1 w made =
        own_fresh texts_own all space w (page_with_piece next text) none fits long_head
        (eq-eqb (slice_index (page_with_piece next text) 0) TEXT_KIND is.kind_is) in
        let named = first_own made n head here (raised_long (first_bytes w.now (head_of space)) long_head (n + 1)) in
        let stays = stays_fresh all space w (page_with_piece next text) in
        elim b as (λ b. Puts w (if b then with_first made space (next_in w space) else made)) [
          | true ↦ (
            own_twice texts_own all space w made (with_first made space n) 1 0 more named (first_stays made n),
            stays_twice all space w made (with_first made space n) stays (first_stays made n),
          )
          | false ↦ (more, stays)
        ]

    on_new_page : (tried : Option ℕ) → new_piece_in w space tried next text ≡ Ok (put, new) → Puts w new
    on_new_page tried is =
        let n = next_in w space in let b = is_roomier (room_left text) tried in
        let gave = unless_gave (fresh_refusal w.now space) (record { page = n; slot = 0 }, if b then with_first made space n else made) (put, new) is in
        let number : n ≡ put.page = ap (λ (p : TextRef × Work). p.0.page) gave.1 in
        subst (λ (p : TextRef × Work). Puts w p.1) gave.1 (on_made gave.0 (omega (arith, number, small)) b)

    where_tried : (n : ℕ) (tried : Tried) → (0 < n → IsLong w.now (page_in space n)) → tried_in w.now space n (10 + length text) ≡ Ok tried
        → put_on w space n tried next text ≡ Ok (put, new) → Puts w new
    where_tried n Absent long is gave = on_new_page None gave
    where_tried n (Full more) long is gave = on_new_page (Some more) gave
    where_tried n (Fits place) long is gave =
        let o = offered_is w space n (10 + length text) place is in
        subst (λ (p : TextRef × Work). Puts w p.1) (one_value (record { page = n; slot = place.slot }, with_piece_on w space n place next text) (put, new) gave)
        (on_page n place o (long o.positive))

    -- a piece that was put has kept to the texts' own and made one page at most, and all pages seen are still seen,
    -- if the page that the head tries first is a whole page
    pub put_own : IsFirstLong w.now space → piece_put_in w space next text ≡ Ok (put, new) → KeepsToOwn texts_own 1 w new all space × Stays all space w new
    put_own long_first is =
        let size = 10 + length text in
        let first = both_gave (first_in w.now space) (λ number. and_then (tried_in w.now space number size) (λ tried. put_on w space number tried next text))
        (put, new) is in
        let tried = both_gave (tried_in w.now space first.0 size) (λ tried. put_on w space first.0 tried next text) (put, new) first.1.1 in
        where_tried first.0 tried.0
        (subst (λ (r : Result ℕ PageEnd). IfOk r (λ number. 0 < number → IsLong w.now (page_in space number))) first.1.0 long_first) tried.1.0 tried.1.1
