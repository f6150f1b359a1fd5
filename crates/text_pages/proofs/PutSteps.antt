-- What putting a piece does where the pages are in the form of texts.
use Rattle.std.proofs.Common.{◌≡◌, ◌≢◌, ℕ, ◌+◌, ◌<◌, ◌≤◌, ◌^◌, ◌==◌, ◌&&◌, ◌||◌, ◌⊎◌, inl, inr, Bool, true, false, not, List, length, slice_index, Option, Some, None, Result, MatchResult, refl, sym, ap, ◌∙◌, is_some, unwrap_or, subst, IsTrue, true≢false, if◌then◌else◌, arith}
use Rattle.std.proofs.lemmas.Bool.{eqb-true}
use Rattle.std.proofs.lemmas.Bool.Decides.{nat_tests}
use Rattle.std.specs.FinMap as map
use Rattle.page_bytes.specs.declared.ids.Space.{Space}
use Rattle.page_bytes.specs.declared.ids.PageId.{PageId}
use Rattle.page_bytes.specs.declared.texts.TextRef.{TextRef}
use Rattle.page_bytes.specs.declared.end.PageEnd.{PageEnd}
use Rattle.page_bytes.specs.declared.end.PageEnd.TheVariants.{Need, Damaged, Spent}
use Rattle.page_bytes.specs.Fields.{with_field}
use Rattle.page_bytes.specs.Head.{head_of, is_head, next_page, with_next_page, LAST_PAGE}
use Rattle.page_bytes.specs.Known.{Known, is_there}
use Rattle.page_bytes.specs.Links.{page_in, and_then}
use Rattle.page_bytes.specs.Refusal.{head_refusal, fresh_refusal}
use Rattle.page_bytes.specs.Work.{Work, with_page, with_fresh, first_bytes, zeros, next_in}
use Rattle.text_pages.specs.declared.forms.Place.{Place}
use Rattle.text_pages.specs.Slots.{room, place_for, only_place, with_piece, page_with_piece}
use Rattle.text_pages.specs.Finding.{tried_first, first_in, offered, tried_in, is_roomier}
use Rattle.text_pages.specs.Putting.{with_first, with_piece_on, with_new_page, room_left, new_piece_in, put_on, piece_put_in}
use Rattle.page_bytes.specs.Answers.{unless, IsStop, IsSpent}
use Rattle.page_bytes.specs.Seen.{seen, bytes, also}
use Rattle.text_pages.specs.Meaning.{IsTextPage, IsForm}
use Rattle.text_pages.proofs.Chains.{Puts}
use Rattle.page_bytes.proofs.Among.{also-in, also-true, also-beside}
use Rattle.page_bytes.proofs.Askings.{Needs}
use Rattle.text_pages.proofs.Reached.{among, text_in, long_in, among-written, among-beside, among-first}
use Rattle.text_pages.proofs.Givings.{first-is, tried-is}
use Rattle.text_pages.proofs.Heads.{head_stays, tried_long, tried_next, tried_head, tried_is, raised_long, raised_next, raised_first, raised_head}
use Rattle.page_bytes.proofs.Growing.{Grows, grows_twice, grows_with}
use Rattle.page_bytes.proofs.PageWrites.{there_with_page, written_there}
use Rattle.text_pages.proofs.PageSteps.{HeadForm, head_is_none, puts_piece}
use Rattle.text_pages.proofs.PageWithPiece.{new_kind}
use Rattle.text_pages.proofs.Places.{place_is, blank, blank_kind, blank_open, blank_place}
use Rattle.text_pages.proofs.Ranges.{split}
use Rattle.text_pages.proofs.Sounds.{open_page}

-- a piece is put, with all that is known kept: from the pages of a set to those of another, with one new page at most
pub record PutStep (set : ℕ → Bool) (w new : Work) (all : PageId → Option (List ℕ)) (space : Space) (next : TextRef) (text : List ℕ)
    (at : TextRef) : Type 0 where
  pub then_set : ℕ → Bool
  pub puts : Puts (among set w.now all space) (among then_set new.now all space) at next text
  pub grows : Grows w.now new.now
  pub made : next_page (bytes (among then_set new.now all space) 0) ≤ next_page (bytes (among set w.now all space) 0) + 1
  pub past : 0 < at.page
  pub page_small : at.page < 256 ^ 8
  pub slot_small : at.slot < 256 ^ 2

-- why a piece isn't put: a stop, or that the page numbers are spent for `most` new pages
abbrev pub IsUnput : (ℕ → Bool) → Known → (PageId → Option (List ℕ)) → Space → ℕ → PageEnd → Type 0
IsUnput set k all space most end = IsStop k all space end ⊎ IsSpent (among set k all space) most end

-- how putting a piece ends
abbrev pub PutEnds : (ℕ → Bool) → Work → (PageId → Option (List ℕ)) → Space → TextRef → List ℕ → Result (TextRef × Work) PageEnd → Type 0
PutEnds set w all space next text r = MatchResult r (λ put. PutStep set w put.1 all space next text put.0) (λ end. IsUnput set w.now all space 1 end)

module _ (set : ℕ → Bool) (w : Work) (all : PageId → Option (List ℕ)) (space : Space) (form : IsForm (among set w.now all space)) (next : TextRef)
    (text : List ℕ)
    (page_small : next.page < 256 ^ 8) (slot_small : next.slot < 256 ^ 2) (some : 0 < length text) (short : length text ≤ 4074) where
  -- on a page that has a place
  on_page : (n : ℕ) (place : Place) → IsTextPage (among set w.now all space) n → IsTrue (is_there w.now (page_in space n))
      → place_for (10 + length text) (bytes (among set w.now all space) n) ≡ Some place
      → PutStep set w (with_piece_on w space n place next text) all space next text (record { page = n; slot = place.slot })
  on_page n place is there fits =
      let pages = among set w.now all space in let page = bytes pages n in let new = with_piece_on w space n place next text in let inside =
      text_in set (seen w.now all space) n is in
      let p = place_is page (form.sound n is) (10 + length text) place fits in
      let here : bytes (among set new.now all space) n ≡ with_piece place next text page = among-written set w all space n _ inside
      ∙ ap (with_piece place next text) (sym (among-first set w.now all space n inside there)) in
      let past : n ≢ 0 = λ zero_is. head_is_none (bytes pages 0) form.head (subst (IsTextPage pages) zero_is is) in
      let is_text : IsTextPage (among set new.now all space) n = ap (λ (b : List ℕ). slice_index b 0) here
      ∙ new_kind page place next text (form.sound n is).long p ∙ is in
      let below = form.numbered n is in let last = form.last in let slot = p.slot in let count = p.count in
      let head_is = among-beside set w all space n 0 (with_piece place next text (first_bytes w.now (page_in space n))) (λ zero_is. past (sym zero_is)) in
      record {
        then_set = set;
        puts = puts_piece pages (among set new.now all space) n form (λ q differ beside. among-beside set w all space n q _ differ)
            (head_stays pages (among set new.now all space) n form (λ is. below) (among-beside set w all space n 0 _ (λ zero_is. past (sym zero_is)))
            (λ same. is_text))
            page place next text (open_page page (form.sound n is)) p some is (λ is. refl) here page_small slot_small;
        grows = grows_with w (page_in space n) _;
        made = let same = ap next_page head_is in omega (arith, same);
        past = omega (arith, past);
        page_small = omega (arith, below, last);
        slot_small = omega (arith, slot, count);
      }

  -- the head is one of the set
  head_in_set : set 0 ≡ true
  head_in_set = long_in set (seen w.now all space) 0 form.long

  -- on a new page
  module _ (there : IsTrue (is_there w.now (head_of space))) (more : next_page (bytes (among set w.now all space) 0) < LAST_PAGE) where
    abbrev n : ℕ
    n = next_in w space

    abbrev head : List ℕ
    head = bytes (among set w.now all space) 0

    next_is : next_in w space ≡ next_page (bytes (among set w.now all space) 0)
    next_is = sym (ap next_page (among-first set w.now all space 0 (head_in_set) there))

    positive : 0 < next_page (bytes (among set w.now all space) 0)
    positive = next_some (slice_index head 0 == 2) (next_page head) form.head
      where
        next_some : (two : Bool) (n : ℕ) → (two && not (n == 0)) ≡ true → 0 < n
        next_some two n is = grind (arith, nat_tests)

    past : next_in w space ≢ 0
    past is = let same = next_is in let some = positive in absurd (omega (arith, is, same, some))

    -- the set with the new page
    abbrev wider : ℕ → Bool
    wider = also set (next_in w space)

    head_wider : also set (next_in w space) 0 ≡ true
    head_wider = also-true set (next_in w space) 0 head_in_set

    abbrev first : Work
    first = with_page w (page_in space (next_in w space)) zeros

    abbrev second : Work
    second = with_fresh w space

    abbrev third : Work
    third = with_new_page w space next text

    abbrev fourth : Work
    fourth = with_first (with_new_page w space next text) space (next_in w space)

    third_head : bytes (among wider third.now all space) 0
        ≡ with_next_page (bytes (among set w.now all space) 0) (next_page (bytes (among set w.now all space) 0) + 1)
    third_head =
        among-beside wider second all space (next_in w space) 0 (page_with_piece next text) (λ is. past (sym is))
        ∙ among-written wider first all space 0 (with_next_page (first_bytes w.now (head_of space)) (next_in w space + 1)) head_wider
        ∙ ap (λ (b : List ℕ). with_next_page b (next_page b + 1)) (sym (among-first set w.now all space 0 head_in_set there))

    third_page : bytes (among wider third.now all space) n ≡ page_with_piece next text
    third_page = among-written wider second all space (next_in w space) (page_with_piece next text) (also-in set (next_in w space))

    third_other : (q : ℕ) → q ≢ n → q ≢ 0 → bytes (among wider third.now all space) q ≡ bytes (among set w.now all space) q
    third_other q differ beside =
        among-beside wider second all space (next_in w space) q (page_with_piece next text) differ
        ∙ among-beside wider first all space 0 q (with_next_page (first_bytes w.now (head_of space)) (next_in w space + 1)) beside
        ∙ among-beside wider w all space (next_in w space) q zeros differ
        ∙ also-beside set (seen w.now all space) (next_in w space) q differ

    third_there : IsTrue (is_there third.now (head_of space))
    third_there = there_with_page second (page_in space (next_in w space)) (head_of space) _ (written_there first (head_of space) _)

    fourth_head : bytes (among wider fourth.now all space) 0 ≡ with_field 8 (bytes (among wider third.now all space) 0) 26 n
    fourth_head = among-written wider third all space 0 _ head_wider
        ∙ ap (λ (b : List ℕ). with_field 8 b 26 n) (sym (among-first wider third.now all space 0 head_wider third_there))

    fourth_page : bytes (among wider fourth.now all space) n ≡ page_with_piece next text
    fourth_page = among-beside wider third all space 0 n _ past ∙ third_page

    fourth_other : (q : ℕ) → q ≢ n → q ≢ 0 → bytes (among wider fourth.now all space) q ≡ bytes (among set w.now all space) q
    fourth_other q differ beside = among-beside wider third all space 0 q _ beside ∙ third_other q differ beside

    -- with the new page nothing that was known is forgotten
    pub grown : Grows w.now third.now
    grown id is = grows_with w (page_in space (next_in w space)) zeros id
        (grows_with first (head_of space) _ id (grows_with second (page_in space (next_in w space)) _ id is))

    -- the heads that the new page leaves
    raised : (b : List ℕ) → b ≡ with_next_page head (next_page head + 1)
        → (IsTrue (is_head b) × (length b ≡ 4096)) × ((next_page b ≡ next_page head + 1) × (tried_first b ≡ tried_first head))
    raised b is =
        subst (λ (b : List ℕ). (IsTrue (is_head b) × (length b ≡ 4096)) × ((next_page b ≡ next_page head + 1) × (tried_first b ≡ tried_first head))) (sym is) (
          (raised_head head form.long (next_page head + 1) (omega arith) (omega (arith, more)) form.head, raised_long head form.long (next_page head + 1)),
          (raised_next head form.long (next_page head + 1) (omega (arith, more)), raised_first head form.long (next_page head + 1)),
        )

    third_made : next_page (bytes (among wider third.now all space) 0) ≤ next_page (bytes (among set w.now all space) 0) + 1
    third_made = let next = (raised (bytes (among wider third.now all space) 0) third_head).1.0 in omega (arith, next)

    fourth_made : next_page (bytes (among wider fourth.now all space) 0) ≤ next_page (bytes (among set w.now all space) 0) + 1
    fourth_made =
        let b = bytes (among wider third.now all space) 0 in let r = raised b third_head in
        let next = ap next_page fourth_head ∙ tried_next b r.0.1 n ∙ r.1.0 in omega (arith, next)

    kind_new : (v : Work) → bytes (among wider v.now all space) n ≡ page_with_piece next text → IsTextPage (among wider v.now all space) n
    kind_new v here = ap (λ (b : List ℕ). slice_index b 0) here ∙ new_kind blank (only_place text) next text blank_open.long (blank_place text short)
        ∙ blank_kind

    third_form : HeadForm (among set w.now all space) (among wider third.now all space) n
    third_form =
        let r = raised (bytes (among wider third.now all space) 0) third_head in let next = r.1.0 in let same = next_is in record {
          head = r.0.0;
          long = r.0.1;
          last = omega (arith, next, more);
          more = omega (arith, next);
          numbered = λ is. omega (arith, next, same);
          first = inr (inr (r.1.1, λ same. kind_new third third_page));
        }

    fourth_form : HeadForm (among set w.now all space) (among wider fourth.now all space) n
    fourth_form =
        let r = raised (bytes (among wider third.now all space) 0) third_head in let b = bytes (among wider third.now all space) 0 in let same = next_is in
        let next : next_page (bytes (among wider fourth.now all space) 0) ≡ next_page head + 1 = ap next_page fourth_head ∙ tried_next b r.0.1 n ∙ r.1.0 in
        record {
          head = subst (λ b. IsTrue (is_head b)) (sym fourth_head) (tried_head b r.0.1 n ∙ r.0.0);
          long = ap length fourth_head ∙ tried_long b r.0.1 n;
          last = omega (arith, next, more);
          more = omega (arith, next);
          numbered = λ is. omega (arith, next, same);
          first = inr (inl (ap tried_first fourth_head ∙ tried_is b r.0.1 n (omega (arith, same, more)), kind_new fourth fourth_page));
        }

    new_step : (v : Work) → bytes (among wider v.now all space) n ≡ page_with_piece next text
        → ((q : ℕ) → q ≢ n → q ≢ 0 → bytes (among wider v.now all space) q ≡ bytes (among set w.now all space) q)
        → HeadForm (among set w.now all space) (among wider v.now all space) n → Grows w.now v.now
        → next_page (bytes (among wider v.now all space) 0) ≤ next_page (bytes (among set w.now all space) 0) + 1
        → PutStep set w v all space next text (record { page = n; slot = 0 })
    new_step v here others heads grows made =
        let same = next_is in let some_next = positive in record {
          then_set = wider;
          puts = puts_piece (among set w.now all space) (among wider v.now all space) n form others heads blank (only_place text) next text blank_open
              (blank_place text short) some blank_kind
              (λ is. let below = form.numbered n is in absurd (omega (arith, below, same))) here page_small slot_small;
          grows = grows;
          made = made;
          past = omega (arith, same, some_next);
          page_small = omega (arith, same, more);
          slot_small = omega arith;
        }

    -- a piece is put in slot 0 of the new page, whether the head tries that page first then or not
    pub on_new_page : (b : Bool) → PutStep set w (if b then fourth else third) all space next text (record { page = n; slot = 0 })
    on_new_page true = new_step fourth fourth_page fourth_other fourth_form
        (grows_twice w.now third.now fourth.now grown (grows_with third (head_of space) _)) fourth_made
    on_new_page false = new_step third third_page third_other third_form grown third_made

  -- where the head is there, a new page is given, or page numbers are spent
  module _ (there : IsTrue (is_there w.now (head_of space))) where
    refusal_is : fresh_refusal w.now space ≡ (if next_page (bytes (among set w.now all space) 0) == LAST_PAGE then Some (Spent LAST_PAGE) else None)
    refusal_is = known (map.get w.now.pages (head_of space)) (not (map.contains_key w.now.whole space || map.contains_key w.now.freed (head_of space))) there
        (among-first set w.now all space 0 head_in_set there)
      where
        known : (page : Option (List ℕ)) (out : Bool) → is_some page ≡ true → bytes (among set w.now all space) 0 ≡ unwrap_or page zeros
            → (if not (is_some page) && out then Some (Need (head_of space)) else head_refusal (head_of space) page)
            ≡ (if next_page (bytes (among set w.now all space) 0) == LAST_PAGE then Some (Spent LAST_PAGE) else None)
        known None out is same = absurd (true≢false (sym is))
        known (Some head) out is same =
            ap (λ b. if not b then Some (Damaged (head_of space)) else if next_page head == LAST_PAGE then Some (Spent LAST_PAGE) else None)
            (ap is_head (sym same) ∙ form.head)
            ∙ ap (λ (b : List ℕ). if next_page b == LAST_PAGE then Some (Spent LAST_PAGE) else None) (sym same)

    -- a piece is put on a new page, or page numbers are spent for one
    pub new_ends : (tried : Option ℕ) → PutEnds set w all space next text (new_piece_in w space tried next text)
    new_ends tried = subst (λ r. PutEnds set w all space next text
        (unless r (
          record { page = next_in w space; slot = 0 },
          if is_roomier (room_left text) tried then with_first (with_new_page w space next text) space
              (next_in w space) else with_new_page w space next text,
        ))) (sym refusal_is)
        (at (next_page (bytes (among set w.now all space) 0) == LAST_PAGE) refl)
      where
        at : (b : Bool) → (next_page (bytes (among set w.now all space) 0) == LAST_PAGE) ≡ b
            → PutEnds set w all space next text
            (unless (if b then Some (Spent LAST_PAGE) else None) (
              record { page = next_in w space; slot = 0 },
              if is_roomier (room_left text) tried then with_first (with_new_page w space next text) space
                  (next_in w space) else with_new_page w space next text,
            ))
        at true is = inr (refl, let last = eqb-true (next_page (bytes (among set w.now all space) 0)) LAST_PAGE is in omega (arith, last))
        at false is = on_new_page there (below (next_page (bytes (among set w.now all space) 0)) LAST_PAGE form.last is) (is_roomier (room_left text) tried)
          where
            below : (a b : ℕ) → a ≤ b → (a == b) ≡ false → a < b
            below a b up differ = grind (arith, nat_tests)

  -- how putting a piece ends
  needed : {X : Type 0} (r : Result X PageEnd) (f : X → Result (TextRef × Work) PageEnd) → Needs w.now all space r
      → PutEnds set w all space next text (and_then r f)
  needed r f need = subst (λ r. PutEnds set w all space next text (and_then r f)) (sym need.1.0) (inl (inr need.1.1))

  -- a piece is put, on the page that is tried first or on a new one, or it is stopped or page numbers are spent
  pub put_ends : PutEnds set w all space next text (piece_put_in w space next text)
  put_ends = split (first-is set w.now all space form)
      (λ found. subst (λ r. PutEnds set w all space next text
      (and_then r (λ number. and_then (tried_in w.now space number (10 + length text)) (λ tried. put_on w space number tried next text)))) (sym found.0)
      (tried found.1))
      (needed (first_in w.now space) _)
    where
      put_there : (is : IsTextPage (among set w.now all space) (tried_first (bytes (among set w.now all space) 0))) → IsTrue (is_there w.now (head_of space))
          → IsTrue (is_there w.now (page_in space (tried_first (bytes (among set w.now all space) 0)))) → (o : Option Place)
          → place_for (10 + length text) (bytes (among set w.now all space) (tried_first (bytes (among set w.now all space) 0))) ≡ o
          → PutEnds set w all space next text
          (put_on w space (tried_first (bytes (among set w.now all space) 0))
          (offered (tried_first (bytes (among set w.now all space) 0)) o
          (bytes (among set w.now all space) (tried_first (bytes (among set w.now all space) 0)))) next text)
      put_there is known there (Some place) fits = on_page (tried_first (bytes (among set w.now all space) 0)) place is there fits
      put_there is known there None fits = new_ends known (Some (room (bytes (among set w.now all space) (tried_first (bytes (among set w.now all space) 0)))))

      tried : IsTrue (is_there w.now (head_of space))
          → PutEnds set w all space next text
          (and_then (tried_in w.now space (tried_first (bytes (among set w.now all space) 0)) (10 + length text))
          (λ tried. put_on w space (tried_first (bytes (among set w.now all space) 0)) tried next text))
      tried head = split form.first
          (λ none. subst (λ n. PutEnds set w all space next text
          (and_then (tried_in w.now space n (10 + length text)) (λ tried. put_on w space n tried next text))) (sym none) (new_ends head None))
          (λ is. split (tried-is set w.now all space form (tried_first (bytes (among set w.now all space) 0)) (10 + length text) is)
          (λ found. subst (λ r. PutEnds set w all space next text
          (and_then r (λ tried. put_on w space (tried_first (bytes (among set w.now all space) 0)) tried next text))) (sym found.0)
          (put_there is head found.1
          (place_for (10 + length text) (bytes (among set w.now all space) (tried_first (bytes (among set w.now all space) 0)))) refl))
          (needed (tried_in w.now space (tried_first (bytes (among set w.now all space) 0)) (10 + length text)) _))
