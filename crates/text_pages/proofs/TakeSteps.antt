-- What taking a piece away does where the pages are in the form of texts.
use Rattle.std.proofs.Common.{◌≡◌, ◌≢◌, ℕ, zero, suc, ◌<◌, ◌≤◌, ◌==◌, ◌&&◌, ◌||◌, inl, inr, Bool, true, false, List, [], slice_index, Option, Some, None, Result, Ok, Err, MatchResult, refl, sym, ap, ◌∙◌, subst, eq-eqb, IsTrue, true≢false, if◌then◌else◌, arith}
use Rattle.std.proofs.lemmas.Bool.Decides.{nat_tests}
use Rattle.page_bytes.specs.declared.ids.Space.{Space}
use Rattle.page_bytes.specs.declared.ids.PageId.{PageId}
use Rattle.page_bytes.specs.declared.texts.TextRef.{TextRef}
use Rattle.page_bytes.specs.declared.end.PageEnd.{PageEnd}
use Rattle.page_bytes.specs.Fields.{with_field}
use Rattle.page_bytes.specs.Head.{head_of, next_page}
use Rattle.page_bytes.specs.Known.{Known, is_there}
use Rattle.page_bytes.specs.Links.{page_in, and_then}
use Rattle.page_bytes.specs.Texts.{slot_count, piece_at, next_piece}
use Rattle.page_bytes.specs.Work.{Work, without_page}
use Rattle.text_pages.specs.declared.forms.Leaving.{Leaving}
use Rattle.text_pages.specs.Slots.{room, hole_of, closed, others_free, is_only}
use Rattle.text_pages.specs.Finding.{tried_first, first_in, room_in, is_roomier}
use Rattle.text_pages.specs.Putting.{with_first}
use Rattle.text_pages.specs.Taking.{leaving_of, page_freed_in, roomier_in, with_hole, hole_made_in, piece_gone_in, piece_taken_in}
use Rattle.page_bytes.specs.Seen.{seen, bytes}
use Rattle.text_pages.specs.Meaning.{IsTextPage, IsForm, IsPiece, next_at}
use Rattle.page_bytes.specs.Answers.{IsStop, IsNeed}
use Rattle.text_pages.proofs.Chains.{Takes}
use Rattle.page_bytes.proofs.Askings.{Needs}
use Rattle.text_pages.proofs.Reached.{among, text_in, long_in, among-written, among-beside, among-first, among-freed, among-freed_beside}
use Rattle.text_pages.proofs.Givings.{first-is, room-is, piece-is}
use Rattle.text_pages.proofs.Heads.{head_stays, head_tries, tried_next}
use Rattle.page_bytes.proofs.Growing.{Grows, grows_twice, grows_with, grows_without}
use Rattle.page_bytes.proofs.PageWrites.{there_with_page, head_there_without}
use Rattle.text_pages.proofs.PageSteps.{HeadForm, head_is_none, takes_piece, takes_page}
use Rattle.text_pages.proofs.PageWithoutPiece as out
use Rattle.text_pages.proofs.Ranges.{split}

-- a piece is taken away, with all that is known kept
pub record TakeStep (set : ℕ → Bool) (w new : Work) (all : PageId → Option (List ℕ)) (space : Space) (at next : TextRef) : Type 0 where
  pub takes : Takes (among set w.now all space) (among set new.now all space) at
  pub leads : next ≡ next_at (among set w.now all space) at
  pub grows : Grows w.now new.now
  pub made : next_page (bytes (among set new.now all space) 0) ≤ next_page (bytes (among set w.now all space) 0)

-- a need by what was known later is one by what is known
pub need_before : (old new : Known) (all : PageId → Option (List ℕ)) (space : Space) (end : PageEnd) → Grows old new → IsNeed new all space end
    → IsNeed old all space end
need_before old new all space end grows need = (need.0, (need.1.0, grows (page_in space need.0) need.1.1, need.1.2))

-- how taking a piece away ends
abbrev pub TakeEnds : (ℕ → Bool) → Work → (PageId → Option (List ℕ)) → Space → TextRef → Result (TextRef × Work) PageEnd → Type 0
TakeEnds set w all space at r = MatchResult r (λ taken. TakeStep set w taken.1 all space at taken.0) (λ end. IsStop w.now all space end)

-- where not all other slots are free, one has a piece
pub other_there : (count slot : ℕ) (page : List ℕ) → others_free count slot page ≡ false → (t : ℕ) × ((t < count) × (t ≢ slot) × (0 < piece_at t page))
other_there zero slot page is = absurd (true≢false is)
other_there (suc n) slot page is = at (others_free n slot page) refl (other_there n slot page) is
  where
    past : (n : ℕ) → (n == 0) ≡ false → 0 < n
    past n is = grind (arith, nat_tests)

    apart : (n m : ℕ) → (n == m) ≡ false → n ≢ m
    apart n m is same = true≢false (sym (eq-eqb n m same) ∙ is)

    both : (b c : Bool) → (b || c) ≡ false → (b ≡ false) × (c ≡ false)
    both true c is = absurd (true≢false is)
    both false c is = (refl, is)

    at : (b : Bool) → others_free n slot page ≡ b → (others_free n slot page ≡ false → (t : ℕ) × ((t < n) × (t ≢ slot) × (0 < piece_at t page)))
        → (b && (n == slot || piece_at n page == 0)) ≡ false → (t : ℕ) × ((t < suc n) × (t ≢ slot) × (0 < piece_at t page))
    at true all rest is = let this = both (n == slot) (piece_at n page == 0) is in (n, (omega arith, apart n slot this.0, past (piece_at n page) this.1))
    at false some rest is = let t = rest some in (t.0, (let less = t.1.0 in omega (arith, less), t.1.1, t.1.2))

module _ (set : ℕ → Bool) (w : Work) (all : PageId → Option (List ℕ)) (space : Space) (form : IsForm (among set w.now all space)) (at : TextRef)
    (is : IsPiece (among set w.now all space) at)
    (there : IsTrue (is_there w.now (page_in space at.page))) where
  abbrev page : List ℕ
  page = bytes (among set w.now all space) at.page

  abbrev f : ℕ
  f = tried_first (bytes (among set w.now all space) 0)

  head_in_set : set 0 ≡ true
  head_in_set = long_in set (seen w.now all space) 0 form.long

  inside : set at.page ≡ true
  inside = text_in set (seen w.now all space) at.page is.0

  past : at.page ≢ 0
  past zero_is = head_is_none (bytes (among set w.now all space) 0) form.head (subst (IsTextPage (among set w.now all space)) zero_is is.0)

  below : at.page < 18446744073709551615
  below = let less = form.numbered at.page is.0 in let last = form.last in omega (arith, less, last)

  -- a page goes, and the head has no page that is tried first where it was this one
  abbrev freed : Work
  freed = without_page w (page_in space at.page)

  abbrev forgotten : Work
  forgotten = with_first (without_page w (page_in space at.page)) space 0

  none_left : (v : Work) → bytes (among set v.now all space) at.page ≡ [] → IsTextPage (among set v.now all space) at.page → ⊥
  none_left v gone text = let zero_is : 0 ≡ 5 = sym (ap (λ (b : List ℕ). slice_index b 0) gone) ∙ text in absurd (omega (arith, zero_is))

  module _ (head_there : IsTrue (is_there w.now (head_of space))) where
    freed_head : bytes (among set freed.now all space) 0 ≡ bytes (among set w.now all space) 0
    freed_head = among-freed_beside set w all space at.page 0 (λ same. past (sym same))

    -- a page goes with its only piece: the piece is taken away, whether the page was the one tried first or not
    pub freed_step : (b : Bool) → (f == at.page) ≡ b → is_only at.slot page ≡ true
        → TakeStep set w (if b then forgotten else freed) all space at (next_at (among set w.now all space) at)
    freed_step true same only =
        let pages = among set w.now all space in let new = among set forgotten.now all space in
        let positive : 0 < at.page = let p = past in omega (arith, p) in
        let gone : bytes new at.page ≡ [] = among-beside set freed all space 0 at.page _ past ∙ among-freed set w all space at.page inside in
        let head_is : bytes new 0 ≡ with_field 8 (bytes pages 0) 26 0 =
        among-written set freed all space 0 _ head_in_set
        ∙ ap (λ (b : List ℕ). with_field 8 b 26 0)
        (sym (among-first set freed.now all space 0 head_in_set (head_there_without w space at.page positive head_there)) ∙ freed_head) in
        record {
          takes = takes_page pages new at.page form (λ q differ beside. among-beside set freed all space 0 q _ beside
              ∙ among-freed_beside set w all space at.page q differ)
              (head_tries pages new at.page form (λ text. absurd (none_left forgotten gone text)) 0 head_is (inl refl) (omega arith)) at.slot
              (none_left forgotten gone) only;
          leads = refl;
          grows = grows_twice w.now freed.now forgotten.now (grows_without w (page_in space at.page)) (grows_with freed (head_of space) _);
          made = let same = ap next_page head_is ∙ tried_next (bytes pages 0) form.long 0 in omega (arith, same);
        }
    freed_step false differs only =
        let pages = among set w.now all space in let new = among set freed.now all space in
        let gone : bytes new at.page ≡ [] = among-freed set w all space at.page inside in
        record {
          takes = takes_page pages new at.page form (λ q differ beside. among-freed_beside set w all space at.page q differ)
              (head_stays pages new at.page form (λ text. absurd (none_left freed gone text)) freed_head
              (λ same. absurd (true≢false (sym (eq-eqb f at.page same) ∙ differs)))) at.slot (none_left freed gone) only;
          leads = refl;
          grows = grows_without w (page_in space at.page);
          made = let same = ap next_page freed_head in omega (arith, same);
        }

    -- a piece goes, and others of its page stay
    abbrev holed : Work
    holed = with_hole w space at.page (hole_of at.slot (bytes (among set w.now all space) at.page))

    abbrev renamed : Work
    renamed = with_first (with_hole w space at.page (hole_of at.slot (bytes (among set w.now all space) at.page))) space at.page

    module _ (other : is_only at.slot page ≡ false) where
      holed_page : bytes (among set holed.now all space) at.page ≡ closed (hole_of at.slot page) page
      holed_page = among-written set w all space at.page _ inside
          ∙ ap (closed (hole_of at.slot page)) (sym (among-first set w.now all space at.page inside there))

      holed_head : bytes (among set holed.now all space) 0 ≡ bytes (among set w.now all space) 0
      holed_head = among-beside set w all space at.page 0 _ (λ same. past (sym same))

      still_text : (v : Work) → bytes (among set v.now all space) at.page ≡ closed (hole_of at.slot page) page → IsTextPage (among set v.now all space) at.page
      still_text v here = ap (λ (b : List ℕ). slice_index b 0) here ∙ out.new_kind page at.slot (form.sound at.page is.0) is.1 ∙ is.0

      hole_step : (v : Work) → bytes (among set v.now all space) at.page ≡ closed (hole_of at.slot page) page
          → ((q : ℕ) → q ≢ at.page → q ≢ 0 → bytes (among set v.now all space) q ≡ bytes (among set w.now all space) q)
          → HeadForm (among set w.now all space) (among set v.now all space) at.page → Grows w.now v.now
          → next_page (bytes (among set v.now all space) 0) ≤ next_page (bytes (among set w.now all space) 0)
          → TakeStep set w v all space at (next_at (among set w.now all space) at)
      hole_step v here others heads grows made =
          let t = other_there (slot_count page) at.slot page other in record {
            takes = takes_piece (among set w.now all space) (among set v.now all space) at.page form others heads at.slot is.0 is.1 t.0
                (t.1.0, t.1.2) t.1.1 here;
            leads = refl;
            grows = grows;
            made = made;
          }

      -- the piece is taken away where the head stays
      pub holed_step : TakeStep set w holed all space at (next_at (among set w.now all space) at)
      holed_step = hole_step holed holed_page (λ q differ beside. among-beside set w all space at.page q _ differ)
          (head_stays (among set w.now all space) (among set holed.now all space) at.page form (λ text. form.numbered at.page is.0) holed_head
          (λ same. still_text holed holed_page)) (grows_with w (page_in space at.page) _) (let same = ap next_page holed_head in omega (arith, same))

      -- the piece is taken away where the head tries its page first from then on
      pub renamed_step : TakeStep set w renamed all space at (next_at (among set w.now all space) at)
      renamed_step =
          let here : bytes (among set renamed.now all space) at.page ≡ closed (hole_of at.slot page) page = among-beside set holed all space 0 at.page _ past
          ∙ holed_page in
          let head_is : bytes (among set renamed.now all space) 0 ≡ with_field 8 (bytes (among set w.now all space) 0) 26 at.page =
          among-written set holed all space 0 _ head_in_set
          ∙ ap (λ (b : List ℕ). with_field 8 b 26 at.page)
          (sym (among-first set holed.now all space 0 head_in_set (there_with_page w (page_in space at.page) (head_of space) _ head_there)) ∙ holed_head) in
          let small = below in
          hole_step renamed here (λ q differ beside. among-beside set holed all space 0 q _ beside ∙ among-beside set w all space at.page q _ differ)
          (head_tries (among set w.now all space) (among set renamed.now all space) at.page form (λ text. form.numbered at.page is.0) at.page head_is
          (inr (refl, still_text renamed here)) (omega (arith, small)))
          (grows_twice w.now holed.now renamed.now (grows_with w (page_in space at.page) _) (grows_with holed (head_of space) _))
          (let same = ap next_page head_is ∙ tried_next (bytes (among set w.now all space) 0) form.long at.page in omega (arith, same))

  -- how a piece that is there goes
  abbrev GoneEnds : Result (Unit {0} × Work) PageEnd → Type 0
  GoneEnds r = MatchResult r (λ gone. TakeStep set w gone.1 all space at (next_at (among set w.now all space) at)) (λ end. IsStop w.now all space end)

  needed : {X : Type 0} (k : Known) (r : Result X PageEnd) (g : X → Result (Unit {0} × Work) PageEnd) → Grows w.now k → Needs k all space r
      → GoneEnds (and_then r g)
  needed k r g grows need = subst (λ r. GoneEnds (and_then r g)) (sym need.1.0) (inr (need_before w.now k all space need.0 grows need.1.1))

  freed_ends : is_only at.slot page ≡ true → GoneEnds (page_freed_in w space at.page)
  freed_ends only = split (first-is set w.now all space form)
      (λ found. subst (λ r. GoneEnds (and_then r (λ first. Ok (tt, if first == at.page then forgotten else freed)))) (sym found.0)
      (freed_step found.1 (f == at.page) refl only))
      (needed w.now (first_in w.now space) _ (λ id is. is))

  holed_ends : is_only at.slot page ≡ false → (more : ℕ) → GoneEnds (hole_made_in w space at.page (hole_of at.slot page) more)
  holed_ends other more = split (first-is set w.now all space form)
      (λ found. subst (λ r. GoneEnds (and_then r (λ first. roomier_in (with_hole w space at.page (hole_of at.slot page)) space first at.page more)))
      (sym found.0) (noted found.1 (f == at.page)))
      (needed w.now (first_in w.now space) _ (λ id is. is))
    where
      which : (head_there : IsTrue (is_there w.now (head_of space))) (b : Bool)
          → TakeStep set w (if b then with_first
          (with_hole w space at.page (hole_of at.slot (bytes (among set w.now all space) at.page))) space at.page else with_hole w space at.page
          (hole_of at.slot (bytes (among set w.now all space) at.page))) all space at (next_at (among set w.now all space) at)
      which head_there true = renamed_step head_there other
      which head_there false = holed_step head_there other

      noted : (head_there : IsTrue (is_there w.now (head_of space))) (b : Bool)
          → GoneEnds (if b then Ok (tt, with_hole w space at.page (hole_of at.slot (bytes (among set w.now all space) at.page))) else and_then
          (room_in (with_hole w space at.page (hole_of at.slot (bytes (among set w.now all space) at.page))).now space
          (tried_first (bytes (among set w.now all space) 0)))
          (λ tried. Ok (
            tt,
            if is_roomier more tried then with_first
                (with_hole w space at.page (hole_of at.slot (bytes (among set w.now all space) at.page))) space at.page else with_hole w space at.page
                (hole_of at.slot (bytes (among set w.now all space) at.page)),
          )))
      noted head_there true = holed_step head_there other
      noted head_there false =
          let v = with_hole w space at.page (hole_of at.slot page) in let step = holed_step head_there other in
          let same : tried_first (bytes (among set v.now all space) 0) ≡ f = ap tried_first (holed_head head_there other) in
          split step.takes.form.first
          (λ none. subst (λ n. GoneEnds (and_then (room_in v.now space n) (λ tried. Ok (tt, if is_roomier more tried then with_first v space at.page else v))))
          (sym (sym same ∙ none)) (which head_there (is_roomier more None)))
          (λ text. split (room-is set v.now all space step.takes.form f (subst (IsTextPage (among set v.now all space)) same text))
          (λ found. subst (λ r. GoneEnds (and_then r (λ tried. Ok (tt, if is_roomier more tried then with_first v space at.page else v)))) (sym found.0)
          (which head_there (is_roomier more (Some (room (bytes (among set v.now all space) f))))))
          (needed v.now (room_in v.now space f) _ step.grows))

  gone_ends : (b : Bool) → is_only at.slot page ≡ b → (more : ℕ)
      → GoneEnds (if b then page_freed_in w space at.page else hole_made_in w space at.page (hole_of at.slot page) more)
  gone_ends true only more = freed_ends only
  gone_ends false other more = holed_ends other more

  taken_after : TakeEnds set w all space at (and_then (piece_gone_in w space at.page (leaving_of at.slot page)) (λ gone. Ok (next_piece at.slot page, gone.1)))
  unfolding next_at
  taken_after = carried (piece_gone_in w space at.page (leaving_of at.slot page)) (gone_ends (is_only at.slot page) refl (leaving_of at.slot page).room)
    where
      carried : (r : Result (Unit {0} × Work) PageEnd) → GoneEnds r → TakeEnds set w all space at (and_then r (λ gone. Ok (next_piece at.slot page, gone.1)))
      carried (Ok gone) ends = ends
      carried (Err end) ends = ends

-- how taking a piece that is there away ends
pub take_ends : (set : ℕ → Bool) (w : Work) (all : PageId → Option (List ℕ)) (space : Space) (form : IsForm (among set w.now all space)) (from : ℕ)
    (at : TextRef) → IsPiece (among set w.now all space) at → TakeEnds set w all space at (piece_taken_in w space from at)
take_ends set w all space form from at is = split (piece-is set w.now all space form from at is)
    (λ found. subst (λ r. TakeEnds set w all space at
    (and_then (and_then r (λ page. Ok (leaving_of at.slot page)))
    (λ (leaving : Leaving). and_then (piece_gone_in w space at.page leaving) (λ gone. Ok (leaving.next, gone.1))))) (sym found.0)
    (taken_after set w all space form at is found.1))
    (λ need. subst (λ r. TakeEnds set w all space at
    (and_then (and_then r (λ page. Ok (leaving_of at.slot page)))
    (λ (leaving : Leaving). and_then (piece_gone_in w space at.page leaving) (λ gone. Ok (leaving.next, gone.1))))) (sym need.1.0) (inr need.1.1))
