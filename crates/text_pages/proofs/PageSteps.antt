-- A page of texts that gets a piece, loses one or goes, as a step of all pages.
use Rattle.std.proofs.Common.{◌≡◌, ◌≢◌, ℕ, zero, suc, ◌+◌, ◌<◌, ◌≤◌, ◌^◌, ◌==◌, ◌||◌, not, ◌⊎◌, inl, inr, Bool, true, false, List, length, slice_index, refl, sym, ap, ◌∙◌, subst, IsTrue, arith}
use Rattle.std.proofs.lemmas.Bool.{eqb-true}
use Rattle.page_bytes.specs.declared.texts.TextRef.{TextRef}
use Rattle.page_bytes.specs.Head.{is_head, next_page, LAST_PAGE}
use Rattle.page_bytes.specs.Texts.{TEXT_KIND, slot_count, piece_at, next_piece, piece_text}
use Rattle.text_pages.specs.declared.forms.Place.{Place}
use Rattle.text_pages.specs.Slots.{with_piece, hole_of, closed, others_free, is_only}
use Rattle.text_pages.specs.Finding.{tried_first}
use Rattle.page_bytes.specs.Seen.{bytes}
use Rattle.text_pages.specs.Meaning.{IsTextPage, HasPiece, IsSound, IsForm, IsPiece, next_at, bytes_of}
use Rattle.text_pages.proofs.Chains.{Pages, Puts, Takes}
use Rattle.text_pages.specs.Keeping.{IsSame}
use Rattle.text_pages.proofs.PageWithPiece as into
use Rattle.text_pages.proofs.PageWithoutPiece as out
use Rattle.page_bytes.proofs.Askings.{first_true, second_true}
use Rattle.text_pages.proofs.Ranges.{split}
use Rattle.text_pages.proofs.Sounds.{same_or_not, IsOpen, sound_with, has_new, sound_without}

-- a head that passes its test is no text page
pub head_is_none : (head : List ℕ) → IsTrue (is_head head) → slice_index head 0 ≡ TEXT_KIND → ⊥
head_is_none head is kind =
    let two = eqb-true (slice_index head 0) 2 (first_true (slice_index head 0 == 2) (not (next_page head == 0)) is) in absurd (omega (arith, two, kind))

-- what is left of the head where page n changes: its number grows at most, and the page that is tried first is none, this one or as it was
pub record HeadForm (pages new : Pages) (n : ℕ) : Type 0 where
  pub head : IsTrue (is_head (bytes new 0))
  pub long : length (bytes new 0) ≡ 4096
  pub last : next_page (bytes new 0) ≤ LAST_PAGE
  pub more : next_page (bytes pages 0) ≤ next_page (bytes new 0)
  pub numbered : IsTextPage new n → n < next_page (bytes new 0)
  pub first : (tried_first (bytes new 0) ≡ 0)
      ⊎ (((tried_first (bytes new 0) ≡ n) × IsTextPage new n)
      ⊎ ((tried_first (bytes new 0) ≡ tried_first (bytes pages 0)) × (tried_first (bytes pages 0) ≡ n → IsTextPage new n)))

module _ (pages new : Pages) (n : ℕ) (form : IsForm pages) (others : (q : ℕ) → q ≢ n → q ≢ 0 → bytes new q ≡ bytes pages q) (head : HeadForm pages new n) where
  -- a text page isn't the head
  text_past : (q : ℕ) → IsTextPage pages q → q ≢ 0
  text_past q is zero_is = head_is_none (bytes pages 0) form.head (subst (IsTextPage pages) zero_is is)

  other_text : (q : ℕ) → q ≢ n → IsTextPage new q → (bytes new q ≡ bytes pages q) × IsTextPage pages q
  other_text q differ is =
      let same = others q differ (λ zero_is. head_is_none (bytes new 0) head.head (subst (IsTextPage new) zero_is is)) in
      (same, subst (λ (b : List ℕ). slice_index b 0 ≡ TEXT_KIND) same is)

  kept_text : (q : ℕ) → IsTextPage pages q → q ≢ n → bytes new q ≡ bytes pages q
  kept_text q is differ = others q differ (text_past q is)

  -- a piece of another page is as it was
  pub other_piece : (q : TextRef) → IsPiece pages q → q.page ≢ n → IsSame pages new q
  unfolding next_at bytes_of
  other_piece q is differ =
      let same = kept_text q.page is.0 differ in
      (subst (λ (b : List ℕ). (slice_index b 0 ≡ TEXT_KIND) × HasPiece b q.slot) (sym same) is, ap (next_piece q.slot) same, ap (piece_text q.slot) same)

  -- and the pages are in their form
  pub form_stays : (IsTextPage new n → IsSound (bytes new n)) → IsForm new
  form_stays sound = record {
    head = head.head;
    long = head.long;
    last = head.last;
    numbered = λ q is. same_or_not q n
        (λ same. subst (λ q. q < next_page (bytes new 0)) (sym same) (head.numbered (subst (IsTextPage new) same is)))
        (λ differ. let was = form.numbered q (other_text q differ is).1 in let more = head.more in omega (arith, was, more));
    sound = λ q is. same_or_not q n
        (λ same. subst (λ q. IsSound (bytes new q)) (sym same) (sound (subst (IsTextPage new) same is)))
        (λ differ. subst IsSound (sym (other_text q differ is).0) (form.sound q (other_text q differ is).1));
    first = split head.first
        (λ none. inl none)
        (λ some. split some
        (λ here. inr (subst (IsTextPage new) (sym here.0) here.1))
        (λ was. split form.first
        (λ none. inl (was.0 ∙ none))
        (λ is. inr (subst (IsTextPage new) (sym was.0) (same_or_not (tried_first (bytes pages 0)) n
        (λ same. subst (IsTextPage new) (sym same) (was.1 same))
        (λ differ. subst (λ (b : List ℕ). slice_index b 0 ≡ TEXT_KIND) (sym (kept_text (tried_first (bytes pages 0)) is differ)) is))))));
  }

  -- page n has a piece more
  module _ (page : List ℕ) (place : Place) (next : TextRef) (text : List ℕ) (o : IsOpen page) (p : into.IsPlace page place (10 + length text))
      (some : 0 < length text)
      (kind : slice_index page 0 ≡ TEXT_KIND) (was : IsTextPage pages n → bytes pages n ≡ page) (here : bytes new n ≡ with_piece place next text page)
      (page_small : next.page < 256 ^ 8) (slot_small : next.slot < 256 ^ 2) where
    abbrev at : TextRef
    at = record { page = n; slot = place.slot }

    is_text : IsTextPage new n
    is_text = ap (λ (b : List ℕ). slice_index b 0) here ∙ into.new_kind page place next text o.long p ∙ kind

    same_page : (q : TextRef) → IsPiece pages q → q.page ≡ n → IsSame pages new q
    unfolding next_at bytes_of
    same_page q is same =
        let before : bytes pages q.page ≡ page = subst (λ m. IsTextPage pages m → bytes pages m ≡ page) (sym same) was is.0 in
        let after : bytes new q.page ≡ with_piece place next text page = subst (λ m. bytes new m ≡ with_piece place next text page) (sym same) here in
        let has : HasPiece page q.slot = subst (λ (b : List ℕ). HasPiece b q.slot) before is.1 in
        let within = o.inside q.slot has in (
          (
            subst (IsTextPage new) (sym same) is_text,
            subst (λ (b : List ℕ). HasPiece b q.slot) (sym after)
                (into.still_has page place next text o.long p q.slot has within.0 within.1),
          ),
          ap (next_piece q.slot) after ∙ into.same_next page place next text o.long p q.slot has within.0 within.1 ∙ sym (ap (next_piece q.slot) before),
          ap (piece_text q.slot) after ∙ into.same_text page place next text o.long p q.slot has within.0 within.1 ∙ sym (ap (piece_text q.slot) before),
        )

    -- the new pages are the old ones with this piece put, each other piece as it was, in form
    pub puts_piece : Puts pages new (record { page = n; slot = place.slot }) next text
    unfolding next_at bytes_of
    puts_piece = record {
      fresh = λ is. p.free (subst (λ (b : List ℕ). HasPiece b place.slot) (was is.0) is.1);
      made = (is_text, subst (λ (b : List ℕ). HasPiece b place.slot) (sym here) (has_new page place next text o p some));
      leads = ap (next_piece place.slot) here ∙ into.new_next page place next text o.long p page_small slot_small;
      has = ap (piece_text place.slot) here ∙ into.new_text page place next text o.long p;
      kept = λ q is. same_or_not q.page n (same_page q is) (other_piece q is);
      form = form_stays (λ is. subst IsSound (sym here) (sound_with page place next text o p some));
    }

  -- page n has a piece less, and another one
  module _ (slot : ℕ) (text_page : IsTextPage pages n) (has : HasPiece (bytes pages n) slot) (t : ℕ) (other : HasPiece (bytes pages n) t) (apart : t ≢ slot)
      (here : bytes new n ≡ closed (hole_of slot (bytes pages n)) (bytes pages n)) where
    still_text : IsTextPage new n
    still_text = ap (λ (b : List ℕ). slice_index b 0) here ∙ out.new_kind (bytes pages n) slot (form.sound n text_page) has ∙ text_page

    left_piece : (q : TextRef) → IsPiece pages q → q.page ≡ n → q ≢ record { page = n; slot = slot } → IsSame pages new q
    unfolding next_at bytes_of
    left_piece q is same differ =
        let page = bytes pages n in let sound = form.sound n text_page in
        let there : HasPiece page q.slot = subst (λ m. HasPiece (bytes pages m) q.slot) same is.1 in
        let slots : q.slot ≢ slot = λ one. differ (λ i. record { page = same i; slot = one i }) in
        let before = ap (bytes pages) same in let after = ap (bytes new) same ∙ here in (
          (
            subst (IsTextPage new) (sym same) still_text,
            subst (λ (b : List ℕ). HasPiece b q.slot) (sym after)
                (out.still_has page slot sound has q.slot there slots),
          ),
          ap (next_piece q.slot) after ∙ out.same_next page slot sound has q.slot there slots ∙ sym (ap (next_piece q.slot) before),
          ap (piece_text q.slot) after ∙ out.same_text page slot sound has q.slot there slots ∙ sym (ap (piece_text q.slot) before),
        )

    -- the new pages are the old ones without this piece, each other piece as it was, in form
    pub takes_piece : Takes pages new (record { page = n; slot = slot })
    takes_piece = record {
      kept = λ q is differ. same_or_not q.page n (λ same. left_piece q is same differ) (other_piece q is);
      form = form_stays (λ is. subst IsSound (sym here) (sound_without (bytes pages n) slot (form.sound n text_page) has t other apart));
    }

  -- page n goes with its only piece
  module _ (slot : ℕ) (gone : IsTextPage new n → ⊥) (only : is_only slot (bytes pages n) ≡ true) where
    no_other : (count : ℕ) (t : ℕ) → others_free count slot (bytes pages n) ≡ true → t < count → 0 < piece_at t (bytes pages n) → t ≡ slot
    no_other zero t is inside positive = absurd (omega (arith, inside))
    no_other (suc count) t is inside positive = same_or_not t count
        (λ last. last_is last (second_true (others_free count slot (bytes pages n)) (count == slot || piece_at count (bytes pages n) == 0) is))
        (λ before. no_other count t (first_true (others_free count slot (bytes pages n)) (count == slot || piece_at count (bytes pages n) == 0) is)
        (omega (arith, before, inside)) positive)
      where
        either : (b c : Bool) → (b || c) ≡ true → (b ≡ true) ⊎ (c ≡ true)
        either true c is = inl refl
        either false c is = inr is

        last_is : t ≡ count → (count == slot || piece_at count (bytes pages n) == 0) ≡ true → t ≡ slot
        last_is last is = split (either (count == slot) (piece_at count (bytes pages n) == 0) is)
            (λ same. last ∙ eqb-true count slot same)
            (λ free. let none = eqb-true (piece_at count (bytes pages n)) 0 free in let positive' = subst (λ t. 0 < piece_at t (bytes pages n)) last positive in
            absurd (omega (arith, none, positive')))

    -- a page that went with its only piece took no other: each is as it was, and the pages are in form
    pub takes_page : Takes pages new (record { page = n; slot = slot })
    takes_page = record {
      kept = λ q is differ. same_or_not q.page n
          (λ same. absurd (differ (let slots =
          no_other (slot_count (bytes pages n)) q.slot only (subst (λ m. HasPiece (bytes pages m) q.slot) same is.1).0
          (subst (λ m. HasPiece (bytes pages m) q.slot) same is.1).1 in λ i. record { page = same i; slot = slots i })))
          (other_piece q is);
      form = form_stays (λ is. absurd (gone is));
    }
