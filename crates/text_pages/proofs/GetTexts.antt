-- What reading a text gives where the pages mean texts.
use Rattle.std.proofs.Common.{◌≡◌, ℕ, zero, suc, ◌+◌, ◌<◌, ◌≤◌, ◌==◌, ◌&&◌, inl, inr, Bool, true, false, nat_le, List, [], ◌∷◌, ◌++◌, drop, slice_index, Option, Some, Result, Ok, Err, MatchResult, refl, sym, ap, ◌∙◌, subst, true≢false, eq-eqb, append_assoc, if◌then◌else◌, arith}
use Rattle.std.proofs.lemmas.Bool.{eqb-true}
use Rattle.std.proofs.lemmas.List.{append-nil}
use Rattle.std.proofs.lemmas.Bool.Decides.{nat_tests}
use Rattle.std.specs.FinMap as map
use Rattle.std.specs.Str.{IsUtf8}
use Rattle.page_bytes.specs.declared.ids.Space.{Space}
use Rattle.page_bytes.specs.declared.ids.PageId.{PageId}
use Rattle.page_bytes.specs.declared.texts.TextRef.{TextRef}
use Rattle.page_bytes.specs.declared.end.PageEnd.{PageEnd}
use Rattle.page_bytes.specs.Known.{Known}
use Rattle.page_bytes.specs.Links.{page_in, and_then, asked, tested}
use Rattle.page_bytes.specs.Texts.{TEXT_KIND, piece_at, piece_length, is_readable, has_piece, is_piece, next_piece, piece_text, piece_page, Joined, with_piece, joined_more, joined, IsTextAt}
use Rattle.text_pages.specs.Slots.{slots_end}
use Rattle.text_pages.specs.Reading.{IsStrAt}
use Rattle.page_bytes.specs.Seen.{seen, bytes}
use Rattle.text_pages.specs.Meaning.{HasPiece, IsSound, IsForm, IsPiece, next_at, bytes_of, IsChain, joined_bytes, is_listed, IsOnceEach, TextMap, AreTexts, MeansTexts, text_in, IsNotGiven}
use Rattle.page_bytes.specs.Answers.{IsStop}
use Rattle.text_pages.proofs.Chains.{Pages, listed_first, listed_later}
use Rattle.page_bytes.proofs.Askings.{Gives, gives_then}
use Rattle.text_pages.proofs.Reached.{among, asked-among}
use Rattle.text_pages.proofs.Givings.{has_piece_true}
use Rattle.text_pages.proofs.Maps.{piece_past, is_some_of}
use Rattle.text_pages.proofs.Ranges.{split}

-- a piece passes the tests of a reader
module _ (set : ℕ → Bool) (k : Known) (all : PageId → Option (List ℕ)) (space : Space) (form : IsForm (among set k all space)) where
  text_page_true : (page : List ℕ) → slice_index page 0 ≡ TEXT_KIND → IsSound page → is_readable page ≡ true
  text_page_true page kind sound = let slots = sound.slots in let low = sound.low in
      passes (slice_index page 0) (slots_end page) kind (omega (arith, slots, low))
    where
      passes : (k e : ℕ) → k ≡ 5 → e ≤ 4096 → (k == 5 && nat_le e 4096) ≡ true
      passes k e five inside = grind (arith, nat_tests)

  is_piece_true : (page : List ℕ) (slot : ℕ) → IsSound page → HasPiece page slot → is_piece slot page ≡ true
  is_piece_true page slot sound has =
      let within = sound.inside slot has in let slots = sound.slots in
      passes (slots_end page) (piece_at slot page) (piece_length slot page) (omega (arith, slots, within)) within.1 within.2
    where
      passes : (e a n : ℕ) → e ≤ a → 11 ≤ n → a + n ≤ 4096 → (nat_le e a && nat_le 11 n && nat_le (a + n) 4096) ≡ true
      passes e a n behind long within = grind (arith, nat_tests)

  -- the page of a piece is given with its bytes, or a page is needed
  pub piece_page-is : (from : ℕ) (at : TextRef) → IsPiece (among set k all space) at
      → Gives k all space (piece_page k space from at) (bytes (among set k all space) at.page) (Unit {0})
  piece_page-is from at is =
      let page = bytes (among set k all space) at.page in let sound = form.sound at.page is.0 in let long = sound.long in
      gives_then k all space (asked k (page_in space from) (page_in space at.page))
      (λ bytes. and_then (tested (page_in space at.page) (is_readable bytes) bytes)
      (λ page. and_then (tested (page_in space from) (has_piece at.slot page) page) (λ page. tested (page_in space at.page) (is_piece at.slot page) page)))
      page _ (asked-among set k all space (page_in space from) at.page (omega (arith, long)))
      (λ there. inl (
        ap (λ b. and_then (tested (page_in space at.page) b page)
            (λ page. and_then (tested (page_in space from) (has_piece at.slot page) page)
            (λ page. tested (page_in space at.page) (is_piece at.slot page) page))) (text_page_true page is.0 sound)
            ∙ ap (λ b. and_then (tested (page_in space from) b page) (λ page. tested (page_in space at.page) (is_piece at.slot page) page))
            (has_piece_true page at.slot is.1)
            ∙ ap (λ b. tested (page_in space at.page) b page) (is_piece_true page at.slot sound is.1),
        tt,
      ))

-- of pieces that come once each none comes again behind itself
behind_listed : (n : ℕ) (xs : List TextRef) (x : TextRef) (ys : List TextRef) → drop n xs ≡ x ∷ ys → is_listed xs x ≡ true
behind_listed zero xs x ys is = subst (λ l. is_listed l x ≡ true) (sym is) (listed_first x ys)
behind_listed (suc n) [] x ys is = cc
behind_listed (suc n) (y ∷ xs) x ys is = listed_later y xs x (behind_listed n xs x ys is)

never_again : (m n : ℕ) (rs : List TextRef) (x : TextRef) (xs ys : List TextRef) → IsOnceEach rs → m < n → drop m rs ≡ x ∷ xs → drop n rs ≡ x ∷ ys → ⊥
never_again zero zero rs x xs ys once less one two = absurd (omega (arith, less))
never_again zero (suc n) [] x xs ys once less one two = cc
never_again zero (suc n) (r ∷ rs) x xs ys once less one two =
    true≢false (sym (behind_listed n rs x ys two) ∙ subst (λ y. is_listed rs y ≡ false) (first_of one) once.0)
  where
    first_of : {a b : TextRef} {us vs : List TextRef} → (a ∷ us) ≡ (b ∷ vs) → a ≡ b
    first_of is = cc
never_again (suc m) zero rs x xs ys once less one two = absurd (omega (arith, less))
never_again (suc m) (suc n) [] x xs ys once less one two = cc
never_again (suc m) (suc n) (r ∷ rs) x xs ys once less one two = never_again m n rs x xs ys once.1 (omega (arith, less)) one two

module _ (set : ℕ → Bool) (k : Known) (all : PageId → Option (List ℕ)) (space : Space) (form : IsForm (among set k all space)) (first : TextRef)
    (rs : List TextRef) (once : IsOnceEach rs) (chain : IsChain (among set k all space) first rs) where
  abbrev pages : Pages
  pages = among set k all space

  abbrev text : List ℕ
  text = joined_bytes (among set k all space) rs

  -- so many pieces have been read
  pub record HasRead (n : ℕ) (j : Joined) : Type 0 where
    pub leads : IsChain (among set k all space) j.at (drop n rs)
    pub joins : j.text ++ joined_bytes (among set k all space) (drop n rs) ≡ joined_bytes (among set k all space) rs

  -- so many pieces have been read, or reading stops for a need or want of memory
  abbrev pub ReadAs : ℕ → Result Joined PageEnd → Type 0
  ReadAs n r = MatchResult r (HasRead n) (λ end. IsStop k all space end)

  drop_more : (n : ℕ) (l : List TextRef) → drop (suc n) l ≡ drop 1 (drop n l)
  drop_more zero l = refl
  drop_more (suc n) [] = refl
  drop_more (suc n) (x ∷ l) = drop_more n l

  read_more : (n : ℕ) (j : Joined) → HasRead n j → ReadAs (suc n) (joined_more k space j)
  unfolding next_at bytes_of
  read_more n j h = from (drop n rs) refl h.leads h.joins (j.at.page == 0) refl
    where
      from : (left : List TextRef) → drop n rs ≡ left → IsChain (among set k all space) j.at left
          → j.text ++ joined_bytes (among set k all space) left ≡ joined_bytes (among set k all space) rs → (b : Bool) → (j.at.page == 0) ≡ b
          → ReadAs (suc n) (if b then Ok j else and_then (piece_page k space j.from j.at) (λ page. Ok (with_piece j page)))
      from [] is leads joins true none =
          let rest : drop (suc n) rs ≡ [] = drop_more n rs ∙ ap (drop 1) is in
          record {
            leads = subst (IsChain (among set k all space) j.at) (sym rest) leads;
            joins =
                subst (λ l. j.text ++ joined_bytes (among set k all space) l ≡ joined_bytes (among set k all space) rs) (sym rest) joins;
          }
      from [] is leads joins false past = absurd (true≢false (sym (eq-eqb j.at.page 0 leads) ∙ past))
      from (r ∷ left) is leads joins true none =
          absurd (piece_past (among set k all space) r form leads.1 (subst (λ (x : TextRef). x.page ≡ 0) leads.0 (eqb-true j.at.page 0 none)))
      from (r ∷ left) is leads joins false past =
          let rest : drop (suc n) rs ≡ left = drop_more n rs ∙ ap (drop 1) is in
          split (piece_page-is set k all space form j.from j.at (subst (IsPiece (among set k all space)) (sym leads.0) leads.1))
          (λ found. subst (λ r. ReadAs (suc n) (and_then r (λ page. Ok (with_piece j page)))) (sym found.0)
          (record {
            leads = subst (IsChain (among set k all space) (next_piece j.at.slot (bytes (among set k all space) j.at.page))) (sym rest)
                (subst (λ (x : TextRef). IsChain (among set k all space) (next_piece x.slot (bytes (among set k all space) x.page)) left)
                (sym leads.0) leads.2);
            joins = subst (λ l. (j.text ++ piece_text j.at.slot (bytes (among set k all space) j.at.page)) ++ joined_bytes (among set k all space) l
                ≡ joined_bytes (among set k all space) rs) (sym rest)
                (append_assoc j.text (piece_text j.at.slot (bytes (among set k all space) j.at.page)) (joined_bytes (among set k all space) left)
                ∙ ap (λ (x : TextRef). j.text ++ (piece_text x.slot (bytes (among set k all space) x.page) ++ joined_bytes (among set k all space) left))
                leads.0 ∙ joins);
          }))
          (λ need. subst (λ r. ReadAs (suc n) (and_then r (λ page. Ok (with_piece j page)))) (sym need.1.0) (inr need.1.1))

  -- the first n pieces of the chain can be read, or reading stops for a need or want of memory
  pub read_as : (n : ℕ) → ReadAs n (joined k space first n)
  read_as zero = record { leads = chain; joins = refl }
  read_as (suc n) = more (joined k space first n) (read_as n)
    where
      more : (r : Result Joined PageEnd) → ReadAs n r → ReadAs (suc n) (and_then r (joined_more k space))
      more (Ok j) h = read_more n j h
      more (Err end) is = is

  -- a text that is read is all of it
  pub text_is : (read : List ℕ) → IsTextAt k space first (Ok read) → read ≡ joined_bytes (among set k all space) rs
  text_is read is =
      let n = is.0 in let j = is.1.0 in let h : HasRead n j = subst (ReadAs n) is.1.1.0 (read_as n) in
      is.1.1.2 ∙ ended (drop n rs) h.leads h.joins
    where
      ended : (left : List TextRef) → IsChain (among set k all space) is.1.0.at left
          → is.1.0.text ++ joined_bytes (among set k all space) left ≡ joined_bytes (among set k all space) rs
          → is.1.0.text ≡ joined_bytes (among set k all space) rs
      ended [] leads joins = sym (append-nil is.1.0.text) ∙ joins
      ended (r ∷ left) leads joins = absurd (piece_past (among set k all space) r form leads.1 (subst (λ (x : TextRef). x.page ≡ 0) leads.0 is.1.1.1))

  -- and one that isn't is refused for a page that is needed
  pub refused_is : (end : PageEnd) → IsTextAt k space first (Err end) → IsStop k all space end
  refused_is end is = split is
      (λ none. inl none)
      (λ more. split more
      (λ refused. subst (ReadAs refused.0) refused.1 (read_as refused.0))
      (λ back.
      let m = back.0 in let n = back.1.0 in let r = back.1.1.0 in let s = back.1.1.1.0 in let facts = back.1.1.1.1 in
      let one : HasRead m r = subst (ReadAs m) facts.1 (read_as m) in let two : HasRead n s = subst (ReadAs n) facts.2 (read_as n) in
      absurd {A = IsStop k all space end} (again m n r s facts.0 facts.3 facts.4 one two (drop m rs) refl one.leads (drop n rs) refl two.leads)))
    where
      again : (m n : ℕ) (r s : Joined) → m < n → s.at ≡ r.at → 0 < r.at.page → HasRead m r → HasRead n s → (xs : List TextRef) → drop m rs ≡ xs
          → IsChain (among set k all space) r.at xs → (ys : List TextRef) → drop n rs ≡ ys → IsChain (among set k all space) s.at ys → ⊥
      again m n r s less same some one two [] is leads ys is' leads' = absurd (omega (arith, leads, some))
      again m n r s less same some one two (x ∷ xs) is leads [] is' leads' = let none : r.at.page ≡ 0 = subst (λ (t : TextRef). t.page ≡ 0) same leads' in
          absurd (omega (arith, none, some))
      again m n r s less same some one two (x ∷ xs) is leads (y ∷ ys) is' leads' =
          never_again m n rs x xs ys once less is (is' ∙ ap (λ z. z ∷ ys) (sym leads'.0 ∙ same ∙ leads.0))

-- what the call `get` gives
alone_means : (set : ℕ → Bool) (k : Known) (all : PageId → Option (List ℕ)) (space : Space) (texts : TextMap) (at : TextRef) (text : List ℕ)
    → AreTexts (among set k all space) texts → text_in texts at ≡ Some text → (r : Result (List ℕ) PageEnd) → IsStrAt k space at r
    → MatchResult r (λ s. s ≡ text) (λ end. IsNotGiven k all space at text end)
alone_means set k all space texts at text m there r is = from (at.page == 0) refl there
  where
    given : (rs : List TextRef) → IsOnceEach rs → IsChain (among set k all space) at rs → text ≡ joined_bytes (among set k all space) rs
        → (r : Result (List ℕ) PageEnd) → IsStrAt k space at r → MatchResult r (λ s. s ≡ text) (λ end. IsNotGiven k all space at text end)
    given rs once chain joins (Ok s) is = text_is set k all space m.form at rs once chain s is.0 ∙ sym joins
    given rs once chain joins (Err end) is = split is
        (λ refused. inl (refused_is set k all space m.form at rs once chain end refused))
        (λ broken. inr (subst (λ t. IsUtf8 t → ⊥) (text_is set k all space m.form at rs once chain broken.0 broken.1.0 ∙ sym joins) broken.1.1, broken.1.2))

    same : (x y : List ℕ) → (let o : Option (List ℕ) = Some x in o ≡ Some y) → x ≡ y
    same x y is = cc

    from : (b : Bool) → (at.page == 0) ≡ b → (if b then Some [] else map.get texts at) ≡ Some text
        → MatchResult r (λ s. s ≡ text) (λ end. IsNotGiven k all space at text end)
    from true none there = given [] tt (eqb-true at.page 0 none) (sym (same [] text there)) r is
    from false past there = given (m.chain at) (m.once at (is_some_of (map.get texts at) text there)) (m.leads at (is_some_of (map.get texts at) text there))
        (m.joins at text there).0 r is

-- what is read at the reference of a text that the pages mean is that text;
-- it isn't given only for a need, want of memory, or where it is no UTF-8
pub get_means : (k : Known) (all : PageId → Option (List ℕ)) (space : Space) (texts : TextMap) (at : TextRef) (text : List ℕ)
    → MeansTexts (seen k all space) texts → text_in texts at ≡ Some text
    → (r : Result (List ℕ) PageEnd) → IsStrAt k space at r → MatchResult r (λ s. s ≡ text) (λ end. IsNotGiven k all space at text end)
get_means k all space texts at text m there r is = alone_means m.reached k all space texts at text m.alone there r is
