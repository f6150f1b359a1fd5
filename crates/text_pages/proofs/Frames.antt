-- What calls of other structures leave of texts.
use Rattle.std.proofs.Common.{◌≡◌, ◌≢◌, ℕ, ◌<◌, ◌≤◌, ◌==◌, ◌&&◌, inl, inr, Bool, true, not, List, [], length, slice_index, Option, Some, None, sym, ap, ◌∙◌, subst, unwrap_or, true≢false, arith}
use Rattle.std.proofs.lemmas.Bool.Decides.{nat_tests}
use Rattle.page_bytes.specs.declared.texts.TextRef.{TextRef}
use Rattle.page_bytes.specs.Frames.{Call, before, behind}
use Rattle.page_bytes.specs.Head.{is_head, next_page}
use Rattle.page_bytes.specs.Own.{HasOwnPage, IsOwnPage, HasFieldWrite, KeepsPage}
use Rattle.page_bytes.specs.Seen.{bytes, only}
use Rattle.page_bytes.specs.Texts.{TEXT_KIND, next_piece, piece_text}
use Rattle.page_bytes.proofs.Among.{bytes-only, bytes-in}
use Rattle.page_bytes.proofs.FieldLaws.{field-bytes_at, slice_index-bytes_at}
use Rattle.page_bytes.proofs.Frames.{page_stays}
use Rattle.text_pages.specs.Finding.{tried_first}
use Rattle.text_pages.specs.Keeping.{IsSame}
use Rattle.text_pages.specs.Meaning.{IsTextPage, HasPiece, IsSound, IsForm, IsPiece, next_at, bytes_of, TextMap, AreTexts, MeansTexts}
use Rattle.text_pages.specs.Sparing.{SparesTexts}
use Rattle.text_pages.proofs.Chains.{chain_pieces, texts_stay}
use Rattle.text_pages.proofs.PageSteps.{head_is_none}
use Rattle.text_pages.proofs.Ranges.{split}
use Rattle.text_pages.proofs.Reached.{text_in, long_in}

module _ (c : Call) (spares : SparesTexts c) where
  -- a text page isn't the call's
  foreign_page : (o : Option (List ℕ)) → slice_index (unwrap_or o []) 0 ≡ TEXT_KIND → IsOwnPage c.own o → ⊥
  foreign_page None is mine = let none : 0 ≡ 5 = is in absurd (omega (arith, none))
  foreign_page (Some b) is mine = true≢false (sym mine ∙ ap c.own.is_kind is ∙ spares.kind)

  own_of : (o : Option (List ℕ)) → HasOwnPage c.own o → IsOwnPage c.own o
  own_of None is = tt
  own_of (Some b) is = is

  -- a text page of before stays
  stays : (n : ℕ) → n ≢ 0 → IsTextPage (before c) n → n < next_page (bytes (before c) 0) → bytes (behind c) n ≡ bytes (before c) n
  unfolding bytes
  stays n past is early = ap (λ o. unwrap_or o []) (page_stays c n spares.keeps (record {
    beside = omega (arith, past);
    foreign = λ mine. foreign_page (before c n) is (own_of (before c n) mine);
    untouched = spares.untouched n is;
    earlier = early;
  }))

  -- and what is a text page after the call was one before it
  text_was : (n : ℕ) → n ≢ 0 → IsTextPage (behind c) n → IsTextPage (before c) n
  unfolding bytes
  text_was n past is = from (spares.keeps.pages n (omega (arith, past)))
    where
      wrote : (old new : Option (List ℕ)) → HasFieldWrite c.own.fields n old new → slice_index (unwrap_or new []) 0 ≡ TEXT_KIND
          → slice_index (unwrap_or old []) 0 ≡ TEXT_KIND
      wrote None new write is = absurd write
      wrote (Some old) None write is = absurd write
      wrote (Some old) (Some new) write is = sym write.kind ∙ is

      from : KeepsPage c.own (before c) (behind c) n → slice_index (unwrap_or (before c n) []) 0 ≡ TEXT_KIND
      from (inl same) = ap (λ o. slice_index (unwrap_or o []) 0) (sym same) ∙ is
      from (inr (inl changed)) = absurd (foreign_page (behind c n) is changed.1)
      from (inr (inr write)) = wrote (before c n) (behind c n) write is

  module _ (set : ℕ → Bool) (texts : TextMap) (m : AreTexts (only set (before c)) texts) where
    abbrev old : ℕ → Option (List ℕ)
    old = only set (before c)

    abbrev new : ℕ → Option (List ℕ)
    new = only set (behind c)

    head_in_set : set 0 ≡ true
    head_in_set = long_in set (before c) 0 m.form.long

    head_old : bytes (only set (before c)) 0 ≡ bytes (before c) 0
    head_old = bytes-in set (before c) 0 head_in_set

    head_new : bytes (only set (behind c)) 0 ≡ bytes (behind c) 0
    head_new = bytes-in set (behind c) 0 head_in_set

    kind_same : slice_index (bytes (only set (behind c)) 0) 0 ≡ slice_index (bytes (only set (before c)) 0) 0
    kind_same =
        ap (λ b. slice_index b 0) head_new ∙ sym (slice_index-bytes_at (bytes (behind c) 0) 0)
        ∙ ap (λ l. slice_index l 0) (spares.keeps.head 0 1 spares.head (inl (omega arith)))
        ∙ slice_index-bytes_at (bytes (before c) 0) 0 ∙ sym (ap (λ b. slice_index b 0) head_old)

    first_same : tried_first (bytes (only set (behind c)) 0) ≡ tried_first (bytes (only set (before c)) 0)
    first_same =
        ap tried_first head_new ∙ field-bytes_at 8 26 (bytes (before c) 0) (bytes (behind c) 0) (spares.keeps.head 26 8 spares.first (inr (omega arith)))
        ∙ sym (ap tried_first head_old)

    raised : next_page (bytes (only set (before c)) 0) ≤ next_page (bytes (only set (behind c)) 0)
    raised = let old = ap next_page head_old in let new = ap next_page head_new in let more = spares.keeps.raised in omega (arith, old, new, more)

    head_passes : is_head (bytes (only set (behind c)) 0) ≡ true
    head_passes = passes (slice_index (bytes (only set (before c)) 0) 0) (next_page (bytes (only set (before c)) 0))
        (slice_index (bytes (only set (behind c)) 0) 0) (next_page (bytes (only set (behind c)) 0)) m.form.head kind_same raised
      where
        passes : (k n k' n' : ℕ) → (k == 2 && not (n == 0)) ≡ true → k' ≡ k → n ≤ n' → (k' == 2 && not (n' == 0)) ≡ true
        passes k n k' n' is same more = grind (arith, nat_tests)

    -- a text page of the set, before the call
    text_same : (n : ℕ) → IsTextPage (only set (before c)) n → bytes (only set (behind c)) n ≡ bytes (only set (before c)) n
    text_same n is =
        let inside = text_in set (before c) n is in
        let past : n ≢ 0 = λ none. head_is_none (bytes (only set (before c)) 0) m.form.head (subst (IsTextPage (only set (before c))) none is) in
        let was : IsTextPage (before c) n = sym (ap (λ (b : List ℕ). slice_index b 0) (bytes-in set (before c) n inside)) ∙ is in
        let early = m.form.numbered n is in let head = ap next_page head_old in
        bytes-only set (before c) (behind c) n (stays n past was (omega (arith, early, head)))

    -- and after it
    text_before : (n : ℕ) → IsTextPage (only set (behind c)) n → IsTextPage (only set (before c)) n
    text_before n is =
        let inside = text_in set (behind c) n is in
        let past : n ≢ 0 = λ none. head_is_none (bytes (only set (behind c)) 0) head_passes (subst (IsTextPage (only set (behind c))) none is) in
        let here : IsTextPage (behind c) n = sym (ap (λ (b : List ℕ). slice_index b 0) (bytes-in set (behind c) n inside)) ∙ is in
        ap (λ (b : List ℕ). slice_index b 0) (bytes-in set (before c) n inside) ∙ text_was n past here

    text_after : (n : ℕ) → IsTextPage (only set (before c)) n → IsTextPage (only set (behind c)) n
    text_after n is = ap (λ (b : List ℕ). slice_index b 0) (text_same n is) ∙ is

    form_stays : IsForm (only set (behind c))
    form_stays = record {
      head = head_passes;
      long = ap length head_new ∙ spares.keeps.long ∙ sym (ap length head_old) ∙ m.form.long;
      last = let old = ap next_page head_old in let new = ap next_page head_new in let before = m.form.last in
          let last = spares.keeps.last (omega (arith, old, before)) in omega (arith, new, last);
      numbered = λ n is. let early = m.form.numbered n (text_before n is) in let more = raised in omega (arith, early, more);
      sound = λ n is. let was = text_before n is in subst IsSound (sym (text_same n was)) (m.form.sound n was);
      first = split m.form.first
          (λ none. inl (first_same ∙ none))
          (λ is. inr (subst (IsTextPage (only set (behind c))) (sym first_same) (text_after (tried_first (bytes (only set (before c)) 0)) is)));
    }

    piece_same : (q : TextRef) → IsPiece (only set (before c)) q → IsSame (only set (before c)) (only set (behind c)) q
    unfolding next_at bytes_of
    piece_same q is =
        let same = text_same q.page is.0 in (
          subst (λ (b : List ℕ). (slice_index b 0 ≡ TEXT_KIND) × HasPiece b q.slot) (sym same) is,
          ap (next_piece q.slot) same,
          ap (piece_text q.slot) same,
        )

    -- the pages of the set mean the same texts after the call as before it
    pub texts_spared : AreTexts (only set (behind c)) texts
    texts_spared = texts_stay (only set (before c)) (only set (behind c)) texts m form_stays
        (λ at q there listed. piece_same q (chain_pieces (only set (before c)) (m.chain at) at q (m.leads at there) listed))

-- where a call spares texts the pages mean the same ones
pub frame : (c : Call) (texts : TextMap) → SparesTexts c → MeansTexts (before c) texts → MeansTexts (behind c) texts
frame c texts spares m = record { reached = m.reached; alone = texts_spared c spares m.reached texts m.alone }

-- pages that all together mean texts mean them
pub all_mean : (pages : ℕ → Option (List ℕ)) (texts : TextMap) → AreTexts pages texts → MeansTexts pages texts
all_mean pages texts are = record { reached = λ n. true; alone = are }
