-- How a text is joined piece by piece.
use Rattle.std.proofs.Common.{◌≡◌, ℕ, suc, ◌<◌, ◌≤◌, ◌==◌, ◌⊎◌, ⊎_elim, false, List, [], ◌++◌, Result, Ok, Err, refl, sym, ap, ◌∙◌, subst, if◌then◌else◌, arith}
use Rattle.std.proofs.lemmas.Bool.Decides.{nat_tests}
use Rattle.page_bytes.specs.declared.ids.Space.{Space}
use Rattle.page_bytes.specs.declared.texts.TextRef.{TextRef}
use Rattle.page_bytes.specs.declared.end.PageEnd.{PageEnd}
use Rattle.page_bytes.specs.declared.end.PageEnd.TheVariants.{Damaged}
use Rattle.page_bytes.specs.Known.{Known}
use Rattle.page_bytes.specs.Links.{page_in, and_then}
use Rattle.page_bytes.specs.Texts.{piece_page, next_piece, piece_text, Joined, with_piece, joined_more, joined, LeadsBack}

module _ (k : Known) (space : Space) (first : TextRef) where
  -- the text is joined as far as a piece, and the mark is one that was passed
  abbrev pub HasJoined : TextRef → ℕ → List ℕ → TextRef → Type 0
  HasJoined at from text mark =
      (n : ℕ) × ((m : ℕ) × ((r : Joined)
      × ((m ≤ n) × (joined k space first n ≡ Ok (record { at = at; from = from; text = text })) × (joined k space first m ≡ Ok r) × (r.at ≡ mark))))

  -- before its first piece a text is joined as far as that piece, with no bytes, and the mark is there too
  pub joined_start : HasJoined first first.page [] first
  joined_start = (0, (0, (record { at = first; from = first.page; text = [] }, (omega arith, refl, refl, refl))))

  past_none : (n : ℕ) → 0 < n → (n == 0) ≡ false
  past_none n past = grind (arith, nat_tests)

  joined_after : (n : ℕ) (s : Joined) (r : Result (List ℕ) PageEnd) → joined k space first n ≡ Ok s → (s.at.page == 0) ≡ false
      → piece_page k space s.from s.at ≡ r
      → joined k space first (suc n) ≡ and_then r (λ page. Ok (with_piece s page))
  joined_after n s r is past piece =
      ap (λ j. and_then j (joined_more k space)) is
      ∙ ap (λ b. if b then Ok s else and_then (piece_page k space s.from s.at) (λ page. Ok (with_piece s page))) past
      ∙ ap (λ r. and_then r (λ page. Ok (with_piece s page))) piece

  -- a piece more, with the mark where it was or at the piece that is next
  pub joined_next : (at : TextRef) (from : ℕ) (text : List ℕ) (mark : TextRef) (page : List ℕ) (next : TextRef) (longer : List ℕ) (moved : TextRef)
      → HasJoined at from text mark → 0 < at.page → piece_page k space from at ≡ Ok page → next ≡ next_piece at.slot page
      → longer ≡ text ++ piece_text at.slot page
      → (moved ≡ mark) ⊎ (moved ≡ next) → HasJoined next at.page longer moved
  joined_next at from text mark page next longer moved h past piece next_is longer_is moves =
      let s : Joined = record { at = at; from = from; text = text } in let n = h.0 in
      let more : joined k space first (suc n) ≡ Ok (record { at = next; from = at.page; text = longer }) =
      joined_after n s (Ok page) h.1.1.1.1 (past_none at.page past) piece ∙ (λ i. Ok (record { at = sym next_is i; from = at.page; text = sym longer_is i })) in
      ⊎_elim
      (λ stays. (suc n, (h.1.0, (h.1.1.0, ((let low = h.1.1.1.0 in omega (arith, low)), more, h.1.1.1.2, h.1.1.1.3 ∙ sym stays)))))
      (λ moves. (suc n, (suc n, (record { at = next; from = at.page; text = longer }, (omega arith, more, more, sym moves)))))
      moves

  -- a piece that can't be had ends the text
  pub joined_refused : (at : TextRef) (from : ℕ) (text : List ℕ) (mark : TextRef) (end : PageEnd) → HasJoined at from text mark → 0 < at.page
      → piece_page k space from at ≡ Err end
      → (n : ℕ) × (joined k space first n ≡ Err end)
  joined_refused at from text mark end h past piece =
      (suc h.0, joined_after h.0 (record { at = at; from = from; text = text }) (Err end) h.1.1.1.1 (past_none at.page past) piece)

  -- a piece that leads back to the mark
  pub joined_back : (at : TextRef) (from : ℕ) (text : List ℕ) (mark : TextRef) (page : List ℕ) (next : TextRef) → HasJoined at from text mark → 0 < at.page
      → piece_page k space from at ≡ Ok page
      → next ≡ next_piece at.slot page → 0 < next.page → next ≡ mark → LeadsBack k space first (Damaged (page_in space at.page))
  joined_back at from text mark page next h past piece next_is some same =
      let s : Joined = record { at = at; from = from; text = text } in let n = h.0 in let r = h.1.1.0 in
      let back : next_piece at.slot page ≡ r.at = sym next_is ∙ same ∙ sym h.1.1.1.3 in (
        h.1.0,
        (
          suc n,
          (
            r,
            (
              with_piece s page,
              (
                (let low = h.1.1.1.0 in omega (arith, low)),
                h.1.1.1.2,
                joined_after n s (Ok page) h.1.1.1.1 (past_none at.page past) piece,
                back,
                subst (λ (t : TextRef). 0 < t.page) (next_is ∙ back) some,
                refl,
              ),
            ),
          ),
        ),
      )
