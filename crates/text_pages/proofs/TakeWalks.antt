-- How a text is taken away piece by piece.
use Rattle.std.proofs.Common.{◌≡◌, ℕ, suc, ◌<◌, ◌==◌, false, ⊎_elim, inl, inr, Result, Ok, Err, List, refl, sym, ap, ◌∙◌, subst, if◌then◌else◌, arith}
use Rattle.std.proofs.lemmas.Bool.Decides.{nat_tests}
use Rattle.page_bytes.specs.declared.ids.Space.{Space}
use Rattle.page_bytes.specs.declared.texts.TextRef.{TextRef}
use Rattle.page_bytes.specs.declared.end.PageEnd.{PageEnd}
use Rattle.page_bytes.specs.Links.{and_then}
use Rattle.page_bytes.specs.Work.{Work}
use Rattle.text_pages.specs.Taking.{Taken, piece_taken_in, taken_more, taken_in, IsRemoved, IsReplaced}
use Rattle.text_pages.specs.Putting.{put_in}
use Rattle.page_bytes.proofs.Answering.{answered}
use Rattle.page_bytes.specs.Answers.{Answers}

module _ (w : Work) (space : Space) (first : TextRef) where
  -- so many pieces have been taken away, as far as this reference
  abbrev pub HasTaken : TextRef → ℕ → Work → Type 0
  HasTaken at from work = (n : ℕ) × (taken_in w space first n ≡ Ok (record { at = at; from = from; work = work }))

  -- at first no piece has been taken away, and the first reference is next
  pub taken_start : HasTaken first first.page w
  taken_start = (0, refl)

  past_none : (n : ℕ) → 0 < n → (n == 0) ≡ false
  past_none n past = grind (arith, nat_tests)

  taken_after : (n : ℕ) (t : Taken) → taken_in w space first n ≡ Ok t → 0 < t.at.page
      → taken_in w space first (suc n)
      ≡ and_then (piece_taken_in t.work space t.from t.at) (λ (taken : TextRef × Work). Ok (record { at = taken.0; from = t.at.page; work = taken.1 }))
  taken_after n t is some =
      ap (λ r. and_then r (taken_more space)) is
      ∙ ap (λ b. if b then Ok t else and_then (piece_taken_in t.work space t.from t.at)
      (λ (taken : TextRef × Work). Ok (record { at = taken.0; from = t.at.page; work = taken.1 }))) (past_none t.at.page some)

  -- one piece more is taken away
  pub taken_next : (at : TextRef) (from : ℕ) (work : Work) (next : TextRef) (new : Work) → HasTaken at from work → 0 < at.page
      → piece_taken_in work space from at ≡ Ok (next, new) → HasTaken next at.page new
  taken_next at from work next new h some is = (
    suc h.0,
    taken_after h.0 (record { at = at; from = from; work = work }) h.1 some
        ∙ ap (λ r. and_then r (λ (taken : TextRef × Work). Ok (record { at = taken.0; from = at.page; work = taken.1 }))) is,
  )

  -- and a piece that can't be ends the call
  pub taken_refused : (at : TextRef) (from : ℕ) (work : Work) (end : PageEnd) → HasTaken at from work → 0 < at.page
      → piece_taken_in work space from at ≡ Err end → (n : ℕ) × (taken_in w space first n ≡ Err end)
  taken_refused at from work end h some is = (
    suc h.0,
    taken_after h.0 (record { at = at; from = from; work = work }) h.1 some
        ∙ ap (λ r. and_then r (λ (taken : TextRef × Work). Ok (record { at = taken.0; from = at.page; work = taken.1 }))) is,
  )

  -- a call that fails has been refused, or there was no memory
  pub taken_failed : (at : TextRef) (from : ℕ) (work : Work) (end : PageEnd) (new : Work) → HasTaken at from work → 0 < at.page
      → Answers (piece_taken_in work space from at) (Err end) new
      → IsRemoved w space first (Err end) new
  taken_failed at from work end new h some answer = failed (piece_taken_in work space from at) refl answer
    where
      failed : (r : Result (TextRef × Work) PageEnd) → piece_taken_in work space from at ≡ r → Answers r (Err end) new → IsRemoved w space first (Err end) new
      failed (Ok taken) is answer = inl answer
      failed (Err why) is answer = ⊎_elim (λ same. inr (taken_refused at from work end h some (is ∙ (λ i. Err (sym same i))))) (λ none. inl none) answer

-- a text that is put once another one is gone has replaced it
pub replaced : (w : Work) (space : Space) (at : TextRef) (bytes : List ℕ) (done : Unit {0}) (gone : Work) (r : Result TextRef PageEnd) (new : Work)
    → IsRemoved w space at (Ok done) gone → Answers (put_in gone space bytes) r new → IsReplaced w space at bytes r new
replaced w space at bytes done gone (Ok ref) new removed answer = (
  removed.0,
  (
    removed.1.0,
    (
      removed.1.1.0,
      removed.1.1.1,
      subst (λ (v : Work). put_in v space bytes ≡ Ok (ref, new)) removed.1.1.2
          (answered (put_in gone space bytes) ref new answer),
    ),
  ),
)
replaced w space at bytes done gone (Err end) new removed answer = failed (put_in gone space bytes) refl answer
  where
    failed : (r : Result (TextRef × Work) PageEnd) → put_in gone space bytes ≡ r → Answers r (Err end) new → IsReplaced w space at bytes (Err end) new
    failed (Ok put) is answer = inl answer
    failed (Err why) is answer = ⊎_elim
        (λ same. inr (inr (
          removed.0,
          (removed.1.0, (removed.1.1.0, removed.1.1.1, subst (λ (v : Work). put_in v space bytes ≡ Err end) removed.1.1.2 (is ∙ (λ i. Err (sym same i))))),
        )))
        (λ none. inl none)
        answer
