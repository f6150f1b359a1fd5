-- What taking a text away, and replacing it, does to the texts that the pages mean.
use Rattle.std.proofs.Common.{◌≡◌, ◌≢◌, ℕ, zero, suc, ◌≤◌, ◌==◌, inl, Bool, true, false, List, [], Option, Some, IsSome, Result, Ok, Err, MatchResult, refl, sym, ◌∙◌, subst, true≢false, eq-eqb, if◌then◌else◌, arith}
use Rattle.std.proofs.lemmas.Bool.{eqb-true}
use Rattle.std.specs.FinMap as map
use Rattle.page_bytes.specs.declared.ids.Space.{Space}
use Rattle.page_bytes.specs.declared.ids.PageId.{PageId}
use Rattle.page_bytes.specs.declared.texts.TextRef.{TextRef}
use Rattle.page_bytes.specs.declared.end.PageEnd.{PageEnd}
use Rattle.page_bytes.specs.Links.{and_then}
use Rattle.page_bytes.specs.Work.{Work}
use Rattle.text_pages.specs.Taking.{Taken, piece_taken_in, taken_more, taken_in, IsRemoved, IsReplaced}
use Rattle.page_bytes.specs.Seen.{seen, bytes}
use Rattle.text_pages.specs.Meaning.{TextMap, AreTexts, MeansTexts, text_in, IsPut, IsNotPut}
use Rattle.page_bytes.specs.Answers.{IsStop}
use Rattle.text_pages.proofs.Chains.{Loose, loose_taken}
use Rattle.page_bytes.proofs.Growing.{Grows}
use Rattle.text_pages.proofs.Maps.{means_without, loose_empty, loose_text, first_piece, some_is}
use Rattle.text_pages.proofs.PutSteps.{IsUnput}
use Rattle.text_pages.proofs.PutTexts.{unput_before, stop_before, PutSomewhere, put_text_means, is_put, not_put}
use Rattle.page_bytes.specs.Head.{next_page}
use Rattle.text_pages.specs.Putting.{piece_count}
use Rattle.text_pages.proofs.Reached.{among}
use Rattle.text_pages.proofs.Ranges.{split}
use Rattle.text_pages.proofs.TakeSteps.{TakeEnds, take_ends}

-- a text that is there stands beside the others
pub loose_there : (pages : ℕ → Option (List ℕ)) (texts : TextMap) (at : TextRef) → AreTexts pages texts → IsSome (text_in texts at)
    → (text : List ℕ) × Loose pages (map.remove texts at) at text
loose_there pages texts at m there = from (at.page == 0) refl there
  where
    from : (b : Bool) → (at.page == 0) ≡ b → IsSome (if b then Some [] else map.get texts at) → (text : List ℕ) × Loose pages (map.remove texts at) at text
    from true none there = ([], loose_empty pages (map.remove texts at) at (eqb-true at.page 0 none) (means_without pages texts at m))
    from false past there = let text = some_is (map.get texts at) there in (text.0, loose_text pages texts at text.0 text.1 m)

module _ (set : ℕ → Bool) (w : Work) (all : PageId → Option (List ℕ)) (space : Space) (texts : TextMap) (at : TextRef) where
  -- as far as a text has been taken away, the rest of it stands beside the others
  pub record HasLeft (t : Taken) : Type 0 where
    pub text : List ℕ
    pub rest : Loose (among set t.work.now all space) texts t.at text
    pub grows : Grows w.now t.work.now
    pub made : next_page (bytes (among set t.work.now all space) 0) ≤ next_page (bytes (among set w.now all space) 0)

  -- so far the rest of the text stands beside the others, or it stops for a need or want of memory
  abbrev pub LeftOf : Result Taken PageEnd → Type 0
  LeftOf r = MatchResult r HasLeft (λ end. IsStop w.now all space end)

  one_more : (t : Taken) → HasLeft t → LeftOf (taken_more space t)
  one_more t h = at_page (t.at.page == 0) refl
    where
      past : (t.at.page == 0) ≡ false → t.at.page ≢ 0
      past is none = true≢false (sym (eq-eqb t.at.page 0 none) ∙ is)

      carried : t.at.page ≢ 0 → (r : Result (TextRef × Work) PageEnd) → TakeEnds set t.work all space t.at r
          → LeftOf (and_then r (λ (taken : TextRef × Work). Ok (record { at = taken.0; from = t.at.page; work = taken.1 })))
      carried differ (Ok taken) step =
          let left = loose_taken (among set t.work.now all space) (among set taken.1.now all space) texts t.at h.text h.rest
          (omega (arith, differ)) step.takes in
          record {
            text = left.0;
            rest = subst (λ next. Loose (among set taken.1.now all space) texts next left.0) (sym step.leads) left.1;
            grows = λ id is. h.grows id (step.grows id is);
            made = let before = h.made in let more = step.made in omega (arith, before, more);
          }
      carried differ (Err end) is = stop_before w.now t.work.now all space end h.grows is

      at_page : (b : Bool) → (t.at.page == 0) ≡ b
          → LeftOf (if b then Ok t else and_then (piece_taken_in t.work space t.from t.at)
          (λ (taken : TextRef × Work). Ok (record { at = taken.0; from = t.at.page; work = taken.1 })))
      at_page true is = h
      at_page false is = carried (past is) (piece_taken_in t.work space t.from t.at)
          (take_ends set t.work all space h.rest.means.form t.from t.at (first_piece (among set t.work.now all space) texts t.at h.text h.rest (past is)).0)

  -- this holds after any number of pieces, if the text stood beside the others at first
  pub left_after : (text : List ℕ) → Loose (among set w.now all space) texts at text → (n : ℕ) → LeftOf (taken_in w space at n)
  left_after text l zero = record { text = text; rest = l; grows = λ id is. is; made = omega arith }
  left_after text l (suc n) = more (taken_in w space at n) (left_after text l n)
    where
      more : (r : Result Taken PageEnd) → LeftOf r → LeftOf (and_then r (taken_more space))
      more (Ok t) h = one_more t h
      more (Err end) is = is

  -- what the call `remove` does
  pub remove_ends : (text : List ℕ) → Loose (among set w.now all space) texts at text → (r : Result (Unit {0}) PageEnd) (new : Work)
      → IsRemoved w space at r new
      → MatchResult r (λ done. AreTexts (among set new.now all space) texts) (λ end. IsStop w.now all space end)
  remove_ends text l (Ok done) new is =
      let left : HasLeft is.1.0 = subst LeftOf is.1.1.0 (left_after text l is.0) in
      subst (λ (v : Work). AreTexts (among set v.now all space) texts) (sym is.1.1.2) left.rest.means
  remove_ends text l (Err end) new is = split is (λ none. inl none) (λ refused. subst LeftOf refused.1 (left_after text l refused.0))

  -- and `replace`
  abbrev PutThen : Work → List ℕ → Result (TextRef × Work) PageEnd → Type 0
  PutThen v bytes r = MatchResult r (λ put. PutSomewhere put.1.now all space texts bytes put.0) (λ end. IsUnput set v.now all space (piece_count bytes) end)

  -- a text beside the others is replaced by bytes: the pages of some set mean the others with these put,
  -- or it stops, or page numbers are spent for the pieces of these
  pub replace_ends : (text : List ℕ) → Loose (among set w.now all space) texts at text → (bytes : List ℕ) (r : Result TextRef PageEnd) (new : Work)
      → IsReplaced w space at bytes r new
      → MatchResult r (λ ref. PutSomewhere new.now all space texts bytes ref) (λ end. IsUnput set w.now all space (piece_count bytes) end)
  replace_ends text l bytes (Ok ref) new is =
      let left : HasLeft is.1.0 = subst LeftOf is.1.1.0 (left_after text l is.0) in
      subst (PutThen is.1.0.work bytes) is.1.1.2 (put_text_means set is.1.0.work all space texts bytes left.rest.means)
  replace_ends text l bytes (Err end) new is = split is
      (λ none. inl (inl none))
      (λ more. split more
      (λ refused. inl (subst LeftOf refused.1 (left_after text l refused.0)))
      (λ put. let left : HasLeft put.1.0 = subst LeftOf put.1.1.0 (left_after text l put.0) in let made = left.made in
      unput_before set set w.now put.1.0.work.now all space (piece_count bytes) (piece_count bytes) end left.grows (omega (arith, made))
      (subst (PutThen put.1.0.work bytes) put.1.1.2 (put_text_means set put.1.0.work all space texts bytes left.rest.means))))

-- a text that is there is removed: the pages mean the texts without it, or there was a need or want of memory
pub remove_means : (w : Work) (all : PageId → Option (List ℕ)) (space : Space) (texts : TextMap) (at : TextRef) → MeansTexts (seen w.now all space) texts
    → IsSome (text_in texts at)
    → (r : Result (Unit {0}) PageEnd) (new : Work) → IsRemoved w space at r new
    → MatchResult r (λ done. MeansTexts (seen new.now all space) (map.remove texts at)) (λ end. IsStop w.now all space end)
remove_means w all space texts at m there r new is =
    let l = loose_there (among m.reached w.now all space) texts at m.alone there in
    whole r (remove_ends m.reached w all space (map.remove texts at) at l.0 l.1 r new is)
  where
    whole : (r : Result (Unit {0}) PageEnd)
        → MatchResult r (λ done. AreTexts (among m.reached new.now all space) (map.remove texts at)) (λ end. IsStop w.now all space end)
        → MatchResult r (λ done. MeansTexts (seen new.now all space) (map.remove texts at)) (λ end. IsStop w.now all space end)
    whole (Ok done) is = record { reached = m.reached; alone = is }
    whole (Err end) is = is

-- a text that is there is replaced: the pages mean the others with the new one put, or say why it isn't put
pub replace_means : (w : Work) (all : PageId → Option (List ℕ)) (space : Space) (texts : TextMap) (at : TextRef) → MeansTexts (seen w.now all space) texts
    → IsSome (text_in texts at) → (bytes : List ℕ)
    → (r : Result TextRef PageEnd) (new : Work) → IsReplaced w space at bytes r new
    → MatchResult r (λ ref. IsPut (seen new.now all space) (map.remove texts at) bytes ref) (λ end. IsNotPut w.now all space bytes end)
replace_means w all space texts at m there bytes r new is =
    let l = loose_there (among m.reached w.now all space) texts at m.alone there in
    whole r (replace_ends m.reached w all space (map.remove texts at) at l.0 l.1 bytes r new is)
  where
    whole : (r : Result TextRef PageEnd)
        → MatchResult r (λ ref. PutSomewhere new.now all space (map.remove texts at) bytes ref)
        (λ end. IsUnput m.reached w.now all space (piece_count bytes) end)
        → MatchResult r (λ ref. IsPut (seen new.now all space) (map.remove texts at) bytes ref) (λ end. IsNotPut w.now all space bytes end)
    whole (Ok ref) is = is_put new.now all space (map.remove texts at) bytes ref is
    whole (Err end) is = not_put m.reached w.now all space bytes end m.alone.form is
