-- What the calls on texts keep.
use Rattle.std.proofs.Common.{◌≡◌, ℕ, zero, suc, ◌+◌, ◌/◌, ◌<◌, ◌≤◌, ◌^◌, ◌==◌, Bool, true, false, List, [], ◌∷◌, length, slice_index, Option, Result, Ok, Err, MatchResult, refl, sym, ap, ◌∙◌, subst, true≢false, eq-eqb, if◌then◌else◌, lit<, arith}
use Rattle.page_bytes.specs.declared.ids.Space.{Space}
use Rattle.page_bytes.specs.declared.ids.PageId.{PageId}
use Rattle.page_bytes.specs.declared.texts.TextRef.{TextRef}
use Rattle.page_bytes.specs.declared.end.PageEnd.{PageEnd}
use Rattle.page_bytes.specs.Links.{and_then}
use Rattle.page_bytes.specs.Work.{Work}
use Rattle.text_pages.specs.Putting.{nowhere, piece_count, piece_of, piece_put_in, pieces_put_in, put_in}
use Rattle.text_pages.specs.Taking.{Taken, piece_taken_in, taken_more, taken_in, IsRemoved, IsReplaced}
use Rattle.page_bytes.specs.Seen.{seen, bytes, only}
use Rattle.text_pages.specs.Meaning.{HasPiece, IsForm, IsPiece, next_at, bytes_of, IsChain, is_listed, IsOnceEach}
use Rattle.page_bytes.specs.Texts.{TEXT_KIND, next_piece, piece_text}
use Rattle.page_bytes.proofs.Among.{bytes-in}
use Rattle.text_pages.proofs.Reached.{among, text_in}
use Rattle.text_pages.specs.Keeping.{IsSame, KeepsPieces}
use Rattle.text_pages.proofs.Chains.{Pages, listed_first, listed_later, chain_pieces, chain_stays}
use Rattle.text_pages.proofs.PutSteps.{PutStep, PutEnds, put_ends}
use Rattle.text_pages.proofs.PutTexts.{piece_long, piece_short}
use Rattle.text_pages.proofs.TakeSteps.{TakeStep, TakeEnds, take_ends}

-- what is as it was twice is as it was
same_twice : (a b c : Pages) (r : TextRef) → IsSame a b r → IsSame b c r → IsSame a c r
same_twice a b c r one two = (two.0, two.1 ∙ one.1, two.2 ∙ one.2)

module _ (all : PageId → Option (List ℕ)) (space : Space) where
  -- what is kept from one workspace to another
  abbrev Keeps : (ℕ → Bool) → Work → Work → List TextRef → Type 0
  Keeps set w new gone = KeepsPieces (among set w.now all space) (seen new.now all space) gone

  -- and from the pages of a set to those of another
  abbrev KeepsIn : (ℕ → Bool) → (ℕ → Bool) → Work → Work → List TextRef → Type 0
  KeepsIn set then_set w new gone = KeepsPieces (among set w.now all space) (among then_set new.now all space) gone

  both_keep : (set then_set last : ℕ → Bool) (w v new : Work) (gone : List TextRef) → KeepsIn set then_set w v gone → KeepsIn then_set last v new []
      → KeepsIn set last w new gone
  both_keep set then_set last w v new gone t p r is none =
      let kept = t r is none in same_twice (among set w.now all space) (among then_set v.now all space) (among last new.now all space) r kept (p r kept.0 refl)

  nothing_changes : (set : ℕ → Bool) (w : Work) (gone : List TextRef) → KeepsIn set set w w gone
  nothing_changes set w gone r is none = (is, refl, refl)

  take_behind : (set : ℕ → Bool) (w v new : Work) (gone : List TextRef) (at next : TextRef) → is_listed gone at ≡ true → KeepsIn set set w v gone
      → TakeStep set v new all space at next → KeepsIn set set w new gone
  take_behind set w v new gone at next listed t step r is none = let kept = t r is none in
      same_twice (among set w.now all space) (among set v.now all space) (among set new.now all space) r kept
      (step.takes.kept r kept.0 (λ one. true≢false (sym listed ∙ ap (is_listed gone) (sym one) ∙ none)))

  -- a piece on a page of a set is one on the page
  in_all : (set : ℕ → Bool) (pages : Pages) (r : TextRef) → IsPiece (only set pages) r → bytes (only set pages) r.page ≡ bytes pages r.page
  in_all set pages r is = bytes-in set pages r.page (text_in set pages r.page is.0)

  widened : (set then_set : ℕ → Bool) (w new : Work) (gone : List TextRef) → KeepsIn set then_set w new gone → Keeps set w new gone
  unfolding next_at bytes_of
  widened set then_set w new gone kept r is none =
      let same = kept r is none in let here = in_all then_set (seen new.now all space) r same.0 in (
        subst (λ (b : List ℕ). (slice_index b 0 ≡ TEXT_KIND) × HasPiece b r.slot) here same.0,
        ap (next_piece r.slot) (sym here) ∙ same.1,
        ap (piece_text r.slot) (sym here) ∙ same.2,
      )

  -- all pieces of a text are put
  module _ (text : List ℕ) where
    abbrev PutKeeps : (ℕ → Bool) → Work → Result (TextRef × Work) PageEnd → Type 0
    PutKeeps set w r = MatchResult r (λ put. (last : ℕ → Bool) × KeepsIn set last w put.1 []) (λ end. Unit {0})

    pieces_kept : (n : ℕ) (set : ℕ → Bool) (w : Work) (next : TextRef) → n ≤ (length text + 4073) / 4074 → next.page < 256 ^ 8 → next.slot < 256 ^ 2
        → IsForm (among set w.now all space)
        → PutKeeps set w (pieces_put_in n w space next text)
    pieces_kept zero set w next within page_small slot_small form = (set, nothing_changes set w [])
    pieces_kept (suc n) set w next within page_small slot_small form =
        carried (piece_put_in w space next (piece_of n text))
        (put_ends set w all space form next (piece_of n text) page_small slot_small (piece_long n text (omega (arith, within))) (piece_short n text))
        (λ (then_set : ℕ → Bool) (put : TextRef × Work) page_small slot_small form. pieces_kept n then_set put.1 put.0
        (omega (arith, within)) page_small slot_small form)
      where
        with_step : (put : TextRef × Work) → (step : PutStep set w put.1 all space next (piece_of n text) put.0) → (r : Result (TextRef × Work) PageEnd)
            → PutKeeps step.then_set put.1 r → PutKeeps set w r
        with_step put step (Ok last) keeps = (keeps.0, both_keep set step.then_set keeps.0 w put.1 last.1 [] (λ r is none. step.puts.kept r is) keeps.1)
        with_step put step (Err end) keeps = tt

        carried : (r : Result (TextRef × Work) PageEnd) → PutEnds set w all space next (piece_of n text) r
            → ((then_set : ℕ → Bool) (put : TextRef × Work) → put.0.page < 256 ^ 8 → put.0.slot < 256 ^ 2 → IsForm (among then_set put.1.now all space)
            → PutKeeps then_set put.1 (pieces_put_in n put.1 space put.0 text))
            → PutKeeps set w (and_then r (λ (put : TextRef × Work). pieces_put_in n put.1 space put.0 text))
        carried (Ok put) step more =
            with_step put step (pieces_put_in n put.1 space put.0 text) (more step.then_set put step.page_small step.slot_small step.puts.form)
        carried (Err end) is more = tt

    -- a text that was put from pages in form changed no piece that was there, on the pages of some set
    pub text_kept : (set : ℕ → Bool) (w new : Work) (at : TextRef) → IsForm (among set w.now all space) → put_in w space text ≡ Ok (at, new)
        → (last : ℕ → Bool) × KeepsIn set last w new []
    text_kept set w new at form is = subst (PutKeeps set w) is (pieces_kept (piece_count text) set w nowhere (omega arith) (lit< tt) (lit< tt) form)

  -- a text is taken away
  module _ (set : ℕ → Bool) (w : Work) (at : TextRef) (gone : List TextRef) where
    -- so far the pages are in form, what is left is a chain of pieces that are to go, and all others are as they were
    pub record LeavesRest (t : Taken) : Type 0 where
      pub rest : List TextRef
      pub form : IsForm (among set t.work.now all space)
      pub leads : IsChain (among set t.work.now all space) t.at rest
      pub once : IsOnceEach rest
      pub part : (r : TextRef) → is_listed rest r ≡ true → is_listed gone r ≡ true
      pub keeps : KeepsIn set set w t.work gone

    one_more : (t : Taken) → LeavesRest t → MatchResult (taken_more space t) LeavesRest (λ end. Unit {0})
    one_more t h = at_page (t.at.page == 0) refl h.rest h.leads h.once h.part
      where
        carried : (r : TextRef) (rs : List TextRef) → IsChain (among set t.work.now all space) t.at (r ∷ rs) → IsOnceEach (r ∷ rs)
            → ((q : TextRef) → is_listed (r ∷ rs) q ≡ true → is_listed gone q ≡ true) → (s : Result (TextRef × Work) PageEnd)
            → TakeEnds set t.work all space t.at s
            → MatchResult (and_then s (λ (taken : TextRef × Work). Ok (record { at = taken.0; from = t.at.page; work = taken.1 }))) LeavesRest (λ end. Unit {0})
        carried r rs leads once part (Err end) is = tt
        carried r rs leads once part (Ok taken) step =
            let old = among set t.work.now all space in let new = among set taken.1.now all space in
            let behind : IsChain old (next_at old t.at) rs = subst (λ (x : TextRef). IsChain old (next_at old x) rs) (sym leads.0) leads.2 in
            record {
              rest = rs;
              form = step.takes.form;
              leads = subst (λ next. IsChain new next rs) (sym step.leads)
                  (chain_stays old new rs (next_at old t.at) behind
                  (λ q listed. step.takes.kept q (chain_pieces old rs (next_at old t.at) q behind listed)
                  (λ one. true≢false (sym listed ∙ ap (is_listed rs) (one ∙ leads.0) ∙ once.0))));
              once = once.1;
              part = λ q listed. part q (listed_later r rs q listed);
              keeps = take_behind set w t.work taken.1 gone t.at taken.0
                  (subst (λ x. is_listed gone x ≡ true) (sym leads.0) (part r (listed_first r rs))) h.keeps step;
            }

        at_page : (b : Bool) → (t.at.page == 0) ≡ b → (rest : List TextRef) → IsChain (among set t.work.now all space) t.at rest → IsOnceEach rest
            → ((q : TextRef) → is_listed rest q ≡ true → is_listed gone q ≡ true)
            → MatchResult (if b then Ok t else and_then (piece_taken_in t.work space t.from t.at)
            (λ (taken : TextRef × Work). Ok (record { at = taken.0; from = t.at.page; work = taken.1 }))) LeavesRest (λ end. Unit {0})
        at_page true is rest leads once part = h
        at_page false is [] leads once part = absurd (true≢false (sym (eq-eqb t.at.page 0 leads) ∙ is))
        at_page false is (r ∷ rs) leads once part =
            carried r rs leads once part (piece_taken_in t.work space t.from t.at)
            (take_ends set t.work all space h.form t.from t.at (subst (IsPiece (among set t.work.now all space)) (sym leads.0) leads.1))

    module _ (form : IsForm (among set w.now all space)) (chain : IsChain (among set w.now all space) at gone) (once : IsOnceEach gone) where
      left_rest : (n : ℕ) → MatchResult (taken_in w space at n) LeavesRest (λ end. Unit {0})
      left_rest zero = record { rest = gone; form = form; leads = chain; once = once; part = λ r listed. listed; keeps = nothing_changes set w gone }
      left_rest (suc n) = more (taken_in w space at n) (left_rest n)
        where
          more : (r : Result Taken PageEnd) → MatchResult r LeavesRest (λ end. Unit {0})
              → MatchResult (and_then r (taken_more space)) LeavesRest (λ end. Unit {0})
          more (Ok t) h = one_more t h
          more (Err end) is = tt

      -- after any number of pieces taken away from a chain this holds
      pub left_at : (n : ℕ) (t : Taken) → taken_in w space at n ≡ Ok t → LeavesRest t
      left_at n t is = subst (λ r. MatchResult r LeavesRest (λ end. Unit {0})) is (left_rest n)

-- what `put`, `remove` and `replace` keep
pub put_keeps : (w new : Work) (all : PageId → Option (List ℕ)) (space : Space) (set : ℕ → Bool) (bytes : List ℕ) (at : TextRef)
    → IsForm (among set w.now all space)
    → put_in w space bytes ≡ Ok (at, new) → KeepsPieces (among set w.now all space) (seen new.now all space) []
put_keeps w new all space set bytes at form is = let kept = text_kept all space bytes set w new at form is in widened all space set kept.0 w new [] kept.1

-- where a text was removed, all pieces beside its chain are as they were
pub remove_keeps : (w new : Work) (all : PageId → Option (List ℕ)) (space : Space) (set : ℕ → Bool) (at : TextRef) (chain : List TextRef)
    → IsForm (among set w.now all space)
    → IsChain (among set w.now all space) at chain → IsOnceEach chain → IsRemoved w space at (Ok tt) new
    → KeepsPieces (among set w.now all space) (seen new.now all space) chain
remove_keeps w new all space set at chain form leads once is =
    let left = left_at all space set w at chain form leads once is.0 is.1.0 is.1.1.0 in
    subst (λ (v : Work). KeepsPieces (among set w.now all space) (seen v.now all space) chain) (sym is.1.1.2)
    (widened all space set set w is.1.0.work chain left.keeps)

-- where a text was replaced, all pieces beside its chain are as they were
pub replace_keeps : (w new : Work) (all : PageId → Option (List ℕ)) (space : Space) (set : ℕ → Bool) (at : TextRef) (chain : List TextRef) (bytes : List ℕ)
    (ref : TextRef) → IsForm (among set w.now all space)
    → IsChain (among set w.now all space) at chain → IsOnceEach chain → IsReplaced w space at bytes (Ok ref) new
    → KeepsPieces (among set w.now all space) (seen new.now all space) chain
replace_keeps w new all space set at chain bytes ref form leads once is =
    let left = left_at all space set w at chain form leads once is.0 is.1.0 is.1.1.0 in
    let kept = text_kept all space bytes set is.1.0.work new ref left.form is.1.1.2 in
    widened all space set kept.0 w new chain (both_keep all space set set kept.0 w is.1.0.work new chain left.keeps kept.1)
