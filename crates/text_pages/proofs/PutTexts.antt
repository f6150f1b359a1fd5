-- What putting a text does to the texts that the pages mean.
use Rattle.std.proofs.Common.{◌≡◌, ℕ, zero, suc, ◌+◌, ◌*◌, ◌/◌, ◌<◌, ◌≤◌, ◌^◌, inl, inr, Bool, List, [], ◌∷◌, ◌++◌, length, take, drop, Option, Result, Ok, Err, MatchResult, refl, sym, ap, ◌∙◌, subst, arith, length-drop, lit<}
use Rattle.std.proofs.lemmas.List.{take-append-drop, drop-drop, drop_all}
use Rattle.page_bytes.specs.declared.ids.Space.{Space}
use Rattle.page_bytes.specs.declared.ids.PageId.{PageId}
use Rattle.page_bytes.specs.declared.texts.TextRef.{TextRef}
use Rattle.page_bytes.specs.declared.end.PageEnd.{PageEnd}
use Rattle.page_bytes.specs.Known.{Known}
use Rattle.page_bytes.specs.Links.{and_then}
use Rattle.page_bytes.specs.Work.{Work}
use Rattle.text_pages.specs.Putting.{nowhere, piece_count, piece_of, piece_put_in, pieces_put_in, put_in}
use Rattle.page_bytes.specs.Head.{next_page, LAST_PAGE}
use Rattle.page_bytes.specs.Answers.{Answers, IsStop}
use Rattle.page_bytes.specs.Seen.{seen, bytes}
use Rattle.text_pages.specs.Meaning.{IsForm, TextMap, AreTexts, MeansTexts, IsPut, IsNotPut}
use Rattle.text_pages.proofs.Chains.{Loose, loose_put}
use Rattle.page_bytes.proofs.Growing.{Grows}
use Rattle.text_pages.proofs.Maps.{PutAlone, loose_empty, text_put}
use Rattle.text_pages.proofs.PutSteps.{IsUnput, PutEnds, put_ends}
use Rattle.page_bytes.proofs.Among.{bytes-in}
use Rattle.text_pages.proofs.Reached.{among, long_in}
use Rattle.text_pages.proofs.TakeSteps.{need_before}
use Rattle.text_pages.proofs.Ranges.{split}

-- a stop by what was known later is one by what is known
pub stop_before : (old new : Known) (all : PageId → Option (List ℕ)) (space : Space) (end : PageEnd) → Grows old new → IsStop new all space end
    → IsStop old all space end
stop_before old new all space end grows is = split is (λ none. inl none) (λ need. inr (need_before old new all space end grows need))

-- why a text isn't put by what was known later is why by what is known, where page numbers allow for what was made
pub unput_before : (set then_set : ℕ → Bool) (old new : Known) (all : PageId → Option (List ℕ)) (space : Space) (few most : ℕ) (end : PageEnd) → Grows old new
    → next_page (bytes (among then_set new all space) 0) + few ≤ next_page (bytes (among set old all space) 0) + most
    → IsUnput then_set new all space few end → IsUnput set old all space most end
unput_before set then_set old new all space few most end grows made is = split is
    (λ stop. inl (stop_before old new all space end grows stop))
    (λ spent. let last = spent.1 in inr (spent.0, omega (arith, last, made)))

-- a part of a text before what is behind it
rest_of : (k at : ℕ) (bytes : List ℕ) → take k (drop at bytes) ++ drop (at + k) bytes ≡ drop at bytes
rest_of k at bytes = ap (λ l. take k (drop at bytes) ++ l) (sym (drop-drop k at bytes)) ∙ take-append-drop k (drop at bytes)

part_size : (k : ℕ) (l : List ℕ) → (length (take k l) ≤ k) × (0 < k → 0 < length l → 0 < length (take k l))
part_size zero l = (omega arith, λ some there. some)
part_size (suc k) [] = (omega arith, λ some there. there)
part_size (suc k) (x ∷ l) = let rest = part_size k l in (let up = rest.0 in omega (arith, up), λ some there. omega arith)

piece_and_rest : (n : ℕ) (bytes : List ℕ) → piece_of n bytes ++ drop (suc n * 4074) bytes ≡ drop (n * 4074) bytes
piece_and_rest n bytes =
    let more : suc n * 4074 ≡ n * 4074 + 4074 = omega arith in
    ap (λ m. piece_of n bytes ++ drop m bytes) more ∙ rest_of 4074 (n * 4074) bytes

-- a piece of a text whose number is below their count has a byte
pub piece_long : (n : ℕ) (bytes : List ℕ) → n * 4074 < length bytes → 0 < length (piece_of n bytes)
piece_long n bytes inside = let size = length-drop (n * 4074) bytes in (part_size 4074 (drop (n * 4074) bytes)).1 (lit< tt) (omega (arith, size, inside))

-- a piece of a text has at most 4,074 bytes
pub piece_short : (n : ℕ) (bytes : List ℕ) → length (piece_of n bytes) ≤ 4074
piece_short n bytes = (part_size 4074 (drop (n * 4074) bytes)).0

module _ (all : PageId → Option (List ℕ)) (space : Space) (texts : TextMap) (text : List ℕ) where
  -- the text has been put, on the pages of some set, with `most` new pages at most
  abbrev PutText : (ℕ → Bool) → Known → ℕ → Result (TextRef × Work) PageEnd → Type 0
  PutText set k most r = MatchResult r (λ put. (then_set : ℕ → Bool) × Loose (among then_set put.1.now all space) texts put.0 text)
      (λ end. IsUnput set k all space most end)

  put_before : (set then_set : ℕ → Bool) (old new : Known) (few : ℕ) (r : Result (TextRef × Work) PageEnd) → Grows old new
      → next_page (bytes (among then_set new all space) 0) ≤ next_page (bytes (among set old all space) 0) + 1
      → PutText then_set new few r → PutText set old (suc few) r
  put_before set then_set old new few (Ok put) grows made is = is
  put_before set then_set old new few (Err end) grows made is = unput_before set then_set old new all space few (suc few) end grows (omega (arith, made)) is

  -- where all after the first n pieces of a text stand beside the texts, to put these n makes all of it stand there,
  -- or it stops, or page numbers are spent for n pages
  pub pieces_put : (n : ℕ) (set : ℕ → Bool) (w : Work) (next : TextRef) → n ≤ (length text + 4073) / 4074 → next.page < 256 ^ 8 → next.slot < 256 ^ 2
      → Loose (among set w.now all space) texts next (drop (n * 4074) text) → PutText set w.now n (pieces_put_in n w space next text)
  pieces_put zero set w next within page_small slot_small l = (set, l)
  pieces_put (suc n) set w next within page_small slot_small l =
      carried (piece_put_in w space next (piece_of n text))
      (put_ends set w all space l.means.form next (piece_of n text) page_small slot_small (piece_long n text (omega (arith, within))) (piece_short n text))
      (λ (then_set : ℕ → Bool) (put : TextRef × Work) page_small slot_small l. pieces_put n then_set put.1 put.0
      (omega (arith, within)) page_small slot_small l)
    where
      carried : (r : Result (TextRef × Work) PageEnd) → PutEnds set w all space next (piece_of n text) r
          → ((then_set : ℕ → Bool) (put : TextRef × Work) → put.0.page < 256 ^ 8 → put.0.slot < 256 ^ 2
          → Loose (among then_set put.1.now all space) texts put.0 (drop (n * 4074) text)
          → PutText then_set put.1.now n (pieces_put_in n put.1 space put.0 text))
          → PutText set w.now (suc n) (and_then r (λ (put : TextRef × Work). pieces_put_in n put.1 space put.0 text))
      carried (Ok put) step more =
          put_before set step.then_set w.now put.1.now n (pieces_put_in n put.1 space put.0 text) step.grows step.made
          (more step.then_set put step.page_small step.slot_small
          (subst (Loose (among step.then_set put.1.now all space) texts put.0) (piece_and_rest n text)
          (loose_put (among set w.now all space) (among step.then_set put.1.now all space) texts put.0 next (piece_of n text)
          (drop (suc n * 4074) text) l step.puts)))
      carried (Err end) is more = unput_before set set w.now w.now all space 1 (suc n) end (λ id is. is) (omega arith) is

-- all of a text
nothing_behind : (text : List ℕ) → drop (((length text + 4073) / 4074) * 4074) text ≡ []
nothing_behind text = drop_all (((length text + 4073) / 4074) * 4074) text (omega arith)

-- the text is put on the pages of some set, which alone mean the texts with it
abbrev pub PutSomewhere : Known → (PageId → Option (List ℕ)) → Space → TextMap → List ℕ → TextRef → Type 0
PutSomewhere k all space texts text at = (set : ℕ → Bool) × PutAlone (among set k all space) texts text at

-- where the pages of a set mean texts, a text is put so that those of some set mean the texts with it,
-- or it stops, or page numbers are spent for its pieces
pub put_text_means : (set : ℕ → Bool) (w : Work) (all : PageId → Option (List ℕ)) (space : Space) (texts : TextMap) (text : List ℕ)
    → AreTexts (among set w.now all space) texts
    → MatchResult (put_in w space text) (λ put. PutSomewhere put.1.now all space texts text put.0) (λ end. IsUnput set w.now all space (piece_count text) end)
put_text_means set w all space texts [] m = (set, (refl, m))
put_text_means set w all space texts (b ∷ bs) m =
    carried (put_in w space (b ∷ bs))
    (pieces_put all space texts (b ∷ bs) (piece_count (b ∷ bs)) set w nowhere (omega arith) (lit< tt) (lit< tt)
    (subst (Loose (among set w.now all space) texts nowhere) (sym (nothing_behind (b ∷ bs))) (loose_empty (among set w.now all space) texts nowhere refl m)))
  where
    carried : (r : Result (TextRef × Work) PageEnd)
        → MatchResult r (λ put. (then_set : ℕ → Bool) × Loose (among then_set put.1.now all space) texts put.0 (b ∷ bs))
        (λ end. IsUnput set w.now all space (piece_count (b ∷ bs)) end)
        → MatchResult r (λ put. PutSomewhere put.1.now all space texts (b ∷ bs) put.0) (λ end. IsUnput set w.now all space (piece_count (b ∷ bs)) end)
    carried (Ok put) l = (l.0, text_put (among l.0 put.1.now all space) texts put.0 b bs l.1)
    carried (Err end) is = is

-- what is said of the pages of a set, of all pages
pub is_put : (k : Known) (all : PageId → Option (List ℕ)) (space : Space) (texts : TextMap) (text : List ℕ) (at : TextRef)
    → PutSomewhere k all space texts text at → IsPut (seen k all space) texts text at
is_put k all space texts text at is = (is.1.0, record { reached = is.0; alone = is.1.1 })

-- why a text isn't put by the pages of a set is why it isn't put by all pages
pub not_put : (set : ℕ → Bool) (k : Known) (all : PageId → Option (List ℕ)) (space : Space) (text : List ℕ) (end : PageEnd) → IsForm (among set k all space)
    → IsUnput set k all space (piece_count text) end → IsNotPut k all space text end
not_put set k all space text end form is = split is
    (λ stop. inl stop)
    (λ spent. inr (
      spent.0,
      subst (λ (b : List ℕ). LAST_PAGE < next_page b + piece_count text)
          (bytes-in set (seen k all space) 0 (long_in set (seen k all space) 0 form.long)) spent.1,
    ))

-- what the call `put` does
pub put_means : (w : Work) (all : PageId → Option (List ℕ)) (space : Space) (texts : TextMap) (text : List ℕ) → MeansTexts (seen w.now all space) texts
    → (r : Result TextRef PageEnd) (new : Work)
    → Answers (put_in w space text) r new → MatchResult r (λ at. IsPut (seen new.now all space) texts text at) (λ end. IsNotPut w.now all space text end)
put_means w all space texts text m r new answer = ended (put_in w space text) r (put_text_means m.reached w all space texts text m.alone) answer
  where
    ended : (s : Result (TextRef × Work) PageEnd) (r : Result TextRef PageEnd)
        → MatchResult s (λ put. PutSomewhere put.1.now all space texts text put.0) (λ end. IsUnput m.reached w.now all space (piece_count text) end)
        → Answers s r new
        → MatchResult r (λ at. IsPut (seen new.now all space) texts text at) (λ end. IsNotPut w.now all space text end)
    ended (Ok put) (Ok at) is answer =
        subst (λ (p : TextRef × Work). IsPut (seen p.1.now all space) texts text p.0) (λ i. (sym answer.0 i, sym answer.1 i))
        (is_put put.1.now all space texts text put.0 is)
    ended (Ok put) (Err end) is answer = inl (inl answer)
    ended (Err why) (Ok at) is answer = absurd answer
    ended (Err why) (Err end) is answer = split answer
        (λ same. subst (IsNotPut w.now all space text) (sym same) (not_put m.reached w.now all space text why m.alone.form is))
        (λ none. inl (inl none))
