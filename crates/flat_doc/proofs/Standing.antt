-- What pages that stand for a document answer to who reads them.
use Rattle.std.proofs.Common.{◌≡◌, ◌⊎◌, inl, inr, ℕ, zero, suc, ◌+◌, ◌*◌, ◌/◌, ◌%◌, ◌<◌, Bool, true, false, List, ◌++◌, length, take, drop, Option, None, Some, Result, Ok, Err, MatchResult, is_ok, is_err, IsUtf8, true≢false, refl, sym, ap, ◌∙◌, subst, arith, if◌then◌else◌}
use Rattle.std.specs.FinMap as map
use Rattle.std.proofs.lemmas.Nat.{div-add-mod', mod_below}
use Rattle.page_bytes.specs.declared.ids.Space.{Space}
use Rattle.page_bytes.specs.declared.ids.PageId.{PageId}
use Rattle.page_bytes.specs.declared.end.PageEnd.{PageEnd}
use Rattle.page_bytes.specs.declared.end.PageEnd.TheVariants.{Need}
use Rattle.page_bytes.specs.Answers.{IsNeed, IsStop}
use Rattle.page_bytes.specs.Known.{Known, is_unknown}
use Rattle.page_bytes.specs.Links.{page_in, and_then}
use Rattle.page_bytes.specs.Seen.{seen, bytes}
use Rattle.xml_model.specs.declared.node.Doc.{Doc}
use Rattle.xml_model.specs.declared.node.RefusedLine.{RefusedLine}
use Rattle.xml_model.specs.Pyx.{read, split_lines}
use Rattle.flat_doc.specs.Pieces.{LENGTH_BYTES, page_count, piece, stated_length}
use Rattle.flat_doc.specs.Reading.{flat_page, pieces, flat_text, IsFlatDoc}
use Rattle.flat_doc.specs.Meaning.{IsFlat, joined_pieces, HasText, StandsForFlat}

-- what a flat page answers: its bytes, or that it is needed
abbrev pub PageAnswer : Known → (PageId → Option (List ℕ)) → Space → ℕ → Type 0
PageAnswer k all space n =
    (flat_page k space n ≡ Ok (bytes (seen k all space) n)) ⊎ ((end : PageEnd) × ((flat_page k space n ≡ Err end) × IsNeed k all space end))

page_answer : (k : Known) (all : PageId → Option (List ℕ)) (space : Space) (n : ℕ) → IsFlat (seen k all space n) → PageAnswer k all space n
unfolding bytes
page_answer k all space n flat = by (is_unknown k (page_in space n)) refl
  where
    known : (is : is_unknown k (page_in space n) ≡ false) (o : Option (List ℕ)) → map.get k.pages (page_in space n) ≡ o → IsFlat o → PageAnswer k all space n
    known is None there flat = absurd flat
    known is (Some page) there flat = inl (rw (is, there, flat.0) refl)

    needed : (is : is_unknown k (page_in space n) ≡ true) (o : Option (List ℕ)) → all (page_in space n) ≡ o → IsFlat o → PageAnswer k all space n
    needed is None there flat = absurd flat
    needed is (Some page) there flat = inr (Need (page_in space n), (rw is refl, (n, (refl, is, rw there refl))))

    by : (b : Bool) → is_unknown k (page_in space n) ≡ b → PageAnswer k all space n
    by true is = needed is (all (page_in space n)) refl (subst IsFlat (ap (λ b. if b then all (page_in space n) else map.get k.pages (page_in space n)) is) flat)
    by false is =
        known is (map.get k.pages (page_in space n)) refl
        (subst IsFlat (ap (λ b. if b then all (page_in space n) else map.get k.pages (page_in space n)) is) flat)

-- what the pieces of flat pages answer: their bytes, or that a page is needed
abbrev pub PiecesAnswer : Known → (PageId → Option (List ℕ)) → Space → ℕ → ℕ → Type 0
PiecesAnswer k all space n count =
    (pieces k space n count ≡ Ok (joined_pieces (seen k all space) n count))
    ⊎ ((end : PageEnd) × ((pieces k space n count ≡ Err end) × IsNeed k all space end))

pieces_answer : (k : Known) (all : PageId → Option (List ℕ)) (space : Space) (n count : ℕ)
    → ((m : ℕ) → m < n + count → IsFlat (seen k all space m)) → PiecesAnswer k all space n count
pieces_answer k all space n zero flat = inl refl
pieces_answer k all space n (suc count) flat =
    by (page_answer k all space n (flat n (omega arith))) (pieces_answer k all space (n + 1) count (λ m below. flat m (omega (arith, below))))
  where
    by : PageAnswer k all space n → PiecesAnswer k all space (n + 1) count → PiecesAnswer k all space n (suc count)
    by (inr (end, (refused, need))) rest =
        inr (end, (ap (λ r. and_then r (λ page. and_then (pieces k space (n + 1) count) (λ rest. Ok (piece page ++ rest)))) refused, need))
    by (inl page) (inr (end, (refused, need))) =
        inr (
          end,
          (
            ap (λ r. and_then r (λ page. and_then (pieces k space (n + 1) count) (λ rest. Ok (piece page ++ rest)))) page
                ∙ ap (λ r. and_then r (λ rest. Ok (piece (bytes (seen k all space) n) ++ rest))) refused,
            need,
          ),
        )
    by (inl page) (inl rest) =
        inl (ap (λ r. and_then r (λ page. and_then (pieces k space (n + 1) count) (λ rest. Ok (piece page ++ rest)))) page
        ∙ ap (λ r. and_then r (λ rest. Ok (piece (bytes (seen k all space) n) ++ rest))) rest)

-- the text that the pages have is read, or a page is needed
abbrev pub TextAnswer : Known → (PageId → Option (List ℕ)) → Space → List ℕ → Type 0
TextAnswer k all space text = (flat_text k space ≡ Ok text) ⊎ ((end : PageEnd) × ((flat_text k space ≡ Err end) × IsNeed k all space end))

text_answer : (k : Known) (all : PageId → Option (List ℕ)) (space : Space) (text : List ℕ) → HasText (seen k all space) text → 0 < page_count (length text)
    → TextAnswer k all space text
text_answer k all space text has some = by (page_answer k all space 0 (has.flat 0 some)) (pieces_answer k all space 0 count (λ m below. has.flat m (omega (arith, below))))
  where
    count : ℕ
    count = page_count (length text)

    by : PageAnswer k all space 0 → PiecesAnswer k all space 0 (page_count (length text)) → TextAnswer k all space text
    by (inr (end, (refused, need))) rest =
        inr (
          end,
          (
            ap (λ r. and_then r (λ first. and_then (pieces k space 0 (page_count (stated_length first)))
                (λ all. Ok (take (stated_length first) (drop LENGTH_BYTES all))))) refused,
            need,
          ),
        )
    by (inl page) (inr (end, (refused, need))) =
        inr (
          end,
          (
            ap (λ r. and_then r (λ first. and_then (pieces k space 0 (page_count (stated_length first)))
                (λ all. Ok (take (stated_length first) (drop LENGTH_BYTES all))))) page
                ∙ ap (λ m. and_then (pieces k space 0 (page_count m)) (λ all. Ok (take m (drop LENGTH_BYTES all)))) has.stated
                ∙ ap (λ r. and_then r (λ all. Ok (take (length text) (drop LENGTH_BYTES all)))) refused,
            need,
          ),
        )
    by (inl page) (inl rest) =
        inl (ap (λ r. and_then r (λ first. and_then (pieces k space 0 (page_count (stated_length first)))
        (λ all. Ok (take (stated_length first) (drop LENGTH_BYTES all))))) page
        ∙ ap (λ m. and_then (pieces k space 0 (page_count m)) (λ all. Ok (take m (drop LENGTH_BYTES all)))) has.stated
        ∙ ap (λ r. and_then r (λ all. Ok (take (length text) (drop LENGTH_BYTES all)))) rest
        ∙ ap Ok (sym has.runs))

abbrev value_of : {A : Type 0} → A → Result A PageEnd → A
value_of x (Ok y) = y
value_of x (Err e) = x

abbrev doc_of : Doc → Result Doc RefusedLine → Doc
doc_of doc (Ok d) = d
doc_of doc (Err e) = doc

abbrev end_of : PageEnd → Result (List ℕ) PageEnd → PageEnd
end_of end (Ok y) = end
end_of end (Err e) = e

-- a page at least is taken
some_page : (n : ℕ) → 0 < page_count n
some_page n =
    let parts : (8 + n + 4094) / 4095 * 4095 + (8 + n + 4094) % 4095 ≡ 8 + n + 4094 = div-add-mod' (8 + n + 4094) 4095 in
    let below : (8 + n + 4094) % 4095 < 4095 = mod_below (8 + n + 4094) 4095 (omega arith) in
    omega (arith, parts, below)

-- where pages stand for a document it is what they answer, or a page of theirs is needed
pub answers : (k : Known) (all : PageId → Option (List ℕ)) (space : Space) (doc : Doc) (r : Result Doc PageEnd) → StandsForFlat (seen k all space) doc
    → IsFlatDoc k space r → MatchResult r (λ read. read ≡ doc) (λ end. IsStop k all space end)
answers k all space doc r stands is = by (text_answer k all space stands.text stands.has (some_page (length stands.text))) r is
  where
    by : TextAnswer k all space stands.text → (r : Result Doc PageEnd) → IsFlatDoc k space r → MatchResult r (λ read. read ≡ doc) (λ end. IsStop k all space end)
    by (inl text) (Ok other) (found, (is, spells)) =
        let same : found ≡ stands.text = ap (value_of found) (sym is ∙ text) in
        let both : ◌≡◌ {A = Result Doc RefusedLine} (Ok other) (Ok doc) = sym spells.reads ∙ ap (λ t. read (split_lines t)) same ∙ stands.spells.reads in
        ap (doc_of other) both
    by (inl text) (Err end) (inl out) = inl out
    by (inl text) (Err end) (inr (inl refused)) = absurd (true≢false (ap is_ok (sym text ∙ refused)))
    by (inl text) (Err end) (inr (inr (found, (is, inl bad, damaged)))) = absurd (bad (subst IsUtf8 (ap (value_of stands.text) (sym text ∙ is)) stands.spells.utf8))
    by (inl text) (Err end) (inr (inr (found, (is, inr bad, damaged)))) =
        let same : stands.text ≡ found = ap (value_of stands.text) (sym text ∙ is) in
        absurd (true≢false (sym bad ∙ ap is_err (ap (λ t. read (split_lines t)) (sym same) ∙ stands.spells.reads)))
    by (inr (needed, (refused, need))) (Ok other) (found, (is, spells)) = absurd (true≢false (ap is_ok (sym is ∙ refused)))
    by (inr (needed, (refused, need))) (Err end) (inl out) = inl out
    by (inr (needed, (refused, need))) (Err end) (inr (inl stopped)) = inr (subst (IsNeed k all space) (ap (end_of needed) (sym refused ∙ stopped)) need)
    by (inr (needed, (refused, need))) (Err end) (inr (inr (found, (is, bad, damaged)))) = absurd (true≢false (ap is_ok (sym is ∙ refused)))
