-- What is found of pages that are looked at one after another.
use Rattle.std.proofs.Common.{◌≡◌, ℕ, zero, suc, ◌+◌, ◌-◌, ◌*◌, ◌<◌, List, [], ◌++◌, length, take, drop, Result, Ok, Err, sym, ap, ◌∙◌, subst, arith}
use Rattle.std.proofs.lemmas.List.{length-append, length-drop}
use Rattle.page_bytes.specs.declared.ids.Space.{Space}
use Rattle.page_bytes.specs.declared.end.PageEnd.{PageEnd}
use Rattle.page_bytes.specs.Known.{Known}
use Rattle.page_bytes.specs.Links.{and_then}
use Rattle.flat_doc.specs.Pieces.{PIECE_BYTES, LENGTH_BYTES, page_count, piece, stated_length}
use Rattle.flat_doc.specs.Inside.{HasLength}
use Rattle.flat_doc.specs.Reading.{flat_page, pieces, flat_text}

-- so many pages are there, with all bytes of their pieces
abbrev pub AllThere : Known → Space → ℕ → Type 0
AllThere k space count = (all : List ℕ) × ((pieces k space 0 count ≡ Ok all) × (length all ≡ count * PIECE_BYTES))

-- From a number on so many pages are left to be looked at: what is found of them is found of all.
pub record IsLeft (k : Known) (space : Space) (count number left : ℕ) : Type 0 where
  pub counted : number + left ≡ count
  pub refused : (end : PageEnd) → pieces k space number left ≡ Err end → pieces k space 0 count ≡ Err end
  pub there : (rest : List ℕ) → pieces k space number left ≡ Ok rest → length rest ≡ left * PIECE_BYTES → AllThere k space count

-- at first all are left
pub all_left : (k : Known) (space : Space) (count : ℕ) → IsLeft k space count 0 count
all_left k space count = record { counted = omega arith; refused = λ end is. is; there = λ rest is long. (rest, (is, long)) }

-- where the next one can't be had, they can't
pub stops : (k : Known) (space : Space) (count number left : ℕ) (end : PageEnd) → IsLeft k space count number left → 0 < left
    → flat_page k space number ≡ Err end → pieces k space 0 count ≡ Err end
stops k space count number zero end is some page = absurd (omega (arith, some))
stops k space count number (suc left) end is some page =
    is.refused end (ap (λ r. and_then r (λ page. and_then (pieces k space (number + 1) left) (λ rest. Ok (piece page ++ rest)))) page)

-- where it is there, one less is left
pub goes_on : (k : Known) (space : Space) (count number left : ℕ) (page : List ℕ) → IsLeft k space count number left → 0 < left
    → flat_page k space number ≡ Ok page → length page ≡ 4096 → IsLeft k space count (number + 1) (left - 1)
goes_on k space count number zero page is some found long = absurd (omega (arith, some))
goes_on k space count number (suc left) page is some found long =
    let less : left ≡ suc left - 1 = omega arith in
    let first : pieces k space number (suc left) ≡ and_then (pieces k space (number + 1) left) (λ rest. Ok (piece page ++ rest)) =
    ap (λ r. and_then r (λ page. and_then (pieces k space (number + 1) left) (λ rest. Ok (piece page ++ rest)))) found in
    let joined : (r : Result (List ℕ) PageEnd) → pieces k space (number + 1) left ≡ r
    → pieces k space number (suc left) ≡ and_then r (λ rest. Ok (piece page ++ rest)) =
    λ r is. first ∙ ap (λ r. and_then r (λ rest. Ok (piece page ++ rest))) is in
    let counted = is.counted in
    let size : length (piece page) ≡ 4095 = length-drop 1 page ∙ ap (λ n. n - 1) long in
    subst (λ n. IsLeft k space count (number + 1) n) less record {
      counted = omega (arith, counted);
      refused = λ end more. is.refused end (joined (Err end) more);
      there = λ rest more all. is.there (piece page ++ rest) (joined (Ok rest) more) (length-append (piece page) rest ∙ omega (arith, size, all));
    }

-- a page that can't be had is the text's refusal
pub text_refused : (k : Known) (space : Space) (first : List ℕ) (end : PageEnd) → flat_page k space 0 ≡ Ok first
    → pieces k space 0 (page_count (stated_length first)) ≡ Err end → flat_text k space ≡ Err end
text_refused k space first end is refused =
    ap (λ r. and_then r (λ first. and_then (pieces k space 0 (page_count (stated_length first))) (λ all. Ok (take (stated_length first) (drop LENGTH_BYTES all))))) is
    ∙ ap (λ r. and_then r (λ all. Ok (take (stated_length first) (drop LENGTH_BYTES all)))) refused

-- where no page is left, the length is that of a text whose pages are there
pub none_left : (k : Known) (space : Space) (first : List ℕ) (n number left : ℕ) → flat_page k space 0 ≡ Ok first → stated_length first ≡ n
    → IsLeft k space (page_count n) number left → left ≡ 0 → HasLength k space n
none_left k space first n number left is stated seen none =
    let all = seen.there [] (ap (pieces k space number) none) (ap (λ n. n * PIECE_BYTES) (sym none)) in
    record { first = first; is_first = is; stated = stated; all = all.0; there = all.1.0; long = all.1.1 }
