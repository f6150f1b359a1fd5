-- How far the text of pages has been read.
use Rattle.std.proofs.Common.{◌≡◌, ◌⊎◌, inl, inr, ℕ, zero, suc, ◌+◌, ◌-◌, ◌*◌, ◌/◌, ◌%◌, ◌<◌, ◌≤◌, ◌^◌, min, List, [], ◌++◌, length, take, drop, Result, Ok, Err, is_ok, true≢false, refl, sym, ap, ◌∙◌, arith}
use Rattle.std.proofs.lemmas.List.{append_assoc, append-nil, length-append, length-drop, take_all, take-append-le, drop-append-le, drop-drop}
use Rattle.std.proofs.lemmas.Bool.{cases_lt}
use Rattle.std.proofs.lemmas.Nat.{div-add-mod', mod_below}
use Rattle.page_bytes.specs.declared.ids.Space.{Space}
use Rattle.page_bytes.specs.declared.end.PageEnd.{PageEnd}
use Rattle.page_bytes.specs.Fields.{bytes_at}
use Rattle.page_bytes.specs.Known.{Known}
use Rattle.page_bytes.specs.Links.{and_then}
use Rattle.xml_model.specs.declared.node.Doc.{Doc}
use Rattle.xml_model.specs.declared.node.RefusedLine.{RefusedLine}
use Rattle.xml_model.specs.Pyx.{Reading}
use Rattle.flat_doc.specs.Pieces.{LENGTH_BYTES, page_count, piece, stated_length}
use Rattle.flat_doc.specs.Reading.{flat_page, pieces, flat_text, IsFlatDoc}
use Rattle.flat_doc.specs.Inside.{HasLength}
use Rattle.flat_doc.specs.Lines.{IsRead, Reads, GivesDoc}
use Rattle.flat_doc.proofs.Running.{take-past}

-- From a page on, and a place in it, so many bytes of the text are left.
pub record IsUpTo (k : Known) (space : Space) (number at left : ℕ) (reading : Result Reading RefusedLine) (line : List ℕ) : Type 0 where
  pub text : List ℕ
  pub is_read : IsRead text reading line
  pub count : ℕ
  pub rest : List ℕ
  pub there : pieces k space number count ≡ Ok rest
  pub long : length rest ≡ count * 4095
  pub whole : flat_text k space ≡ Ok (text ++ take left (drop (at - 1) rest))
  pub enough : at - 1 + left ≤ length rest
  pub at_least : 1 ≤ at
  pub at_most : at ≤ 9
  pub fits : number + count ≤ 18446744073709551615

-- at first all of it is left
pub none_up_to : (k : Known) (space : Space) (n : ℕ) (reading : Result Reading RefusedLine) (line : List ℕ) → HasLength k space n → n < 2 ^ 64 → IsRead [] reading line
    → IsUpTo k space 0 9 n reading line
none_up_to k space n reading line has small is =
    let x = 8 + n + 4094 in
    let parts : x / 4095 * 4095 + x % 4095 ≡ x = div-add-mod' x 4095 in
    let below : x % 4095 < 4095 = mod_below x 4095 (omega arith) in
    let long = has.long in
    record {
      text = [];
      is_read = is;
      count = page_count n;
      rest = has.all;
      there = has.there;
      long = long;
      whole = ap (λ r. and_then r (λ first. and_then (pieces k space 0 (page_count (stated_length first)))
          (λ all. Ok (take (stated_length first) (drop LENGTH_BYTES all))))) has.is_first
          ∙ ap (λ m. and_then (pieces k space 0 (page_count m)) (λ all. Ok (take m (drop LENGTH_BYTES all)))) has.stated
          ∙ ap (λ r. and_then r (λ all. Ok (take n (drop LENGTH_BYTES all)))) has.there;
      enough = omega (arith, parts, below, long);
      at_least = omega arith;
      at_most = omega arith;
      fits = omega (arith, parts, below, small);
    }

ok_is : {A : Type 0} (x y : A) → ◌≡◌ {A = Result A PageEnd} (Ok x) (Ok y) → x ≡ y
ok_is {A} x y is = ap (λ r. value r) is
  where
    value : Result A PageEnd → A
    value (Ok z) = z
    value (Err e) = x

-- the pieces that are left, by the next page
pub record HasNext (k : Known) (space : Space) (number count : ℕ) (rest page : List ℕ) : Type 0 where
  pub behind : List ℕ
  pub there : pieces k space (number + 1) (count - 1) ≡ Ok behind
  pub split : rest ≡ piece page ++ behind

has_next : (k : Known) (space : Space) (number count : ℕ) (rest page : List ℕ) → 0 < count → pieces k space number count ≡ Ok rest
    → flat_page k space number ≡ Ok page → HasNext k space number count rest page
has_next k space number zero rest page some there is = absurd (omega (arith, some))
has_next k space number (suc count) rest page some there is =
    let less : suc count - 1 ≡ count = omega arith in
    let first : pieces k space number (suc count) ≡ and_then (pieces k space (number + 1) count) (λ behind. Ok (piece page ++ behind)) =
    ap (λ r. and_then r (λ page. and_then (pieces k space (number + 1) count) (λ behind. Ok (piece page ++ behind)))) is in
    let found = at (pieces k space (number + 1) count) refl (sym first ∙ there) in
    record { behind = found.0; there = ap (pieces k space (number + 1)) less ∙ found.1.0; split = found.1.1 }
  where
    at : (r : Result (List ℕ) PageEnd) → pieces k space (number + 1) count ≡ r → and_then r (λ behind. Ok (piece page ++ behind)) ≡ Ok rest
        → (b : List ℕ) × ((pieces k space (number + 1) count ≡ Ok b) × (rest ≡ piece page ++ b))
    at (Ok b) is gives = (b, (is, sym (ok_is (piece page ++ b) rest gives)))
    at (Err e) is gives = absurd (true≢false (sym (ap is_ok gives)))

-- a page that is counted can be had
pub never_refused : (k : Known) (space : Space) (number at left : ℕ) (reading : Result Reading RefusedLine) (line : List ℕ) (end : PageEnd)
    → IsUpTo k space number at left reading line → 0 < left → flat_page k space number ≡ Err end → ⊥
never_refused k space number at left reading line end up some refused =
    let long = up.long in let enough = up.enough in
    no up.count (omega (arith, long, enough, some)) up.there
  where
    no : (count : ℕ) → 0 < count → pieces k space number count ≡ Ok up.rest → ⊥
    no zero some there = omega (arith, some)
    no (suc count) some there =
        let bad : pieces k space number (suc count) ≡ Err end =
        ap (λ r. and_then r (λ page. and_then (pieces k space (number + 1) count) (λ behind. Ok (piece page ++ behind)))) refused in
        true≢false (sym (ap is_ok (sym bad ∙ there)))

-- bytes that are taken from two lists
take-both : (n m : ℕ) (xs ys : List ℕ) → m ≡ min n (length xs) → take n (xs ++ ys) ≡ take m xs ++ take (n - m) ys
take-both n m xs ys is = by (cases_lt (length xs) n)
  where
    by : (length xs < n) ⊎ (n ≤ length xs) → take n (xs ++ ys) ≡ take m xs ++ take (n - m) ys
    by (inl more) =
        let same : length xs ≡ m = omega (arith, is, more) in
        take-past n xs ys (omega (arith, more)) ∙ (λ j. sym (take_all m xs (omega (arith, same))) j ++ take (n - same j) ys)
    by (inr less) =
        let same : n ≡ m = omega (arith, is, less) in let none : 0 ≡ n - m = omega (arith, is, less) in
        take-append-le n xs ys less ∙ ap (λ l. take l xs) same ∙ sym (append-nil (take m xs)) ∙ ap (λ l. take m xs ++ take l ys) none

-- the text, by the bytes that are taken from the next page and those that are left behind it
next_whole : (k : Known) (space : Space) (number at left n : ℕ) (reading : Result Reading RefusedLine) (line page : List ℕ)
    (up : IsUpTo k space number at left reading line) (next : HasNext k space number up.count up.rest page) → length page ≡ 4096
    → n ≡ min left (4096 - at) → flat_text k space ≡ Ok ((up.text ++ bytes_at at n page) ++ take (left - n) next.behind)
next_whole k space number at left n reading line page up next long is =
    let at_least = up.at_least in let at_most = up.at_most in
    let size : length (piece page) ≡ 4095 = length-drop 1 page ∙ ap (λ n. n - 1) long in
    let place : 1 + (at - 1) ≡ at = omega (arith, at_least) in
    let room : length (drop at page) ≡ 4096 - at = length-drop at page ∙ ap (λ n. n - at) long in
    let front : drop (at - 1) up.rest ≡ drop at page ++ next.behind =
    ap (drop (at - 1)) next.split ∙ drop-append-le (at - 1) (piece page) next.behind (omega (arith, size, at_most))
    ∙ ap (λ l. l ++ next.behind) (drop-drop (at - 1) 1 page ∙ ap (λ m. drop m page) place) in
    up.whole ∙ ap (λ l. Ok (up.text ++ take left l)) front
    ∙ ap (λ l. Ok (up.text ++ l)) (take-both left n (drop at page) next.behind (is ∙ ap (min left) (sym room)))
    ∙ ap Ok (sym (append_assoc up.text (bytes_at at n page) (take (left - n) next.behind)))

next_of : (k : Known) (space : Space) (number at left : ℕ) (reading : Result Reading RefusedLine) (line page : List ℕ)
    (up : IsUpTo k space number at left reading line) → 0 < left → flat_page k space number ≡ Ok page → HasNext k space number up.count up.rest page
next_of k space number at left reading line page up some is =
    let long = up.long in let enough = up.enough in
    has_next k space number up.count up.rest page (omega (arith, long, enough, some)) up.there is

-- after the bytes of a page
pub page_read : (k : Known) (space : Space) (number at left n : ℕ) (reading new : Result Reading RefusedLine) (line new_line page : List ℕ)
    (up : IsUpTo k space number at left reading line) → 0 < left → flat_page k space number ≡ Ok page → length page ≡ 4096
    → n ≡ min left (4096 - at) → IsRead (up.text ++ bytes_at at n page) new new_line → IsUpTo k space (number + 1) 1 (left - n) new new_line
page_read k space number at left n reading new line new_line page up some is long counted read =
    let next = next_of k space number at left reading line page up some is in
    let size : length (piece page) ≡ 4095 = length-drop 1 page ∙ ap (λ n. n - 1) long in
    let both : length up.rest ≡ length (piece page) + length next.behind = ap length next.split ∙ length-append (piece page) next.behind in
    let all = up.long in let enough = up.enough in let at_least = up.at_least in let at_most = up.at_most in let fits = up.fits in
    record {
      text = up.text ++ bytes_at at n page;
      is_read = read;
      count = up.count - 1;
      rest = next.behind;
      there = next.there;
      long = omega (arith, size, both, all);
      whole = next_whole k space number at left n reading line page up next long counted;
      enough = omega (arith, size, both, enough, counted, at_least, at_most);
      at_least = omega arith;
      at_most = omega arith;
      fits = omega (arith, fits, size, both, all);
    }

-- where the bytes of a page are refused, the text is no document's
pub page_refused : (k : Known) (space : Space) (number at left n : ℕ) (reading new : Result Reading RefusedLine) (line new_line page : List ℕ) (end : PageEnd)
    (up : IsUpTo k space number at left reading line) → 0 < left → flat_page k space number ≡ Ok page → length page ≡ 4096
    → n ≡ min left (4096 - at) → Reads {T = Unit {0}} space (up.text ++ bytes_at at n page) (Err end) new new_line → IsFlatDoc k space (Err end)
page_refused k space number at left n reading new line new_line page end up some is long counted (inl out) = inl out
page_refused k space number at left n reading new line new_line page end up some is long counted (inr (damaged, none)) =
    let next = next_of k space number at left reading line page up some is in
    let whole = next_whole k space number at left n reading line page up next long counted in
    inr (inr (
      (up.text ++ bytes_at at n page) ++ take (left - n) next.behind,
      (whole, none (take (left - n) next.behind), damaged),
    ))

-- once none is left
pub all_up_to : (k : Known) (space : Space) (number at left : ℕ) (reading : Result Reading RefusedLine) (line : List ℕ)
    (up : IsUpTo k space number at left reading line) → left ≡ 0 → (r : Result Doc PageEnd) → GivesDoc space up.text r → IsFlatDoc k space r
all_up_to k space number at left reading line up none r gives = by r gives
  where
    whole : flat_text k space ≡ Ok up.text
    whole = up.whole ∙ ap (λ n. Ok (up.text ++ take n (drop (at - 1) up.rest))) none ∙ ap Ok (append-nil up.text)

    by : (r : Result Doc PageEnd) → GivesDoc space up.text r → IsFlatDoc k space r
    by (Ok doc) gives = (up.text, (whole, gives))
    by (Err end) (inl out) = inl out
    by (Err end) (inr (damaged, bad)) = inr (inr (up.text, (whole, bad, damaged)))

-- the number of the next page fits
pub next_fits : (k : Known) (space : Space) (number at left : ℕ) (reading : Result Reading RefusedLine) (line : List ℕ)
    → IsUpTo k space number at left reading line → 0 < left → number + 1 ≤ 18446744073709551615
next_fits k space number at left reading line up some =
    let long = up.long in let enough = up.enough in let fits = up.fits in omega (arith, long, enough, fits, some)

-- some bytes of it are taken
pub goes_down : (k : Known) (space : Space) (number at left n : ℕ) (reading : Result Reading RefusedLine) (line : List ℕ)
    → IsUpTo k space number at left reading line → 0 < left → n ≡ min left (4096 - at) → left - n < left
goes_down k space number at left n reading line up some is = let at_most = up.at_most in omega (arith, some, is, at_most)
