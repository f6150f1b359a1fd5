-- The pages of a text that was put have that text.
use Rattle.std.proofs.Common.{◌≡◌, ◌⊎◌, inl, inr, ℕ, zero, suc, ◌+◌, ◌-◌, ◌*◌, ◌/◌, ◌%◌, ◌^◌, ◌<◌, ◌≤◌, min, Bool, true, false, not, ◌&&◌, ◌||◌, List, [], ◌∷◌, ◌++◌, length, take, drop, replicate, Option, Some, Result, Ok, Err, OnOk, IsUtf8, unwrap_or, refl, sym, ap, ◌∙◌, subst, arith, if◌then◌else◌}
use Rattle.std.proofs.lemmas.Bool.{cases_lt}
use Rattle.std.proofs.lemmas.List.{append_assoc, append-nil, length-append, length-take, length-drop, length-replicate, take-append-drop, take_all, take_at, drop_at, replicate-append-replicate}
use Rattle.std.proofs.lemmas.Nat.{div-add-mod', mod_below}
use Rattle.std.specs.FinMap as map
use Rattle.std.specs.Ordering.{eq_by_cmp, is_eq}
use Rattle.std.specs.declared.cmp.Ordering.{Ordering}
use Rattle.std.specs.declared.cmp.Ordering.TheVariants.{Less, Equal, Greater}
use Rattle.byteorder.specs.Endian.{big_bytes}
use Rattle.page_bytes.specs.declared.ids.Space.{Space}
use Rattle.page_bytes.specs.declared.ids.PageId.{PageId}
use Rattle.page_bytes.specs.Fields.{with_field}
use Rattle.page_bytes.specs.Known.{PageMap, Known}
use Rattle.page_bytes.specs.Links.{page_in}
use Rattle.page_bytes.specs.Order.{page_cmp}
use Rattle.page_bytes.specs.Seen.{PagesByNumber, seen, bytes}
use Rattle.page_bytes.specs.Work.{Work, with_page, with_space}
use Rattle.page_bytes.proofs.FieldLaws.{field-written, length-big_bytes}
use Rattle.page_bytes.proofs.Orders.{page_cmp-exact}
use Rattle.page_bytes.proofs.Works.{get-inserted, get-beside}
use Rattle.flat_doc.specs.Pieces.{page_count, piece, stated_length}
use Rattle.flat_doc.specs.Putting.{page_of, pages_of, flat_pages, with_pages_from, with_text}
use Rattle.flat_doc.specs.Meaning.{IsFlat, joined_pieces, HasText, StandsForFlat}
use Rattle.xml_model.specs.declared.node.Doc.{Doc}
use Rattle.xml_model.specs.Document.{IsValid}
use Rattle.xml_model.specs.Pyx.{read, pyx, text_of}
use Rattle.xml_model.proofs.ReadAgain.{read_again}
use Rattle.xml_model.proofs.TextAgain.{text_again}
use Rattle.flat_doc.proofs.Running.{first-with_length}
use Rattle.flat_doc.proofs.Spaces.{opened}

-- another number is another page
number_apart : (space : Space) (q n : ℕ) → (q ≡ n → ⊥) → eq_by_cmp page_cmp (page_in space q) (page_in space n) ≡ false
number_apart space q n apart = at (page_cmp (page_in space q) (page_in space n)) refl
  where
    at : (o : Ordering) → page_cmp (page_in space q) (page_in space n) ≡ o → is_eq o ≡ false
    at Less e = refl
    at Equal e = absurd (apart (ap (λ (p : PageId). p.number) (page_cmp-exact (page_in space q) (page_in space n) e)))
    at Greater e = refl

-- these pages are there, from a number on
abbrev AreAt : PageMap → Space → ℕ → List (List ℕ) → Type 0
AreAt m space n [] = Unit {0}
AreAt m space n (page ∷ pages) = (map.get m (page_in space n) ≡ Some page) × AreAt m space (n + 1) pages

-- pages before a number stay, where pages are put from there on
before_kept : (w : Work) (space : Space) (n q : ℕ) (pages : List (List ℕ)) → q < n
    → map.get ((with_pages_from w space n pages).now.pages) (page_in space q) ≡ map.get w.now.pages (page_in space q)
before_kept w space n q [] less = refl
before_kept w space n q (page ∷ pages) less =
    before_kept (with_page w (page_in space n) page) space (n + 1) q pages (omega (arith, less))
    ∙ get-beside w.now.pages (page_in space n) (page_in space q) page (number_apart space q n (λ e. omega (arith, e, less)))

put_from : (w : Work) (space : Space) (n : ℕ) (pages : List (List ℕ)) → AreAt ((with_pages_from w space n pages).now.pages) space n pages
put_from w space n [] = tt
put_from w space n (page ∷ pages) =
    let next = with_page w (page_in space n) page in (
      before_kept next space (n + 1) n pages (omega arith) ∙ get-inserted w.now.pages (page_in space n) page,
      put_from next space (n + 1) pages,
    )

-- what is whole stays so
whole_kept : (w : Work) (space : Space) (n : ℕ) (pages : List (List ℕ)) → (with_pages_from w space n pages).now.whole ≡ w.now.whole
whole_kept w space n [] = refl
whole_kept w space n (page ∷ pages) = whole_kept (with_page w (page_in space n) page) space (n + 1) pages

-- pages by their numbers
abbrev AreOn : PagesByNumber → ℕ → List (List ℕ) → Type 0
AreOn f n [] = Unit {0}
AreOn f n (page ∷ pages) = (f n ≡ Some page) × AreOn f (n + 1) pages

-- of a whole space what is there is seen
seen_whole : (k : Known) (all : PageId → Option (List ℕ)) (space : Space) (n : ℕ) (o : Option (List ℕ)) → map.contains_key k.whole space ≡ true
    → map.get k.pages (page_in space n) ≡ o → seen k all space n ≡ o
seen_whole k all space n o whole is = by (map.contains_key k.pages (page_in space n)) refl
  where
    unknown : (b : Bool) → (not b && not (true || map.contains_key k.freed (page_in space n))) ≡ false
    unknown true = refl
    unknown false = refl

    by : (b : Bool) → map.contains_key k.pages (page_in space n) ≡ b → seen k all space n ≡ o
    by b there =
        ap (λ u. if u then all (page_in space n) else map.get k.pages (page_in space n))
        (ap (λ w. not (map.contains_key k.pages (page_in space n)) && not (w || map.contains_key k.freed (page_in space n))) whole
        ∙ unknown (map.contains_key k.pages (page_in space n))) ∙ is

on_seen : (k : Known) (all : PageId → Option (List ℕ)) (space : Space) (n : ℕ) (pages : List (List ℕ)) → map.contains_key k.whole space ≡ true
    → AreAt k.pages space n pages → AreOn (seen k all space) n pages
on_seen k all space n [] whole at = tt
on_seen k all space n (page ∷ pages) whole at = (seen_whole k all space n (Some page) whole at.0, on_seen k all space (n + 1) pages whole at.1)

-- a page has 4,096 bytes
page_of-long : (b : List ℕ) → length (page_of b) ≡ 4096
page_of-long b =
    let both : length (take 4095 b ++ replicate (4095 - length b) 0) ≡ length (take 4095 b) + length (replicate {A = ℕ} (4095 - length b) 0) =
    length-append (take 4095 b) (replicate (4095 - length b) 0) in
    let front : length (take 4095 b) ≡ min 4095 (length b) = length-take 4095 b in
    let zeros : length (replicate {A = ℕ} (4095 - length b) 0) ≡ 4095 - length b = length-replicate (4095 - length b) 0 in
    omega (arith, both, front, zeros)

-- each of the pages is flat
all_flat : (f : PagesByNumber) (n count i : ℕ) (b : List ℕ) → AreOn f n (pages_of count b) → i < count → IsFlat (f (n + i))
all_flat f n zero i b on less = absurd (omega (arith, less))
all_flat f n (suc count) zero b on less =
    let here : n + 0 ≡ n = omega arith in
    subst IsFlat (sym (ap f here ∙ on.0)) (refl, page_of-long b)
all_flat f n (suc count) (suc i) b on less =
    let next : n + 1 + i ≡ n + suc i = omega arith in
    subst (λ m. IsFlat (f m)) next (all_flat f (n + 1) count i (drop 4095 b) on.1 (omega (arith, less)))

-- what runs through them
piece-page_of : (b : List ℕ) → piece (page_of b) ≡ take 4095 b ++ replicate (4095 - length b) 0
piece-page_of b = refl

-- a list without length is empty
empty : (l : List ℕ) → length l ≡ 0 → l ≡ []
empty [] is = refl
empty (x ∷ l) is = absurd (omega (arith, is))

-- pieces joined are the bytes, and zeros behind them
joined_on : (f : PagesByNumber) (n count : ℕ) (b : List ℕ) → length b ≤ count * 4095 → AreOn f n (pages_of count b)
    → joined_pieces f n count ≡ b ++ replicate (count * 4095 - length b) 0
unfolding bytes
joined_on f n zero [] fits on = refl
joined_on f n zero (x ∷ b) fits on = absurd (omega (arith, fits))
joined_on f n (suc count) b fits on =
    let rest : length (drop 4095 b) ≡ length b - 4095 = length-drop 4095 b in
    let more = joined_on f (n + 1) count (drop 4095 b) (omega (arith, rest, fits)) on.1 in
    (λ j. piece (unwrap_or (on.0 j) []) ++ more j) ∙ by (cases_lt (length b) 4095)
  where
    by : (length b < 4095) ⊎ (4095 ≤ length b)
        → (take 4095 b ++ replicate (4095 - length b) 0) ++ (drop 4095 b ++ replicate (count * 4095 - length (drop 4095 b)) 0)
        ≡ b ++ replicate (suc count * 4095 - length b) 0
    by (inl short) =
        let whole : take 4095 b ≡ b = take_all 4095 b (omega (arith, short)) in
        let rest : length (drop 4095 b) ≡ length b - 4095 = length-drop 4095 b in
        let none : drop 4095 b ≡ [] = empty (drop 4095 b) (omega (arith, rest, short)) in
        let zeros : 4095 - length b + (count * 4095 - length (drop 4095 b)) ≡ suc count * 4095 - length b = omega (arith, rest, short) in
        (λ j. (whole j ++ replicate (4095 - length b) 0) ++ (none j ++ replicate (count * 4095 - length (drop 4095 b)) 0))
        ∙ append_assoc b (replicate (4095 - length b) 0) (replicate (count * 4095 - length (drop 4095 b)) 0)
        ∙ ap (λ l. b ++ l) (replicate-append-replicate (4095 - length b) (count * 4095 - length (drop 4095 b)) 0 ∙ ap (λ m. replicate m 0) zeros)
    by (inr long) =
        let none : 4095 - length b ≡ 0 = omega (arith, long) in
        let rest : length (drop 4095 b) ≡ length b - 4095 = length-drop 4095 b in
        let zeros : count * 4095 - length (drop 4095 b) ≡ suc count * 4095 - length b = omega (arith, rest, long) in
        (λ j. (take 4095 b ++ replicate (none j) 0) ++ (drop 4095 b ++ replicate (zeros j) 0))
        ∙ ap (λ l. l ++ (drop 4095 b ++ replicate (suc count * 4095 - length b) 0)) (append-nil (take 4095 b))
        ∙ sym (append_assoc (take 4095 b) (drop 4095 b) (replicate (suc count * 4095 - length b) 0))
        ∙ ap (λ l. l ++ replicate (suc count * 4095 - length b) 0) (take-append-drop 4095 b)

-- page 0 is the first of them
first_on : (f : PagesByNumber) (count : ℕ) (b : List ℕ) → 0 < count → AreOn f 0 (pages_of count b) → f 0 ≡ Some (page_of b)
first_on f zero b some on = absurd (omega (arith, some))
first_on f (suc count) b some on = on.0

bytes-there : (f : PagesByNumber) (n : ℕ) (page : List ℕ) → f n ≡ Some page → bytes f n ≡ page
unfolding bytes
bytes-there f n page is = ap (λ o. unwrap_or o []) is

-- the length that was written is stated
stated_back : (text : List ℕ) → length text < 2 ^ 64 → stated_length (page_of (big_bytes 8 (length text) ++ text)) ≡ length text
stated_back text small =
    let n = length text in
    let zeros : List ℕ = replicate 8 0 in
    let long : length (zeros ++ text) ≡ 8 + n = length-append zeros text in
    let behind : drop 8 (zeros ++ text) ≡ text = drop_at zeros text 8 refl in
    let page : with_field 8 (page_of (zeros ++ text)) 1 n ≡ page_of (big_bytes 8 n ++ text) =
    first-with_length (zeros ++ text) n (omega (arith, long)) ∙ ap (λ l. page_of (big_bytes 8 n ++ l)) behind in
    let size = page_of-long (zeros ++ text) in
    ap stated_length (sym page) ∙ field-written 8 1 n (page_of (zeros ++ text)) (omega (arith, small)) (omega (arith, size))

-- a text that was put stands in the pages
pub put_has_text : (w : Work) (space : Space) (text : List ℕ) (all : PageId → Option (List ℕ)) → length text < 2 ^ 64
    → HasText (seen ((with_text w space text).now) all space) text
put_has_text w space text all small =
    let k = (with_text w space text).now in let f = seen k all space in let n = length text in let count = page_count n in
    let number = big_bytes 8 n in let b = number ++ text in
    let whole : map.contains_key k.whole space ≡ true =
    ap (λ s. map.contains_key s space) (whole_kept (with_space w space) space 0 (flat_pages text)) ∙ opened w.now.whole space in
    let on : AreOn f 0 (pages_of count b) = on_seen k all space 0 (flat_pages text) whole (put_from (with_space w space) space 0 (flat_pages text)) in
    let eight : length number ≡ 8 = length-big_bytes 8 n in
    let both : length b ≡ length number + n = length-append number text in
    let x = 8 + n + 4094 in
    let parts : x / 4095 * 4095 + x % 4095 ≡ x = div-add-mod' x 4095 in
    let below : x % 4095 < 4095 = mod_below x 4095 (omega arith) in
    let zeros : List ℕ = replicate (count * 4095 - length b) 0 in
    let runs : joined_pieces f 0 count ≡ b ++ zeros = joined_on f 0 count b (omega (arith, eight, both, parts, below)) on in
    let first : f 0 ≡ Some (page_of b) = first_on f count b (omega (arith, parts, below)) on in
    record {
      flat = λ m less.
          let same : 0 + m ≡ m = omega arith in
          subst (λ q. IsFlat (f q)) same (all_flat f 0 count m b on less);
      stated = ap stated_length (bytes-there f 0 (page_of b) first) ∙ stated_back text small;
      runs = sym (ap (λ l. take n (drop 8 l)) (runs ∙ append_assoc number text zeros) ∙ ap (take n) (drop_at number (text ++ zeros) 8 eight)
          ∙ take_at text zeros n refl);
    }

-- so where it was put
pub text_put : {T E : Type 0} (r : Result T E) (old new : Work) (space : Space) (text : List ℕ) (pages : List (List ℕ)) → pages ≡ flat_pages text
    → length text < 2 ^ 64 → OnOk r (new ≡ with_pages_from (with_space old space) space 0 pages)
    → OnOk r ((all : PageId → Option (List ℕ)) → HasText (seen new.now all space) text)
text_put (Ok x) old new space text pages are small is =
    λ all. subst (λ (w : Work). HasText (seen w.now all space) text) (sym (is ∙ ap (with_pages_from (with_space old space) space 0) are))
    (put_has_text old space text all small)
text_put (Err e) old new space text pages are small is = tt

-- pages that have a valid document's canonical text, which is UTF-8, stand for it
pub stands : (pages : PagesByNumber) (doc : Doc) → IsValid doc → IsUtf8 (text_of (pyx doc)) → HasText pages (text_of (pyx doc)) → StandsForFlat pages doc
stands pages doc valid utf8 has = record {
  text = text_of (pyx doc);
  has = has;
  spells = record { utf8 = utf8; reads = ap read (text_again doc valid) ∙ read_again doc valid };
}

-- so where it was put
pub document_put : {T E : Type 0} (r : Result T E) (new : Work) (space : Space) (doc : Doc) → IsValid doc → IsUtf8 (text_of (pyx doc))
    → OnOk r ((all : PageId → Option (List ℕ)) → HasText (seen new.now all space) (text_of (pyx doc)))
    → OnOk r ((all : PageId → Option (List ℕ)) → StandsForFlat (seen new.now all space) doc)
document_put (Ok x) new space doc valid utf8 has = λ all. stands (seen new.now all space) doc valid utf8 (has all)
document_put (Err e) new space doc valid utf8 has = tt
