-- A text that runs through pages.
use Rattle.std.proofs.Common.{◌≡◌, ℕ, zero, suc, ◌+◌, ◌-◌, ◌*◌, ◌/◌, ◌<◌, ◌≤◌, List, [], ◌∷◌, ◌++◌, length, take, drop, replicate, refl, sym, ap, ◌∙◌, subst, arith}
use Rattle.std.proofs.lemmas.List.{append_assoc, append-nil, length-append, length-take-le, length-drop, take-append-drop, take_all, take_at, drop_at, drop-drop}
use Rattle.std.proofs.lemmas.Nat.{div-mul-add}
use Rattle.byteorder.specs.Endian.{big_bytes}
use Rattle.page_bytes.specs.Fields.{with_bytes, with_field}
use Rattle.page_bytes.proofs.FieldLaws.{with_field-bytes, length-big_bytes}
use Rattle.flat_doc.specs.Pieces.{page_count, piece}
use Rattle.flat_doc.specs.Putting.{page_of, pages_of, flat_pages}
use Rattle.flat_doc.specs.Sink.{running, AreFull, IsOpen, IsWritten, HasRoom, with_length}

-- more than all of the first list is taken, or dropped
pub take-past : {A : Type 0} (n : ℕ) (xs ys : List A) → length xs ≤ n → take n (xs ++ ys) ≡ xs ++ take (n - length xs) ys
take-past n [] ys le = ap (λ m. take m ys) (omega arith)
take-past zero (x ∷ xs) ys le = absurd (omega (arith, le))
take-past (suc n) (x ∷ xs) ys le =
    let same : n - length xs ≡ suc n - suc (length xs) = omega arith in
    ap (λ l. x ∷ l) (take-past n xs ys (omega (arith, le)) ∙ ap (λ m. xs ++ take m ys) same)

drop-past : {A : Type 0} (n : ℕ) (xs ys : List A) → length xs ≤ n → drop n (xs ++ ys) ≡ drop (n - length xs) ys
drop-past n [] ys le = ap (λ m. drop m ys) (omega arith)
drop-past zero (x ∷ xs) ys le = absurd (omega (arith, le))
drop-past (suc n) (x ∷ xs) ys le =
    let same : n - length xs ≡ suc n - suc (length xs) = omega arith in
    drop-past n xs ys (omega (arith, le)) ∙ ap (λ m. drop m ys) same

drop-replicate : (n m : ℕ) → drop n (replicate {A = ℕ} m 0) ≡ replicate {A = ℕ} (m - n) 0
drop-replicate zero m =
    let same : m ≡ m - 0 = omega arith in
    ap (λ k. replicate {A = ℕ} k 0) same
drop-replicate (suc n) zero =
    let same : 0 ≡ 0 - suc n = omega arith in
    ap (λ k. replicate {A = ℕ} k 0) same
drop-replicate (suc n) (suc m) =
    let same : m - n ≡ suc m - suc n = omega arith in
    drop-replicate n m ∙ ap (λ k. replicate {A = ℕ} k 0) same

-- a page of bytes that fit
pub page_of-short : (bytes : List ℕ) → length bytes ≤ 4095 → page_of bytes ≡ 1 ∷ (bytes ++ replicate (4095 - length bytes) 0)
page_of-short bytes short = ap (λ l. 1 ∷ (l ++ replicate (4095 - length bytes) 0)) (take_all 4095 bytes short)

-- what it has up to its last byte
pub up_to : (bytes : List ℕ) (at : ℕ) → length bytes ≤ 4095 → at ≡ 1 + length bytes → take (at - 1) (piece (page_of bytes)) ≡ bytes
up_to bytes at short place =
    let count : length bytes ≡ at - 1 = omega (arith, place) in
    ap (λ page. take (at - 1) (piece page)) (page_of-short bytes short) ∙ take_at bytes (replicate (4095 - length bytes) 0) (at - 1) count

-- bytes that are written behind its own
pub page_of-more : (bytes more : List ℕ) (at : ℕ) → length bytes + length more ≤ 4095 → at ≡ 1 + length bytes
    → with_bytes (page_of bytes) at more ≡ page_of (bytes ++ more)
page_of-more bytes more at short place =
    let zeros : List ℕ = replicate (4095 - length bytes) 0 in
    let both : length (bytes ++ more) ≡ length bytes + length more = length-append bytes more in
    let left : 4095 - length bytes - length more ≡ 4095 - length (bytes ++ more) = omega (arith, both) in
    let behind : drop (1 + length bytes + length more) (1 ∷ (bytes ++ zeros)) ≡ replicate (4095 - length (bytes ++ more)) 0 =
    let past : drop (length bytes + length more) (bytes ++ zeros) ≡ replicate (4095 - length (bytes ++ more)) 0 =
    let gone : length bytes + length more - length bytes ≡ length more = omega arith in
    drop-past (length bytes + length more) bytes zeros (omega arith) ∙ ap (λ n. drop n zeros) gone
    ∙ drop-replicate (length more) (4095 - length bytes) ∙ ap (λ n. replicate n 0) left in
    let next : 1 + length bytes + length more ≡ suc (length bytes + length more) = omega arith in
    ap (λ n. drop n (1 ∷ (bytes ++ zeros))) next ∙ past in
    let front : take (1 + length bytes) (1 ∷ (bytes ++ zeros)) ≡ 1 ∷ bytes =
    let next : 1 + length bytes ≡ suc (length bytes) = omega arith in
    ap (λ n. take n (1 ∷ (bytes ++ zeros))) next ∙ ap (λ l. 1 ∷ l) (take_at bytes zeros (length bytes) refl) in
    ap (λ n. with_bytes (page_of bytes) n more) place
    ∙ ap (λ page. with_bytes page (1 + length bytes) more) (page_of-short bytes (omega (arith, short)))
    ∙ (λ j. front j ++ more ++ behind j)
    ∙ append_assoc (1 ∷ bytes) more (replicate (4095 - length (bytes ++ more)) 0)
    ∙ ap (λ l. 1 ∷ l) (sym (append_assoc bytes more (replicate (4095 - length (bytes ++ more)) 0)))
    ∙ sym (page_of-short (bytes ++ more) (omega (arith, both, short)))

-- what runs through pages and is written on
running-more : (full : List (List ℕ)) (last more : List ℕ) (at : ℕ) → length last + length more ≤ 4095 → at ≡ 1 + length last
    → running full (page_of (last ++ more)) (at + length more) ≡ running full (page_of last) at ++ more
running-more [] last more at short place =
    let both : length (last ++ more) ≡ length last + length more = length-append last more in
    up_to (last ++ more) (at + length more) (omega (arith, both, short)) (omega (arith, both, place))
    ∙ ap (λ l. l ++ more) (sym (up_to last at (omega (arith, short)) place))
running-more (page ∷ full) last more at short place =
    ap (λ l. piece page ++ l) (running-more full last more at short place) ∙ sym (append_assoc (piece page) (running full (page_of last) at) more)

-- after bytes were written where there is room
pub written : (full : List (List ℕ)) (page : List ℕ) (at : ℕ) (more : List ℕ) → IsOpen full page at → 0 < length more → at + length more ≤ 4096
    → IsWritten full (with_bytes page at more) (at + length more) × (running full (with_bytes page at more) (at + length more) ≡ running full page at ++ more)
written full page at more is some within =
    let last = is.last in let place = is.place in let has = is.has_length in
    let short : length last + length more ≤ 4095 = omega (arith, place, within) in
    let new : with_bytes page at more ≡ page_of (last ++ more) =
    ap (λ p. with_bytes p at more) is.is_last ∙ page_of-more last more at short place in
    let runs : running full (with_bytes page at more) (at + length more) ≡ running full page at ++ more =
    ap (λ p. running full p (at + length more)) new ∙ running-more full last more at short place
    ∙ ap (λ p. running full p at ++ more) (sym is.is_last) in
    let both : length (last ++ more) ≡ length last + length more = length-append last more in
    let long : length (running full (with_bytes page at more) (at + length more)) ≡ length (running full page at) + length more =
    ap length runs ∙ length-append (running full page at) more in (
      record {
        is_open = record {
          are_full = is.are_full;
          last = last ++ more;
          is_last = new;
          place = omega (arith, both, place);
          short = omega (arith, both, short);
          has_length = omega (arith, long, has);
        };
        some = omega (arith, place, some);
      },
      runs,
    )

-- a page that is full
full-piece : (page last : List ℕ) → page ≡ page_of last → length last ≡ 4095 → piece page ≡ last
full-piece page last is long =
    let none : 4095 - length last ≡ 0 = omega (arith, long) in
    ap piece (is ∙ page_of-short last (omega (arith, long))) ∙ ap (λ n. last ++ replicate n 0) none ∙ append-nil last

AreFull-more : (full : List (List ℕ)) (page : List ℕ) → AreFull full → page ≡ page_of (piece page) → length (piece page) ≡ 4095 → AreFull (full ++ page ∷ [])
AreFull-more [] page are is long = ((is, long), tt)
AreFull-more (first ∷ full) page are is long = (are.0, AreFull-more full page are.1 is long)

running-turned : (full : List (List ℕ)) (page last : List ℕ) → page ≡ page_of last → length last ≡ 4095
    → running (full ++ page ∷ []) (page_of []) 1 ≡ running full page 4096
running-turned [] page last is long =
    let whole = full-piece page last is long in
    append-nil (piece page) ∙ sym (take_all 4095 (piece page) (subst (λ l. length l ≤ 4095) (sym whole) (omega (arith, long))))
running-turned (first ∷ full) page last is long = ap (λ l. piece first ++ l) (running-turned full page last is long)

-- after a page that is full a new one is begun
pub turned : (full : List (List ℕ)) (page : List ℕ) (at : ℕ) → IsWritten full page at → 4096 ≤ at
    → HasRoom full page at (full ++ page ∷ []) (page_of []) 1
turned full page at is past =
    let is_open = is.is_open in let place = is_open.place in let short = is_open.short in let has = is_open.has_length in
    let long : length is_open.last ≡ 4095 = omega (arith, place, short, past) in
    let end : 4096 ≡ at = omega (arith, place, short, past) in
    let whole = full-piece page is_open.last is_open.is_last long in
    let kept : running (full ++ page ∷ []) (page_of []) 1 ≡ running full page at =
    running-turned full page is_open.last is_open.is_last long ∙ ap (running full page) end in
    record {
      is_open = record {
        are_full = AreFull-more full page is_open.are_full (is_open.is_last ∙ ap page_of (sym whole)) (ap length whole ∙ long);
        last = [];
        is_last = refl;
        place = refl;
        short = omega arith;
        has_length = subst (λ l. 8 ≤ length l) (sym kept) has;
      };
      room = omega arith;
      kept = kept;
    }

-- where the page isn't full it has room
pub has_room : (full : List (List ℕ)) (page : List ℕ) (at : ℕ) → IsWritten full page at → at < 4096 → HasRoom full page at full page at
has_room full page at is room = record { is_open = is.is_open; room = room; kept = refl }

-- the pages of the empty text
pub none_written : IsWritten [] (page_of []) 9
none_written = record {
  is_open = record { are_full = tt; last = replicate 8 0; is_last = refl; place = refl; short = omega arith; has_length = omega arith };
  some = omega arith;
}

-- a page of more bytes than it has room for
page_of-past : (bytes rest : List ℕ) → length bytes ≡ 4095 → page_of (bytes ++ rest) ≡ page_of bytes
page_of-past bytes rest long =
    let both : length (bytes ++ rest) ≡ length bytes + length rest = length-append bytes rest in
    let none : 4095 - length (bytes ++ rest) ≡ 4095 - length bytes = omega (arith, both, long) in
    let front : take 4095 (bytes ++ rest) ≡ take 4095 bytes = take_at bytes rest 4095 long ∙ sym (take_all 4095 bytes (omega (arith, long))) in
    λ j. 1 ∷ (front j ++ replicate (none j) 0)

-- pages are those of what runs through them
paged : (full : List (List ℕ)) (page last : List ℕ) (at : ℕ) → AreFull full → page ≡ page_of last → length last ≤ 4095 → at ≡ 1 + length last
    → pages_of (suc (length full)) (running full page at) ≡ full ++ page ∷ []
paged [] page last at are is short place =
    let runs : take (at - 1) (piece page) ≡ last = ap (λ p. take (at - 1) (piece p)) is ∙ up_to last at short place in
    ap (λ l. page_of l ∷ []) runs ∙ ap (λ p. p ∷ []) (sym is)
paged (first ∷ full) page last at are is short place =
    (λ j. (page_of-past (piece first) (running full page at) are.0.1 ∙ sym are.0.0) j
    ∷ pages_of (suc (length full)) (drop_at (piece first) (running full page at) 4095 are.0.1 j))
    ∙ ap (λ l. first ∷ l) (paged full page last at are.1 is short place)

-- how many bytes run through pages
length-running : (full : List (List ℕ)) (page last : List ℕ) (at : ℕ) → AreFull full → page ≡ page_of last → length last ≤ 4095 → at ≡ 1 + length last
    → length (running full page at) + 1 ≡ length full * 4095 + at
length-running [] page last at are is short place =
    let runs : length (take (at - 1) (piece page)) ≡ length last = ap length (ap (λ p. take (at - 1) (piece p)) is ∙ up_to last at short place) in
    omega (arith, runs, place)
length-running (first ∷ full) page last at are is short place =
    let both : length (piece first ++ running full page at) ≡ length (piece first) + length (running full page at) =
    length-append (piece first) (running full page at) in
    let rest = length-running full page last at are.1 is short place in
    let long = are.0.1 in
    omega (arith, both, rest, long)

-- there is room for the length
pub long_enough : (full : List (List ℕ)) (page : List ℕ) (at : ℕ) → IsWritten full page at → 9 ≤ length full * 4095 + at
long_enough full page at is =
    let o = is.is_open in let has = o.has_length in
    let long = length-running full page o.last at o.are_full o.is_last o.short o.place in
    omega (arith, long, has)

-- a page whose first eight bytes are these
page_of-split : (bytes rest : List ℕ) → length bytes ≡ 8 → page_of (bytes ++ rest) ≡ 1 ∷ (bytes ++ (take 4087 rest ++ replicate (4087 - length rest) 0))
page_of-split bytes rest long =
    let both : length (bytes ++ rest) ≡ length bytes + length rest = length-append bytes rest in
    let zeros : 4095 - length (bytes ++ rest) ≡ 4087 - length rest = omega (arith, both, long) in
    let left : 4095 - length bytes ≡ 4087 = omega (arith, long) in
    let front : take 4095 (bytes ++ rest) ≡ bytes ++ take 4087 rest =
    take-past 4095 bytes rest (omega (arith, long)) ∙ ap (λ n. bytes ++ take n rest) left in
    (λ j. 1 ∷ (front j ++ replicate (zeros j) 0))
    ∙ ap (λ l. 1 ∷ l) (append_assoc bytes (take 4087 rest) (replicate (4087 - length rest) 0))

-- the length is written over the first eight bytes
pub first-with_length : (bytes : List ℕ) (n : ℕ) → 8 ≤ length bytes → with_field 8 (page_of bytes) 1 n ≡ page_of (big_bytes 8 n ++ drop 8 bytes)
first-with_length bytes n long =
    let rest = drop 8 bytes in let number = big_bytes 8 n in
    let behind = take 4087 rest ++ replicate (4087 - length rest) 0 in
    let eight : length (take 8 bytes) ≡ 8 = length-take-le 8 bytes long in
    let page : page_of bytes ≡ 1 ∷ (take 8 bytes ++ behind) = ap page_of (sym (take-append-drop 8 bytes)) ∙ page_of-split (take 8 bytes) rest eight in
    let past : drop (1 + length number) (1 ∷ (take 8 bytes ++ behind)) ≡ behind =
    ap (λ m. drop (1 + m) (1 ∷ (take 8 bytes ++ behind))) (length-big_bytes 8 n) ∙ drop_at (take 8 bytes) behind 8 eight in
    ap (λ p. with_field 8 p 1 n) page ∙ with_field-bytes 8 1 n (1 ∷ (take 8 bytes ++ behind)) ∙ ap (λ l. (1 ∷ number) ++ l) past
    ∙ sym (page_of-split number rest (length-big_bytes 8 n))

pages_of-with_length : (more : ℕ) (bytes : List ℕ) (n : ℕ) → 8 ≤ length bytes
    → with_length (pages_of (suc more) bytes) n ≡ pages_of (suc more) (big_bytes 8 n ++ drop 8 bytes)
pages_of-with_length more bytes n long =
    let number = big_bytes 8 n in let eight : length number ≡ 8 = length-big_bytes 8 n in
    let left : 4095 - length number ≡ 4087 = omega (arith, eight) in
    let behind : drop 4095 (number ++ drop 8 bytes) ≡ drop 4095 bytes =
    drop-past 4095 number (drop 8 bytes) (omega (arith, eight)) ∙ ap (λ m. drop m (drop 8 bytes)) left ∙ drop-drop 4087 8 bytes in
    λ j. first-with_length bytes n long j ∷ pages_of more (sym behind j)

-- the pages of a text, once its length is written
pub finished : (full : List (List ℕ)) (page : List ℕ) (at n : ℕ) → IsWritten full page at → n + 9 ≡ length full * 4095 + at
    → with_length (full ++ page ∷ []) n ≡ flat_pages (drop 8 (running full page at)) × (length (drop 8 (running full page at)) ≡ n)
finished full page at n is counted =
    let o = is.is_open in let has = o.has_length in let some = is.some in let place = o.place in let short = o.short in
    let r = running full page at in
    let long = length-running full page o.last at o.are_full o.is_last o.short o.place in
    let rest : length (drop 8 r) ≡ length r - 8 = length-drop 8 r in
    let size : length (drop 8 r) ≡ n = omega (arith, rest, long, has, counted) in
    let sum : 8 + length (drop 8 r) + 4094 ≡ suc (length full) * 4095 + (at - 2) = omega (arith, size, counted, some) in
    let below : at - 2 < 4095 = omega (arith, place, short) in
    let count : page_count (length (drop 8 r)) ≡ suc (length full) = ap (λ m. m / 4095) sum ∙ div-mul-add (suc (length full)) 4095 (at - 2) below in (
      ap (λ l. with_length l n) (sym (paged full page o.last at o.are_full o.is_last o.short o.place))
          ∙ pages_of-with_length (length full) r n has
          ∙ (λ j. pages_of (sym count j) (big_bytes 8 (sym size j) ++ drop 8 r)),
      size,
    )
