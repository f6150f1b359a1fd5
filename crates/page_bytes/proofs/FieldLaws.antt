-- What reads of a page give after a write.
use Rattle.std.proofs.Common.{◌≡◌, ℕ, ◌+◌, ◌-◌, ◌^◌, ◌<◌, ◌≤◌, List, ◌++◌, length, take, drop, refl, sym, ap, ◌∙◌, append_assoc, arith, length-append, length-drop, slice_index}
use Rattle.std.proofs.Math.Seq.{take-append_seam, drop-append_seam}
use Rattle.std.proofs.lemmas.List.{take-append-le, drop-append-le, take-take, drop-take, length-take-le, get_or-take, get_or-drop}
use Rattle.std.proofs.lemmas.Slice.{drop-append-drop}
use Rattle.byteorder.specs.Endian.{big_number, big_bytes}
use Rattle.byteorder.specs.Numbers.{length-bytes_high_first, big_from-take, big_number-reads_back}
use Rattle.page_bytes.specs.Fields.{bytes_at, with_bytes, field, with_field}

front : (page : List ℕ) (to : ℕ) (bytes : List ℕ) → to ≤ length page → length (take to page ++ bytes) ≡ to + length bytes
front page to bytes within = length-append (take to page) bytes ∙ ap (λ n. n + length bytes) (length-take-le to page within)

-- a write keeps the length
pub length-with_bytes : (page : List ℕ) (to : ℕ) (bytes : List ℕ) → to + length bytes ≤ length page → length (with_bytes page to bytes) ≡ length page
length-with_bytes page to bytes within =
    let first : to ≤ length page = omega (arith, within) in
    let parts = length-append (take to page ++ bytes) (drop (to + length bytes) page) in
    let head = front page to bytes first in let rest = length-drop (to + length bytes) page in omega (arith, parts, head, rest, within)

rest_at : (page : List ℕ) (to : ℕ) (bytes : List ℕ) → to ≤ length page → drop to (with_bytes page to bytes) ≡ bytes ++ drop (to + length bytes) page
rest_at page to bytes within =
    ap (drop to) (append_assoc (take to page) bytes (drop (to + length bytes) page))
    ∙ ap (λ n. drop n (take to page ++ (bytes ++ drop (to + length bytes) page))) (sym (length-take-le to page within))
    ∙ drop-append_seam (take to page) (bytes ++ drop (to + length bytes) page)

-- what was written is read back
pub bytes_at-written : (page : List ℕ) (to : ℕ) (bytes : List ℕ) → to ≤ length page → bytes_at to (length bytes) (with_bytes page to bytes) ≡ bytes
bytes_at-written page to bytes within =
    ap (take (length bytes)) (rest_at page to bytes within) ∙ take-append_seam bytes (drop (to + length bytes) page)

before : (page : List ℕ) (at m n : ℕ) (bytes : List ℕ) → n ≤ m → at + m ≤ length page → bytes_at at n (with_bytes page (at + m) bytes) ≡ bytes_at at n page
before page at m n bytes fits within =
    let to = at + m in let rest = bytes ++ drop (to + length bytes) page in
    let long : length (take to page) ≡ to = length-take-le to page within in
    let some : at ≤ length (take to page) = omega (arith, long) in
    let left : n ≤ length (drop at (take to page)) = omega (arith, long, fits, length-drop at (take to page)) in
    ap (λ l. take n (drop at l)) (append_assoc (take to page) bytes (drop (to + length bytes) page))
    ∙ ap (take n) (drop-append-le at (take to page) rest some)
    ∙ take-append-le n (drop at (take to page)) rest left
    ∙ ap (take n) (drop-take at m page)
    ∙ take-take n m (drop at page) fits

-- what stands before a write stays
pub bytes_at-before : (page : List ℕ) (at n to : ℕ) (bytes : List ℕ) → at + n ≤ to → to ≤ length page
    → bytes_at at n (with_bytes page to bytes) ≡ bytes_at at n page
bytes_at-before page at n to bytes apart within =
    let e : at + (to - at) ≡ to = omega (arith, apart) in
    ap (λ t. bytes_at at n (with_bytes page t bytes)) (sym e) ∙ before page at (to - at) n bytes (omega (arith, apart)) (omega (arith, e, within, apart))

-- and what stands behind it
pub bytes_at-behind : (page : List ℕ) (at n to : ℕ) (bytes : List ℕ) → to + length bytes ≤ at → to ≤ length page
    → bytes_at at n (with_bytes page to bytes) ≡ bytes_at at n page
bytes_at-behind page at n to bytes apart within =
    ap (take n) (drop-append-drop (to + length bytes) page (take to page ++ bytes) at apart (front page to bytes within))

-- a field that was written is read back
pub field-written : (n at x : ℕ) (page : List ℕ) → x < 256 ^ n → at ≤ length page → field n at (with_field n page at x) ≡ x
unfolding field with_field
field-written n at x page fits within =
    big_from-take 0 n n (drop at (with_bytes page at (big_bytes n x))) (omega arith)
    ∙ ap (big_number n) (rest_at page at (big_bytes n x) within) ∙ big_number-reads_back n x (drop (at + length (big_bytes n x)) page) fits

-- a field is what its bytes are
pub field-bytes_at : (n at : ℕ) (page new : List ℕ) → bytes_at at n new ≡ bytes_at at n page → field n at new ≡ field n at page
unfolding field
field-bytes_at n at page new same = ap (big_number n) same

-- to write a field is to write its bytes, of which there are n
pub with_field-bytes : (n at x : ℕ) (page : List ℕ) → with_field n page at x ≡ with_bytes page at (big_bytes n x)
unfolding with_field
with_field-bytes n at x page = refl

-- a number written in n bytes has n bytes
pub length-big_bytes : (n x : ℕ) → length (big_bytes n x) ≡ n
length-big_bytes n x = length-bytes_high_first n x

-- a byte is the one byte at its place
pub slice_index-bytes_at : (page : List ℕ) (at : ℕ) → slice_index (bytes_at at 1 page) 0 ≡ slice_index page at
slice_index-bytes_at page at = get_or-take 1 (drop at page) 0 0 (omega arith) ∙ get_or-drop at page 0 0 ∙ ap (slice_index page) (omega arith)
