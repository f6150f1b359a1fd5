-- What a written field leaves of a page: its length, its kind and the fields beside it.
use Rattle.std.proofs.Common.{◌≡◌, ℕ, ◌+◌, ◌≤◌, ◌⊎◌, ⊎_elim, inl, List, length, slice_index, sym, ap, ◌∙◌, arith}
use Rattle.page_bytes.specs.Fields.{bytes_at, with_bytes, field, with_field}
use Rattle.page_bytes.proofs.FieldLaws.{length-with_bytes, bytes_at-before, bytes_at-behind, field-bytes_at, with_field-bytes, length-big_bytes, slice_index-bytes_at}

-- a field that is written inside a page leaves the page's length
pub length-with_field : (m : ℕ) (page : List ℕ) (to x : ℕ) → to + m ≤ length page → length (with_field m page to x) ≡ length page
length-with_field m page to x within =
    let count = length-big_bytes m x in
    ap length (with_field-bytes m to x page) ∙ length-with_bytes page to _ (omega (arith, count, within))

-- bytes that end before a field, or begin after it, are as they were once the field is written
pub bytes_apart : (n at m : ℕ) (page : List ℕ) (to x : ℕ) → (at + n ≤ to) ⊎ (to + m ≤ at) → to + m ≤ length page
    → bytes_at at n (with_field m page to x) ≡ bytes_at at n page
bytes_apart n at m page to x apart within =
    let count = length-big_bytes m x in
    ap (bytes_at at n) (with_field-bytes m to x page)
    ∙ ⊎_elim
    (λ before. bytes_at-before page at n to _ before (omega (arith, within)))
    (λ behind. bytes_at-behind page at n to _ (omega (arith, count, behind)) (omega (arith, within)))
    apart

-- a field that ends before another, or begins after it, is as it was once the other is written
pub field_apart : (n at m : ℕ) (page : List ℕ) (to x : ℕ) → (at + n ≤ to) ⊎ (to + m ≤ at) → to + m ≤ length page
    → field n at (with_field m page to x) ≡ field n at page
field_apart n at m page to x apart within = field-bytes_at n at page (with_field m page to x) (bytes_apart n at m page to x apart within)

-- a field that is written past the page's first byte leaves the page's kind
pub kind_kept : (m : ℕ) (page : List ℕ) (to x : ℕ) → 1 ≤ to → to + m ≤ length page → slice_index (with_field m page to x) 0 ≡ slice_index page 0
kind_kept m page to x past within =
    sym (slice_index-bytes_at (with_field m page to x) 0)
    ∙ ap (λ l. slice_index l 0) (bytes_apart 1 0 m page to x (first past) within)
    ∙ slice_index-bytes_at page 0
  where
    first : 1 ≤ to → (0 + 1 ≤ to) ⊎ (to + m ≤ 0)
    first h = inl h

-- a page of 4,096 bytes and a kind
pub record IsOfKind (kind : ℕ) (page : List ℕ) : Type 0 where
  pub long : length page ≡ 4096
  pub kind_is : slice_index page 0 ≡ kind

-- writes behind the kind keep it
pub of_field : (kind m : ℕ) (page : List ℕ) (to x : ℕ) → IsOfKind kind page → 1 ≤ to → to + m ≤ 4096 → IsOfKind kind (with_field m page to x)
of_field kind m page to x is past within =
    let long = is.long in let fits : to + m ≤ length page = omega (arith, long, within) in
    record { long = length-with_field m page to x fits ∙ is.long; kind_is = kind_kept m page to x past fits ∙ is.kind_is }

-- other bytes, written past the first and inside the page, keep its kind and its length too
pub of_bytes : (kind : ℕ) (page : List ℕ) (to : ℕ) (bytes : List ℕ) → IsOfKind kind page → 1 ≤ to → to + length bytes ≤ 4096
    → IsOfKind kind (with_bytes page to bytes)
of_bytes kind page to bytes is past within =
    let long = is.long in record {
      long = length-with_bytes page to bytes (omega (arith, long, within)) ∙ is.long;
      kind_is =
          sym (slice_index-bytes_at (with_bytes page to bytes) 0)
          ∙ ap (λ l. slice_index l 0) (bytes_at-before page 0 1 to bytes (omega (arith, past)) (omega (arith, long, within)))
          ∙ slice_index-bytes_at page 0
          ∙ is.kind_is;
    }
