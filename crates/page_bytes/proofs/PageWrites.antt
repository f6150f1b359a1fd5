-- What a page write leaves of the other pages.
use Rattle.std.proofs.Common.{◌≡◌, ℕ, zero, suc, ◌+◌, ◌<◌, ◌==◌, ◌^◌, eq-eqb, Bool, true, false, not, ◌&&◌, if◌then◌else◌, List, Option, Some, None, Ok, refl, sym, ap, ◌∙◌, cond, is_some, unwrap_or, slice_index, IsTrue, true≢false, arith}
use Rattle.std.proofs.lemmas.Bool.Decides.{nat_tests}
use Rattle.std.specs.Ordering.{nat_cmp, eq_by_cmp, is_eq}
use Rattle.std.specs.Cmp.{tied_itself, unsigned_tied}
use Rattle.std.specs.FinMap as map
use Rattle.page_bytes.specs.declared.ids.Space.{Space}
use Rattle.page_bytes.specs.declared.ids.PageId.{PageId}
use Rattle.page_bytes.specs.declared.end.PageEnd.{PageEnd}
use Rattle.page_bytes.specs.declared.end.PageEnd.TheVariants.{Need, Damaged, Spent}
use Rattle.page_bytes.specs.Order.{space_cmp, page_cmp}
use Rattle.page_bytes.specs.Known.{is_there, is_unknown}
use Rattle.page_bytes.specs.Head.{head_of, next_page, with_next_page, LAST_PAGE}
use Rattle.page_bytes.specs.Refusal.{RefusedBy, head_refusal, fresh_refusal}
use Rattle.page_bytes.specs.Work.{Work, with_page, without_page, with_fresh, first_bytes, next_in, zeros}
use Rattle.page_bytes.specs.Links.{page_in}
use Rattle.page_bytes.proofs.Orders.{space_cmp-total, page_cmp-total, both_tied}
use Rattle.page_bytes.proofs.Works.{head_apart}

some_or : {X : Type 0} (e : Bool) (x : X) (o : Option X) → is_some o ≡ true → is_some (cond e (Some x) o) ≡ true
some_or true x o is = refl
some_or false x o is = is

-- what is there stays there where a page is written
pub there_with_page : (w : Work) (id q : PageId) (bytes : List ℕ) → IsTrue (is_there w.now q) → IsTrue (is_there (with_page w id bytes).now q)
there_with_page w id q bytes is = ap is_some (map.get-insert page_cmp-total w.now.pages id bytes q)
    ∙ some_or (eq_by_cmp page_cmp q id) bytes (map.get w.now.pages q) is

-- and the page that is written is there
pub get_with_page : (w : Work) (id : PageId) (bytes : List ℕ) → map.get (with_page w id bytes).now.pages id ≡ Some bytes
get_with_page w id bytes = map.get-insert page_cmp-total w.now.pages id bytes id
    ∙ ap (λ o. cond (is_eq o) (Some bytes) (map.get w.now.pages id)) (tied_itself page_cmp-total id)

-- a page that is written is there afterwards
pub written_there : (w : Work) (id : PageId) (bytes : List ℕ) → IsTrue (is_there (with_page w id bytes).now id)
written_there w id bytes = ap is_some (get_with_page w id bytes)

-- two pages of a space are one where their numbers are
pub same_number : (space : Space) (n m : ℕ) → eq_by_cmp page_cmp (page_in space n) (page_in space m) ≡ (n == m)
same_number space n m =
    both_tied (space_cmp space space) (nat_cmp n m) ∙ ap (λ o. is_eq o && is_eq (nat_cmp n m)) (tied_itself space_cmp-total space) ∙ unsigned_tied n m

-- what is there of a page once one of its space is written
pub get_of_space : (w : Work) (space : Space) (n m : ℕ) (bytes : List ℕ)
    → map.get (with_page w (page_in space n) bytes).now.pages (page_in space m) ≡ cond (m == n) (Some bytes) (map.get w.now.pages (page_in space m))
get_of_space w space n m bytes =
    map.get-insert page_cmp-total w.now.pages (page_in space n) bytes (page_in space m)
    ∙ ap (λ e. cond e (Some bytes) (map.get w.now.pages (page_in space m))) (same_number space m n)

-- a call that is not refused has a head, which passes its test, and whose next number isn't the last
head_of_refusal : (id : PageId) (there : Option (List ℕ)) → head_refusal id there ≡ None → 0 < next_page (unwrap_or there zeros)
head_of_refusal id None is = cc
head_of_refusal id (Some bytes) is = positive (slice_index bytes 0 == 2) (next_page bytes) is
  where
    positive : (two : Bool) (n : ℕ) → (if not (two && not (n == 0)) then Some (Damaged id) else if n == LAST_PAGE then Some (Spent LAST_PAGE) else None) ≡ None
        → 0 < n
    positive true zero is = cc
    positive true (suc n) is = omega arith
    positive false n is = cc

needed : (b : Bool) (id : PageId) (there : Option (List ℕ)) → (if b then Some (Need id) else head_refusal id there) ≡ None
    → 0 < next_page (unwrap_or there zeros)
needed true id there is = cc
needed false id there is = head_of_refusal id there is

-- where a new page isn't refused, the head's next page number is past 0
pub next_positive : (w : Work) (space : Space) → fresh_refusal w.now space ≡ None → 0 < next_in w space
next_positive w space is = needed (is_unknown w.now (head_of space)) (head_of space) (map.get w.now.pages (head_of space)) is

-- and its next number isn't the last, so that the one behind it has eight bytes too
refused_last : (id : PageId) (two none last : Bool) → last ≡ true
    → (if not (two && not none) then Some (Damaged id) else if last then Some (Spent LAST_PAGE) else None) ≡ None → ⊥
refused_last id true true last is passes = cc
refused_last id true false true is passes = cc
refused_last id true false false is passes = absurd (true≢false (sym is))
refused_last id false none last is passes = cc

not_last : (id : PageId) (there : Option (List ℕ)) → head_refusal id there ≡ None → next_page (unwrap_or there zeros) ≡ LAST_PAGE → ⊥
not_last id None is last = cc
not_last id (Some bytes) is last =
    refused_last id (slice_index bytes 0 == 2) (next_page bytes == 0) (next_page bytes == LAST_PAGE) (eq-eqb (next_page bytes) LAST_PAGE last) is

known_last : (b : Bool) (id : PageId) (there : Option (List ℕ)) → (if b then Some (Need id) else head_refusal id there) ≡ None
    → next_page (unwrap_or there zeros) ≡ LAST_PAGE → ⊥
known_last true id there is last = cc
known_last false id there is last = not_last id there is last

-- where a new page isn't refused, and the next page number has eight bytes, the one after it has eight bytes too
pub next_small : (w : Work) (space : Space) → fresh_refusal w.now space ≡ None → next_in w space < 256 ^ 8 → next_in w space + 1 < 256 ^ 8
next_small w space is fits =
    let other = known_last (is_unknown w.now (head_of space)) (head_of space) (map.get w.now.pages (head_of space)) is in
    below (next_in w space) fits other
  where
    below : (n : ℕ) → n < 256 ^ 8 → (n ≡ LAST_PAGE → ⊥) → n + 1 < 256 ^ 8
    below n fits other = omega (arith, fits, other)

-- where a new page may be made the head is there
there_by : (b : Bool) (id : PageId) (there : Option (List ℕ)) → (if b then Some (Need id) else head_refusal id there) ≡ None → is_some there ≡ true
there_by true id there is = cc
there_by false id None is = cc
there_by false id (Some bytes) is = refl

-- where a new page isn't refused, the head is there
pub head_there : (w : Work) (space : Space) → fresh_refusal w.now space ≡ None → IsTrue (is_there w.now (head_of space))
head_there w space is = there_by (is_unknown w.now (head_of space)) (head_of space) (map.get w.now.pages (head_of space)) is

-- a new page is there, and all zeros
zeros_apart : (n : ℕ) (x y : List ℕ) (o : Option (List ℕ)) → 0 < n → cond (n == 0) (Some x) (cond (n == n) (Some y) o) ≡ Some y
zeros_apart n x y o positive = grind (arith, nat_tests)

-- a new page, if its number is past 0, is all zeros
pub fresh_zeros : (w : Work) (space : Space) → 0 < next_in w space → map.get (with_fresh w space).now.pages (page_in space (next_in w space)) ≡ Some zeros
fresh_zeros w space positive =
    let n = next_in w space in let first = with_page w (page_in space n) zeros in
    get_of_space first space 0 n (with_next_page (first_bytes w.now (head_of space)) (n + 1))
    ∙ ap (λ o. cond (n == 0) (Some (with_next_page (first_bytes w.now (head_of space)) (n + 1))) o) (get_of_space w space n n zeros)
    ∙ zeros_apart n (with_next_page (first_bytes w.now (head_of space)) (n + 1)) zeros (map.get w.now.pages (page_in space n)) positive

-- where a value was given there was no refusal
pub not_refused : {X : Type 0} (refusal : Option PageEnd) (x : X) → RefusedBy refusal (Ok x) → refusal ≡ None
not_refused (Some e) x is = cc
not_refused None x is = refl

-- where a new page isn't refused, it is there once it is made
pub fresh_there : (w : Work) (space : Space) → fresh_refusal w.now space ≡ None → IsTrue (is_there (with_fresh w space).now (page_in space (next_in w space)))
fresh_there w space none = ap is_some (fresh_zeros w space (next_positive w space none))

-- what is there stays there beside a new page
pub there_with_fresh : (w : Work) (space : Space) (q : PageId) → IsTrue (is_there w.now q) → IsTrue (is_there (with_fresh w space).now q)
there_with_fresh w space q is =
    there_with_page (with_page w (page_in space (next_in w space)) zeros) (head_of space) q _ (there_with_page w (page_in space (next_in w space)) q zeros is)

some_beside : {X : Type 0} (e : Bool) (o : Option X) → e ≡ false → cond e None o ≡ o
some_beside true o is = absurd (true≢false is)
some_beside false o is = refl

-- the head stays where another page is freed
pub get_head_without : (w : Work) (space : Space) (n : ℕ) → 0 < n
    → map.get (without_page w (page_in space n)).now.pages (head_of space) ≡ map.get w.now.pages (head_of space)
get_head_without w space n positive =
    map.get-remove page_cmp-total w.now.pages (page_in space n) (head_of space)
    ∙ some_beside (eq_by_cmp page_cmp (head_of space) (page_in space n)) (map.get w.now.pages (head_of space)) (head_apart space n positive)

-- a head that is there is there once a page beside it is freed
pub head_there_without : (w : Work) (space : Space) (n : ℕ) → 0 < n → IsTrue (is_there w.now (head_of space))
    → IsTrue (is_there (without_page w (page_in space n)).now (head_of space))
head_there_without w space n positive is = ap is_some (get_head_without w space n positive) ∙ is

-- and where another page is written
pub get_head_beside : (w : Work) (space : Space) (n : ℕ) (bytes : List ℕ) → 0 < n
    → map.get (with_page w (page_in space n) bytes).now.pages (head_of space) ≡ map.get w.now.pages (head_of space)
get_head_beside w space n bytes positive =
    map.get-insert page_cmp-total w.now.pages (page_in space n) bytes (head_of space)
    ∙ ap (λ e. cond e (Some bytes) (map.get w.now.pages (head_of space))) (head_apart space n positive)
