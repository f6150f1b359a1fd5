-- A piece that is taken away makes the workspace lighter, so a chain of pieces comes to its end.
use Rattle.std.proofs.Common.{◌≡◌, ℕ, ◌+◌, ◌<◌, inl, true, false, List, length, Some, Ok, ap, ◌∙◌, unwrap_or, if◌then◌else◌, arith}
use Rattle.std.specs.FinMap as map
use Rattle.page_bytes.specs.declared.ids.Space.{Space}
use Rattle.page_bytes.specs.declared.texts.TextRef.{TextRef}
use Rattle.page_bytes.specs.Fields.{with_field}
use Rattle.page_bytes.specs.Head.{head_of}
use Rattle.page_bytes.specs.Links.{page_in}
use Rattle.page_bytes.specs.Texts.{piece_length}
use Rattle.page_bytes.specs.Work.{Work, without_page, first_bytes, zeros}
use Rattle.text_pages.specs.Slots.{lowest, hole_of, closed}
use Rattle.text_pages.specs.Putting.{with_first}
use Rattle.text_pages.specs.Taking.{with_hole, piece_taken_in}
use Rattle.text_pages.specs.Inside.{IsLong}
use Rattle.page_bytes.proofs.WrittenFields.{field_apart}
use Rattle.text_pages.proofs.Holes.{lowest-closed}
use Rattle.page_bytes.proofs.PageWrites.{get_head_without, get_head_beside}
use Rattle.text_pages.proofs.Passing.{slotted_is, may_go_is}
use Rattle.text_pages.proofs.TakeCases.{IsTested, hole_inside, long_bytes, EachCase, taken_case}
use Rattle.text_pages.proofs.Weights.{weight, weight-without, weight-replaced}

-- another page that is tried first weighs nothing
first_weight : (w : Work) (space : Space) (n : ℕ) (head : List ℕ) → map.get w.now.pages (head_of space) ≡ Some head → length head ≡ 4096
    → weight (with_first w space n).now.pages ≡ weight w.now.pages
first_weight w space n head is long =
    let bytes : first_bytes w.now (head_of space) ≡ head = ap (λ o. unwrap_or o zeros) is in
    let new = with_field 8 (first_bytes w.now (head_of space)) 26 n in
    let low : lowest new ≡ lowest head = ap (λ (b : List ℕ). lowest (with_field 8 b 26 n)) bytes
    ∙ field_apart 2 4 8 head 26 n (inl (omega arith)) (omega (arith, long)) in
    let all = weight-replaced w.now.pages (head_of space) head new is in omega (arith, low, all)

abbrev IsLighter : Work → Work → Type 0
IsLighter w new = weight new.now.pages < weight w.now.pages

module _ (w : Work) (space : Space) (at : TextRef) (past : 0 < at.page) (long_head : IsLong w.now (head_of space))
    (long_page : IsLong w.now (page_in space at.page)) where
  cases : (page head : List ℕ) → IsTested w.now space at page → map.get w.now.pages (head_of space) ≡ Some head → EachCase w space at (IsLighter w) page
  cases page head t there =
      let long = long_bytes w.now (head_of space) head there long_head in let id = page_in space at.page in
      let freed = without_page w id in let hole = hole_of at.slot page in let holed = with_hole w space at.page hole in
      let less = weight-without w.now.pages id page t.there in let low = (slotted_is page t.slotted).2 in
      let bytes : first_bytes w.now id ≡ page = ap (λ o. unwrap_or o zeros) t.there in
      let high : lowest (closed hole (first_bytes w.now id)) ≡ lowest page + piece_length at.slot page = ap (λ (b : List ℕ). lowest (closed hole b)) bytes
      ∙ lowest-closed hole (hole_inside w.now space at page t) page (long_bytes w.now id page t.there long_page) in
      let inside = hole_inside w.now space at page t in let some = (may_go_is page at.slot t.may).0 in
      let all = weight-replaced w.now.pages id page (closed hole (first_bytes w.now id)) t.there in
      let lighter : weight holed.now.pages < weight w.now.pages = omega (arith, high, all, inside, some) in
      let forgotten = first_weight freed space 0 head (get_head_without w space at.page past ∙ there) long in
      let renamed = first_weight holed space at.page head (get_head_beside w space at.page (closed hole (first_bytes w.now id)) past ∙ there) long in
      record {
        freed = λ b. elim b as (λ b. IsLighter w (if b then with_first freed space 0 else freed)) [
          | true ↦ omega (arith, forgotten, less, low)
          | false ↦ omega
              (arith, less, low)
        ];
        holed = λ b. elim b as (λ b. IsLighter w (if b then with_first holed space at.page else holed)) [
          | true ↦ omega
              (arith, renamed, lighter)
          | false ↦ lighter
        ];
      }

-- a piece that is taken away makes the workspace lighter
pub taken_lighter : (w : Work) (space : Space) (from : ℕ) (at next : TextRef) (new : Work) → 0 < at.page → IsLong w.now (head_of space)
    → IsLong w.now (page_in space at.page)
    → piece_taken_in w space from at ≡ Ok (next, new) → weight new.now.pages < weight w.now.pages
taken_lighter w space from at next new past long_head long_page is =
    taken_case w space at (IsLighter w) from next new (cases w space at past long_head long_page) is
