-- What a new page with a link to it does to the table.
use Rattle.std.proofs.Common.{◌≡◌, ◌≢◌, ℕ, ◌+◌, ◌<◌, ◌≤◌, inr, List, [], ◌∷◌, length, slice_index, Option, sym, ap, ◌∙◌, arith, IsTrue, lit≤}
use Rattle.page_bytes.specs.declared.ids.Space.{Space}
use Rattle.page_bytes.specs.declared.ids.PageId.{PageId}
use Rattle.page_bytes.specs.Fields.{field, with_field, with_bytes}
use Rattle.page_bytes.specs.Head.{head_of, next_page, with_next_page, LAST_PAGE}
use Rattle.page_bytes.specs.Known.{is_there}
use Rattle.page_bytes.specs.Work.{Work, with_page, first_bytes, zeros, with_fresh, next_in}
use Rattle.page_bytes.proofs.FieldLaws.{field-written, length-with_bytes, bytes_at-written, slice_index-bytes_at}
use Rattle.indirection.specs.Forms.{root}
use Rattle.page_bytes.specs.Links.{page_in}
use Rattle.indirection.specs.Writing.{with_new}
use Rattle.page_bytes.specs.Seen.{seen, bytes}
use Rattle.indirection.specs.Meaning.{IsPage}
use Rattle.page_bytes.proofs.WrittenFields.{length-with_field, field_apart, kind_kept}
use Rattle.page_bytes.proofs.SeenPages.{seen-written, seen-beside, seen-first}
use Rattle.indirection.proofs.Steps.{MakesPage}

-- a page of zeros with a kind written first has that kind and 4,096 bytes
pub kind_written : (kind : ℕ) → (slice_index (with_bytes zeros 0 (kind ∷ [])) 0 ≡ kind) × (length (with_bytes zeros 0 (kind ∷ [])) ≡ 4096)
kind_written kind = (
  sym (slice_index-bytes_at (with_bytes zeros 0 (kind ∷ [])) 0) ∙ ap (λ l. slice_index l 0) (bytes_at-written zeros 0 (kind ∷ []) (omega arith)),
  length-with_bytes zeros 0 (kind ∷ []) (lit≤ tt),
)

-- a new page is made
module _ (w : Work) (all : PageId → Option (List ℕ)) (space : Space) (kind : ℕ) (head : IsPage (seen w.now all space) 2 0)
    (there : IsTrue (is_there w.now (page_in space 0)))
    (positive : 0 < next_page (bytes (seen w.now all space) 0)) (more : next_page (bytes (seen w.now all space) 0) < LAST_PAGE) where
  next_is : next_in w space ≡ next_page (bytes (seen w.now all space) 0)
  next_is = sym (ap next_page (seen-first w.now all space 0 there))

  abbrev first : Work
  first = with_page w (page_in space (next_in w space)) zeros

  abbrev second : Work
  second = with_fresh w space

  next_past : next_in w space ≢ 0
  next_past is = let same = next_is in absurd (omega (arith, is, same, positive))

  head_before : bytes (seen first.now all space) 0 ≡ bytes (seen w.now all space) 0
  head_before = seen-beside w all space (next_in w space) 0 zeros (λ is. next_past (sym is))

  -- the head is as it was but for its next page number, which is one more
  pub made_head : bytes (seen (with_new kind w space).now all space) 0
      ≡ with_field 8 (bytes (seen w.now all space) 0) 2 (next_page (bytes (seen w.now all space) 0) + 1)
  made_head =
      seen-beside second all space (next_in w space) 0 (with_bytes zeros 0 (kind ∷ [])) (λ is. next_past (sym is))
      ∙ seen-written first all space 0 (with_next_page (first_bytes w.now (head_of space)) (next_in w space + 1))
      ∙ ap (λ (b : List ℕ). with_field 8 b 2 (next_page b + 1)) (sym (seen-first w.now all space 0 there))

  -- a page of this kind is made: it has the head's next page number, and all beside it and the head is as it was
  pub made : MakesPage (seen w.now all space) (seen (with_new kind w space).now all space) kind (next_in w space)
  made =
      let long = head.1 in let b = bytes (seen w.now all space) 0 in record {
        number = next_is;
        others = λ q past differ.
            seen-beside second all space (next_in w space) q (with_bytes zeros 0 (kind ∷ [])) differ
            ∙ seen-beside first all space 0 q (with_next_page (first_bytes w.now (head_of space)) (next_in w space + 1)) past
            ∙ seen-beside w all space (next_in w space) q zeros differ;
        head = (
          ap (λ l. slice_index l 0) made_head ∙ kind_kept 8 b 2 (next_page b + 1) (omega arith) (omega (arith, long)) ∙ head.0,
          ap length made_head ∙ length-with_field 8 b 2 (next_page b + 1) (omega (arith, long)) ∙ long,
        );
        root = ap root made_head ∙ field_apart 8 18 8 b 2 (next_page b + 1) (inr (omega arith)) (omega (arith, long));
        next = ap next_page made_head ∙ field-written 8 2 (next_page b + 1) b (omega (arith, more)) (omega (arith, long));
        last = let is = ap next_page made_head ∙ field-written 8 2 (next_page b + 1) b (omega (arith, more)) (omega (arith, long)) in omega (arith, is, more);
        page = (
          ap (λ l. slice_index l 0) (seen-written second all space (next_in w space) (with_bytes zeros 0 (kind ∷ []))) ∙ (kind_written kind).0,
          ap length (seen-written second all space (next_in w space) (with_bytes zeros 0 (kind ∷ []))) ∙ (kind_written kind).1,
        );
      }

  -- the other fields of the head stay
  pub made_field : (n to : ℕ) → 10 ≤ to → field n to (bytes (seen (with_new kind w space).now all space) 0) ≡ field n to (bytes (seen w.now all space) 0)
  made_field n to behind = let long = head.1 in ap (field n to) made_head
      ∙ field_apart n to 8 (bytes (seen w.now all space) 0) 2 (next_page (bytes (seen w.now all space) 0) + 1) (inr (omega (arith, behind)))
      (omega (arith, long))
