-- What is written in the head: the page that is tried first, and the next page number.
use Rattle.std.proofs.Common.{◌≡◌, ℕ, ◌<◌, ◌≤◌, ◌^◌, ◌==◌, ◌&&◌, ◌⊎◌, inl, inr, true, not, List, length, slice_index, sym, ap, ◌∙◌, subst, IsTrue, arith}
use Rattle.std.proofs.lemmas.Bool.Decides.{nat_tests}
use Rattle.page_bytes.specs.Fields.{with_field}
use Rattle.page_bytes.specs.Head.{is_head, next_page, with_next_page, LAST_PAGE}
use Rattle.page_bytes.proofs.FieldLaws.{field-written}
use Rattle.text_pages.specs.Finding.{tried_first}
use Rattle.page_bytes.specs.Seen.{bytes}
use Rattle.text_pages.specs.Meaning.{IsTextPage, IsForm}
use Rattle.text_pages.proofs.Chains.{Pages}
use Rattle.page_bytes.proofs.WrittenFields.{length-with_field, field_apart, kind_kept}
use Rattle.text_pages.proofs.PageSteps.{HeadForm}

module _ (head : List ℕ) (long : length head ≡ 4096) (x : ℕ) where
  abbrev tried : List ℕ
  tried = with_field 8 head 26 x

  -- a head in which the page that is tried first is written still has 4,096 bytes
  pub tried_long : length (with_field 8 head 26 x) ≡ 4096
  tried_long = length-with_field 8 head 26 x (omega (arith, long)) ∙ long

  -- its next page number is as it was
  pub tried_next : next_page (with_field 8 head 26 x) ≡ next_page head
  tried_next = field_apart 8 2 8 head 26 x (inl (omega arith)) (omega (arith, long))

  -- it passes the head's test where it did before
  pub tried_head : is_head (with_field 8 head 26 x) ≡ is_head head
  tried_head = let kind = kind_kept 8 head 26 x (omega arith) (omega (arith, long)) in let next = tried_next in λ i. kind i == 2 && not (next i == 0)

  -- the page that is tried first is the one written, if that has eight bytes
  pub tried_is : x < 256 ^ 8 → tried_first (with_field 8 head 26 x) ≡ x
  tried_is small = field-written 8 26 x head small (omega (arith, long))

  -- a head in which the next page number is written still has 4,096 bytes
  pub raised_long : length (with_next_page head x) ≡ 4096
  raised_long = length-with_field 8 head 2 x (omega (arith, long)) ∙ long

  -- its next page number is the one written, if that has eight bytes
  pub raised_next : x < 256 ^ 8 → next_page (with_next_page head x) ≡ x
  raised_next small = field-written 8 2 x head small (omega (arith, long))

  -- the page that is tried first is as it was
  pub raised_first : tried_first (with_next_page head x) ≡ tried_first head
  raised_first = field_apart 8 26 8 head 2 x (inr (omega arith)) (omega (arith, long))

  -- it passes the head's test where it did before and the number written is past 0 and has eight bytes
  pub raised_head : 0 < x → x < 256 ^ 8 → IsTrue (is_head head) → IsTrue (is_head (with_next_page head x))
  raised_head some small is =
      let kind = kind_kept 8 head 2 x (omega arith) (omega (arith, long)) in let next = raised_next small in
      passes (slice_index head 0) (next_page head) (slice_index (with_next_page head x) 0) (next_page (with_next_page head x)) is kind
      (omega (arith, next, some))
    where
      passes : (k n k' n' : ℕ) → (k == 2 && not (n == 0)) ≡ true → k' ≡ k → 0 < n' → (k' == 2 && not (n' == 0)) ≡ true
      passes k n k' n' is same some = grind (arith, nat_tests)

-- a head that stays, or has another page that is tried first
module _ (pages new : Pages) (n : ℕ) (form : IsForm pages) (numbered : IsTextPage new n → n < next_page (bytes pages 0)) where
  -- a head that stays keeps its form, if page n is a text page after the change where it is the one tried first
  pub head_stays : bytes new 0 ≡ bytes pages 0 → (tried_first (bytes pages 0) ≡ n → IsTextPage new n) → HeadForm pages new n
  head_stays same text = record {
    head = subst (λ b. IsTrue (is_head b)) (sym same) form.head;
    long = ap length same ∙ form.long;
    last = subst (λ b. next_page b ≤ LAST_PAGE) (sym same) form.last;
    more = let next = ap next_page same in omega (arith, next);
    numbered = λ is. let below = numbered is in let next = ap next_page same in omega (arith, next, below);
    first = inr (inr (ap tried_first same, text));
  }

  -- a head with another page to try first keeps its form, if that is none, or is n and a text page after the change
  pub head_tries : (x : ℕ) → bytes new 0 ≡ with_field 8 (bytes pages 0) 26 x → (x ≡ 0) ⊎ ((x ≡ n) × IsTextPage new n) → x < 256 ^ 8 → HeadForm pages new n
  head_tries x same which small = record {
    head = subst (λ b. IsTrue (is_head b)) (sym same) (tried_head (bytes pages 0) form.long x ∙ form.head);
    long = ap length same ∙ tried_long (bytes pages 0) form.long x;
    last = let next = ap next_page same ∙ tried_next (bytes pages 0) form.long x in let before = form.last in omega (arith, next, before);
    more = let next = ap next_page same ∙ tried_next (bytes pages 0) form.long x in omega (arith, next);
    numbered = λ is. let below = numbered is in let next = ap next_page same ∙ tried_next (bytes pages 0) form.long x in omega (arith, next, below);
    first = which_first which;
  }
    where
      tried_x : tried_first (bytes new 0) ≡ x
      tried_x = ap tried_first same ∙ tried_is (bytes pages 0) form.long x small

      which_first : (x ≡ 0) ⊎ ((x ≡ n) × IsTextPage new n)
          → (tried_first (bytes new 0) ≡ 0)
          ⊎ (((tried_first (bytes new 0) ≡ n) × IsTextPage new n)
          ⊎ ((tried_first (bytes new 0) ≡ tried_first (bytes pages 0)) × (tried_first (bytes pages 0) ≡ n → IsTextPage new n)))
      which_first (inl none) = inl (tried_x ∙ none)
      which_first (inr some) = inr (inl (tried_x ∙ some.0, some.1))
