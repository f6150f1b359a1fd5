-- What writes to the pages of node numbers and to their fields of the head leave: node numbers' own is kept to, the head is whole,
-- and the pages are still theirs.
use Rattle.std.proofs.Common.{◌≡◌, ◌≢◌, ℕ, ◌+◌, ◌<◌, ◌≤◌, ◌^◌, ◌==◌, ◌⊎◌, ⊎_elim, inl, inr, Bool, true, false, List, [], ◌∷◌, length, slice_index, Option, Some, None, Result, Ok, Err, OnOk, refl, sym, ap, ◌∙◌, cond, subst, is_some, unwrap_or, arith, IsTrue, if◌then◌else◌}
use Rattle.std.proofs.lemmas.Bool.Decides.{nat_tests}
use Rattle.std.specs.FinMap as map
use Rattle.page_bytes.specs.declared.ids.Space.{Space}
use Rattle.page_bytes.specs.declared.ids.PageId.{PageId}
use Rattle.page_bytes.specs.declared.end.PageEnd.{PageEnd}
use Rattle.page_bytes.specs.declared.end.PageEnd.TheVariants.{Need}
use Rattle.page_bytes.specs.Answers.{Answers, unless}
use Rattle.page_bytes.specs.Fields.{with_field, with_bytes}
use Rattle.page_bytes.specs.Head.{head_of, with_next_page}
use Rattle.page_bytes.specs.Known.{Known, is_there, is_unknown}
use Rattle.page_bytes.specs.Links.{page_in, or_damaged, asked}
use Rattle.page_bytes.specs.Own.{HasOwnPage, AreBeside, KeepsToOwn}
use Rattle.page_bytes.specs.Refusal.{fresh_refusal}
use Rattle.page_bytes.specs.Work.{Work, with_page, first_bytes, zeros, with_fresh, next_in}
use Rattle.page_bytes.proofs.Owning.{same_or_other, on_page}
use Rattle.page_bytes.proofs.Keeping.{page_beside, page_itself, kept_twice, page_kept, head_kept, new_kept, new_itself, new_beside, given_new}
use Rattle.page_bytes.proofs.PageWrites.{there_with_page, get_with_page, get_of_space, written_there, next_positive}
use Rattle.page_bytes.proofs.SeenPages.{page-first}
use Rattle.page_bytes.proofs.WrittenFields.{length-with_field, kind_kept}
use Rattle.indirection.specs.Forms.{with_entry}
use Rattle.indirection.specs.Writing.{with_number, with_entry_in, with_new, with_child}
use Rattle.indirection.specs.Adding.{new_in}
use Rattle.indirection.specs.Owned.{is_number_kind, number_pages}
use Rattle.indirection.specs.Inside.{IsNumberPage, TakesLink, HasKept}
use Rattle.page_bytes.specs.Kept.{IsWholeHead}
use Rattle.indirection.proofs.Entries.{kind-with_entry}
use Rattle.indirection.proofs.NewKinds.{there_with_new}
use Rattle.indirection.proofs.NewPages.{kind_written}

-- an entry of a leaf
pub entry_kept : (w v : Work) (space : Space) (leaf i page place : ℕ) → v ≡ with_entry_in w space leaf i page place → IsWholeHead w.now space
    → IsNumberPage w.now space leaf → i < 340 → HasKept 0 w v space
entry_kept w v space leaf i page place same head is fits =
    let b = first_bytes w.now (page_in space leaf) in
    subst (λ (v : Work). HasKept 0 w v space) (sym same)
    (page_kept number_pages w space leaf (with_entry i page place b) is (ap is_number_kind (kind-with_entry i page place b fits is.long) ∙ is.kind) head)

-- the first free number or the highest number
pub field_kept : (w v : Work) (space : Space) (to x : ℕ) → (to ≡ 34) ⊎ (to ≡ 38) → v ≡ with_number 4 w space 0 to x → IsWholeHead w.now space
    → HasKept 0 w v space
field_kept w v space to x (inl at) same head =
    subst (λ (v : Work). HasKept 0 w v space) (sym same)
    (subst (λ t. HasKept 0 w (with_number 4 w space 0 t x) space) (sym at)
    (head_kept number_pages w space 4 34 x (omega arith) (omega arith) (λ a n beside. on_page 0 beside.1.0) head))
field_kept w v space to x (inr at) same head =
    subst (λ (v : Work). HasKept 0 w v space) (sym same)
    (subst (λ t. HasKept 0 w (with_number 4 w space 0 t x) space) (sym at)
    (head_kept number_pages w space 4 38 x (omega arith) (omega arith) (λ a n beside. on_page 0 beside.1.1.0) head))

-- ---- new pages

module _ (w : Work) (space : Space) (kind : ℕ) (none : fresh_refusal w.now space ≡ None) (fits : next_in w space < 256 ^ 8) (head : IsWholeHead w.now space)
    (mine : IsTrue (is_number_kind kind)) where
  abbrev number : ℕ
  number = next_in w space

  abbrev first : List ℕ
  first = with_bytes zeros 0 (kind ∷ [])

  positive : 0 < number
  positive = next_positive w space none

  is_kind : IsTrue (is_number_kind (slice_index first 0))
  is_kind = ap is_number_kind (kind_written kind).0 ∙ mine

  new_kept_here : HasKept 1 w (with_new kind w space) space
  new_kept_here = new_kept number_pages w space first none fits head (kind_written kind).1 is_kind

  new_here : IsNumberPage (with_new kind w space).now space number
  new_here = new_itself number_pages w space first none fits head (kind_written kind).1 is_kind

  -- a new root, with the head's link to it
  root_kept : HasKept 1 w (with_child kind w space 0 18) space × IsNumberPage (with_child kind w space 0 18).now space number
  root_kept =
      let v = with_new kind w space in let some = positive in (
        kept_twice number_pages w v (with_child kind w space 0 18) space 1 0 new_kept_here
            (head_kept number_pages v space 8 18 number (omega arith) (omega arith) (λ a n beside. on_page 0 beside.0) new_kept_here.head),
        page_beside number_pages v space 0 number _ (λ is. omega (arith, is, some)) new_here,
      )

  -- a new page, with a link to it
  linked_kept : (parent at : ℕ) → IsNumberPage w.now space parent → 1 ≤ at → at + 8 ≤ 4096
      → HasKept 1 w (with_child kind w space parent at) space × IsNumberPage (with_child kind w space parent at).now space number
  linked_kept parent at was behind within =
      let v = with_new kind w space in let is = new_beside number_pages w space first none fits head (kind_written kind).1 is_kind parent was in let b =
      first_bytes v.now (page_in space parent) in let long = is.long in
      let with_link = with_field 8 b at number in
      let long_now : length with_link ≡ 4096 = length-with_field 8 b at number (omega (arith, within, long)) ∙ long in
      let kind_now : IsTrue (is_number_kind (slice_index with_link 0)) = ap is_number_kind (kind_kept 8 b at number behind (omega (arith, within, long)))
      ∙ is.kind in (
        kept_twice number_pages w v (with_child kind w space parent at) space 1 0 new_kept_here
            (page_kept number_pages v space parent with_link is kind_now new_kept_here.head),
        ⊎_elim
            (λ same. subst (IsNumberPage (with_child kind w space parent at).now space) (sym same)
            (page_itself number_pages v space parent with_link is.beside long_now kind_now))
            (λ differ. page_beside number_pages v space parent number with_link differ new_here)
            (same_or_other number parent),
      )

  child_kept : (parent at : ℕ) → TakesLink w.now space parent at → at + 8 ≤ 4096
      → HasKept 1 w (with_child kind w space parent at) space × IsNumberPage (with_child kind w space parent at).now space number
  child_kept parent at (inl root) within =
      subst (λ (p : ℕ × ℕ). HasKept 1 w (with_child kind w space p.0 p.1) space × IsNumberPage (with_child kind w space p.0 p.1).now space number)
      (λ i. (sym root.0 i, sym root.1 i)) root_kept
  child_kept parent at (inr page) within = linked_kept parent at page.0 page.1 within

-- what is there where a new page got its link
pub made_child : (w v u : Work) (space : Space) (kind parent at n : ℕ) → Answers (new_in w space kind) (Ok n) v → u ≡ with_number 8 v space parent at n
    → n < 256 ^ 8
    → IsWholeHead w.now space → IsTrue (is_number_kind kind) → TakesLink w.now space parent at → at + 8 ≤ 4096
    → HasKept 1 w u space × IsNumberPage u.now space n
made_child w v u space kind parent at n answer same small head mine link within =
    let is = given_new (fresh_refusal w.now space) (next_in w space, with_new kind w space) n v answer in let number_is = is.1 in
    let fits : next_in w space < 256 ^ 8 = omega (arith, small, number_is) in
    let now : u ≡ with_child kind w space parent at = same ∙ (λ i. with_number 8 (is.2 i) space parent at (is.1 i)) in
    subst (λ (p : ℕ × Work). HasKept 1 w p.1 space × IsNumberPage p.1.now space p.0) (λ i. (sym is.1 i, sym now i))
    (child_kept w space kind is.0 fits head mine parent at link within)

-- ---- what a call answers

-- an entry is written
pub entered_own : (w v : Work) (space : Space) (leaf i page place : ℕ) (r : Result (Unit {0}) PageEnd)
    → Answers (Ok (tt, with_entry_in w space leaf i page place)) r v
    → IsWholeHead w.now space → IsNumberPage w.now space leaf → i < 340 → OnOk r ((all : PageId → Option (List ℕ)) → KeepsToOwn number_pages 0 w v all space)
entered_own w v space leaf i page place (Ok done) is head own fits = (entry_kept w v space leaf i page place is.1 head own fits).kept
entered_own w v space leaf i page place (Err e) is head own fits = tt

-- an entry and then a field of the head
module _ (w v u : Work) (space : Space) (leaf i page place to x : ℕ) (entry : v ≡ with_entry_in w space leaf i page place) (head : IsWholeHead w.now space)
    (own : IsNumberPage w.now space leaf) (fits : i < 340)
    (field : (to ≡ 34) ⊎ (to ≡ 38)) where
  -- with the entry written, and then this field of the head, it has kept to node numbers' own
  pub given_kept : u ≡ with_number 4 v space 0 to x → HasKept 0 w u space
  given_kept same = let one = entry_kept w v space leaf i page place entry head own fits in
      kept_twice number_pages w v u space 0 0 one (field_kept v u space to x field same one.head)

  -- and so where the call that writes the field answers a value
  pub given_own : (r : Result (Unit {0}) PageEnd) → Answers (Ok (tt, with_number 4 v space 0 to x)) r u
      → OnOk r ((all : PageId → Option (List ℕ)) → KeepsToOwn number_pages 0 w u all space)
  given_own (Ok done) is = (given_kept is.1).kept
  given_own (Err e) is = tt
