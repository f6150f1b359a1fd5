-- What writes to a structure's pages and to its fields of the head leave: the structure's own is kept to, the head is whole, and
-- the pages are still the structure's. The structure is a parameter.
use Rattle.std.proofs.Common.{◌≡◌, ◌≢◌, ℕ, ◌+◌, ◌<◌, ◌≤◌, ◌^◌, ◌==◌, ◌⊎◌, ⊎_elim, false, List, length, slice_index, Option, Some, None, Result, Ok, Err, OnOk, refl, sym, ap, ◌∙◌, cond, subst, is_some, unwrap_or, arith, IsTrue}
use Rattle.std.proofs.lemmas.Bool.Decides.{nat_tests}
use Rattle.std.specs.FinMap as map
use Rattle.page_bytes.specs.declared.ids.Space.{Space}
use Rattle.page_bytes.specs.declared.ids.PageId.{PageId}
use Rattle.page_bytes.specs.declared.end.PageEnd.{PageEnd}
use Rattle.page_bytes.specs.Answers.{Answers, unless}
use Rattle.page_bytes.specs.Fields.{with_field}
use Rattle.page_bytes.specs.Head.{head_of, with_next_page}
use Rattle.page_bytes.specs.Kept.{IsWholeHead, IsWholePage, HasKept}
use Rattle.page_bytes.specs.Known.{Known, is_there}
use Rattle.page_bytes.specs.Links.{page_in, asked}
use Rattle.page_bytes.specs.Own.{Own, HasOwnPage, AreBeside, KeepsToOwn}
use Rattle.page_bytes.specs.Refusal.{fresh_refusal}
use Rattle.page_bytes.specs.Work.{Work, with_page, first_bytes, zeros, with_fresh, next_in}
use Rattle.page_bytes.proofs.Askings.{asked_there}
use Rattle.page_bytes.proofs.Owning.{same_or_other, own_more, own_twice, own_page, own_field, own_fresh, stays_page, stays_twice, stays_fresh}
use Rattle.page_bytes.proofs.PageWrites.{there_with_page, there_with_fresh, get_with_page, get_of_space, written_there, next_positive}
use Rattle.page_bytes.proofs.SeenPages.{page-first}
use Rattle.page_bytes.proofs.WrittenFields.{length-with_field}

-- ---- pages that are read

-- the head that was asked for is whole
pub asked_head : (k : Known) (space : Space) (b : List ℕ) → asked k (page_in space 0) (page_in space 0) ≡ Ok b → length b ≡ 4096 → IsWholeHead k space
asked_head k space b is long =
    let page = asked_there k (page_in space 0) (page_in space 0) b is in
    record { there = ap is_some page; long = ap (λ (o : Option (List ℕ)). length (unwrap_or o zeros)) page ∙ long }

module _ (own : Own) where
  -- what a page needs to be one of the structure
  pub whole_page : (k : Known) (space : Space) (n : ℕ) (b : List ℕ) → 0 < n → IsTrue (is_there k (page_in space n)) → first_bytes k (page_in space n) ≡ b
      → length b ≡ 4096
      → IsTrue (own.is_kind (slice_index b 0)) → IsWholePage own k space n
  whole_page k space n b beside there is long kind = record {
    beside = beside;
    there = there;
    long = ap length is ∙ long;
    kind = ap (λ (b : List ℕ). own.is_kind (slice_index b 0)) is ∙ kind;
  }

  -- a page of one of the structure's kinds that was asked for is one
  pub asked_page : (k : Known) (space : Space) (from : PageId) (kind n : ℕ) (b : List ℕ) → asked k from (page_in space n) ≡ Ok b → 0 < n → length b ≡ 4096
      → slice_index b 0 ≡ kind
      → IsTrue (own.is_kind kind) → IsWholePage own k space n
  asked_page k space from kind n b is beside long same mine =
      let page = asked_there k from (page_in space n) b is in
      whole_page k space n b beside (ap is_some page) (ap (λ (o : Option (List ℕ)). unwrap_or o zeros) page) long (ap own.is_kind same ∙ mine)

-- ---- pages that are written

apart : (q n : ℕ) → q ≢ n → (q == n) ≡ false
apart q n differ = grind (arith, nat_tests)

-- what an edit of a page begins with that was written
pub first_written : (w : Work) (space : Space) (n : ℕ) (b : List ℕ) → first_bytes (with_page w (page_in space n) b).now (page_in space n) ≡ b
first_written w space n b = ap (λ (o : Option (List ℕ)). unwrap_or o zeros) (get_with_page w (page_in space n) b)

-- and of another page
pub first_beside : (w : Work) (space : Space) (n q : ℕ) (b : List ℕ) → q ≢ n
    → first_bytes (with_page w (page_in space n) b).now (page_in space q) ≡ first_bytes w.now (page_in space q)
first_beside w space n q b differ =
    ap (λ (o : Option (List ℕ)). unwrap_or o zeros)
    (get_of_space w space n q b ∙ ap (λ e. cond e (Some b) (map.get w.now.pages (page_in space q))) (apart q n differ))

-- the head stays whole beside a page that is written
pub head_beside : (w : Work) (space : Space) (n : ℕ) (b : List ℕ) → 0 < n → IsWholeHead w.now space → IsWholeHead (with_page w (page_in space n) b).now space
head_beside w space n b positive head = record {
  there = there_with_page w (page_in space n) (page_in space 0) b head.there;
  long = ap length (first_beside w space n 0 b (λ is. omega (arith, is, positive))) ∙ head.long;
}

module _ (own : Own) where
  -- a page of the structure stays one beside another page
  pub page_beside : (w : Work) (space : Space) (n q : ℕ) (b : List ℕ) → q ≢ n → IsWholePage own w.now space q
      → IsWholePage own (with_page w (page_in space n) b).now space q
  page_beside w space n q b differ is =
      whole_page own (with_page w (page_in space n) b).now space q (first_bytes w.now (page_in space q)) is.beside
      (there_with_page w (page_in space n) (page_in space q) b is.there) (first_beside w space n q b differ) is.long is.kind

  -- and where its own bytes are written
  pub page_itself : (w : Work) (space : Space) (n : ℕ) (b : List ℕ) → 0 < n → length b ≡ 4096 → IsTrue (own.is_kind (slice_index b 0))
      → IsWholePage own (with_page w (page_in space n) b).now space n
  page_itself w space n b positive long kind =
      whole_page own (with_page w (page_in space n) b).now space n b positive (written_there w (page_in space n) b) (first_written w space n b) long kind

  -- one step after another
  pub kept_twice : (a b c : Work) (space : Space) (j k : ℕ) → HasKept own j a b space → HasKept own k b c space → HasKept own (j + k) a c space
  kept_twice a b c space j k one two = record {
    kept = λ all. own_twice own all space a b c j k (one.kept all) (two.kept all) (two.stays all);
    stays = λ all. stays_twice all space a b c (one.stays all) (two.stays all);
    head = two.head;
  }

  -- a page of the structure is written
  pub page_kept : (w : Work) (space : Space) (n : ℕ) (b : List ℕ) → IsWholePage own w.now space n → IsTrue (own.is_kind (slice_index b 0))
      → IsWholeHead w.now space
      → HasKept own 0 w (with_page w (page_in space n) b) space
  page_kept w space n b is kind head = record {
    kept = λ all. own_page own all space w n b is.beside (subst (HasOwnPage own) (sym (page-first w.now all space n is.there)) is.kind) kind;
    stays = λ all. stays_page all space w n b;
    head = head_beside w space n b is.beside head;
  }

  -- a field of the head is written
  pub head_kept : (w : Work) (space : Space) (m to x : ℕ) → 10 ≤ to → to + m ≤ 4096 → ((at n : ℕ) → AreBeside own.fields 0 at n → (at + n ≤ to) ⊎ (to + m ≤ at))
      → IsWholeHead w.now space
      → HasKept own 0 w (with_page w (page_in space 0) (with_field m (first_bytes w.now (page_in space 0)) to x)) space
  head_kept w space m to x past within mine head =
      let b = first_bytes w.now (page_in space 0) in let long = head.long in record {
        kept = λ all. own_field own all space w m to x head.there head.long past within mine;
        stays = λ all. stays_page all space w 0 (with_field m b to x);
        head = record {
          there = written_there w (page_in space 0) (with_field m b to x);
          long = ap length (first_written w space 0 (with_field m b to x)) ∙ length-with_field m b to x (omega (arith, within, long)) ∙ long;
        };
      }

  -- a new page of the structure is made
  module _ (w : Work) (space : Space) (b : List ℕ) (none : fresh_refusal w.now space ≡ None) (fits : next_in w space < 256 ^ 8) (head : IsWholeHead w.now space)
      (long_page : length b ≡ 4096) (mine : IsTrue (own.is_kind (slice_index b 0))) where
    abbrev number : ℕ
    number = next_in w space

    abbrev cleared : Work
    cleared = with_page w (page_in space (next_in w space)) zeros

    abbrev raised : List ℕ
    raised = with_next_page (first_bytes w.now (head_of space)) (next_in w space + 1)

    -- the workspace with the new page, which has these bytes, and the head's next number raised by one
    abbrev pub made : Work
    made = with_page (with_fresh w space) (page_in space (next_in w space)) b

    positive : 0 < number
    positive = next_positive w space none

    -- with a page of the structure's kinds made new, it has kept to its own with one new page, and the head is whole
    pub new_kept : HasKept own 1 w made space
    new_kept = record {
      kept = λ all. own_fresh own all space w b none fits head.long mine;
      stays = λ all. stays_fresh all space w b;
      head = record {
        there = there_with_page (with_fresh w space) (page_in space number) (page_in space 0) b (there_with_fresh w space (page_in space 0) head.there);
        long = let some = positive in let long = head.long in
            ap length (first_beside (with_fresh w space) space number 0 b (λ is. omega (arith, is, some))) ∙ ap length (first_written cleared space 0 raised)
            ∙ length-with_field 8 (first_bytes w.now (head_of space)) 2 (next_in w space + 1) (omega (arith, long)) ∙ long;
      };
    }

    -- the new page is a whole page of the structure
    pub new_itself : IsWholePage own made.now space number
    new_itself = page_itself (with_fresh w space) space number b positive long_page mine

    -- a page of the structure stays one, even where it has the new page's number
    pub new_beside : (q : ℕ) → IsWholePage own w.now space q → IsWholePage own made.now space q
    new_beside q is = ⊎_elim
        (λ same. subst (IsWholePage own made.now space) (sym same) new_itself)
        (λ differ. let past = is.beside in
        page_beside (with_fresh w space) space number q b differ
        (page_beside cleared space 0 q raised (λ zero_is. omega (arith, zero_is, past)) (page_beside w space number q zeros differ is)))
        (same_or_other q number)

  -- one step after another, where the second may refuse
  pub then_kept : {X : Type 0} (a b c : Work) (space : Space) (j k : ℕ) (r : Result X PageEnd) → HasKept own j a b space → OnOk r (HasKept own k b c space)
      → OnOk r (HasKept own (j + k) a c space)
  then_kept a b c space j k (Ok x) one two = kept_twice a b c space j k one two
  then_kept a b c space j k (Err e) one two = tt

  -- fewer new pages are at most as many
  pub more_own : {X : Type 0} (w v : Work) (space : Space) (few most : ℕ) (r : Result X PageEnd) → few ≤ most
      → OnOk r ((all : PageId → Option (List ℕ)) → KeepsToOwn own few w v all space)
      → OnOk r ((all : PageId → Option (List ℕ)) → KeepsToOwn own most w v all space)
  more_own w v space few most (Ok x) less kept = λ all. own_more own all space w v few most less (kept all)
  more_own w v space few most (Err e) less kept = tt

-- what was given where nothing was refused
pub given_new : {X : Type 0} (refusal : Option PageEnd) (p : X × Work) (x : X) (v : Work) → Answers (unless refusal p) (Ok x) v
    → (refusal ≡ None) × (x ≡ p.0) × (v ≡ p.1)
given_new (Some e) p x v is = absurd is
given_new None p x v is = (refl, is.0, is.1)
