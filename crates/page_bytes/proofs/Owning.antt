-- What writes to a structure's own pages and fields leave: it kept to its own. One lemma for each write, and one that joins them.
use Rattle.std.proofs.Common.{◌≡◌, ◌≢◌, ℕ, ◌+◌, ◌<◌, ◌≤◌, ◌^◌, ◌⊎◌, ⊎_elim, inl, inr, Bool, true, false, nat_lt, IsTrue, List, length, slice_index, Option, Some, None, refl, sym, ap, subst, is_some, ◌∙◌, true≢false, arith}
use Rattle.std.proofs.lemmas.Bool.{ltb-true, ltb-false}
use Rattle.page_bytes.specs.declared.ids.Space.{Space}
use Rattle.page_bytes.specs.declared.ids.PageId.{PageId}
use Rattle.page_bytes.specs.Fields.{bytes_at, with_field}
use Rattle.page_bytes.specs.Head.{head_of, next_page, with_next_page}
use Rattle.page_bytes.specs.Known.{is_there}
use Rattle.page_bytes.specs.Links.{page_in}
use Rattle.page_bytes.specs.Own.{PageField, Own, HasOwnPage, IsOwnPage, IsNewNumber, AreBeside, IsFieldWrite, HasFieldWrite, KeepsPage, KeepsToOwn}
use Rattle.page_bytes.specs.Refusal.{fresh_refusal}
use Rattle.page_bytes.specs.Seen.{PagesByNumber, seen, bytes, next_of}
use Rattle.page_bytes.specs.Work.{Work, with_page, without_page, with_fresh, first_bytes, next_in, zeros}
use Rattle.page_bytes.proofs.FieldLaws.{field-written}
use Rattle.page_bytes.proofs.Growing.{grows_with, grows_without}
use Rattle.page_bytes.proofs.PageWrites.{next_positive, next_small, head_there}
use Rattle.page_bytes.proofs.SeenPages.{page-written, page-beside, seen-written, seen-beside, seen-first, seen-freed_beside, page-freed, page-freed_beside, page-other, page-other_freed, page-first}
use Rattle.page_bytes.proofs.WrittenFields.{length-with_field, bytes_apart, field_apart, kind_kept}

-- a number is another or the same
pub same_or_other : (n m : ℕ) → (n ≡ m) ⊎ (n ≢ m)
same_or_other n m = at (nat_lt n m) refl (nat_lt m n) refl
  where
    at : (a : Bool) → nat_lt n m ≡ a → (b : Bool) → nat_lt m n ≡ b → (n ≡ m) ⊎ (n ≢ m)
    at true is b more = let less = ltb-true n m is in inr (λ same. omega (arith, less, same))
    at false is true more = let past = ltb-true m n more in inr (λ same. omega (arith, past, same))
    at false is false more = let one = ltb-false n m is in let two = ltb-false m n more in inl (omega (arith, one, two))

-- a field of this page is beside what is beside it
pub on_page : {P : Type 0} (n : ℕ) → (n ≢ n) ⊎ P → P
on_page n (inl differ) = absurd (differ refl)
on_page n (inr beside) = beside

-- a page that is there and is one of the structure's if it is there is one
has_own : (own : Own) (page : Option (List ℕ)) → IsOwnPage own page → is_some page ≡ true → HasOwnPage own page
has_own own None is there = absurd (true≢false (sym there))
has_own own (Some page) is there = is

own_of : (own : Own) (page : Option (List ℕ)) → HasOwnPage own page → IsOwnPage own page
own_of own None is = tt
own_of own (Some page) is = is

-- fields that are written leave the kind
own_wrote : (own : Own) (n : ℕ) (old new : Option (List ℕ)) → HasFieldWrite own.fields n old new → IsOwnPage own old → IsOwnPage own new
own_wrote own n None new wrote is = absurd wrote
own_wrote own n (Some old) None wrote is = absurd wrote
own_wrote own n (Some old) (Some new) wrote is = subst (λ kind. IsTrue (own.is_kind kind)) (sym wrote.kind) is

own_was : (own : Own) (n : ℕ) (old new : Option (List ℕ)) → HasFieldWrite own.fields n old new → HasOwnPage own new → HasOwnPage own old
own_was own n None new wrote is = absurd wrote
own_was own n (Some old) None wrote is = absurd wrote
own_was own n (Some old) (Some new) wrote is = subst (λ kind. IsTrue (own.is_kind kind)) wrote.kind is

wrote_twice : (fields : List PageField) (n : ℕ) (a b c : Option (List ℕ)) → HasFieldWrite fields n a b → HasFieldWrite fields n b c → HasFieldWrite fields n a c
wrote_twice fields n None b c one two = absurd one
wrote_twice fields n (Some a) None c one two = absurd one
wrote_twice fields n (Some a) (Some b) None one two = absurd two
wrote_twice fields n (Some a) (Some b) (Some c) one two = record {
  kind = two.kind ∙ one.kind;
  long = two.long ∙ one.long;
  beside = λ at m apart. two.beside at m apart ∙ one.beside at m apart;
}

there_of : (own : Own) (page : Option (List ℕ)) → HasOwnPage own page → is_some page ≡ true
there_of own None is = absurd is
there_of own (Some page) is = refl

-- all pages of a space that are seen are seen there
abbrev pub Stays : (PageId → Option (List ℕ)) → Space → Work → Work → Type 0
Stays all space w new = (n : ℕ) → is_some (seen w.now all space n) ≡ true → is_some (seen new.now all space n) ≡ true

module _ (all : PageId → Option (List ℕ)) (space : Space) where
  -- where a page is written, all pages that were seen are seen
  pub stays_page : (w : Work) (n : ℕ) (b : List ℕ) → Stays all space w (with_page w (page_in space n) b)
  stays_page w n b q there = ⊎_elim
      (λ same. subst (λ m. is_some (seen (with_page w (page_in space n) b).now all space m) ≡ true) (sym same) (ap is_some (page-written w all space n b)))
      (λ differ. ap is_some (page-beside w all space n q b differ) ∙ there)
      (same_or_other q n)

  -- pages that stay seen over a first step and over a second stay seen over both
  pub stays_twice : (a b c : Work) → Stays all space a b → Stays all space b c → Stays all space a c
  stays_twice a b c one two n there = two n (one n there)

  -- where a new page is made and written, all pages that were seen are seen
  pub stays_fresh : (w : Work) (b : List ℕ) → Stays all space w (with_page (with_fresh w space) (page_in space (next_in w space)) b)
  stays_fresh w b =
      let n = next_in w space in let cleared = with_page w (page_in space n) zeros in
      stays_twice w (with_fresh w space) (with_page (with_fresh w space) (page_in space n) b)
      (stays_twice w cleared (with_fresh w space) (stays_page w n zeros) (stays_page cleared 0 (with_next_page (first_bytes w.now (head_of space)) (n + 1))))
      (stays_page (with_fresh w space) n b)

module _ (own : Own) (all : PageId → Option (List ℕ)) (space : Space) where
  -- nothing has changed
  pub own_none : (w : Work) → KeepsToOwn own 0 w w all space
  own_none w = record {
    pages = λ n positive. inl refl;
    head = λ at m beside apart. refl;
    long = refl;
    raised = omega arith;
    most_made = omega arith;
    last = λ last. last;
    made = λ n positive new. absurd (omega (arith, new.0, new.1));
    others = λ other n differ. refl;
    known = λ id is. is;
    below = refl;
  }

  -- fewer pages are at most as many
  pub own_more : (w v : Work) (few most : ℕ) → few ≤ most → KeepsToOwn own few w v all space → KeepsToOwn own most w v all space
  own_more w v few most less kept = record {
    pages = kept.pages;
    head = kept.head;
    long = kept.long;
    raised = kept.raised;
    most_made = let made = kept.most_made in omega (arith, made, less);
    last = kept.last;
    made = kept.made;
    others = kept.others;
    known = kept.known;
    below = kept.below;
  }

  -- one step after another
  module _ (a b c : Work) (j k : ℕ) (one : KeepsToOwn own j a b all space) (two : KeepsToOwn own k b c all space) where
    abbrev before : PagesByNumber
    before = seen a.now all space

    abbrev between : PagesByNumber
    between = seen b.now all space

    abbrev behind : PagesByNumber
    behind = seen c.now all space

    earlier : (n : ℕ) → IsNewNumber before between n → IsNewNumber before behind n
    earlier n new = (new.0, let more = two.raised in omega (arith, new.1, more))

    later : (n : ℕ) → IsNewNumber between behind n → IsNewNumber before behind n
    later n new = (let more = one.raised in omega (arith, new.0, more), new.1)

    own_then : (n : ℕ) → KeepsPage own between behind n → IsOwnPage own (between n) → IsOwnPage own (behind n)
    own_then n (inl same) is = subst (IsOwnPage own) (sym same) is
    own_then n (inr (inl changed)) is = changed.1
    own_then n (inr (inr wrote)) is = own_wrote own n (between n) (behind n) wrote is

    joined : (n : ℕ) → KeepsPage own before between n → KeepsPage own between behind n → KeepsPage own before behind n
    joined n (inl same) (inl too) = inl (too ∙ same)
    joined n (inl same) (inr (inl changed)) = inr (inl (⊎_elim (λ is. inl (subst (HasOwnPage own) same is)) (λ new. inr (later n new)) changed.0, changed.1))
    joined n (inl same) (inr (inr wrote)) = inr (inr (subst (λ o. HasFieldWrite own.fields n o (behind n)) same wrote))
    joined n (inr (inl changed)) step = inr (inl (⊎_elim (λ is. inl is) (λ new. inr (earlier n new)) changed.0, own_then n step changed.1))
    joined n (inr (inr wrote)) (inl same) = inr (inr (subst (HasFieldWrite own.fields n (before n)) (sym same) wrote))
    joined n (inr (inr wrote)) (inr (inl changed)) =
        inr (inl (⊎_elim (λ is. inl (own_was own n (before n) (between n) wrote is)) (λ new. inr (later n new)) changed.0, changed.1))
    joined n (inr (inr wrote)) (inr (inr more)) = inr (inr (wrote_twice own.fields n (before n) (between n) (behind n) wrote more))

    new_before : (n : ℕ) → IsNewNumber before behind n → IsNewNumber before between n ⊎ IsNewNumber between behind n
    new_before n new = at (nat_lt n (next_of between)) refl
      where
        at : (e : Bool) → nat_lt n (next_of between) ≡ e → IsNewNumber before between n ⊎ IsNewNumber between behind n
        at true is = inl (new.0, ltb-true n (next_of between) is)
        at false is = inr (ltb-false n (next_of between) is, new.1)

    still : (n : ℕ) → 0 < n → HasOwnPage own (between n) → is_some (behind n) ≡ true → HasOwnPage own (behind n)
    still n positive is there = has_own own (behind n) (own_then n (two.pages n positive) (own_of own (between n) is)) there

    both : ((n : ℕ) → IsNewNumber before between n → is_some (between n) ≡ true → is_some (behind n) ≡ true) → KeepsToOwn own (j + k) a c all space
    both stays = record {
      pages = λ n positive. joined n (one.pages n positive) (two.pages n positive);
      head = λ at m beside apart. two.head at m beside apart ∙ one.head at m beside apart;
      long = two.long ∙ one.long;
      raised = let first = one.raised in let second = two.raised in omega (arith, first, second);
      most_made = let first = one.most_made in let second = two.most_made in omega (arith, first, second);
      last = λ last. two.last (one.last last);
      made = λ n positive new. ⊎_elim
          (λ is. let made = one.made n positive is in still n positive made (stays n is (there_of own (between n) made)))
          (λ is. two.made n positive is)
          (new_before n new);
      others = λ other n differ. two.others other n differ ∙ one.others other n differ;
      known = λ id is. one.known id (two.known id is);
      below = two.below ∙ one.below;
    }

    -- where the second step frees no page
    pub own_twice : Stays all space b c → KeepsToOwn own (j + k) a c all space
    own_twice stays = both (λ n new there. stays n there)

  -- where the first step makes no page
  pub own_behind : (a b c : Work) (k : ℕ) → KeepsToOwn own 0 a b all space → KeepsToOwn own k b c all space → KeepsToOwn own k a c all space
  own_behind a b c k one two = own_more a c (0 + k) k (omega arith)
      (both a b c 0 k one two (λ n new there. let made = one.most_made in absurd (omega (arith, made, new.0, new.1))))

  -- a page of the structure is written, which stays one
  module _ (w : Work) (n : ℕ) (b : List ℕ) (positive : 0 < n) where
    head_beside : bytes (seen (with_page w (page_in space n) b).now all space) 0 ≡ bytes (seen w.now all space) 0
    head_beside = seen-beside w all space n 0 b (λ is. omega (arith, is, positive))

    -- a page of the structure, other than the head, gets bytes of one of its kinds:
    -- it has kept to its own and made no page
    pub own_page : HasOwnPage own (seen w.now all space n) → IsTrue (own.is_kind (slice_index b 0))
        → KeepsToOwn own 0 w (with_page w (page_in space n) b) all space
    own_page was is = record {
      pages = λ q past. ⊎_elim
          (λ same. inr (inl (
            inl (subst (λ m. HasOwnPage own (seen w.now all space m)) (sym same) was),
            subst (λ m. IsOwnPage own (seen (with_page w (page_in space n) b).now all space m)) (sym same)
                (subst (IsOwnPage own) (sym (page-written w all space n b)) is),
          )))
          (λ differ. inl (page-beside w all space n q b differ))
          (same_or_other q n);
      head = λ at m beside apart. ap (bytes_at at m) head_beside;
      long = ap length head_beside;
      raised = let same = ap next_page head_beside in omega (arith, same);
      most_made = let same = ap next_page head_beside in omega (arith, same);
      last = λ last. let same = ap next_page head_beside in omega (arith, same, last);
      made = λ q positive' new. let same = ap next_page head_beside in absurd (omega (arith, same, new.0, new.1));
      others = λ other m differ. page-other w all space n other m differ b;
      known = grows_with w (page_in space n) b;
      below = refl;
    }

  -- a page of the structure is freed
  module _ (w : Work) (n : ℕ) (positive : 0 < n) where
    head_freed : bytes (seen (without_page w (page_in space n)).now all space) 0 ≡ bytes (seen w.now all space) 0
    head_freed = seen-freed_beside w all space n 0 (λ is. omega (arith, is, positive))

    -- a page of the structure, other than the head, is freed: it has kept to its own and made no page
    pub own_freed : HasOwnPage own (seen w.now all space n) → KeepsToOwn own 0 w (without_page w (page_in space n)) all space
    own_freed was = record {
      pages = λ q past. ⊎_elim
          (λ same. inr (inl (
            inl (subst (λ m. HasOwnPage own (seen w.now all space m)) (sym same) was),
            subst (λ m. IsOwnPage own (seen (without_page w (page_in space n)).now all space m)) (sym same)
                (subst (IsOwnPage own) (sym (page-freed w all space n)) tt),
          )))
          (λ differ. inl (page-freed_beside w all space n q differ))
          (same_or_other q n);
      head = λ at m beside apart. ap (bytes_at at m) head_freed;
      long = ap length head_freed;
      raised = let same = ap next_page head_freed in omega (arith, same);
      most_made = let same = ap next_page head_freed in omega (arith, same);
      last = λ last. let same = ap next_page head_freed in omega (arith, same, last);
      made = λ q positive' new. let same = ap next_page head_freed in absurd (omega (arith, same, new.0, new.1));
      others = λ other m differ. page-other_freed w all space n other m differ;
      known = grows_without w (page_in space n);
      below = refl;
    }

  -- a field of the head is written
  module _ (w : Work) (m to x : ℕ) (there : IsTrue (is_there w.now (head_of space))) (long : length (first_bytes w.now (head_of space)) ≡ 4096) (past : 10 ≤ to)
      (within : to + m ≤ 4096)
      (mine : (at n : ℕ) → AreBeside own.fields 0 at n → (at + n ≤ to) ⊎ (to + m ≤ at)) where
    abbrev head_written : List ℕ
    head_written = with_field m (first_bytes w.now (head_of space)) to x

    abbrev then_written : Work
    then_written = with_page w (head_of space) head_written

    first_is : bytes (seen w.now all space) 0 ≡ first_bytes w.now (head_of space)
    first_is = seen-first w.now all space 0 there

    now_is : bytes (seen then_written.now all space) 0 ≡ head_written
    now_is = seen-written w all space 0 head_written

    next_is : next_of (seen then_written.now all space) ≡ next_of (seen w.now all space)
    next_is = ap next_page now_is ∙ field_apart 8 2 m (first_bytes w.now (head_of space)) to x (inl (omega (arith, past))) (omega (arith, within, long))
        ∙ sym (ap next_page first_is)

    -- a number is written over fields of the structure alone in a whole head, from byte 10 on:
    -- it has kept to its own and made no page
    pub own_field : KeepsToOwn own 0 w then_written all space
    own_field = record {
      pages = λ q positive. inl (page-beside w all space 0 q head_written (λ is. omega (arith, is, positive)));
      head = λ at n beside apart.
          ap (bytes_at at n) now_is
          ∙ bytes_apart n at m (first_bytes w.now (head_of space)) to x (mine at n beside) (omega (arith, within, long))
          ∙ sym (ap (bytes_at at n) first_is);
      long = ap length now_is ∙ length-with_field m (first_bytes w.now (head_of space)) to x (omega (arith, within, long)) ∙ sym (ap length first_is);
      raised = let same = next_is in omega (arith, same);
      most_made = let same = next_is in omega (arith, same);
      last = λ last. let same = next_is in omega (arith, same, last);
      made = λ q positive' new. let same = next_is in absurd (omega (arith, same, new.0, new.1));
      others = λ other q differ. page-other w all space 0 other q differ head_written;
      known = grows_with w (head_of space) head_written;
      below = refl;
    }

  -- a new page of the structure is made
  module _ (w : Work) (b : List ℕ) (none : fresh_refusal w.now space ≡ None) (fits : next_in w space < 256 ^ 8)
      (long : length (first_bytes w.now (head_of space)) ≡ 4096) where
    abbrev fresh : ℕ
    fresh = next_in w space

    abbrev cleared : Work
    cleared = with_page w (page_in space fresh) zeros

    abbrev raised_to : List ℕ
    raised_to = with_next_page (first_bytes w.now (head_of space)) (fresh + 1)

    abbrev made_page : Work
    made_page = with_page (with_fresh w space) (page_in space fresh) b

    some : 0 < fresh
    some = next_positive w space none

    was_head : bytes (seen w.now all space) 0 ≡ first_bytes w.now (head_of space)
    was_head = seen-first w.now all space 0 (head_there w space none)

    is_head_now : bytes (seen made_page.now all space) 0 ≡ raised_to
    is_head_now = seen-beside (with_fresh w space) all space fresh 0 b (λ is. let more = some in omega (arith, is, more))
        ∙ seen-written cleared all space 0 raised_to

    next_was : next_of (seen w.now all space) ≡ fresh
    next_was = ap next_page was_head

    next_now : next_of (seen made_page.now all space) ≡ fresh + 1
    next_now = let small = next_small w space none fits in ap next_page is_head_now
        ∙ field-written 8 2 (fresh + 1) (first_bytes w.now (head_of space)) (omega (arith, small)) (omega (arith, long))

    page_now : seen made_page.now all space fresh ≡ Some b
    page_now = page-written (with_fresh w space) all space fresh b

    is_new : (q : ℕ) → q ≡ fresh → IsNewNumber (seen w.now all space) (seen made_page.now all space) q
    is_new q same = (let was = next_was in omega (arith, same, was), let now = next_now in omega (arith, same, now))

    -- a new page that isn't refused gets bytes of one of the structure's kinds, over a whole head:
    -- it has kept to its own and made one page
    pub own_fresh : IsTrue (own.is_kind (slice_index b 0)) → KeepsToOwn own 1 w made_page all space
    own_fresh is = record {
      pages = λ q positive. ⊎_elim
          (λ same. inr (inl (
            inr (is_new q same),
            subst (λ m. IsOwnPage own (seen made_page.now all space m)) (sym same) (subst (IsOwnPage own) (sym page_now) is),
          )))
          (λ differ. inl (
          page-beside (with_fresh w space) all space fresh q b differ
          ∙ page-beside cleared all space 0 q raised_to (λ zero_is. omega (arith, zero_is, positive))
          ∙ page-beside w all space fresh q zeros differ
          ))
          (same_or_other q fresh);
      head = λ at n beside apart.
          ap (bytes_at at n) is_head_now
          ∙ bytes_apart n at 8 (first_bytes w.now (head_of space)) 2 (fresh + 1)
          (⊎_elim (λ before. inl before) (λ past. inr (omega (arith, past))) apart) (omega (arith, long))
          ∙ sym (ap (bytes_at at n) was_head);
      long =
          ap length is_head_now ∙ length-with_field 8 (first_bytes w.now (head_of space)) 2 (fresh + 1) (omega (arith, long))
          ∙ sym (ap length was_head);
      raised = let was = next_was in let now = next_now in omega (arith, was, now);
      most_made = let was = next_was in let now = next_now in omega (arith, was, now);
      last = λ last. let now = next_now in let small = next_small w space none fits in omega (arith, now, small);
      made = λ q positive' new. let was = next_was in let now = next_now in
          let same : q ≡ fresh = omega (arith, was, now, new.0, new.1) in
          subst (λ m. HasOwnPage own (seen made_page.now all space m)) (sym same) (subst (HasOwnPage own) (sym page_now) is);
      others = λ other q differ.
          page-other (with_fresh w space) all space fresh other q differ b
          ∙ page-other cleared all space 0 other q differ raised_to
          ∙ page-other w all space fresh other q differ zeros;
      known = λ id is. grows_with w (page_in space fresh) zeros id
          (grows_with cleared (head_of space) raised_to id (grows_with (with_fresh w space) (page_in space fresh) b id is));
      below = refl;
    }

  -- a field of a page that isn't the structure's is written
  module _ (w : Work) (n m to x : ℕ) (positive : 0 < n) (there : IsTrue (is_there w.now (page_in space n)))
      (long : length (first_bytes w.now (page_in space n)) ≡ 4096) (past : 1 ≤ to) (within : to + m ≤ 4096)
      (mine : (at k : ℕ) → AreBeside own.fields n at k → (at + k ≤ to) ⊎ (to + m ≤ at)) where
    abbrev page_then : List ℕ
    page_then = with_field m (first_bytes w.now (page_in space n)) to x

    abbrev after_write : Work
    after_write = with_page w (page_in space n) page_then

    wrote : IsFieldWrite own.fields n (first_bytes w.now (page_in space n)) page_then
    wrote = record {
      kind = kind_kept m (first_bytes w.now (page_in space n)) to x past (omega (arith, within, long));
      long = length-with_field m (first_bytes w.now (page_in space n)) to x (omega (arith, within, long));
      beside = λ at k apart. bytes_apart k at m (first_bytes w.now (page_in space n)) to x (mine at k apart) (omega (arith, within, long));
    }

    write_is : HasFieldWrite own.fields n (seen w.now all space n) (seen after_write.now all space n)
    write_is =
        subst (λ o. HasFieldWrite own.fields n o (seen after_write.now all space n)) (sym (page-first w.now all space n there))
        (subst (HasFieldWrite own.fields n (Some (first_bytes w.now (page_in space n)))) (sym (page-written w all space n page_then)) wrote)

    -- a number is written over fields of the structure alone in any whole page beside the head, past its kind:
    -- it has kept to its own and made no page
    pub own_foreign_field : KeepsToOwn own 0 w after_write all space
    own_foreign_field =
        let head_is = seen-beside w all space n 0 page_then (λ is. omega (arith, is, positive)) in record {
          pages = λ q more. ⊎_elim
              (λ same. inr (inr (subst (λ q. HasFieldWrite own.fields q (seen w.now all space q) (seen after_write.now all space q)) (sym same) write_is)))
              (λ differ. inl (page-beside w all space n q page_then differ))
              (same_or_other q n);
          head = λ at k beside apart. ap (bytes_at at k) head_is;
          long = ap length head_is;
          raised = let same = ap next_page head_is in omega (arith, same);
          most_made = let same = ap next_page head_is in omega (arith, same);
          last = λ last. let same = ap next_page head_is in omega (arith, same, last);
          made = λ q more new. let same = ap next_page head_is in absurd (omega (arith, same, new.0, new.1));
          others = λ other q differ. page-other w all space n other q differ page_then;
          known = grows_with w (page_in space n) page_then;
          below = refl;
        }
