-- What a call that makes pages comes to: a new leaf, a need of a page, or the end of the page numbers.
use Rattle.std.proofs.Common.{◌≡◌, ◌≢◌, ℕ, ◌+◌, ◌/◌, ◌%◌, ◌<◌, ◌≤◌, ◌==◌, ◌&&◌, ◌||◌, ◌⊎◌, inl, inr, ⊎_elim, Bool, true, false, not, List, slice_index, Option, Some, None, Result, Ok, Err, is_some, unwrap_or, refl, sym, ap, ◌∙◌, cond, subst, true≢false, eq-eqb, arith, IsTrue, if◌then◌else◌}
use Rattle.std.proofs.lemmas.Bool.{eqb-true}
use Rattle.std.proofs.lemmas.Bool.Decides.{nat_tests}
use Rattle.std.specs.Ordering.{eq_by_cmp}
use Rattle.std.specs.FinMap as map
use Rattle.page_bytes.specs.declared.ids.Space.{Space}
use Rattle.page_bytes.specs.declared.ids.PageId.{PageId}
use Rattle.page_bytes.specs.declared.end.PageEnd.{PageEnd}
use Rattle.page_bytes.specs.declared.end.PageEnd.TheVariants.{Need, Damaged, Spent}
use Rattle.page_bytes.specs.Order.{page_cmp}
use Rattle.page_bytes.specs.Head.{head_of, is_head, next_page, LAST_PAGE}
use Rattle.page_bytes.specs.Known.{Known, is_there, is_unknown}
use Rattle.page_bytes.specs.Refusal.{head_refusal}
use Rattle.page_bytes.specs.Work.{Work, with_page, with_fresh, first_bytes, zeros, next_in}
use Rattle.indirection.specs.Forms.{LEAF_KIND, DIRECTORY_KIND, link, link_at}
use Rattle.page_bytes.specs.Links.{and_then, page_in}
use Rattle.indirection.specs.Reading.{linked}
use Rattle.indirection.specs.Writing.{with_new, with_child}
use Rattle.page_bytes.specs.Answers.{unless}
use Rattle.indirection.specs.Adding.{child_in, root_for, directory_for, leaf_for, directed_in, grown_in}
use Rattle.page_bytes.specs.Seen.{seen, bytes, next_of}
use Rattle.indirection.specs.Meaning.{root_number, directory_number, leaf_number, directory_count}
use Rattle.page_bytes.proofs.Orders.{page_cmp-total}
use Rattle.page_bytes.proofs.SeenPages.{seen-first}
use Rattle.page_bytes.proofs.Askings.{Needs, Gives}
use Rattle.indirection.proofs.Findings.{root-is, directory-is}
use Rattle.indirection.proofs.Children.{Stands, rooted_number, rooted_stands, rooted_next, one_root, directed_number, directed_stands, directed_root, directed_next, leafed_number, leafed_stands, leafed_there}

-- a value of which Q holds is given, or a page is needed, or page numbers are spent for so many new pages
abbrev pub Reaches : {X : Type 0} → Known → (PageId → Option (List ℕ)) → Space → ℕ → Result X PageEnd → (X → Type 0) → Type 0
Reaches {X} k all space most r Q =
    ((x : X) × (r ≡ Ok x) × Q x) ⊎ (Needs k all space r ⊎ ((r ≡ Err (Spent LAST_PAGE)) × (LAST_PAGE < next_of (seen k all space) + most)))

-- where a first step reaches what Q says, and from each such value a second reaches what R says, both do in turn
pub reaches_then : {X Y : Type 0} (k : Known) (all : PageId → Option (List ℕ)) (space : Space) (most : ℕ) (r : Result X PageEnd) (f : X → Result Y PageEnd)
    (Q : X → Type 0) (R : Y → Type 0)
    → Reaches k all space most r Q → ((x : X) → Q x → Reaches k all space most (f x) R) → Reaches k all space most (and_then r f) R
reaches_then k all space most r f Q R (inl given) more = subst (λ r. Reaches k all space most (and_then r f) R) (sym given.1) (more given.0 given.2)
reaches_then k all space most r f Q R (inr (inl need)) more = inr (inl (need.0, (ap (λ r. and_then r f) need.1.0, need.1.1)))
reaches_then k all space most r f Q R (inr (inr is)) more = inr (inr (ap (λ r. and_then r f) is.0, is.1))

-- where a first step gives its value or needs a page, and with that value a second reaches what R says, so do both
pub gives_reaches : {X Y : Type 0} {P : Type 0} (k : Known) (all : PageId → Option (List ℕ)) (space : Space) (most : ℕ) (r : Result X PageEnd) (f : X
    → Result Y PageEnd) (x : X) (R : Y → Type 0)
    → Gives k all space r x P → (P → Reaches k all space most (f x) R) → Reaches k all space most (and_then r f) R
gives_reaches k all space most r f x R (inl given) more = subst (λ r. Reaches k all space most (and_then r f) R) (sym given.0) (more given.1)
gives_reaches k all space most r f x R (inr need) more = inr (inl (need.0, (ap (λ r. and_then r f) need.1.0, need.1.1)))

-- what a later workspace needs the earlier one needs, and what spends its page numbers spends those of the earlier one
pub reaches_before : {X : Type 0} (k before : Known) (all : PageId → Option (List ℕ)) (space : Space) (few most : ℕ) (r : Result X PageEnd) (Q : X → Type 0)
    → ((id : PageId) → IsTrue (is_unknown k id) → IsTrue (is_unknown before id)) → next_of (seen k all space) + few ≤ next_of (seen before all space) + most
    → Reaches k all space few r Q → Reaches before all space most r Q
reaches_before k before all space few most r Q more made (inl given) = inl given
reaches_before k before all space few most r Q more made (inr (inl need)) =
    let n = need.1.1 in inr (inl (need.0, (need.1.0, (n.0, (n.1.0, more (page_in space n.0) n.1.1, n.1.2)))))
reaches_before k before all space few most r Q more made (inr (inr is)) = let last = is.1 in inr (inr (is.0, omega (arith, last, made)))

never_there : (eq : Bool) (x : List ℕ) (page : Option (List ℕ)) (out : Bool) → (not (is_some (cond eq (Some x) page)) && out) ≡ true
    → (not (is_some page) && out) ≡ true
never_there true x page out is = absurd (true≢false (sym is))
never_there false x page out is = is

unknown_page : (w : Work) (id : PageId) (b : List ℕ) (q : PageId) → IsTrue (is_unknown (with_page w id b).now q) → IsTrue (is_unknown w.now q)
unknown_page w id b q is =
    let out = not (map.contains_key w.now.whole q.space || map.contains_key w.now.freed q) in
    never_there (eq_by_cmp page_cmp q id) b (map.get w.now.pages q) out
    (sym (ap (λ o. not (is_some o) && out) (map.get-insert page_cmp-total w.now.pages id b q)) ∙ is)

-- what is unknown once a child page is made was unknown before
pub unknown_before : (kind : ℕ) (w : Work) (space : Space) (parent at : ℕ) (q : PageId) → IsTrue (is_unknown (with_child kind w space parent at).now q)
    → IsTrue (is_unknown w.now q)
unknown_before kind w space parent at q is =
    let n = page_in space (next_in w space) in
    unknown_page w n zeros q
    (unknown_page (with_page w n zeros) (head_of space) _ q
    (unknown_page (with_fresh w space) n _ q (unknown_page (with_new kind w space) (page_in space parent) _ q is)))

-- whether a new page can be made
head_allows : (id : PageId) (there : Option (List ℕ)) (out : Bool) → is_some there ≡ true → slice_index (unwrap_or there zeros) 0 ≡ 2
    → 0 < next_page (unwrap_or there zeros) → next_page (unwrap_or there zeros) ≤ LAST_PAGE
    → (((if not (is_some there) && out then Some (Need id) else head_refusal id there) ≡ None) × (next_page (unwrap_or there zeros) < LAST_PAGE))
    ⊎ (((if not (is_some there) && out then Some (Need id) else head_refusal id there) ≡ Some (Spent LAST_PAGE))
    × (next_page (unwrap_or there zeros) ≡ LAST_PAGE))
head_allows id None out is kind positive most = absurd (true≢false (sym is))
head_allows id (Some b) out is kind positive most = at (is_head b) (next_page b == LAST_PAGE) refl refl
  where
    passes : (two : ℕ) (n : ℕ) → two ≡ 2 → 0 < n → (two == 2 && not (n == 0)) ≡ true
    passes two n is some = grind (arith, nat_tests)

    less : (n : ℕ) → n ≤ LAST_PAGE → (n == LAST_PAGE) ≡ false → n < LAST_PAGE
    less n up differ = grind (arith, nat_tests)

    at : (h l : Bool) → is_head b ≡ h → (next_page b == LAST_PAGE) ≡ l
        → (((if not h then Some (Damaged id) else if l then Some (Spent LAST_PAGE) else None) ≡ None) × (next_page b < LAST_PAGE))
        ⊎ (((if not h then Some (Damaged id) else if l then Some (Spent LAST_PAGE) else None) ≡ Some (Spent LAST_PAGE)) × (next_page b ≡ LAST_PAGE))
    at false l h_is l_is = absurd (true≢false (sym (passes (slice_index b 0) (next_page b) kind positive) ∙ h_is))
    at true true h_is l_is = inr (refl, eqb-true (next_page b) LAST_PAGE l_is)
    at true false h_is l_is = inl (refl, less (next_page b) most l_is)

module _ (all : PageId → Option (List ℕ)) (space : Space) (begun : ℕ → Option (List ℕ)) (old : ℕ) where
  -- a child page is made as said, and the head had a next number left, or a page is needed or numbers are spent
  pub child-is : (w : Work) (roots directories leaves : ℕ) → Stands all space begun old w roots directories leaves → (kind parent at : ℕ)
      → Reaches w.now all space 1 (child_in w space kind parent at)
      (λ p. (p ≡ (next_in w space, with_child kind w space parent at)) × (next_page (bytes (seen w.now all space) 0) < LAST_PAGE))
  child-is w roots directories leaves s kind parent at =
      let first = seen-first w.now all space 0 s.there in let b = first_bytes w.now (head_of space) in
      let kind_is : slice_index b 0 ≡ 2 = ap (λ l. slice_index l 0) (sym first) ∙ s.table.head.0 in
      let positive : 0 < next_page b = subst (λ (b : List ℕ). 0 < next_page b) first s.table.next in let most : next_page b ≤ LAST_PAGE =
      subst (λ (b : List ℕ). next_page b ≤ LAST_PAGE) first s.table.last in
      ⊎_elim
      (λ is. inl (
        (next_in w space, with_child kind w space parent at),
        ap (λ r. unless r (next_in w space, with_child kind w space parent at)) is.0,
        (refl, subst (λ (b : List ℕ). next_page b < LAST_PAGE) (sym first) is.1),
      ))
      (λ is. inr (inr (
        ap (λ r. unless r (next_in w space, with_child kind w space parent at)) is.0,
        let last = subst (λ (b : List ℕ). next_page b ≡ LAST_PAGE) (sym first) is.1 in omega (arith, last),
      )))
      (head_allows (head_of space) (map.get w.now.pages (head_of space))
      (not (map.contains_key w.now.whole space || map.contains_key w.now.freed (head_of space))) s.there kind_is positive most)

  -- a leaf was made
  abbrev pub HasLeaf : ℕ → ℕ × Work → Type 0
  HasLeaf leaf p = Stands all space begun old p.1 1 (directory_count (leaf + 1)) (leaf + 1) × (leaf_number (seen p.1.now all space) leaf ≡ p.0)
      × IsTrue (is_there p.1.now (page_in space p.0))

  leaf_for-is : (w : Work) (leaf : ℕ) → Stands all space begun old w 1 (directory_count (leaf + 1)) leaf
      → Reaches w.now all space 1 (leaf_for w space (root_number (seen w.now all space)) (directory_number (seen w.now all space) (leaf / 511)) leaf)
      (HasLeaf leaf)
  leaf_for-is w leaf s =
      let directories = directory_count (leaf + 1) in
      gives_reaches w.now all space 1
      (linked w.now space DIRECTORY_KIND (root_number (seen w.now all space)) (directory_number (seen w.now all space) (leaf / 511)))
      (λ bytes. child_in w space LEAF_KIND (directory_number (seen w.now all space) (leaf / 511)) (link_at (leaf % 511))) _ (HasLeaf leaf)
      (directory-is w.now all space 1 directories leaf s.table (omega arith) (root_number (seen w.now all space)) (leaf / 511) (omega arith)) (λ there.
      made (child-is w 1 directories leaf s LEAF_KIND (directory_number (seen w.now all space) (leaf / 511)) (link_at (leaf % 511))) there)
    where
      room : (l : ℕ) → l < leaf + 1 → l / 511 < directory_count (leaf + 1)
      room l below = omega (arith, below)

      made : Reaches w.now all space 1 (child_in w space LEAF_KIND (directory_number (seen w.now all space) (leaf / 511)) (link_at (leaf % 511)))
          (λ p. (p ≡ (next_in w space, with_child LEAF_KIND w space (directory_number (seen w.now all space) (leaf / 511)) (link_at (leaf % 511))))
          × (next_page (bytes (seen w.now all space) 0) < LAST_PAGE))
          → IsTrue (is_there w.now (page_in space (directory_number (seen w.now all space) (leaf / 511))))
          → Reaches w.now all space 1 (child_in w space LEAF_KIND (directory_number (seen w.now all space) (leaf / 511)) (link_at (leaf % 511))) (HasLeaf leaf)
      made (inl given) there = inl (
        given.0,
        given.1,
        subst (HasLeaf leaf) (sym given.2.0) (
          leafed_stands all space begun old w (directory_count (leaf + 1)) leaf s given.2.1 room there,
          leafed_number all space begun old w (directory_count (leaf + 1)) leaf s given.2.1 room there,
          leafed_there all space begun old w (directory_count (leaf + 1)) leaf s given.2.1 room there,
        ),
      )
      made (inr stop) there = inr stop

  -- its directory page is there, and nothing is needed that was not needed before
  abbrev pub HasDirectory : Work → ℕ → ℕ × Work → Type 0
  HasDirectory w leaf p = Stands all space begun old p.1 1 (directory_count (leaf + 1)) leaf × (directory_number (seen p.1.now all space) (leaf / 511) ≡ p.0)
      × (root_number (seen p.1.now all space) ≡ root_number (seen w.now all space))
      × ((q : PageId) → IsTrue (is_unknown p.1.now q) → IsTrue (is_unknown w.now q))
      × (next_of (seen p.1.now all space) ≤ next_of (seen w.now all space) + 1)

  directory_for-is : (w : Work) (leaf : ℕ) → Stands all space begun old w 1 (directory_count leaf) leaf → leaf < 261121
      → Reaches w.now all space 1 (directory_for w space (root_number (seen w.now all space)) leaf) (HasDirectory w leaf)
  unfolding directory_number
  directory_for-is w leaf s few =
      gives_reaches w.now all space 1 (linked w.now space DIRECTORY_KIND 0 (root_number (seen w.now all space)))
      (λ bytes. if leaf % 511 == 0 then child_in w space DIRECTORY_KIND (root_number (seen w.now all space)) (link_at (leaf / 511)) else Ok
      (link (leaf / 511) bytes, w)) (bytes (seen w.now all space) (root_number (seen w.now all space))) (HasDirectory w leaf)
      (root-is w.now all space 1 (directory_count leaf) leaf s.table (omega arith)) (λ there. at (leaf % 511 == 0) refl there)
    where
      made : (d : ℕ) → d ≡ leaf / 511 → directory_count (leaf + 1) ≡ d + 1 → Stands all space begun old w 1 d leaf
          → IsTrue (is_there w.now (page_in space (root_number (seen w.now all space))))
          → Reaches w.now all space 1 (child_in w space DIRECTORY_KIND (root_number (seen w.now all space)) (link_at d))
          (λ p. (p ≡ (next_in w space, with_child DIRECTORY_KIND w space (root_number (seen w.now all space)) (link_at d)))
          × (next_page (bytes (seen w.now all space) 0) < LAST_PAGE))
          → Reaches w.now all space 1 (child_in w space DIRECTORY_KIND (root_number (seen w.now all space)) (link_at d)) (HasDirectory w leaf)
      made d place count s there (inl given) = inl (
        given.0,
        given.1,
        subst (HasDirectory w leaf) (sym given.2.0) (
          subst (λ c. Stands all space begun old (with_child DIRECTORY_KIND w space (root_number (seen w.now all space)) (link_at d)) 1 c leaf) (sym count)
              (directed_stands all space begun old w d leaf s given.2.1 (omega (arith, place, few)) there),
          subst (λ e. directory_number (seen (with_child DIRECTORY_KIND w space (root_number (seen w.now all space)) (link_at d)).now all space) e
              ≡ next_in w space) place
              (directed_number all space begun old w d leaf s given.2.1 (omega (arith, place, few)) there),
          directed_root all space begun old w d leaf s given.2.1 (omega (arith, place, few)) there,
          λ q is. unknown_before DIRECTORY_KIND w space (root_number (seen w.now all space)) (link_at d) q is,
          let next = directed_next all space begun old w d leaf s given.2.1 (omega (arith, place, few)) there in omega (arith, next),
        ),
      )
      made d place count s there (inr stop) = inr stop

      at : (b : Bool) → (leaf % 511 == 0) ≡ b → IsTrue (is_there w.now (page_in space (root_number (seen w.now all space))))
          → Reaches w.now all space 1
          (if b then child_in w space DIRECTORY_KIND (root_number (seen w.now all space)) (link_at (leaf / 511)) else Ok
          (link (leaf / 511) (bytes (seen w.now all space) (root_number (seen w.now all space))), w)) (HasDirectory w leaf)
      at true is there =
          let whole = eqb-true (leaf % 511) 0 is in let count : directory_count leaf ≡ leaf / 511 = omega (arith, whole) in
          let more : directory_count (leaf + 1) ≡ leaf / 511 + 1 = omega (arith, whole) in
          let s' = subst (λ c. Stands all space begun old w 1 c leaf) count s in
          made (leaf / 511) refl more s' there (child-is w 1 (leaf / 511) leaf s' DIRECTORY_KIND (root_number (seen w.now all space)) (link_at (leaf / 511)))
      at false is there =
          let part : leaf % 511 ≢ 0 = λ none. true≢false (sym (eq-eqb (leaf % 511) 0 none) ∙ is) in
          let count : directory_count leaf ≡ directory_count (leaf + 1) = omega (arith, part) in
          inl (
            (directory_number (seen w.now all space) (leaf / 511), w),
            refl,
            (subst (λ c. Stands all space begun old w 1 c leaf) count s, refl, refl, λ q unknown. unknown, omega arith),
          )

  -- more new pages spend page numbers where fewer do
  more_reach : {X : Type 0} {few most : ℕ} {r : Result X PageEnd} {Q : X → Type 0} (k : Known) → few ≤ most → Reaches k all space few r Q
      → Reaches k all space most r Q
  more_reach {few = few} {most = most} {r = r} {Q = Q} k less reach = reaches_before k k all space few most r Q (λ id is. is) (omega (arith, less)) reach

  directed-is : (w : Work) (leaf : ℕ) → Stands all space begun old w 1 (directory_count leaf) leaf → leaf < 261121
      → Reaches w.now all space 2 (directed_in w space (root_number (seen w.now all space)) leaf) (HasLeaf leaf)
  directed-is w leaf s few =
      reaches_then w.now all space 2 (directory_for w space (root_number (seen w.now all space)) leaf)
      (λ directed. leaf_for directed.1 space (root_number (seen w.now all space)) directed.0 leaf) (HasDirectory w leaf) (HasLeaf leaf)
      (more_reach w.now (omega arith) (directory_for-is w leaf s few)) (λ p has.
      reaches_before p.1.now w.now all space 1 2 (leaf_for p.1 space (root_number (seen w.now all space)) p.0 leaf) (HasLeaf leaf) has.3 (let made = has.4 in
      omega (arith, made))
      (subst (λ (e : ℕ × ℕ). Reaches p.1.now all space 1 (leaf_for p.1 space e.0 e.1 leaf) (HasLeaf leaf)) (λ i. (has.2 i, has.1 i))
      (leaf_for-is p.1 leaf has.0)))

  -- the root is there
  abbrev pub HasRoot : Work → ℕ → ℕ × Work → Type 0
  HasRoot w leaf p = Stands all space begun old p.1 1 (directory_count leaf) leaf × (root_number (seen p.1.now all space) ≡ p.0)
      × ((q : PageId) → IsTrue (is_unknown p.1.now q) → IsTrue (is_unknown w.now q))
      × (next_of (seen p.1.now all space) ≤ next_of (seen w.now all space) + 1)

  root_for-is : (w : Work) (leaf : ℕ) → Stands all space begun old w (directory_count leaf) (directory_count leaf) leaf
      → Reaches w.now all space 1 (root_for w space (root_number (seen w.now all space)) leaf) (HasRoot w leaf)
  root_for-is w leaf s = at (leaf == 0) refl
    where
      made : leaf ≡ 0 → old ≡ 0 → (z : Stands all space begun 0 w 0 0 0)
          → Reaches w.now all space 1 (child_in w space DIRECTORY_KIND 0 18)
          (λ p. (p ≡ (next_in w space, with_child DIRECTORY_KIND w space 0 18)) × (next_page (bytes (seen w.now all space) 0) < LAST_PAGE))
          → Reaches w.now all space 1 (child_in w space DIRECTORY_KIND 0 18) (HasRoot w leaf)
      made none empty z (inl given) = inl (
        given.0,
        given.1,
        subst (HasRoot w leaf) (sym given.2.0) (
          subst (λ (e : ℕ × ℕ). Stands all space begun e.0 (with_child DIRECTORY_KIND w space 0 18) 1 (directory_count e.1) e.1)
              (λ i. (sym empty i, sym none i)) (rooted_stands all space begun w z given.2.1),
          rooted_number all space begun w z given.2.1,
          λ q is. unknown_before DIRECTORY_KIND w space 0 18 q is,
          let next = rooted_next all space begun w z given.2.1 in omega (arith, next),
        ),
      )
      made none empty z (inr stop) = inr stop

      at : (b : Bool) → (leaf == 0) ≡ b
          → Reaches w.now all space 1 (if b then child_in w space DIRECTORY_KIND 0 18 else Ok (root_number (seen w.now all space), w)) (HasRoot w leaf)
      at true is =
          let none = eqb-true leaf 0 is in let few = s.leaf_numbers in let empty : old ≡ 0 = omega (arith, none, few) in
          made none empty (subst (λ (e : ℕ × ℕ). Stands all space begun e.0 w (directory_count e.1) (directory_count e.1) e.1) (λ i. (empty i, none i)) s)
          (child-is w (directory_count leaf) (directory_count leaf) leaf s DIRECTORY_KIND 0 18)
      at false is =
          let some : leaf ≢ 0 = λ none. true≢false (sym (eq-eqb leaf 0 none) ∙ is) in
          inl (
            (root_number (seen w.now all space), w),
            refl,
            (
              record {
                table = one_root (seen w.now all space) (directory_count leaf) 1 (directory_count leaf) leaf (λ one. omega (arith, some)) s.table;
                there = s.there;
                fields = s.fields;
                leaf_bytes = s.leaf_bytes;
                leaf_numbers = s.leaf_numbers;
                rooted = λ one. omega arith;
                placed = s.placed;
              },
              refl,
              λ q unknown. unknown,
              omega arith,
            ),
          )

  -- a leaf is made, with all above it, or a page is needed or numbers are spent for three pages,
  -- where the table stands with as many leaves, which are fewer than 511 times 511
  pub grown-is : (w : Work) (leaf : ℕ) → Stands all space begun old w (directory_count leaf) (directory_count leaf) leaf → leaf < 261121
      → Reaches w.now all space 3 (grown_in w space (root_number (seen w.now all space)) leaf) (HasLeaf leaf)
  grown-is w leaf s few =
      reaches_then w.now all space 3 (root_for w space (root_number (seen w.now all space)) leaf) (λ rooted. directed_in rooted.1 space rooted.0 leaf)
      (HasRoot w leaf) (HasLeaf leaf)
      (more_reach w.now (omega arith) (root_for-is w leaf s)) (λ p has.
      reaches_before p.1.now w.now all space 2 3 (directed_in p.1 space p.0 leaf) (HasLeaf leaf) has.2 (let made = has.3 in omega (arith, made))
      (subst (λ r. Reaches p.1.now all space 2 (directed_in p.1 space r leaf) (HasLeaf leaf)) has.1 (directed-is p.1 leaf has.0 few)))
