-- How a call ends, by what it was asked for.
use Rattle.std.proofs.Common.{◌≡◌, ℕ, ◌/◌, ◌%◌, ◌<◌, ◌≤◌, ◌^◌, ◌==◌, ◌||◌, ◌⊎◌, inl, inr, ⊎_elim, Bool, true, false, nat_le, is_some, List, [], ◌∷◌, Option, Some, None, IsSome, Result, Ok, Err, MatchResult, refl, sym, ap, ◌∙◌, subst, true≢false, eq-eqb, arith, IsTrue, if◌then◌else◌}
use Rattle.std.proofs.lemmas.Bool.{eqb-true, leb-true, leb-false}
use Rattle.std.specs.FinMap as map
use Rattle.page_bytes.specs.declared.ids.Space.{Space}
use Rattle.page_bytes.specs.declared.ids.PageId.{PageId}
use Rattle.page_bytes.specs.declared.ids.Addr.{Addr}
use Rattle.page_bytes.specs.declared.end.PageEnd.{PageEnd}
use Rattle.page_bytes.specs.declared.end.PageEnd.TheVariants.{Damaged}
use Rattle.page_bytes.specs.PageNumber.{page_number}
use Rattle.page_bytes.specs.Head.{head_of}
use Rattle.page_bytes.specs.Known.{Known, is_there}
use Rattle.page_bytes.specs.Work.{Work}
use Rattle.indirection.specs.declared.forms.Leaf.{Leaf}
use Rattle.indirection.specs.declared.forms.Numbers.{Numbers}
use Rattle.indirection.specs.declared.forms.Entry.TheVariants.{Taken, Free}
use Rattle.indirection.specs.Forms.{leaf_index, entry_index, first_free, highest}
use Rattle.page_bytes.specs.Links.{and_then, page_in}
use Rattle.indirection.specs.Finding.{numbers_in, found_in}
use Rattle.indirection.specs.Writing.{with_number, with_entry_in}
use Rattle.indirection.specs.Adding.{taken_leaf, taken_in, changed_in, removed_in}
use Rattle.page_bytes.specs.Answers.{Answers, IsStop, IsNeed}
use Rattle.page_bytes.specs.Seen.{seen, bytes}
use Rattle.indirection.specs.Meaning.{root_number, leaf_number, page_at, place_at, NodeNumbers, is_listed, EntryMeans, IsFreeList, MeansNumbers, with_address, without_number, IsRefused}
use Rattle.page_bytes.proofs.PageWrites.{there_with_page}
use Rattle.indirection.proofs.Findings.{out_or_in, means_numbers-is, means_found-is}
use Rattle.page_bytes.proofs.Askings.{Needs, Gives, gives_then}
use Rattle.indirection.proofs.Changing.{means_changed, means_removed}

-- a call that gives a value or needs a page
pub ended : {X : Type 0} (k : Known) (all : PageId → Option (List ℕ)) (space : Space) (s : Result (X × Work) PageEnd) (x : X) (w : Work) (P : Type 0)
    (r : Result X PageEnd) (w' : Work)
    (Q : X → Work → Type 0) (R : PageEnd → Type 0)
    → Gives k all space s (x, w) P → Answers s r w' → (P → Q x w) → MatchResult r (λ x. Q x w') (λ e. IsStop k all space e ⊎ R e)
ended k all space s x w P (Ok y) w' Q R (inl given) answer holds =
    let is = subst (λ s. Answers s (Ok y) w') given.0 answer in
    subst (λ (p : _ × Work). Q p.0 p.1) (λ i. (sym is.0 i, sym is.1 i)) (holds given.1)
ended k all space s x w P (Err e) w' Q R (inl given) answer holds = inl (inl (subst (λ s. Answers s (Err e) w') given.0 answer))
ended k all space s x w P (Ok y) w' Q R (inr need) answer holds = absurd (subst (λ s. Answers s (Ok y) w') need.1.0 answer)
ended k all space s x w P (Err e) w' Q R (inr need) answer holds =
    ⊎_elim (λ is. inl (inr (subst (IsNeed k all space) (sym is) need.1.1))) (λ is. inl (inl is)) (subst (λ s. Answers s (Err e) w') need.1.0 answer)

-- a call that refuses or needs a page
pub refused_or_needs : {X : Type 0} (k : Known) (all : PageId → Option (List ℕ)) (space : Space) (s : Result (X × Work) PageEnd) (end : PageEnd)
    (r : Result X PageEnd) (w' : Work)
    (Q : X → Work → Type 0) (R : PageEnd → Type 0)
    → (s ≡ Err end) ⊎ Needs k all space s → Answers s r w' → R end → MatchResult r (λ x. Q x w') (λ e. IsStop k all space e ⊎ R e)
refused_or_needs k all space s end (Ok y) w' Q R (inl is) answer holds = absurd (subst (λ s. Answers s (Ok y) w') is answer)
refused_or_needs k all space s end (Err e) w' Q R (inl is) answer holds =
    ⊎_elim (λ same. inr (subst R (sym same) holds)) (λ none. inl (inl none)) (subst (λ s. Answers s (Err e) w') is answer)
refused_or_needs k all space s end (Ok y) w' Q R (inr need) answer holds = absurd (subst (λ s. Answers s (Ok y) w') need.1.0 answer)
refused_or_needs k all space s end (Err e) w' Q R (inr need) answer holds =
    ⊎_elim (λ is. inl (inr (subst (IsNeed k all space) (sym is) need.1.1))) (λ is. inl (inl is)) (subst (λ s. Answers s (Err e) w') need.1.0 answer)

-- a refusal after what may need a page
pub then_refused : {X Y : Type 0} {P : Type 0} (k : Known) (all : PageId → Option (List ℕ)) (space : Space) (r : Result X PageEnd) (f : X → Result Y PageEnd)
    (x : X) (end : PageEnd)
    → Gives k all space r x P → (P → (f x ≡ Err end) ⊎ Needs k all space (f x)) → (and_then r f ≡ Err end) ⊎ Needs k all space (and_then r f)
then_refused {P = P} k all space r f x end given more = ⊎_elim
    (λ (is : (r ≡ Ok x) × P). subst (λ r. (and_then r f ≡ Err end) ⊎ Needs k all space (and_then r f)) (sym is.0) (more is.1))
    (λ need. inr (need.0, (ap (λ r. and_then r f) need.1.0, need.1.1)))
    given

stays_refused : {X Y : Type 0} (k : Known) (all : PageId → Option (List ℕ)) (space : Space) (r : Result X PageEnd) (f : X → Result Y PageEnd) (end : PageEnd)
    → (r ≡ Err end) ⊎ Needs k all space r → (and_then r f ≡ Err end) ⊎ Needs k all space (and_then r f)
stays_refused k all space r f end (inl is) = inl (ap (λ r. and_then r f) is)
stays_refused k all space r f end (inr need) = inr (need.0, (ap (λ r. and_then r f) need.1.0, need.1.1))

module _ (w : Work) (all : PageId → Option (List ℕ)) (space : Space) (m : NodeNumbers) (means : MeansNumbers (seen w.now all space) m) (h : ℕ) where
  abbrev numbers : Numbers
  numbers = record {
    root = root_number (seen w.now all space);
    first_free = first_free (bytes (seen w.now all space) 0);
    highest =
        highest (bytes (seen w.now all space) 0);
  }

  -- the leaf of a number that is there
  taken-is : (a : Addr) → map.get m.taken h ≡ Some a
      → Gives w.now all space (taken_in w.now space
      (record {
        root = root_number (seen w.now all space);
        first_free = first_free (bytes (seen w.now all space) 0);
        highest =
            highest (bytes (seen w.now all space) 0);
      }) h)
      (leaf_number (seen w.now all space) (leaf_index h))
      (IsTrue (is_there w.now (page_in space (leaf_number (seen w.now all space) (leaf_index h)))) × (0 < h) × (h ≤ m.highest))
  taken-is a taken = out_or_in h (highest (bytes (seen w.now all space) 0))
      (λ out is. absurd (some_none a (sym taken
      ∙ (means.outside h (⊎_elim (λ none. inl none) (λ past. let same = means.highest in inr (omega (arith, same, past))) out)).0)))
      (λ positive inside is.
      let below : h ≤ m.highest = let same = means.highest in omega (arith, same, inside) in
      subst (λ b. Gives w.now all space
      (if b then Err (Damaged (head_of space)) else and_then (found_in w.now space (root_number (seen w.now all space)) h)
      (λ leaf. taken_leaf space leaf.number leaf.entry)) (leaf_number (seen w.now all space) (leaf_index h))
      (IsTrue (is_there w.now (page_in space (leaf_number (seen w.now all space) (leaf_index h)))) × (0 < h) × (h ≤ m.highest))) (sym is)
      (gives_then w.now all space (found_in w.now space (root_number (seen w.now all space)) h) (λ (leaf : Leaf). taken_leaf space leaf.number leaf.entry) _
      (leaf_number (seen w.now all space) (leaf_index h)) (means_found-is w.now all space m means h positive below)
      (λ there. inl (
        is_taken (leaf_number (seen w.now all space) (leaf_index h)) (is_listed m.free h) (page_at (seen w.now all space) h) (place_at (seen w.now all space) h)
            (subst (λ o. EntryMeans o (is_listed m.free h) (page_at (seen w.now all space) h) (place_at (seen w.now all space) h)) taken
            (means.entry h positive below)),
        (there, positive, below),
      ))))
    where
      some_none : (a : Addr) → Some a ≡ None → ⊥
      some_none a is = cc

      is_taken : (leaf : ℕ) (listed : Bool) (page place : ℕ) → EntryMeans (Some a) listed page place
          → taken_leaf space leaf (if page == 0 then Free place else Taken (record { layer = page / 256; page = page % 256; at = place })) ≡ Ok leaf
      is_taken leaf listed page place is = at (page == 0) refl
        where
          at : (b : Bool) → (page == 0) ≡ b
              → taken_leaf space leaf (if b then Free place else Taken (record { layer = page / 256; page = page % 256; at = place })) ≡ Ok leaf
          at true none = let zero_is = eqb-true page 0 none in let some = is.1 in absurd (omega (arith, zero_is, some))
          at false past = refl

  -- of a number that isn't there
  not_taken-is : map.get m.taken h ≡ None → let s =
      taken_in w.now space (record {
        root = root_number (seen w.now all space);
        first_free = first_free (bytes (seen w.now all space) 0);
        highest =
            highest (bytes (seen w.now all space) 0);
      }) h in (s ≡ Err (Damaged (head_of space))) ⊎ Needs w.now all space s
  not_taken-is none = out_or_in h (highest (bytes (seen w.now all space) 0))
      (λ out is. inl (ap (λ b. if b then Err (Damaged (head_of space)) else and_then (found_in w.now space (root_number (seen w.now all space)) h)
      (λ leaf. taken_leaf space leaf.number leaf.entry)) is))
      (λ positive inside is.
      let below : h ≤ m.highest = let same = means.highest in omega (arith, same, inside) in
      subst (λ b. let s : Result ℕ PageEnd =
      if b then Err (Damaged (head_of space)) else and_then (found_in w.now space (root_number (seen w.now all space)) h)
      (λ leaf. taken_leaf space leaf.number leaf.entry) in (s ≡ Err (Damaged (head_of space))) ⊎ Needs w.now all space s) (sym is)
      (then_refused w.now all space (found_in w.now space (root_number (seen w.now all space)) h) (λ (leaf : Leaf). taken_leaf space leaf.number leaf.entry) _
      (Damaged (head_of space)) (means_found-is w.now all space m means h positive below)
      (λ there. inl (is_free (leaf_number (seen w.now all space) (leaf_index h)) (is_listed m.free h) (page_at (seen w.now all space) h)
      (place_at (seen w.now all space) h)
      (subst (λ o. EntryMeans o (is_listed m.free h) (page_at (seen w.now all space) h) (place_at (seen w.now all space) h)) none
      (means.entry h positive below))))))
    where
      is_free : (leaf : ℕ) (listed : Bool) (page place : ℕ) → EntryMeans None listed page place
          → taken_leaf space leaf (if page == 0 then Free place else Taken (record { layer = page / 256; page = page % 256; at = place }))
          ≡ Err (Damaged (head_of space))
      is_free leaf listed page place is =
          ap (λ b. taken_leaf space leaf (if b then Free place else Taken (record { layer = page / 256; page = page % 256; at = place }))) (eq-eqb page 0 is.0)

  -- the first free number is no more than the highest
  pub free_small : (hs : List ℕ) (first : ℕ) → ((x : ℕ) → is_listed hs x ≡ true → is_listed m.free x ≡ true) → IsFreeList (seen w.now all space) first hs
      → first ≤ m.highest
  free_small [] first part is = omega (arith, is)
  free_small (y ∷ hs) first part is =
      let inside : y ≤ m.highest = at (nat_le y m.highest) refl in let same = is.0 in omega (arith, same, inside)
    where
      at : (b : Bool) → nat_le y m.highest ≡ b → y ≤ m.highest
      at true up = leb-true y m.highest up
      at false past = let over = leb-false y m.highest past in
          absurd (true≢false (sym (part y (ap (λ b. b || is_listed hs y) (eq-eqb y y refl))) ∙ (means.outside y (inr (omega (arith, over)))).1))

  -- what the call `change` does to the numbers
  pub change_means : (to : Addr) → to.page < 256 → to.at < 65536 → to.layer < 2 ^ 56 → 0 < page_number to → (r : Result (Unit {0}) PageEnd) (w' : Work)
      → Answers (changed_in w space h to) r w'
      → MatchResult r (λ done. IsSome (map.get m.taken h) × MeansNumbers (seen w'.now all space) (with_address m h to))
      (λ end. IsRefused w.now all space (map.get m.taken h) end)
  change_means to page_small at_small layer_small some r w' answer = at (map.get m.taken h) refl
    where
      at : (o : Option Addr) → map.get m.taken h ≡ o
          → MatchResult r (λ done. IsSome (map.get m.taken h) × MeansNumbers (seen w'.now all space) (with_address m h to))
          (λ end. IsRefused w.now all space (map.get m.taken h) end)
      at (Some a) is = ended w.now all space (changed_in w space h to) tt
          (with_entry_in w space (leaf_number (seen w.now all space) (leaf_index h)) (entry_index h) (page_number to) to.at)
          (IsTrue (is_there w.now (page_in space (leaf_number (seen w.now all space) (leaf_index h)))) × (0 < h) × (h ≤ m.highest)) r w'
          (λ done v. IsSome (map.get m.taken h) × MeansNumbers (seen v.now all space) (with_address m h to))
          (λ end. (map.get m.taken h ≡ None) × (end ≡ Damaged (head_of space)))
          (gives_then w.now all space (numbers_in w.now space)
          (λ (numbers : Numbers). and_then (taken_in w.now space numbers h)
          (λ leaf. Ok (tt, with_entry_in w space leaf (entry_index h) (page_number to) to.at)))
          _ (tt, with_entry_in w space (leaf_number (seen w.now all space) (leaf_index h)) (entry_index h) (page_number to) to.at)
          (means_numbers-is w.now all space m means) (λ head_there.
          gives_then w.now all space
          (taken_in w.now space (record {
            root = root_number (seen w.now all space);
            first_free = first_free (bytes (seen w.now all space) 0);
            highest =
                highest (bytes (seen w.now all space) 0);
          }) h)
          (λ (leaf : ℕ). Ok (tt, with_entry_in w space leaf (entry_index h) (page_number to) to.at)) _ _ (taken-is a is) (λ there. inl (refl, there))))
          answer
          (λ there. (ap is_some is, means_changed w all space m means h there.1 there.2 there.0 a is to page_small at_small layer_small some))
      at None is = refused_or_needs w.now all space (changed_in w space h to) (Damaged (head_of space)) r w'
          (λ done v. IsSome (map.get m.taken h) × MeansNumbers (seen v.now all space) (with_address m h to))
          (λ end. (map.get m.taken h ≡ None) × (end ≡ Damaged (head_of space)))
          (then_refused w.now all space (numbers_in w.now space)
          (λ (numbers : Numbers). and_then (taken_in w.now space numbers h)
          (λ leaf. Ok (tt, with_entry_in w space leaf (entry_index h) (page_number to) to.at)))
          _ (Damaged (head_of space)) (means_numbers-is w.now all space m means) (λ head_there.
          stays_refused w.now all space _ _ (Damaged (head_of space)) (not_taken-is is)))
          answer (is, refl)

  -- and what `remove` does
  pub remove_means : (r : Result (Unit {0}) PageEnd) (w' : Work) → Answers (removed_in w space h) r w'
      → MatchResult r (λ done. IsSome (map.get m.taken h) × MeansNumbers (seen w'.now all space) (without_number m h))
      (λ end. IsRefused w.now all space (map.get m.taken h) end)
  remove_means r w' answer = at (map.get m.taken h) refl
    where
      at : (o : Option Addr) → map.get m.taken h ≡ o
          → MatchResult r (λ done. IsSome (map.get m.taken h) × MeansNumbers (seen w'.now all space) (without_number m h))
          (λ end. IsRefused w.now all space (map.get m.taken h) end)
      at (Some a) is = ended w.now all space (removed_in w space h) tt
          (with_number 4 (with_entry_in w space (leaf_number (seen w.now all space) (leaf_index h)) (entry_index h) 0
          (first_free (bytes (seen w.now all space) 0))) space 0 34 h)
          (IsTrue (is_there w.now (page_in space 0))
          × (IsTrue (is_there w.now (page_in space (leaf_number (seen w.now all space) (leaf_index h)))) × (0 < h) × (h ≤ m.highest))) r w'
          (λ done v. IsSome (map.get m.taken h) × MeansNumbers (seen v.now all space) (without_number m h))
          (λ end. (map.get m.taken h ≡ None) × (end ≡ Damaged (head_of space)))
          (gives_then w.now all space (numbers_in w.now space)
          (λ (numbers : Numbers). and_then (taken_in w.now space numbers h)
          (λ leaf. Ok (tt, with_number 4 (with_entry_in w space leaf (entry_index h) 0 numbers.first_free) space 0 34 h)))
          _ _ (means_numbers-is w.now all space m means) (λ head_there.
          gives_then w.now all space
          (taken_in w.now space (record {
            root = root_number (seen w.now all space);
            first_free = first_free (bytes (seen w.now all space) 0);
            highest =
                highest (bytes (seen w.now all space) 0);
          }) h)
          (λ (leaf : ℕ). Ok (tt, with_number 4 (with_entry_in w space leaf (entry_index h) 0 (first_free (bytes (seen w.now all space) 0))) space 0 34 h)) _ _
          (taken-is a is) (λ there. inl (refl, (head_there, there)))))
          answer
          (λ there. (
            ap is_some is,
            means_removed w all space m means h there.1.1 there.1.2 there.1.0 a is
                (there_with_page w (page_in space (leaf_number (seen w.now all space) (leaf_index h))) (page_in space 0) _ there.0)
                (let low = free_small m.free (first_free (bytes (seen w.now all space) 0)) (λ x listed. listed) means.free in let most = means.most in
                omega (arith, low, most)),
          ))
      at None is = refused_or_needs w.now all space (removed_in w space h) (Damaged (head_of space)) r w'
          (λ done v. IsSome (map.get m.taken h) × MeansNumbers (seen v.now all space) (without_number m h))
          (λ end. (map.get m.taken h ≡ None) × (end ≡ Damaged (head_of space)))
          (then_refused w.now all space (numbers_in w.now space)
          (λ (numbers : Numbers). and_then (taken_in w.now space numbers h)
          (λ leaf. Ok (tt, with_number 4 (with_entry_in w space leaf (entry_index h) 0 numbers.first_free) space 0 34 h)))
          _ (Damaged (head_of space)) (means_numbers-is w.now all space m means) (λ head_there.
          stays_refused w.now all space _ _ (Damaged (head_of space)) (not_taken-is is)))
          answer (is, refl)
