-- Two lists in order, with ties alike, are one list, and an insertion sort is in order.
use Rattle.std.proofs.Common.{◌≡◌, ℕ, zero, suc, ◌<◌, ◌≤◌, Bool, true, false, cond, not, ◌&&◌, List, [], ◌∷◌, ◌++◌, length, get_or, refl, sym, ap, ◌∙◌, subst, arith, append_assoc, append-nil}
use Rattle.std.specs.List.{filter}
use Rattle.std.specs.List.Sorted.{ties, IsSortedBy, IsStableBy}
use Rattle.std.specs.Cmp.{IsStrictWeakOrder}
use Rattle.std.proofs.lemmas.List.Sorted.{sorted_far}
use Rattle.std.proofs.lemmas.Bool.{false≢true}
use Rattle.std.specs.Prelude.{if◌then◌else◌}

-- after all that are not greater
abbrev pub placed : {A : Type 0} → (A → A → Bool) → A → List A → List A
placed lt x [] = x ∷ []
placed lt x (y ∷ ys) = if lt x y then x ∷ y ∷ ys else y ∷ placed lt x ys

-- one after another
abbrev pub placed_all : {A : Type 0} → (A → A → Bool) → List A → List A → List A
placed_all lt [] ys = ys
placed_all lt (x ∷ xs) ys = placed_all lt xs (placed lt x ys)

module _ {A : Type 0} (lt : A → A → Bool) (o : IsStrictWeakOrder lt) where
  -- none of these is below x
  abbrev pub NoneBelow : A → List A → Type 0
  NoneBelow x [] = Unit {0}
  NoneBelow x (y ∷ ys) = (lt y x ≡ false) × NoneBelow x ys

  abbrev pub Up : List A → Type 0
  Up [] = Unit {0}
  Up (x ∷ xs) = NoneBelow x xs × Up xs

  irrefl : (x : A) → lt x x ≡ false
  irrefl x = go (lt x x) refl
    where
      go : (b : Bool) → lt x x ≡ b → lt x x ≡ false
      go true e = o.one_way x x e
      go false e = e

  ties_self : (x : A) → ties lt x x ≡ true
  ties_self x = rw (irrefl x) refl

  -- what a tie says
  fst_tie : (a b : Bool) → (not a && not b) ≡ true → a ≡ false
  fst_tie true b e = absurd (false≢true e)
  fst_tie false b e = refl

  snd_tie : (a b : Bool) → (not a && not b) ≡ true → b ≡ false
  snd_tie true b e = absurd (false≢true e)
  snd_tie false true e = absurd (false≢true e)
  snd_tie false false e = refl

  both_tie : (a b : Bool) → a ≡ false → b ≡ false → (not a && not b) ≡ true
  both_tie a b p q = rw (p, q) refl

  no_tie : (a b : Bool) → a ≡ true → (not a && not b) ≡ false
  no_tie a b p = rw p refl

  no_tie_back : (a b : Bool) → b ≡ true → (not a && not b) ≡ false
  no_tie_back true b p = refl
  no_tie_back false b p = rw p refl

  pub weaken : (x y : A) (zs : List A) → NoneBelow y zs → lt y x ≡ false → NoneBelow x zs
  weaken x y [] h e = tt
  weaken x y (z ∷ zs) h e = (o.chain z y x h.0 e, weaken x y zs h.1 e)

  -- where something in xs ties with y, x is not above y
  found : (x y : A) (xs r : List A) → filter (ties lt y) xs ≡ y ∷ r → NoneBelow x xs → lt y x ≡ false
  found x y [] r e h = absurd (cc)
  found x y (w ∷ ws) r e h = go (ties lt y w) refl (λ q. found x y ws r q h.1)
    where
      go : (b : Bool) → ties lt y w ≡ b → (filter (ties lt y) ws ≡ y ∷ r → lt y x ≡ false) → lt y x ≡ false
      go true t again = o.chain y w x (fst_tie (lt y w) (lt w y) t) h.0
      go false t again = again (subst (λ b. cond b (w ∷ filter (ties lt y) ws) (filter (ties lt y) ws) ≡ y ∷ r) t e)

  at_self : (x : A) (xs : List A) → filter (ties lt x) (x ∷ xs) ≡ x ∷ filter (ties lt x) xs
  at_self x xs = rw (ties_self x) refl

  tails : (b : Bool) (x : A) (us vs : List A) → cond b (x ∷ us) us ≡ cond b (x ∷ vs) vs → us ≡ vs
  tails true x us vs e = cc
  tails false x us vs e = e

  heads : (x y : A) (us vs : List A) → x ∷ us ≡ y ∷ vs → x ≡ y
  heads x y us vs e = cc

  pub one_list : (xs ys : List A) → Up xs → Up ys → IsStableBy lt xs ys → xs ≡ ys
  one_list [] [] u v s = refl
  one_list [] (y ∷ ys) u v s = let e = sym (at_self y ys) ∙ s y in absurd (cc)
  one_list (x ∷ xs) [] u v s = let e = s x ∙ at_self x xs in absurd (cc)
  one_list (x ∷ xs) (y ∷ ys) u v s =
      let a = found x y (x ∷ xs) (filter (ties lt y) ys) (sym (s y) ∙ at_self y ys) (irrefl x, u.0) in
      let b = found y x (y ∷ ys) (filter (ties lt x) xs) (s x ∙ at_self x xs) (irrefl y, v.0) in
      let t : ties lt y x ≡ true = both_tie (lt y x) (lt x y) a b in
      let same : y ≡ x = heads y x (filter (ties lt y) ys) (filter (ties lt y) xs) (sym (at_self y ys) ∙ (s y ∙ ap (λ b. cond b (x ∷ filter (ties lt y) xs) (filter (ties lt y) xs)) t)) in
      let rest : (z : A) → filter (ties lt z) ys ≡ filter (ties lt z) xs = λ z. tails (ties lt z x) x (filter (ties lt z) ys) (filter (ties lt z) xs)
      (subst (λ w. filter (ties lt z) (w ∷ ys) ≡ filter (ties lt z) (x ∷ xs)) same (s z)) in
      ap (λ zs. x ∷ zs) (one_list xs ys u.1 v.1 rest) ∙ ap (λ w. w ∷ ys) (sym same)

  -- a sort's clause, by recursion
  none_from : (x : A) (xs : List A) → ((j : ℕ) (d : A) → j < length xs → lt (get_or xs j d) x ≡ false) → NoneBelow x xs
  none_from x [] h = tt
  none_from x (y ∷ ys) h = (h zero y (omega arith), none_from x ys (λ j d w. h (suc j) d (omega arith)))

  up_from : (xs : List A) → ((i j : ℕ) (d : A) → i ≤ j → j < length xs → lt (get_or xs j d) (get_or xs i d) ≡ false) → Up xs
  up_from [] h = tt
  up_from (x ∷ xs) h = (none_from x xs (λ j d w. h zero (suc j) d (omega arith) (omega arith)), up_from xs (λ i j d p q. h (suc i) (suc j) d (omega arith) (omega arith)))

  pub up : (xs : List A) → IsSortedBy lt xs → Up xs
  up xs h = up_from xs (sorted_far lt o xs h)

  -- the insertion sort
  none_placed : (w x : A) (ys : List A) → lt x w ≡ false → NoneBelow w ys → NoneBelow w (placed lt x ys)
  none_placed w x [] e h = (e, tt)
  none_placed w x (y ∷ ys) e h = go (lt x y) (none_placed w x ys e h.1)
    where
      go : (b : Bool) → NoneBelow w (placed lt x ys) → NoneBelow w (cond b (x ∷ y ∷ ys) (y ∷ placed lt x ys))
      go true rest = (e, h)
      go false rest = (h.0, rest)

  up_placed : (x : A) (ys : List A) → Up ys → Up (placed lt x ys)
  up_placed x [] u = (tt, tt)
  up_placed x (y ∷ ys) u = go (lt x y) refl (up_placed x ys u.1)
    where
      go : (b : Bool) → lt x y ≡ b → Up (placed lt x ys) → Up (cond b (x ∷ y ∷ ys) (y ∷ placed lt x ys))
      go true e rest = ((o.one_way x y e, weaken x y ys u.0 (o.one_way x y e)), u)
      go false e rest = (none_placed y x ys e u.0, rest)

  -- below the head, and so no tie with what follows
  none_tie : (z x y : A) (ys : List A) → ties lt z x ≡ true → lt x y ≡ true → NoneBelow y ys → filter (ties lt z) ys ≡ []
  none_tie z x y [] t e h = refl
  none_tie z x y (w ∷ ws) t e h = rw (here (lt x w) refl) (none_tie z x y ws t e h.1)
    where
      far : (b : Bool) → ties lt z w ≡ b → lt x w ≡ false → ties lt z w ≡ false
      far b k f = absurd (false≢true (sym (o.chain x w y f h.0) ∙ e))

      near : (b : Bool) → ties lt z w ≡ b → lt x w ≡ true → ties lt z w ≡ false
      near true k f = absurd (false≢true (sym (o.chain x z w (snd_tie (lt z x) (lt x z) t) (fst_tie (lt z w) (lt w z) k)) ∙ f))
      near false k f = k

      here : (b : Bool) → lt x w ≡ b → ties lt z w ≡ false
      here true e2 = near (ties lt z w) refl e2
      here false e2 = far (ties lt z w) refl e2

  filter_placed : (z x : A) (ys : List A) → Up ys → filter (ties lt z) (placed lt x ys) ≡ filter (ties lt z) ys ++ filter (ties lt z) (x ∷ [])
  filter_placed z x [] u = refl
  filter_placed z x (y ∷ ys) u = go (lt x y) refl (filter_placed z x ys u.1)
    where
      after : (b : Bool) (us vs more : List A) → us ≡ vs ++ more → cond b (y ∷ us) us ≡ cond b (y ∷ vs) vs ++ more
      after true us vs more e = ap (λ l. y ∷ l) e
      after false us vs more e = e

      front : (b : Bool) → ties lt z x ≡ b → lt x y ≡ true → filter (ties lt z) (x ∷ y ∷ ys) ≡ filter (ties lt z) (y ∷ ys) ++ filter (ties lt z) (x ∷ [])
      front true t e = rw (none_tie z x y (y ∷ ys) t e (irrefl y, u.0)) refl
      front false t e = rw t (sym (append-nil _))

      go : (b : Bool) → lt x y ≡ b → filter (ties lt z) (placed lt x ys) ≡ filter (ties lt z) ys ++ filter (ties lt z) (x ∷ []) → filter (ties lt z) (cond b (x ∷ y ∷ ys) (y ∷ placed lt x ys)) ≡ filter (ties lt z) (y ∷ ys) ++ filter (ties lt z) (x ∷ [])
      go true e rest = front (ties lt z x) refl e
      go false e rest = after (ties lt z y) _ _ _ rest

  pub up_all : (xs ys : List A) → Up ys → Up (placed_all lt xs ys)
  up_all [] ys u = u
  up_all (x ∷ xs) ys u = up_all xs (placed lt x ys) (up_placed x ys u)

  filter_all : (z : A) (xs ys : List A) → Up ys → filter (ties lt z) (placed_all lt xs ys) ≡ filter (ties lt z) ys ++ filter (ties lt z) xs
  filter_all z [] ys u = sym (append-nil _)
  filter_all z (x ∷ xs) ys u =
      filter_all z xs (placed lt x ys) (up_placed x ys u) ∙ (ap (λ l. l ++ filter (ties lt z) xs) (filter_placed z x ys u) ∙ (append_assoc (filter (ties lt z) ys) (filter (ties lt z) (x ∷ [])) (filter (ties lt z) xs) ∙ ap (λ l. filter (ties lt z) ys ++ l) (joined (ties lt z x))))
    where
      joined : (b : Bool) → cond b (x ∷ []) [] ++ filter (ties lt z) xs ≡ cond b (x ∷ filter (ties lt z) xs) (filter (ties lt z) xs)
      joined true = refl
      joined false = refl

  -- what a stable sort leaves is what the insertion sort gives
  pub sort_is : (xs ys : List A) → IsSortedBy lt ys → IsStableBy lt xs ys → ys ≡ placed_all lt xs []
  sort_is xs ys h s = sym (one_list (placed_all lt xs []) ys (up_all xs [] tt) (up ys h) (λ z. s z ∙ sym (filter_all z xs [] tt)))
