-- Unions of lists in order.
use Rattle.std.proofs.Common.{◌≡◌, List, [], ◌∷◌, ◌++◌, map, length, refl, sym, ap, ◌∙◌, subst, min, arith, Ordering, ◌<◌, ◌≤◌, append-nil}
use Rattle.std.specs.declared.cmp.Ordering.TheVariants.{Less, Equal, Greater}
use Rattle.std.specs.Ordering.{ordering_reverse}
use Rattle.std.specs.Cmp.{IsTotalOrder, alike_right}
use Rattle.std.proofs.lemmas.List.{map-append}
use Rattle.xml_model.specs.DocumentOrder.{by_first, into, union, in_order}
use Rattle.xq_nodes.specs.Joins.{IsBefore, Rises}

module _ {A : Type 0} (cmp : A → A → Ordering) where
  -- a union with nothing is the other list
  pub union-nil : (xs : List A) → union cmp xs [] ≡ xs
  union-nil [] = refl
  union-nil (x ∷ xs) = ap (λ l. x ∷ l) (union-nil xs)

  -- at an end of one of the two
  pub union_ends : (xs ys : List A) → length ys ≡ 0 → union cmp xs ys ≡ xs ++ ys
  union_ends xs [] e = union-nil xs ∙ sym (append-nil xs)
  union_ends xs (y ∷ ys) e = absurd (omega arith)

  -- where one of the two is at its end, the other follows
  pub finish_left : {N : Type 0} (f : N → A) (all left right more : List N) (t : List A) → length left < 1 → map f all ++ union cmp (map f left) (map f right) ≡ t
      → more ≡ all ++ right → map f more ≡ t
  finish_left f all [] right more t e h p = ap (map f) p ∙ (map-append f all right ∙ h)
  finish_left f all (x ∷ xs) right more t e h p = absurd (omega arith)

  pub finish_right : {N : Type 0} (f : N → A) (all left right more : List N) (t : List A) → length right < 1 → map f all ++ union cmp (map f left) (map f right) ≡ t
      → more ≡ all ++ left → map f more ≡ t
  finish_right f all left [] more t e h p =
      ap (map f) p ∙ (map-append f all left ∙ (ap (λ l. map f all ++ l) (sym (union-nil (map f left))) ∙ h))
  finish_right f all left (x ∷ xs) more t e h p = absurd (omega arith)

  -- nothing is done yet
  pub begun : {N : Type 0} (f : N → A) (all left right a b : List N) → all ≡ [] → left ≡ a → right ≡ b → map f all ++ union cmp (map f left) (map f right) ≡ union cmp (map f a) (map f b)
  begun f all left right a b p q r =
      ap (λ l. map f l ++ union cmp (map f left) (map f right)) p ∙ (ap (λ l. union cmp (map f l) (map f right)) q ∙ ap (λ l. union cmp (map f a) (map f l)) r)

  -- where one of the two is at its end, both follow
  pub finish_both : {N : Type 0} (f : N → A) (all left right more most : List N) (t : List A) → min (length left) (length right) ≤ 0
      → map f all ++ union cmp (map f left) (map f right) ≡ t → more ≡ all ++ left → most ≡ more ++ right → map f most ≡ t
  finish_both f all [] right more most t e h p q = finish_left f all [] right most t (omega arith) h (q ∙ ap (λ l. l ++ right) (p ∙ append-nil all))
  finish_both f all (x ∷ xs) [] more most t e h p q = finish_right f all (x ∷ xs) [] most t (omega arith) h (q ∙ (append-nil more ∙ p))
  finish_both f all (x ∷ xs) (y ∷ ys) more most t e h p q = absurd (omega arith)

  -- ---- by the first elements

  pub first_less : (x y : A) (xs ys : List A) → cmp x y ≡ Less → union cmp (x ∷ xs) (y ∷ ys) ≡ x ∷ union cmp xs (y ∷ ys)
  first_less x y xs ys e = ap (λ r. by_first cmp r x y (union cmp xs (y ∷ ys)) (union cmp xs ys) (into cmp x (union cmp xs) ys)) e

  pub first_equal : (x y : A) (xs ys : List A) → cmp x y ≡ Equal → union cmp (x ∷ xs) (y ∷ ys) ≡ x ∷ union cmp xs ys
  first_equal x y xs ys e = ap (λ r. by_first cmp r x y (union cmp xs (y ∷ ys)) (union cmp xs ys) (into cmp x (union cmp xs) ys)) e

  pub first_greater : (x y : A) (xs ys : List A) → cmp x y ≡ Greater → union cmp (x ∷ xs) (y ∷ ys) ≡ y ∷ union cmp (x ∷ xs) ys
  first_greater x y xs ys e = ap (λ r. by_first cmp r x y (union cmp xs (y ∷ ys)) (union cmp xs ys) (into cmp x (union cmp xs) ys)) e

  -- each element of a list is before this one
  abbrev pub IsBehind : List A → A → Type 0
  IsBehind [] y = Unit {0}
  IsBehind (x ∷ xs) y = (cmp x y ≡ Less) × IsBehind xs y

  -- a list that begins behind the end of another one follows it
  pub union_behind : (xs ys : List A) (y : A) → IsBehind xs y → union cmp xs (y ∷ ys) ≡ xs ++ y ∷ ys
  union_behind [] ys y h = refl
  union_behind (x ∷ xs) ys y h = first_less x y xs ys h.0 ∙ ap (λ l. x ∷ l) (union_behind xs ys y h.1)

  -- one that is before all of a list is first
  pub union_one : (x : A) (ys : List A) → IsBefore cmp x ys → union cmp (x ∷ []) ys ≡ x ∷ ys
  union_one x [] h = refl
  union_one x (y ∷ ys) h = first_less x y [] ys h.0

  -- what is in order is its own order
  pub in_order_rises : (xs : List A) → Rises cmp xs → in_order cmp xs ≡ xs
  in_order_rises [] h = refl
  in_order_rises (x ∷ xs) h = ap (union cmp (x ∷ [])) (in_order_rises xs h.1) ∙ union_one x xs h.0

  module _ (o : IsTotalOrder cmp) where
    pub before_more : (x y : A) (zs : List A) → cmp x y ≡ Less → IsBefore cmp y zs → IsBefore cmp x zs
    before_more x y [] e b = tt
    before_more x y (z ∷ zs) e b = (o.trans x y z e b.0, before_more x y zs e b.1)

    before_same : (x y : A) (zs : List A) → cmp x y ≡ Equal → IsBefore cmp y zs → IsBefore cmp x zs
    before_same x y [] q b = tt
    before_same x y (z ∷ zs) q b = (o.congr x y z q ∙ b.0, before_same x y zs q b.1)

    turn : (x y : A) → cmp x y ≡ Greater → cmp y x ≡ Less
    turn x y q = o.antisymm y x ∙ ap ordering_reverse q

    turn_back : (x y : A) → cmp x y ≡ Less → cmp y x ≡ Greater
    turn_back x y q = o.antisymm y x ∙ ap ordering_reverse q

    -- ---- a union of two lists in order is in order

    before_into : (w x : A) (xs ys : List A) → cmp w x ≡ Less → ((vs : List A) → IsBefore cmp w vs → IsBefore cmp w (union cmp xs vs)) → IsBefore cmp w ys
        → IsBefore cmp w (into cmp x (union cmp xs) ys)
    before_into w x xs [] e rest b = (e, rest [] tt)
    before_into w x xs (y ∷ ys) e rest b = go (cmp x y) (before_into w x xs ys e rest b.1)
      where
        go : (r : Ordering) → IsBefore cmp w (into cmp x (union cmp xs) ys)
            → IsBefore cmp w (by_first cmp r x y (union cmp xs (y ∷ ys)) (union cmp xs ys) (into cmp x (union cmp xs) ys))
        go Less later = (e, rest (y ∷ ys) b)
        go Equal later = (e, rest ys b.1)
        go Greater later = (b.0, later)

    before_union : (w : A) (xs ys : List A) → IsBefore cmp w xs → IsBefore cmp w ys → IsBefore cmp w (union cmp xs ys)
    before_union w [] ys a b = b
    before_union w (x ∷ xs) ys a b = before_into w x xs ys a.0 (λ vs. before_union w xs vs a.1) b

    rises_into : (x : A) (xs ys : List A) → IsBefore cmp x xs → ((vs : List A) → Rises cmp vs → Rises cmp (union cmp xs vs)) → Rises cmp ys
        → Rises cmp (into cmp x (union cmp xs) ys)
    rises_into x xs [] a rest u = (subst (λ l. IsBefore cmp x l) (sym (union-nil xs)) a, rest [] tt)
    rises_into x xs (y ∷ ys) a rest u = go (cmp x y) refl (rises_into x xs ys a rest u.1)
      where
        go : (r : Ordering) → cmp x y ≡ r → Rises cmp (into cmp x (union cmp xs) ys)
            → Rises cmp (by_first cmp r x y (union cmp xs (y ∷ ys)) (union cmp xs ys) (into cmp x (union cmp xs) ys))
        go Less e later = (before_union x xs (y ∷ ys) a (e, before_more x y ys e u.0), rest (y ∷ ys) u)
        go Equal e later = (before_union x xs ys a (before_same x y ys e u.0), rest ys u.1)
        go Greater e later =
            (before_into y x xs ys (turn x y e) (λ vs b. before_union y xs vs (before_more y x xs (turn x y e) a) b) u.0, later)

    pub rises_union : (xs ys : List A) → Rises cmp xs → Rises cmp ys → Rises cmp (union cmp xs ys)
    rises_union [] ys a b = b
    rises_union (x ∷ xs) ys a b = rises_into x xs ys a.0 (λ vs. rises_union xs vs a.1) b

    -- ---- a list in order is behind another one where its first is behind the other's last

    last_behind : (x : A) (xs : List A) (y : A) → IsBefore cmp x xs → IsBehind xs y → cmp x y ≡ Less → IsBehind (x ∷ xs) y
    last_behind x xs y b h e = (e, h)

    pub behind_last : (xs : List A) (last y : A) → Rises cmp (xs ++ last ∷ []) → cmp last y ≡ Less → IsBehind (xs ++ last ∷ []) y
    behind_last [] last y r e = (e, tt)
    behind_last (x ∷ xs) last y r e = (o.trans x last y (before_last xs r.0) e, behind_last xs last y r.1 e)
      where
        before_last : (xs : List A) → IsBefore cmp x (xs ++ last ∷ []) → cmp x last ≡ Less
        before_last [] b = b.0
        before_last (w ∷ xs) b = before_last xs b.1

    before_both : (x : A) (xs ys : List A) → IsBefore cmp x xs → IsBefore cmp x ys → IsBefore cmp x (xs ++ ys)
    before_both x [] ys a b = b
    before_both x (w ∷ xs) ys a b = (a.0, before_both x xs ys a.1 b)

    pub rises_behind : (xs ys : List A) (y : A) → Rises cmp xs → Rises cmp (y ∷ ys) → IsBehind xs y → Rises cmp (xs ++ y ∷ ys)
    rises_behind [] ys y a b h = b
    rises_behind (x ∷ xs) ys y a b h = (before_both x xs (y ∷ ys) a.0 (h.0, before_more x y ys h.0 b.0), rises_behind xs ys y a.1 b h.1)

    -- ---- unions are associative, of any lists

    abbrev Alike : List A → List A → List A → Type 0
    Alike xs ys zs = union cmp (union cmp xs ys) zs ≡ union cmp xs (union cmp ys zs)

    -- where the first of a union is known
    module _ (x y z : A) (xs ys zs : List A) where
      on_left : {l : List A} → union cmp (x ∷ xs) (y ∷ ys) ≡ l → union cmp (union cmp (x ∷ xs) (y ∷ ys)) (z ∷ zs) ≡ union cmp l (z ∷ zs)
      on_left e = ap (λ l. union cmp l (z ∷ zs)) e

      on_right : {l : List A} → union cmp (y ∷ ys) (z ∷ zs) ≡ l → union cmp (x ∷ xs) (union cmp (y ∷ ys) (z ∷ zs)) ≡ union cmp (x ∷ xs) l
      on_right e = ap (λ l. union cmp (x ∷ xs) l) e

      -- the first list has the first
      left_first : {l m : List A} → union cmp (union cmp (x ∷ xs) (y ∷ ys)) (z ∷ zs) ≡ x ∷ l → union cmp (x ∷ xs) (union cmp (y ∷ ys) (z ∷ zs)) ≡ x ∷ m → l ≡ m
          → Alike (x ∷ xs) (y ∷ ys) (z ∷ zs)
      left_first e f h = e ∙ (ap (λ l. x ∷ l) h ∙ sym f)

      alike_at : ((vs ws : List A) → Alike xs vs ws) → ((ws : List A) → Alike (x ∷ xs) ys ws) → Alike (x ∷ xs) (y ∷ ys) zs → Alike (x ∷ xs) (y ∷ ys) (z ∷ zs)
      alike_at below inner later = go (cmp x y) (cmp y z) (cmp x z) refl refl refl
        where
          go : (r s t : Ordering) → cmp x y ≡ r → cmp y z ≡ s → cmp x z ≡ t → Alike (x ∷ xs) (y ∷ ys) (z ∷ zs)
          go Less Less t e f g =
              let c = o.trans x y z e f in
              let a = on_left (first_less x y xs ys e) ∙ first_less x z (union cmp xs (y ∷ ys)) zs c in
              let b = on_right (first_less y z ys zs f) ∙ first_less x y xs (union cmp ys (z ∷ zs)) e in
              a ∙ (ap (λ l. x ∷ l) (below (y ∷ ys) (z ∷ zs) ∙ ap (union cmp xs) (first_less y z ys zs f)) ∙ sym b)
          go Less Equal t e f g =
              let c = sym (alike_right o y z x f) ∙ e in
              let a = on_left (first_less x y xs ys e) ∙ first_less x z (union cmp xs (y ∷ ys)) zs c in
              let b = on_right (first_equal y z ys zs f) ∙ first_less x y xs (union cmp ys zs) e in
              a ∙ (ap (λ l. x ∷ l) (below (y ∷ ys) (z ∷ zs) ∙ ap (union cmp xs) (first_equal y z ys zs f)) ∙ sym b)
          go Less Greater Less e f g =
              let a = on_left (first_less x y xs ys e) ∙ first_less x z (union cmp xs (y ∷ ys)) zs g in
              let b = on_right (first_greater y z ys zs f) ∙ first_less x z xs (union cmp (y ∷ ys) zs) g in
              a ∙ (ap (λ l. x ∷ l) (below (y ∷ ys) (z ∷ zs) ∙ ap (union cmp xs) (first_greater y z ys zs f)) ∙ sym b)
          go Less Greater Equal e f g =
              let a = on_left (first_less x y xs ys e) ∙ first_equal x z (union cmp xs (y ∷ ys)) zs g in
              let b = on_right (first_greater y z ys zs f) ∙ first_equal x z xs (union cmp (y ∷ ys) zs) g in
              a ∙ (ap (λ l. x ∷ l) (below (y ∷ ys) zs) ∙ sym b)
          go Less Greater Greater e f g =
              let a = on_left (first_less x y xs ys e) ∙ first_greater x z (union cmp xs (y ∷ ys)) zs g in
              let b = on_right (first_greater y z ys zs f) ∙ first_greater x z xs (union cmp (y ∷ ys) zs) g in
              a ∙ (ap (λ l. z ∷ union cmp l zs) (sym (first_less x y xs ys e)) ∙ (ap (λ l. z ∷ l) later ∙ sym b))
          go Equal Less t e f g =
              let c = o.congr x y z e ∙ f in
              let a = on_left (first_equal x y xs ys e) ∙ first_less x z (union cmp xs ys) zs c in
              let b = on_right (first_less y z ys zs f) ∙ first_equal x y xs (union cmp ys (z ∷ zs)) e in
              a ∙ (ap (λ l. x ∷ l) (below ys (z ∷ zs)) ∙ sym b)
          go Equal Equal t e f g =
              let c = o.congr x y z e ∙ f in
              let a = on_left (first_equal x y xs ys e) ∙ first_equal x z (union cmp xs ys) zs c in
              let b = on_right (first_equal y z ys zs f) ∙ first_equal x y xs (union cmp ys zs) e in
              a ∙ (ap (λ l. x ∷ l) (below ys zs) ∙ sym b)
          go Equal Greater t e f g =
              let c = o.congr x y z e ∙ f in
              let a = on_left (first_equal x y xs ys e) ∙ first_greater x z (union cmp xs ys) zs c in
              let b = on_right (first_greater y z ys zs f) ∙ first_greater x z xs (union cmp (y ∷ ys) zs) c in
              a ∙ (ap (λ l. z ∷ union cmp l zs) (sym (first_equal x y xs ys e)) ∙ (ap (λ l. z ∷ l) later ∙ sym b))
          go Greater Less t e f g =
              let a = on_left (first_greater x y xs ys e) ∙ first_less y z (union cmp (x ∷ xs) ys) zs f in
              let b = on_right (first_less y z ys zs f) ∙ first_greater x y xs (union cmp ys (z ∷ zs)) e in
              a ∙ (ap (λ l. y ∷ l) (inner (z ∷ zs)) ∙ sym b)
          go Greater Equal t e f g =
              let a = on_left (first_greater x y xs ys e) ∙ first_equal y z (union cmp (x ∷ xs) ys) zs f in
              let b = on_right (first_equal y z ys zs f) ∙ first_greater x y xs (union cmp ys zs) e in
              a ∙ (ap (λ l. y ∷ l) (inner zs) ∙ sym b)
          go Greater Greater t e f g =
              let c = turn_back z x (o.trans z y x (turn y z f) (turn x y e)) in
              let a = on_left (first_greater x y xs ys e) ∙ first_greater y z (union cmp (x ∷ xs) ys) zs f in
              let b = on_right (first_greater y z ys zs f) ∙ first_greater x z xs (union cmp (y ∷ ys) zs) c in
              a ∙ (ap (λ l. z ∷ union cmp l zs) (sym (first_greater x y xs ys e)) ∙ (ap (λ l. z ∷ l) later ∙ sym b))

    alike_third : (x y : A) (xs ys : List A) → ((vs ws : List A) → Alike xs vs ws) → ((ws : List A) → Alike (x ∷ xs) ys ws) → (zs : List A) → Alike (x ∷ xs) (y ∷ ys) zs
    alike_third x y xs ys below inner [] = union-nil (union cmp (x ∷ xs) (y ∷ ys)) ∙ ap (union cmp (x ∷ xs)) (sym (union-nil (y ∷ ys)))
    alike_third x y xs ys below inner (z ∷ zs) = alike_at x y z xs ys zs below inner (alike_third x y xs ys below inner zs)

    alike_second : (x : A) (xs : List A) → ((vs ws : List A) → Alike xs vs ws) → (ys zs : List A) → Alike (x ∷ xs) ys zs
    alike_second x xs below [] zs = ap (λ l. union cmp l zs) (union-nil (x ∷ xs))
    alike_second x xs below (y ∷ ys) zs = alike_third x y xs ys below (λ ws. alike_second x xs below ys ws) zs

    pub union_assoc : (xs ys zs : List A) → union cmp (union cmp xs ys) zs ≡ union cmp xs (union cmp ys zs)
    union_assoc [] ys zs = refl
    union_assoc (x ∷ xs) ys zs = alike_second x xs (λ vs ws. union_assoc xs vs ws) ys zs
