-- Unions of many lists: unions are the same in any order and of any number of the same lists.
use Rattle.std.proofs.Common.{◌≡◌, List, [], ◌∷◌, ◌++◌, map, refl, sym, ap, ◌∙◌, Ordering}
use Rattle.std.specs.declared.cmp.Ordering.TheVariants.{Less, Equal, Greater}
use Rattle.std.specs.Ordering.{ordering_reverse}
use Rattle.std.specs.Cmp.{IsTotalOrder}
use Rattle.xml_model.specs.DocumentOrder.{union}
use Rattle.xq_nodes.proofs.Unions.{union-nil, first_less, first_equal, first_greater, union_assoc}

module _ {A : Type 0} (cmp : A → A → Ordering) (o : IsTotalOrder cmp) (one : (x y : A) → cmp x y ≡ Equal → x ≡ y) where
  turned : (x y : A) (r : Ordering) → cmp x y ≡ r → cmp y x ≡ ordering_reverse r
  turned x y r e = o.antisymm y x ∙ ap ordering_reverse e

  pub same_itself : (x : A) → cmp x x ≡ Equal
  same_itself x = go (cmp x x) refl
    where
      less : Less ≡ Greater → cmp x x ≡ Equal
      less e = cc

      greater : Greater ≡ Less → cmp x x ≡ Equal
      greater e = cc

      go : (r : Ordering) → cmp x x ≡ r → cmp x x ≡ Equal
      go Equal e = e
      go Less e = less (sym e ∙ turned x x Less e)
      go Greater e = greater (sym e ∙ turned x x Greater e)

  -- ---- the order of two lists does not matter

  pub union_turned : (xs ys : List A) → union cmp xs ys ≡ union cmp ys xs
  union_turned [] ys = sym (union-nil cmp ys)
  union_turned (x ∷ xs) ys = other (λ ys. union_turned xs ys) ys
    where
      other : ((ys : List A) → union cmp xs ys ≡ union cmp ys xs) → (ys : List A) → union cmp (x ∷ xs) ys ≡ union cmp ys (x ∷ xs)
      other below [] = union-nil cmp (x ∷ xs)
      other below (y ∷ ys) = go (cmp x y) refl (other below ys)
        where
          go : (r : Ordering) → cmp x y ≡ r → union cmp (x ∷ xs) ys ≡ union cmp ys (x ∷ xs) → union cmp (x ∷ xs) (y ∷ ys) ≡ union cmp (y ∷ ys) (x ∷ xs)
          go Less e later = first_less cmp x y xs ys e ∙ (ap (λ l. x ∷ l) (below (y ∷ ys)) ∙ sym (first_greater cmp y x ys xs (turned x y Less e)))
          go Equal e later =
              first_equal cmp x y xs ys e
              ∙ (ap (λ l. x ∷ l) (below ys) ∙ (ap (λ z. z ∷ union cmp ys xs) (one x y e) ∙ sym (first_equal cmp y x ys xs (turned x y Equal e))))
          go Greater e later = first_greater cmp x y xs ys e ∙ (ap (λ l. y ∷ l) later ∙ sym (first_less cmp y x ys xs (turned x y Greater e)))

  -- a list joined to itself is the list
  pub union_itself : (xs : List A) → union cmp xs xs ≡ xs
  union_itself [] = refl
  union_itself (x ∷ xs) = first_equal cmp x x xs xs (same_itself x) ∙ ap (λ l. x ∷ l) (union_itself xs)

  -- of four lists the middle two change their places
  pub union_crossed : (a b c d : List A) → union cmp (union cmp a b) (union cmp c d) ≡ union cmp (union cmp a c) (union cmp b d)
  union_crossed a b c d =
      union_assoc cmp o a b (union cmp c d)
      ∙ (ap (union cmp a) (sym (union_assoc cmp o b c d) ∙ (ap (λ l. union cmp l d) (union_turned b c) ∙ union_assoc cmp o c b d))
      ∙ sym (union_assoc cmp o a c (union cmp b d)))

  -- ---- the union of the lists of many

  abbrev pub union_of : {N : Type 0} → (N → List A) → List N → List A
  union_of go [] = []
  union_of go (n ∷ ns) = union cmp (go n) (union_of go ns)

  -- where each gives the same
  pub union_of_same : {N : Type 0} (go other : N → List A) → ((n : N) → go n ≡ other n) → (ns : List N) → union_of go ns ≡ union_of other ns
  union_of_same go other h [] = refl
  union_of_same go other h (n ∷ ns) = ap (λ l. union cmp l (union_of go ns)) (h n) ∙ ap (union cmp (other n)) (union_of_same go other h ns)

  pub union_of_append : {N : Type 0} (go : N → List A) (ns ms : List N) → union_of go (ns ++ ms) ≡ union cmp (union_of go ns) (union_of go ms)
  union_of_append go [] ms = refl
  union_of_append go (n ∷ ns) ms = ap (union cmp (go n)) (union_of_append go ns ms) ∙ sym (union_assoc cmp o (go n) (union_of go ns) (union_of go ms))

  pub union_of_map : {M N : Type 0} (go : N → List A) (f : M → N) (ms : List M) → union_of go (map f ms) ≡ union_of (λ m. go (f m)) ms
  union_of_map go f [] = refl
  union_of_map go f (m ∷ ms) = ap (union cmp (go (f m))) (union_of_map go f ms)

module _ {A B : Type 0} (cmp : A → A → Ordering) (o : IsTotalOrder cmp) (one : (x y : A) → cmp x y ≡ Equal → x ≡ y)
    (other : B → B → Ordering) (other_total : IsTotalOrder other) (other_same : (x y : B) → other x y ≡ Equal → x ≡ y) (go : A → List B) where
  abbrev all : List A → List B
  all = union_of other other_total other_same go

  -- of a union it is the union
  pub union_of_union : (xs ys : List A) → all (union cmp xs ys) ≡ union other (all xs) (all ys)
  union_of_union [] ys = refl
  union_of_union (x ∷ xs) ys = along (λ ys. union_of_union xs ys) ys
    where
      along : ((ys : List A) → all (union cmp xs ys) ≡ union other (all xs) (all ys)) → (ys : List A) → all (union cmp (x ∷ xs) ys)
          ≡ union other (all (x ∷ xs)) (all ys)
      along below [] = ap all (union-nil cmp (x ∷ xs)) ∙ sym (union-nil other (all (x ∷ xs)))
      along below (y ∷ ys) = by (cmp x y) refl (along below ys)
        where
          by : (r : Ordering) → cmp x y ≡ r → all (union cmp (x ∷ xs) ys) ≡ union other (all (x ∷ xs)) (all ys)
              → all (union cmp (x ∷ xs) (y ∷ ys)) ≡ union other (all (x ∷ xs)) (all (y ∷ ys))
          by Less e later =
              ap all (first_less cmp x y xs ys e)
              ∙ (ap (union other (go x)) (below (y ∷ ys)) ∙ sym (union_assoc other other_total (go x) (all xs) (all (y ∷ ys))))
          by Equal e later =
              ap all (first_equal cmp x y xs ys e)
              ∙ (ap (union other (go x)) (below ys)
              ∙ (ap (λ l. union other l (union other (all xs) (all ys))) (sym (union_itself other other_total other_same (go x))
              ∙ ap (λ z. union other (go x) (go z)) (one x y e))
              ∙ union_crossed other other_total other_same (go x) (go y) (all xs) (all ys)))
          by Greater e later =
              ap all (first_greater cmp x y xs ys e)
              ∙ (ap (union other (go y)) later
              ∙ (sym (union_assoc other other_total (go y) (all (x ∷ xs)) (all ys))
              ∙ (ap (λ l. union other l (all ys)) (union_turned other other_total other_same (go y) (all (x ∷ xs)))
              ∙ union_assoc other other_total (all (x ∷ xs)) (go y) (all ys))))

-- an order is kept by a map: then so is a union
module _ {A B : Type 0} (cmp : A → A → Ordering) (other : B → B → Ordering) (f : A → B) (keeps : (x y : A) → other (f x) (f y) ≡ cmp x y) where
  pub union_map : (xs ys : List A) → map f (union cmp xs ys) ≡ union other (map f xs) (map f ys)
  union_map [] ys = refl
  union_map (x ∷ xs) ys = along (λ ys. union_map xs ys) ys
    where
      along : ((ys : List A) → map f (union cmp xs ys) ≡ union other (map f xs) (map f ys)) → (ys : List A) → map f (union cmp (x ∷ xs) ys)
          ≡ union other (map f (x ∷ xs)) (map f ys)
      along below [] = ap (map f) (union-nil cmp (x ∷ xs)) ∙ sym (union-nil other (map f (x ∷ xs)))
      along below (y ∷ ys) = by (cmp x y) refl (along below ys)
        where
          by : (r : Ordering) → cmp x y ≡ r → map f (union cmp (x ∷ xs) ys) ≡ union other (map f (x ∷ xs)) (map f ys)
              → map f (union cmp (x ∷ xs) (y ∷ ys)) ≡ union other (map f (x ∷ xs)) (map f (y ∷ ys))
          by Less e later =
              ap (map f) (first_less cmp x y xs ys e) ∙ (ap (λ l. f x ∷ l) (below (y ∷ ys))
              ∙ sym (first_less other (f x) (f y) (map f xs) (map f ys) (keeps x y ∙ e)))
          by Equal e later =
              ap (map f) (first_equal cmp x y xs ys e) ∙ (ap (λ l. f x ∷ l) (below ys)
              ∙ sym (first_equal other (f x) (f y) (map f xs) (map f ys) (keeps x y ∙ e)))
          by Greater e later =
              ap (map f) (first_greater cmp x y xs ys e) ∙ (ap (λ l. f y ∷ l) later
              ∙ sym (first_greater other (f x) (f y) (map f xs) (map f ys) (keeps x y ∙ e)))
