-- Labels: their ends, their ancestors and their order.
use Rattle.std.proofs.Common.{◌≡◌, ◌≢◌, ℕ, ◌<◌, List, [], ◌∷◌, ◌++◌, length, get_or, take, drop, Option, Some, None, refl, sym, ◌∙◌, ap, subst, arith, ◌⊎◌, inl, inr, append_assoc, length-append, ◌+◌, ◌-◌}
use Rattle.std.specs.Prelude.{All, IfNone, Bool, IsTrue, ◌↔◌}
use Rattle.std.specs.Str.{bytes_eq}
use Rattle.std.proofs.lemmas.Slice.Eq.{bytes_eq-Decides}
use Rattle.std.proofs.lemmas.List.Elements.{All-nil, All-cons, All-head, All-tail}
use Rattle.std.proofs.lemmas.List.{append-nil, nil_from_length, take-append-drop, take_at, length-drop, take-take, drop-take, append_cancel_left, append_cancel_right}
use Rattle.order_labels.specs.KeyValue.{KeyValue, IsKey}
use Rattle.order_labels.specs.LabelOrder.{code, IsBelow, IsKeyBelow}
use Rattle.order_labels.specs.LabelShape.{child_label, IsLabel, document, child, IsAncestor, IsParent}
use Rattle.order_labels.proofs.ByteOrder.{byte_order-front, below_by_byte, below_by_heads, heads, below_longer, with_rests}
use Rattle.order_labels.proofs.FractionLemmas.{InRange, split_last}
use Rattle.order_labels.proofs.CodeBytes.{code_in_range}

-- Codes in order stay in order with the byte 1 and anything after them, since their own bytes are above 1.
closed_codes : (a b x y : List ℕ) → All InRange b → IsBelow a b → IsBelow (a ++ 1 ∷ x) (b ++ 1 ∷ y)
closed_codes [] [] x y r h = absurd cc
closed_codes [] (d ∷ b) x y r h = below_by_byte 1 d x (b ++ 1 ∷ y) (omega (arith, (All-head InRange d b r).0))
closed_codes (c ∷ a) [] x y r h = absurd cc
closed_codes (c ∷ a) (d ∷ b) x y r h =
    below_by_heads c d (a ++ 1 ∷ x) (b ++ 1 ∷ y)
    (with_rests c d (IsBelow a b) (IsBelow (a ++ 1 ∷ x) (b ++ 1 ∷ y)) (closed_codes a b x y (All-tail InRange d b r)) (heads c d a b h))

-- a label with something after it, with the parts in another grouping
child_label-append : (parent : List ℕ) (k : KeyValue) (x : List ℕ) → child_label parent k ++ x ≡ parent ++ (code k ++ 1 ∷ x)
child_label-append parent k x = append_assoc (parent ++ code k) (1 ∷ []) x ∙ append_assoc parent (code k) (1 ∷ x)

-- of two children the one with the lower key, and all below it, comes before the other and all below that
pub siblings_in_order : (parent : List ℕ) (a b : KeyValue) → IsKey b → IsKeyBelow a b → (x y : List ℕ)
    → IsBelow (child_label parent a ++ x) (child_label parent b ++ y)
siblings_in_order parent a b p l x y =
    rw (child_label-append parent a x, child_label-append parent b y) (byte_order-front parent (code a ++ 1 ∷ x) (code b ++ 1 ∷ y)
    ∙ closed_codes (code a) (code b) x y (code_in_range b p) l)

-- an ancestor comes before what is below it
pub ancestor_below : (a b : List ℕ) → IsAncestor a b → IsBelow a b
ancestor_below a b ([], some, e) = absurd (some refl)
ancestor_below a b (y ∷ rest, some, e) = subst (λ z. IsBelow a z) (sym e) (below_longer a y rest)

-- the last byte, or d where there is none
last_of : ℕ → List ℕ → ℕ
last_of d [] = d
last_of d (x ∷ xs) = last_of x xs

-- the last byte of a list that ends with y
last_of-push : (d : ℕ) (xs : List ℕ) (y : ℕ) → last_of d (xs ++ y ∷ []) ≡ y
unfolding last_of
last_of-push d [] y = refl
last_of-push d (x ∷ xs) y = last_of-push x xs y

-- the last byte of two lists one after the other
last_of-append : (d : ℕ) (xs ys : List ℕ) → last_of d (xs ++ ys) ≡ last_of (last_of d xs) ys
unfolding last_of
last_of-append d [] ys = refl
last_of-append d (x ∷ xs) ys = last_of-append x xs ys

-- the last byte is in range where all are
last_in_range : (d : ℕ) (x : ℕ) (xs : List ℕ) → All InRange (x ∷ xs) → InRange (last_of d (x ∷ xs))
unfolding last_of
last_in_range d x [] r = All-head InRange x [] r
last_in_range d x (y ∷ xs) r = last_in_range x y xs (All-tail InRange x (y ∷ xs) r)

-- a label is empty or ends with the byte 1
label_end : (l : List ℕ) → IsLabel l → (l ≡ []) ⊎ (last_of 0 l ≡ 1)
label_end _ document = inl refl
label_end _ (child parent k p q) = inr (last_of-push 0 (parent ++ code k) 1)

-- one of two lists is a front of the other where they begin the same list
data Fronts (p c q rest : List ℕ) : Type 0 where
  longer : (m : List ℕ) → p ≡ q ++ m → Fronts p c q rest
  shorter : (x : ℕ) (m : List ℕ) → q ≡ p ++ x ∷ m → c ≡ x ∷ m ++ rest → Fronts p c q rest

-- the same with one more byte before both
front_step : (y x : ℕ) (p c q rest : List ℕ) → y ≡ x → Fronts p c q rest → Fronts (y ∷ p) c (x ∷ q) rest
front_step y x p c q rest h (longer m e) = longer m (cc)
front_step y x p c q rest h (shorter z m e f) = shorter z m (cc) f

fronts : (p c q rest : List ℕ) → p ++ c ≡ q ++ rest → Fronts p c q rest
fronts p c [] rest e = longer p refl
fronts [] c (x ∷ q) rest e = shorter x q refl e
fronts (y ∷ p) c (x ∷ q) rest e =
    let head : y ≡ x = cc in
    let tail : p ++ c ≡ q ++ rest = cc in
    front_step y x p c q rest head (fronts p c q rest tail)

-- what follows a front that is all of a list is empty
rest_is_empty : (m rest : List ℕ) → m ++ rest ≡ [] → rest ≡ []
rest_is_empty m rest e = nil_from_length rest (omega (arith, ap length e, length-append m rest))

-- a front of a code and the byte 1 that is not all of it has bytes in range alone
front_in_range : (m rest code' : List ℕ) → All InRange code' → code' ++ 1 ∷ [] ≡ m ++ rest → rest ≢ [] → All InRange m
front_in_range [] rest code' r e some = All-nil InRange
front_in_range (a ∷ m) rest [] r e some = let tail : m ++ rest ≡ [] = cc in absurd (some (rest_is_empty m rest tail))
front_in_range (a ∷ m) rest (b ∷ code') r e some =
    let head : a ≡ b = cc in
    let tail : code' ++ 1 ∷ [] ≡ m ++ rest = cc in
    All-cons InRange a m (subst InRange (sym head) (All-head InRange b code' r)) (front_in_range m rest code' (All-tail InRange b code' r) tail some)

-- a label does not end in a code
not_in_code : (parent other m rest : List ℕ) (x : ℕ) (k : KeyValue) → IsKey k → IsLabel other → other ≡ parent ++ x ∷ m → code k ++ 1 ∷ [] ≡ x ∷ m ++ rest
    → rest ≢ [] → ⊥
not_in_code parent other m rest x k p lab e f some = by (label_end other lab)
  where
    last : InRange (last_of (last_of 0 parent) (x ∷ m))
    last = last_in_range (last_of 0 parent) x m (front_in_range (x ∷ m) rest (code k) (code_in_range k p) f some)

    by : (other ≡ []) ⊎ (last_of 0 other ≡ 1) → ⊥
    by (inl none) = absurd (omega (arith, ap length (sym e ∙ none), length-append parent (x ∷ m)))
    by (inr one) = absurd (omega (arith, last.0, sym (ap (last_of 0) e ∙ last_of-append 0 parent (x ∷ m)) ∙ one))

-- the nearest ancestor of a child's label is its parent's
pub parent_is_nearest : (parent : List ℕ) (k : KeyValue) → IsKey k → IsParent parent (child_label parent k)
parent_is_nearest parent k p = record {
  ancestor = (code k ++ 1 ∷ [], (λ none. omega (arith, ap length none, length-append (code k) (1 ∷ []))), append_assoc parent (code k) (1 ∷ []));
  nearest = λ other lab above. by other lab above.0 above.1 above.2
      (fronts parent (code k ++ 1 ∷ []) other above.0 (sym (append_assoc parent (code k) (1 ∷ [])) ∙ above.2));
}
  where
    by : (other : List ℕ) → IsLabel other → (rest : List ℕ) → rest ≢ [] → child_label parent k ≡ other ++ rest → Fronts parent (code k ++ 1 ∷ []) other rest
        → (other ≡ parent) ⊎ IsAncestor other parent
    by other lab rest some e (longer [] f) = inl (sym (f ∙ append-nil other))
    by other lab rest some e (longer (x ∷ m) f) = inr (x ∷ m, (λ none. cc), f)
    by other lab rest some e (shorter x m f g) = absurd (not_in_code parent other m rest x k p lab f g some)

-- a list that begins with another and is longer has it as a proper prefix
pub ancestor_from_front : (a b : List ℕ) → length a < length b → take (length a) b ≡ a → IsAncestor a b
ancestor_from_front a b h e = (
  drop (length a) b,
  (λ none. omega (arith, ap length none, length-drop (length a) b)),
  sym (take-append-drop (length a) b)
      ∙ ap (λ z. z ++ drop (length a) b) e,
)

-- a proper prefix is what the list begins with
pub front_from_ancestor : (a b : List ℕ) → IsAncestor a b → take (length a) b ≡ a
front_from_ancestor a b h = ap (take (length a)) h.2 ∙ take_at a h.0 (length a) refl

-- a proper prefix is shorter
pub ancestor_shorter : (a b : List ℕ) → IsAncestor a b → length a < length b
ancestor_shorter a b ([], some, e) = absurd (some refl)
ancestor_shorter a b (y ∷ rest, some, e) = omega (arith, ap length e, length-append a (y ∷ rest))

-- a longer list has another as a proper prefix exactly where it begins with the same bytes
pub ancestor_decides : (a b : List ℕ) (r : Bool) → length a < length b → r ≡ bytes_eq (take (length a) b) a → IsTrue r ↔ IsAncestor a b
ancestor_decides a b r h e = (
  (λ t. ancestor_from_front a b h ((bytes_eq-Decides (take (length a) b) a).0 (sym e ∙ t))),
  (λ above. e ∙ (bytes_eq-Decides (take (length a) b) a).1 (front_from_ancestor a b above)),
)

-- the first n + m elements are the first n and the m after them
take_in_two : (n m : ℕ) (xs : List ℕ) → take (n + m) xs ≡ take n xs ++ take m (drop n xs)
take_in_two n m xs =
    sym (take-append-drop n (take (n + m) xs)) ∙ ap (λ z. z ++ drop n (take (n + m) xs)) (take-take n (n + m) xs (omega arith))
    ∙ ap (λ z. take n xs ++ z) (drop-take n m xs)

-- a label that begins with its parent's and ends with the byte 1 is the parent's, what is between and the byte 1
pub code_between : (parent label : List ℕ) → length parent < length label → take (length parent) label ≡ parent → get_or label (length label - 1) 0 ≡ 1
    → label ≡ parent ++ take (length label - 1 - length parent) (drop (length parent) label) ++ 1 ∷ []
code_between parent label h front last =
    split_last label (length label - 1) (omega arith) ∙ ap (λ b. take (length label - 1) label ++ b ∷ []) last ∙ ap (λ z. z ++ 1 ∷ []) middle
  where
    middle : take (length label - 1) label ≡ parent ++ take (length label - 1 - length parent) (drop (length parent) label)
    middle = ap (λ e. take e label) (omega arith) ∙ take_in_two (length parent) (length label - 1 - length parent) label
        ∙ ap (λ z. z ++ take (length label - 1 - length parent) (drop (length parent) label)) front

-- a label of a child begins with its parent's
pub begins_with_parent : (parent label code' : List ℕ) → label ≡ parent ++ code' ++ 1 ∷ [] → take (length parent) label ≡ parent
begins_with_parent parent label code' e = ap (take (length parent)) (e ∙ append_assoc parent code' (1 ∷ []))
    ∙ take_at parent (code' ++ 1 ∷ []) (length parent) refl

-- a label is that of a child with one code
pub one_code : (parent c d : List ℕ) → parent ++ c ++ 1 ∷ [] ≡ parent ++ d ++ 1 ∷ [] → c ≡ d
one_code parent c d e = append_cancel_left parent c d (append_cancel_right (parent ++ c) (parent ++ d) (1 ∷ []) e)

-- what holds where there is none
pub none_weaker : (o : Option KeyValue) (P Q : Type 0) → (P → Q) → IfNone o P → IfNone o Q
none_weaker None P Q f h = f h
none_weaker (Some k) P Q f h = tt
