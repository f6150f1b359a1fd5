-- Places in document order are in the order of their numbers.
use Rattle.std.proofs.Common.{◌≡◌, ℕ, ◌+◌, ◌<◌, ◌≤◌, List, [], ◌∷◌, Some, refl, sym, ap, ◌∙◌, arith}
use Rattle.std.specs.List.{slice_get}
use Rattle.std.specs.Cmp.{nat_cmp_is}
use Rattle.std.specs.Ordering.{nat_cmp, ordering_then, MatchOrdering}
use Rattle.std.specs.declared.cmp.Ordering.{Ordering}
use Rattle.std.specs.declared.cmp.Ordering.TheVariants.{Less, Equal, Greater}
use Rattle.std.proofs.lemmas.Cmp.{ranked}
use Rattle.std.proofs.lemmas.Option.{slice_get_within, same_Some}
use Rattle.xml_model.specs.declared.place.PlaceStep.{PlaceStep}
use Rattle.xml_model.specs.declared.place.PlaceStep.TheVariants as steps
use Rattle.xml_model.specs.Place.{Placed, a_node, an_attribute, attrs_of, kids_of, step_from, placed_from, step_cmp, place_cmp}
use Rattle.xml_model.specs.Trees.{count_node}
use Rattle.xml_model.proofs.Numbered.{offset, number, take_some, number_within, size_positive, by_next}
use Rattle.xml_model.proofs.Placing.{size}
use Rattle.xml_model.proofs.Standing.{mapped}

match_map : {P Q R P2 Q2 R2 : Type 0} (r : Ordering) → MatchOrdering r P Q R → (P → P2) → (Q → Q2) → (R → R2) → MatchOrdering r P2 Q2 R2
match_map Less h f g k = f h
match_map Equal h f g k = g h
match_map Greater h f g k = k h

-- two steps from one node: the rows of one come before those of the other
steps_ordered : (from w v : Placed) (s t : PlaceStep) → step_from from s ≡ Some w → step_from from t ≡ Some v
    → MatchOrdering (step_cmp s t) (offset from s + size w ≤ offset from t) (s ≡ t) (offset from t + size v ≤ offset from s)
steps_ordered from w v (steps.Attr i) (steps.Attr j) e f =
    let one : size w ≡ 1 = ap size (sym (mapped an_attribute (slice_get (attrs_of from) i) w e).is) in
    let other : size v ≡ 1 = ap size (sym (mapped an_attribute (slice_get (attrs_of from) j) v f).is) in
    match_map (nat_cmp i j) (ranked i j (nat_cmp i j) refl) (λ h. omega arith) (λ h. ap steps.Attr h) (λ h. omega arith)
steps_ordered from w v (steps.Attr i) (steps.Kid j) e f =
    let m = mapped an_attribute (slice_get (attrs_of from) i) w e in
    let one : size w ≡ 1 = ap size (sym m.is) in
    omega (arith, slice_get_within (attrs_of from) i m.it m.was)
steps_ordered from w v (steps.Kid i) (steps.Attr j) e f =
    let m = mapped an_attribute (slice_get (attrs_of from) j) v f in
    let one : size v ≡ 1 = ap size (sym m.is) in
    omega (arith, slice_get_within (attrs_of from) j m.it m.was)
steps_ordered from w v (steps.Kid i) (steps.Kid j) e f =
    let m = mapped a_node (slice_get (kids_of from) i) w e in
    let n = mapped a_node (slice_get (kids_of from) j) v f in
    let one : size w ≡ count_node m.it = ap size (sym m.is) in
    let other : size v ≡ count_node n.it = ap size (sym n.is) in
    match_map (nat_cmp i j) (ranked i j (nat_cmp i j) refl)
    (λ h. omega (arith, take_some i j (kids_of from) m.it m.was h)) (λ h. ap steps.Kid h) (λ h. omega (arith, take_some j i (kids_of from) n.it n.was h))

-- the same number before two numbers leaves their order
shifted : (d m n : ℕ) → nat_cmp m n ≡ nat_cmp (d + m) (d + n)
shifted d m n =
    nat_cmp_is (d + m) (d + n) (nat_cmp m n) (match_map (nat_cmp m n) (ranked m n (nat_cmp m n) refl) (λ h. omega arith) (λ h. omega arith) (λ h. omega arith))

-- behind two steps
behind_steps : (s t : PlaceStep) (p q : List PlaceStep) (from w v : Placed) (a b : Placed) → step_from from s ≡ Some w → step_from from t ≡ Some v
    → placed_from p (Some w) ≡ Some a → placed_from q (Some v) ≡ Some b
    → ((b : Placed) → placed_from q (Some w) ≡ Some b → place_cmp p q ≡ nat_cmp (number p (Some w)) (number q (Some w)))
    → ordering_then (step_cmp s t) (place_cmp p q) ≡ nat_cmp (offset from s + number p (Some w)) (offset from t + number q (Some v))
behind_steps s t p q from w v a b e f g h same = go (step_cmp s t) (steps_ordered from w v s t e f)
  where
    go : (r : Ordering) → MatchOrdering r (offset from s + size w ≤ offset from t) (s ≡ t) (offset from t + size v ≤ offset from s)
        → ordering_then r (place_cmp p q) ≡ nat_cmp (offset from s + number p (Some w)) (offset from t + number q (Some v))
    go Less m = nat_cmp_is (offset from s + number p (Some w)) (offset from t + number q (Some v)) Less (omega (arith, number_within p w a g, size_positive a))
    go Greater m = nat_cmp_is (offset from s + number p (Some w)) (offset from t + number q (Some v)) Greater (omega (arith, number_within q v b h, size_positive b))
    go Equal m =
        let alike = same_Some w v (sym e ∙ (ap (step_from from) m ∙ f)) in
        same b (ap (λ x. placed_from q (Some x)) alike ∙ h)
        ∙ (shifted (offset from s) _ _
        ∙ (ap (λ x. nat_cmp (offset from s + number p (Some w)) (offset from s + number q (Some x))) alike
        ∙ ap (λ x. nat_cmp (offset from s + number p (Some w)) (offset from x + number q (Some v))) m))

pub offset_positive : (from : Placed) (s : PlaceStep) → 0 < offset from s
offset_positive from (steps.Attr i) = omega arith
offset_positive from (steps.Kid i) = omega arith

pub order_same : (p q : List PlaceStep) (from a b : Placed) → placed_from p (Some from) ≡ Some a → placed_from q (Some from) ≡ Some b
    → place_cmp p q ≡ nat_cmp (number p (Some from)) (number q (Some from))
order_same [] [] from a b e f = refl
order_same [] (t ∷ q) from a b e f = nat_cmp_is 0 (offset from t + number q (step_from from t)) Less (omega (arith, offset_positive from t))
order_same (s ∷ p) [] from a b e f = nat_cmp_is (offset from s + number p (step_from from s)) 0 Greater (omega (arith, offset_positive from s))
order_same (s ∷ p) (t ∷ q) from a b e f =
    by_next (λ o. ordering_then (step_cmp s t) (place_cmp p q) ≡ nat_cmp (offset from s + number p o) (offset from t + number q (step_from from t))) from s p a
    (λ w l g. by_next (λ o. ordering_then (step_cmp s t) (place_cmp p q) ≡ nat_cmp (offset from s + number p (Some w)) (offset from t + number q o)) from t q b
    (λ v m h. behind_steps s t p q from w v a b l m g h (λ b k. order_same p q w a b g k)) f) e
