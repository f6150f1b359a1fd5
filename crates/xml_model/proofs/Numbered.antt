-- The number of a place in a tree, and what it tells: the row of what stands there, and the place's turn.
use Rattle.std.proofs.Common.{◌≡◌, ℕ, zero, suc, ◌+◌, ◌<◌, ◌≤◌, List, [], ◌∷◌, ◌++◌, length, take, Option, Some, None, refl, sym, ap, subst, ◌∙◌, arith}
use Rattle.std.specs.List.{slice_get}
use Rattle.std.proofs.lemmas.Option.{slice_get_within, none-some, same_Some}
use Rattle.xml_model.specs.declared.node.Attr.{Attr}
use Rattle.xml_model.specs.declared.node.Node.{Node}
use Rattle.xml_model.specs.declared.place.PlaceStep.{PlaceStep}
use Rattle.xml_model.specs.declared.place.PlaceStep.TheVariants as steps
use Rattle.xml_model.specs.Axes.{one_step_each}
use Rattle.xml_model.specs.Numbering.{Row, attr_rows, node_rows}
use Rattle.xml_model.specs.Place.{Placed, a_node, an_attribute, attrs_of, kids_of, step_from, placed_from}
use Rattle.xml_model.specs.Trees.{count_node, count_of}
use Rattle.xml_model.proofs.Numbers.{length-attr_rows}
use Rattle.xml_model.proofs.Placing.{root, size, rows, row, ways, inner_rows, inner_ways}
use Rattle.xml_model.proofs.Standing.{get_behind, get_before, mapped, attr_row_at, one_step_at, length-one_step_each, kid_row_at, kid_way_at}

-- how many rows come before those of what a step leads to, from the row of where it begins
abbrev pub offset : Placed → PlaceStep → ℕ
offset from (steps.Attr i) = 1 + i
offset from (steps.Kid i) = 1 + (length (attrs_of from) + count_of (take i (kids_of from)))

abbrev pub number : List PlaceStep → Option Placed → ℕ
number [] o = 0
number (s ∷ p) None = 0
number (s ∷ p) (Some from) = offset from s + number p (step_from from s)

-- how far behind its parent it stands; a root stands b behind
abbrev pub back : ℕ → List PlaceStep → Option Placed → ℕ
back b [] o = b
back b (s ∷ p) None = b
back b (s ∷ p) (Some from) = back (offset from s) p (step_from from s)

pub placed_nowhere : (p : List PlaceStep) → placed_from p None ≡ None
placed_nowhere [] = refl
placed_nowhere (s ∷ p) = refl

-- ---- one step

row_inside : (from : Placed) (b m n : ℕ) (r : Row) → n ≡ 1 + m → slice_get (inner_rows from) m ≡ Some r → slice_get (rows from b) n ≡ Some r
row_inside from b m n r e h =
    let same : n ≡ suc m = omega arith in
    ap (slice_get (rows from b)) same ∙ (ap (λ l. slice_get l (suc m)) ((root from).rows_are b) ∙ h)

way_inside : (from : Placed) (m n : ℕ) (p : List PlaceStep) → n ≡ 1 + m → slice_get (inner_ways from) m ≡ Some p → slice_get (ways from) n ≡ Some p
way_inside from m n p e h =
    let same : n ≡ suc m = omega arith in
    ap (slice_get (ways from)) same ∙ (ap (λ l. slice_get l (suc m)) (root from).ways_are ∙ h)

-- a list of one has an element at 0 alone
only : {A : Type 0} (x y : A) (k : ℕ) → slice_get (x ∷ []) k ≡ Some y → (k ≡ 0) × (x ≡ y)
only x y zero e = (refl, same_Some x y e)
only x y (suc k) e = absurd (none-some y e)

-- the rows of what a step leads to are among those of where it begins
pub row_in : (from w : Placed) (s : PlaceStep) (b k : ℕ) (r : Row) → step_from from s ≡ Some w
    → slice_get (rows w (offset from s)) k ≡ Some r → slice_get (rows from b) (offset from s + k) ≡ Some r
row_in from w (steps.Attr i) b k r e h =
    let m = mapped an_attribute (slice_get (attrs_of from) i) w e in
    let one = only _ r k (subst (λ w. slice_get (rows w (1 + i)) k ≡ Some r) (sym m.is) h) in
    let there = attr_row_at 1 i (attrs_of from) m.it m.was in
    let zero_more : k ≡ 0 = one.0 in
    row_inside from b i (1 + i + k) r (omega arith) (get_before (attr_rows 1 (attrs_of from)) _ i r (there ∙ ap (λ r. Some r) one.1))
row_in from w (steps.Kid i) b k r e h =
    let m = mapped a_node (slice_get (kids_of from) i) w e in
    let at = length (attrs_of from) + count_of (take i (kids_of from)) in
    let inside = subst (λ w. slice_get (rows w (1 + at)) k ≡ Some r) (sym m.is) h in
    let same : 1 + at ≡ 1 + length (attrs_of from) + count_of (take i (kids_of from)) = omega arith in
    row_inside from b (at + k) (1 + at + k) r (omega arith)
    (get_behind (attr_rows 1 (attrs_of from)) _ (at + k) (count_of (take i (kids_of from)) + k) (omega (arith, length-attr_rows 1 (attrs_of from)))
    ∙ kid_row_at (1 + length (attrs_of from)) i k _ (kids_of from) m.it r m.was refl (ap (λ c. slice_get (node_rows m.it c) k) (sym same) ∙ inside))

pub way_in : (from w : Placed) (s : PlaceStep) (k : ℕ) (p : List PlaceStep) → step_from from s ≡ Some w
    → slice_get (ways w) k ≡ Some p → slice_get (ways from) (offset from s + k) ≡ Some (s ∷ p)
way_in from w (steps.Attr i) k p e h =
    let m = mapped an_attribute (slice_get (attrs_of from) i) w e in
    let one = only _ p k (subst (λ w. slice_get (ways w) k ≡ Some p) (sym m.is) h) in
    let zero_more : k ≡ 0 = one.0 in
    way_inside from i (1 + i + k) _ (omega arith)
    (get_before (one_step_each steps.Attr 0 (attrs_of from)) _ i _ (one_step_at steps.Attr 0 i (attrs_of from) m.it m.was ∙ (ap (λ n. Some (steps.Attr n ∷ [])) (omega arith) ∙ ap (λ p. Some (steps.Attr i ∷ p)) one.1)))
way_in from w (steps.Kid i) k p e h =
    let m = mapped a_node (slice_get (kids_of from) i) w e in
    let at = length (attrs_of from) + count_of (take i (kids_of from)) in
    let inside = subst (λ w. slice_get (ways w) k ≡ Some p) (sym m.is) h in
    way_inside from (at + k) (1 + at + k) _ (omega arith)
    (get_behind (one_step_each steps.Attr 0 (attrs_of from)) _ (at + k) (count_of (take i (kids_of from)) + k) (omega (arith, length-one_step_each steps.Attr 0 (attrs_of from)))
    ∙ (kid_way_at 0 i k _ (kids_of from) m.it p m.was refl inside ∙ ap (λ n. Some (steps.Kid n ∷ p)) (omega arith)))

-- ---- all steps

-- what holds where the first step leads somewhere holds, since it does
module _ (R : Option Placed → Type 0) (from : Placed) (s : PlaceStep) (p : List PlaceStep) (w : Placed)
    (next_holds : (next : Placed) → step_from from s ≡ Some next → placed_from p (Some next) ≡ Some w → R (Some next)) where
  pub by_next : placed_from p (step_from from s) ≡ Some w → R (step_from from s)
  by_next e = go (step_from from s) refl e
    where
      go : (o : Option Placed) → step_from from s ≡ o → placed_from p o ≡ Some w → R o
      go None q e = absurd (none-some w (sym (placed_nowhere p) ∙ e))
      go (Some next) q e = next_holds next q e

-- the row of what stands at a place is at its number
pub row_at : (p : List PlaceStep) (from w : Placed) (b : ℕ) → placed_from p (Some from) ≡ Some w
    → slice_get (rows from b) (number p (Some from)) ≡ Some (row w (back b p (Some from)))
row_at [] from w b e =
    ap (λ l. slice_get l 0) ((root from).rows_are b) ∙ ap (λ w. Some (row w b)) (same_Some from w e)
row_at (s ∷ p) from w b e =
    by_next (λ o. slice_get (rows from b) (offset from s + number p o) ≡ Some (row w (back (offset from s) p o))) from s p w
    (λ next q h. row_in from next s b _ _ q (row_at p next w (offset from s) h)) e

-- and the place has its turn there
pub way_at : (p : List PlaceStep) (from w : Placed) → placed_from p (Some from) ≡ Some w → slice_get (ways from) (number p (Some from)) ≡ Some p
way_at [] from w e = ap (λ l. slice_get l 0) (root from).ways_are
way_at (s ∷ p) from w e =
    by_next (λ o. slice_get (ways from) (offset from s + number p o) ≡ Some (s ∷ p)) from s p w (λ next q h. way_in from next s _ _ q (way_at p next w h)) e

-- ---- a place and one step more

-- what stands at the place above, where something stands behind one step more
pub above_stands : (p : List PlaceStep) (t : PlaceStep) (o : Option Placed) (w : Placed) → placed_from (p ++ t ∷ []) o ≡ Some w
    → (from : Placed) × (placed_from p o ≡ Some from) × (step_from from t ≡ Some w)
above_stands [] t None w e = absurd (none-some w e)
above_stands [] t (Some from) w e = (from, refl, e)
above_stands (s ∷ p) t None w e = absurd (none-some w e)
above_stands (s ∷ p) t (Some from) w e = above_stands p t (step_from from s) w e

pub placed_more : (p : List PlaceStep) (t : PlaceStep) (o : Option Placed) (from : Placed) → placed_from p o ≡ Some from → placed_from (p ++ t ∷ []) o ≡ step_from from t
placed_more [] t None from e = absurd (none-some from e)
placed_more [] t (Some x) from e = ap (λ x. step_from x t) (same_Some x from e)
placed_more (s ∷ p) t None from e = absurd (none-some from e)
placed_more (s ∷ p) t (Some x) from e = placed_more p t (step_from x s) from e

pub number_more : (p : List PlaceStep) (t : PlaceStep) (o : Option Placed) (from : Placed) → placed_from p o ≡ Some from → number (p ++ t ∷ []) o ≡ number p o + offset from t
number_more [] t None from e = absurd (none-some from e)
number_more [] t (Some x) from e = let same : offset x t ≡ offset from t = ap (λ x. offset x t) (same_Some x from e) in omega (arith, same)
number_more (s ∷ p) t None from e = absurd (none-some from e)
number_more (s ∷ p) t (Some x) from e = omega (arith, number_more p t (step_from x s) from e)

pub back_more : (b : ℕ) (p : List PlaceStep) (t : PlaceStep) (o : Option Placed) (from : Placed) → placed_from p o ≡ Some from → back b (p ++ t ∷ []) o ≡ offset from t
back_more b [] t None from e = absurd (none-some from e)
back_more b [] t (Some x) from e = ap (λ x. offset x t) (same_Some x from e)
back_more b (s ∷ p) t None from e = absurd (none-some from e)
back_more b (s ∷ p) t (Some x) from e = back_more (offset x s) p t (step_from x s) from e

-- ---- bounds

abbrev pub size_of_attribute : (a : Attr) (w : Placed) → an_attribute a ≡ w → size w ≡ 1
size_of_attribute a w e = ap size (sym e)

-- the children before the i-th, and it
pub take_more : (i : ℕ) (kids : List Node) (kid : Node) → slice_get kids i ≡ Some kid → count_of (take (i + 1) kids) ≡ count_of (take i kids) + count_node kid
take_more i [] kid e = absurd (none-some kid e)
take_more zero (x ∷ kids) kid e = let same : count_node x ≡ count_node kid = ap count_node (same_Some x kid e) in omega (arith, same)
take_more (suc i) (x ∷ kids) kid e =
    let one : suc i + 1 ≡ suc (i + 1) = omega arith in
    ap (λ n. count_of (take n (x ∷ kids))) one ∙ omega (arith, take_more i kids kid e)

-- are among the first j, where i is less, and among all
pub take_some : (i j : ℕ) (kids : List Node) (kid : Node) → slice_get kids i ≡ Some kid → i < j → count_of (take i kids) + count_node kid ≤ count_of (take j kids)
take_some i j [] kid e h = absurd (none-some kid e)
take_some i zero (x ∷ kids) kid e h = absurd (omega arith)
take_some zero (suc j) (x ∷ kids) kid e h = let same : count_node x ≡ count_node kid = ap count_node (same_Some x kid e) in omega (arith, same)
take_some (suc i) (suc j) (x ∷ kids) kid e h = omega (arith, take_some i j kids kid e (omega arith))

pub take_within : (i : ℕ) (kids : List Node) (kid : Node) → slice_get kids i ≡ Some kid → count_of (take i kids) + count_node kid ≤ count_of kids
take_within i [] kid e = absurd (none-some kid e)
take_within zero (x ∷ kids) kid e = let same : count_node x ≡ count_node kid = ap count_node (same_Some x kid e) in omega (arith, same)
take_within (suc i) (x ∷ kids) kid e = omega (arith, take_within i kids kid e)

-- and are all, where it is the last
pub take_last : (i : ℕ) (kids : List Node) (kid : Node) → slice_get kids i ≡ Some kid → length kids ≤ i + 1 → count_of (take i kids) + count_node kid ≡ count_of kids
take_last i [] kid e h = absurd (none-some kid e)
take_last zero (x ∷ []) kid e h = let same : count_node x ≡ count_node kid = ap count_node (same_Some x kid e) in omega (arith, same)
take_last zero (x ∷ y ∷ kids) kid e h = absurd (omega arith)
take_last (suc i) (x ∷ kids) kid e h = omega (arith, take_last i kids kid e (omega arith))

pub size_positive : (from : Placed) → 1 ≤ size from
size_positive from = omega (arith, (root from).sized)

-- what a step leads to has its rows before the end of those of where it begins
pub step_within : (from w : Placed) (s : PlaceStep) → step_from from s ≡ Some w → offset from s + size w ≤ size from
step_within from w (steps.Attr i) e =
    let m = mapped an_attribute (slice_get (attrs_of from) i) w e in
    let one : size w ≡ 1 = ap size (sym m.is) in
    omega (arith, slice_get_within (attrs_of from) i m.it m.was, (root from).sized)
step_within from w (steps.Kid i) e =
    let m = mapped a_node (slice_get (kids_of from) i) w e in
    let same : size w ≡ count_node m.it = ap size (sym m.is) in
    omega (arith, take_within i (kids_of from) m.it m.was, (root from).sized)

pub number_within : (p : List PlaceStep) (from w : Placed) → placed_from p (Some from) ≡ Some w → number p (Some from) + size w ≤ size from
number_within [] from w e = let same : size from ≡ size w = ap size (same_Some from w e) in omega arith
number_within (s ∷ p) from w e =
    by_next (λ o. offset from s + number p o + size w ≤ size from) from s p w
    (λ next q h. omega (arith, step_within from next s q, number_within p next w h)) e
