-- The numbers of a tree's nodes: what stands at each, what is first in it, behind it and above it, and their order.
use Rattle.std.proofs.Common.{◌≡◌, ℕ, ◌+◌, ◌-◌, ◌<◌, ◌≤◌, ◌⊎◌, inl, inr, List, [], ◌∷◌, ◌++◌, map, length, Option, Some, None, refl, sym, ap, ◌∙◌, arith}
use Rattle.std.specs.Prelude.{unwrap_or}
use Rattle.std.specs.Cmp.{nat_cmp_is}
use Rattle.std.specs.List.{slice_get}
use Rattle.std.specs.Option.{option_map, option_and, option_and_then}
use Rattle.std.specs.Ordering.{nat_cmp, ordering_then}
use Rattle.std.specs.declared.cmp.Ordering.{Ordering}
use Rattle.std.specs.declared.cmp.Ordering.TheVariants.{Less, Equal, Greater}
use Rattle.std.proofs.lemmas.Bool.{cases_lt}
use Rattle.std.proofs.lemmas.List.{length-append}
use Rattle.std.proofs.lemmas.Option.{slice_get_past, slice_get_within, none-some}
use Rattle.xml_model.specs.declared.node.Node.{Node}
use Rattle.xml_model.specs.declared.place.PlaceStep.{PlaceStep}
use Rattle.xml_model.specs.declared.place.PlaceStep.TheVariants as steps
use Rattle.xml_model.specs.Axes.{one_step_each, into_each}
use Rattle.xml_model.specs.Nav.{ending, behind_step, first_step, next_step, first_place, next_place, parent_place, behind_ending, standing}
use Rattle.xml_model.specs.Numbering.{all_ways, tree_rows, tree_places, place_of_number}
use Rattle.xml_model.specs.Place.{Placed, the_document, a_node, an_attribute, attrs_of, kids_of, step_from, placed_from, place_cmp}
use Rattle.xml_model.specs.Trees.{count_of}
use Rattle.xml_model.proofs.Chains.{GoesOn, Goes, first_goes_on, next_goes_on}
use Rattle.xml_model.proofs.Numbered.{placed_nowhere, offset, number, back, row_at, way_at, above_stands, placed_more, number_more, back_more, size_positive, step_within, number_within}
use Rattle.xml_model.proofs.Numbers.{length-node_rows, length-all_kid_rows}
use Rattle.xml_model.proofs.PlaceOrder.{order_same}
use Rattle.xml_model.proofs.Placing.{root as rooted, size, rows, row}
use Rattle.xml_model.proofs.Reached.{found}
use Rattle.xml_model.proofs.Standing.{length-one_step_each, length-all_kid_ways}

-- the rows of a tree are those of its root, which stands 0 behind
tree_rows_are : (root : Placed) → tree_rows root ≡ rows root 0
tree_rows_are (the_document doc) = refl
tree_rows_are (a_node n) = refl
tree_rows_are (an_attribute a) = refl

pub length_tree_rows : (root : Placed) → length (tree_rows root) ≡ size root
length_tree_rows (the_document doc) = omega (arith, length-all_kid_rows doc.kids 1)
length_tree_rows (a_node n) = length-node_rows n 0
length_tree_rows (an_attribute a) = refl

length_tree_places : (root : Placed) → length (tree_places root) ≡ size root
length_tree_places root =
    ap length (rooted root).ways_are
    ∙ omega (arith, length-append (one_step_each steps.Attr 0 (attrs_of root)) (into_each 0 (map all_ways (kids_of root))), length-one_step_each steps.Attr 0 (attrs_of root), length-all_kid_ways 0 (kids_of root), (rooted root).sized)

-- a node of the tree: its place, what stands there, and its row
pub record At (root : Placed) (n : ℕ) : Type 0 where
  pub place : List PlaceStep
  pub it : Placed
  pub stands : standing root place ≡ Some it
  pub numbered : number place (Some root) ≡ n
  pub is : place_of_number root n ≡ place
  pub row_is : slice_get (tree_rows root) n ≡ Some (row it (back 0 place (Some root)))

-- the number of a place where something stands stands for the place
pub place_back : (root : Placed) (p : List PlaceStep) (w : Placed) → standing root p ≡ Some w → place_of_number root (number p (Some root)) ≡ p
place_back root p w e = ap (λ o. unwrap_or o (steps.Kid (number p (Some root)) ∷ [])) (way_at p root w e)

row_there : (root : Placed) (p : List PlaceStep) (w : Placed) → standing root p ≡ Some w
    → slice_get (tree_rows root) (number p (Some root)) ≡ Some (row w (back 0 p (Some root)))
row_there root p w e = ap (λ rows. slice_get rows (number p (Some root))) (tree_rows_are root) ∙ row_at p root w 0 e

pub at : (root : Placed) (n : ℕ) → n < size root → At root n
at root n less =
    let f = found root n less in
    record {
      place = f.place;
      it = f.it;
      stands = f.stands;
      numbered = f.numbered;
      is = ap (place_of_number root) (sym f.numbered) ∙ place_back root f.place f.it f.stands;
      row_is = ap (slice_get (tree_rows root)) (sym f.numbered) ∙ row_there root f.place f.it f.stands;
    }

-- ---- numbers of no node

length_counted : (kids : List Node) → length kids ≤ count_of kids
length_counted [] = omega arith
length_counted (k ∷ kids) = omega (arith, length_counted kids, size_positive (a_node k))

pub place_past : (root : Placed) (n : ℕ) → size root ≤ n → place_of_number root n ≡ steps.Kid n ∷ []
place_past root n past =
    ap (λ o. unwrap_or o (steps.Kid n ∷ [])) (slice_get_past (tree_places root) n (omega (arith, length_tree_places root)))

pub nothing_past : (root : Placed) (n : ℕ) → size root ≤ n → standing root (place_of_number root n) ≡ None
nothing_past root n past =
    ap (standing root) (place_past root n past) ∙ ap (option_map a_node) (slice_get_past (kids_of root) n (omega (arith, length_counted (kids_of root), (rooted root).sized)))

-- ---- order

before_past : (root : Placed) (p : List PlaceStep) (w : Placed) (n : ℕ) → standing root p ≡ Some w → size root ≤ n
    → (place_cmp p (steps.Kid n ∷ []) ≡ Less) × (place_cmp (steps.Kid n ∷ []) p ≡ Greater)
before_past root [] w n e past = (refl, refl)
before_past root (steps.Attr i ∷ p) w n e past = (refl, refl)
before_past root (steps.Kid i ∷ p) w n e past = within (slice_get (kids_of root) i) refl e
  where
    within : (o : Option Node) → slice_get (kids_of root) i ≡ o → placed_from p (option_map a_node o) ≡ Some w
        → (ordering_then (nat_cmp i n) (place_cmp p []) ≡ Less) × (ordering_then (nat_cmp n i) (place_cmp [] p) ≡ Greater)
    within None q h = absurd (none-some w (sym (placed_nowhere p) ∙ h))
    within (Some k) q h =
        let less : i < n = omega (arith, slice_get_within (kids_of root) i k q, length_counted (kids_of root), (rooted root).sized) in (
          ap (λ o. ordering_then o (place_cmp p [])) (sym (nat_cmp_is i n Less less)),
          ap (λ o. ordering_then o (place_cmp [] p)) (sym (nat_cmp_is n i Greater less)),
        )

pub then_equal : (o : Ordering) → ordering_then o Equal ≡ o
then_equal Less = refl
then_equal Equal = refl
then_equal Greater = refl

pub numbers_ordered : (root : Placed) (m n : ℕ) → place_cmp (place_of_number root m) (place_of_number root n) ≡ nat_cmp m n
numbers_ordered root m n = go (cases_lt m (size root)) (cases_lt n (size root))
  where
    go : (m < size root) ⊎ (size root ≤ m) → (n < size root) ⊎ (size root ≤ n)
        → place_cmp (place_of_number root m) (place_of_number root n) ≡ nat_cmp m n
    go (inl here) (inl there) =
        let a = at root m here in
        let b = at root n there in
        ap (λ p. place_cmp p (place_of_number root n)) a.is ∙ (ap (place_cmp a.place) b.is
        ∙ (order_same a.place b.place root a.it b.it a.stands b.stands
        ∙ (ap (λ k. nat_cmp k (number b.place (Some root))) a.numbered ∙ ap (nat_cmp m) b.numbered)))
    go (inl here) (inr past) =
        let a = at root m here in
        ap (λ p. place_cmp p (place_of_number root n)) a.is ∙ (ap (place_cmp a.place) (place_past root n past)
        ∙ ((before_past root a.place a.it n a.stands past).0 ∙ nat_cmp_is m n Less (omega arith)))
    go (inr gone) (inl there) =
        let b = at root n there in
        ap (λ p. place_cmp p (place_of_number root n)) (place_past root m gone) ∙ (ap (place_cmp (steps.Kid m ∷ [])) b.is
        ∙ ((before_past root b.place b.it m b.stands gone).1 ∙ nat_cmp_is m n Greater (omega arith)))
    go (inr gone) (inr past) =
        ap (λ p. place_cmp p (place_of_number root n)) (place_past root m gone) ∙ (ap (place_cmp (steps.Kid m ∷ [])) (place_past root n past)
        ∙ then_equal (nat_cmp m n))

-- ---- what is first in a node

-- a step more from a place where something stands
pub placed_behind : (root : Placed) (p : List PlaceStep) (w : Placed) (s : PlaceStep) (m k : ℕ) → standing root p ≡ Some w → Goes w s m
    → k ≡ number p (Some root) + m → place_of_number root k ≡ p ++ s ∷ []
placed_behind root p w s m k e g is =
    ap (place_of_number root) (is ∙ (ap (λ m. number p (Some root) + m) (sym g.behind) ∙ sym (number_more p s (Some root) w e)))
    ∙ place_back root (p ++ s ∷ []) g.to (placed_more p s (Some root) w e ∙ g.leads)

pub first_is : (root : Placed) (n : ℕ) (a : At root n)
    → ((1 < size a.it) → first_place root a.place ≡ Some (place_of_number root (n + 1)))
    × ((size a.it ≤ 1) → first_place root a.place ≡ None)
first_is root n a =
    let there : first_place root a.place ≡ option_map (λ s. a.place ++ s ∷ []) (first_step a.it) =
    ap (λ o. option_and_then (λ from. option_map (λ s. a.place ++ s ∷ []) (first_step from)) o) a.stands in
    let one = go (first_step a.it) (first_goes_on a.it) in
    (λ h. there ∙ one.0 h, λ h. there ∙ one.1 h)
  where
    go : (o : Option PlaceStep) → GoesOn a.it o 1
        → ((1 < size a.it) → option_map (λ s. a.place ++ s ∷ []) o ≡ Some (place_of_number root (n + 1))) × ((size a.it ≤ 1) → option_map (λ s. a.place ++ s ∷ []) o ≡ None)
    go None g = (λ h. absurd (omega arith), λ h. refl)
    go (Some s) g = (
      λ h. ap (λ p. Some p) (sym (placed_behind root a.place a.it s 1 (n + 1) a.stands g (omega (arith, a.numbered)))),
      λ h. absurd (omega (arith, step_within a.it g.to s g.leads, size_positive g.to, g.behind)),
    )

-- ---- what is above a node

-- the place above a place that is not the root's own, what stands there, and its row
pub record Above (root : Placed) (n : ℕ) (place : List PlaceStep) (it : Placed) : Type 0 where
  pub above : List PlaceStep
  pub last : PlaceStep
  pub from : Placed
  pub ends : ending place ≡ Some (record { above = above; last = last })
  pub stands : standing root above ≡ Some from
  pub leads : step_from from last ≡ Some it
  pub back_is : back 0 place (Some root) ≡ offset from last
  pub number_is : number above (Some root) + offset from last ≡ n
  pub within : number above (Some root) + size from ≤ size root
  pub row_is : slice_get (tree_rows root) (number above (Some root)) ≡ Some (row from (back 0 above (Some root)))

pub ending_is : (s : PlaceStep) (place : List PlaceStep) → (behind_step s (ending place)).above ++ (behind_step s (ending place)).last ∷ [] ≡ s ∷ place
ending_is s [] = refl
ending_is s (t ∷ place) = ap (λ p. s ∷ p) (ending_is t place)

above_of : (root : Placed) (n : ℕ) (s : PlaceStep) (place : List PlaceStep) (it : Placed) → standing root (s ∷ place) ≡ Some it
    → number (s ∷ place) (Some root) ≡ n → Above root n (s ∷ place) it
above_of root n s place it e is =
    let end = behind_step s (ending place) in
    let whole = ending_is s place in
    let up = above_stands end.above end.last (Some root) it (ap (standing root) whole ∙ e) in
    record {
      above = end.above;
      last = end.last;
      from = up.0;
      ends = refl;
      stands = up.1;
      leads = up.2;
      back_is = ap (λ p. back 0 p (Some root)) (sym whole) ∙ back_more 0 end.above end.last (Some root) up.0 up.1;
      number_is = sym (number_more end.above end.last (Some root) up.0 up.1) ∙ (ap (λ p. number p (Some root)) whole ∙ is);
      within = number_within end.above root up.0 up.1;
      row_is = row_there root end.above up.0 up.1;
    }

-- the root alone has the number 0
pub root_at_zero : (root : Placed) (place : List PlaceStep) (it : Placed) → standing root place ≡ Some it → number place (Some root) ≡ 0 → place ≡ []
root_at_zero root [] it e is = refl
root_at_zero root (steps.Attr i ∷ place) it e is = absurd (omega (arith, is))
root_at_zero root (steps.Kid i ∷ place) it e is = absurd (omega (arith, is))

pub above : (root : Placed) (n : ℕ) → 0 < n → (a : At root n) → Above root n a.place a.it
above root n less a = go a.place a.stands a.numbered
  where
    go : (place : List PlaceStep) → standing root place ≡ Some a.it → number place (Some root) ≡ n → Above root n place a.it
    go [] e is = absurd (omega (arith, is))
    go (s ∷ place) e is = above_of root n s place a.it e is

pub parent_is : (root : Placed) (n : ℕ) (a : At root n) (u : Above root n a.place a.it)
    → parent_place root a.place ≡ Some (place_of_number root (n - back 0 a.place (Some root)))
parent_is root n a u =
    let there : n - back 0 a.place (Some root) ≡ number u.above (Some root) = omega (arith, u.back_is, u.number_is) in
    ap (λ o. option_and o (option_map (λ e. e.above) (ending a.place))) a.stands
    ∙ (ap (option_map (λ e. e.above)) u.ends
    ∙ ap (λ p. Some p) (sym (place_back root u.above u.from u.stands) ∙ ap (place_of_number root) (sym there)))

-- ---- what is behind a node

pub next_is : (root : Placed) (n : ℕ) (a : At root n) (u : Above root n a.place a.it)
    → ((n + size a.it < number u.above (Some root) + size u.from) → next_place root a.place ≡ Some (place_of_number root (n + size a.it)))
    × ((number u.above (Some root) + size u.from ≤ n + size a.it) → next_place root a.place ≡ None)
next_is root n a u =
    let there : next_place root a.place ≡ option_map (λ s. u.above ++ s ∷ []) (next_step u.from u.last) =
    ap (λ o. option_and o (option_and_then (behind_ending root) (ending a.place))) a.stands
    ∙ (ap (option_and_then (behind_ending root)) u.ends
    ∙ ap (λ o. option_and_then (λ from. option_map (λ s. u.above ++ s ∷ []) (next_step from u.last)) o) u.stands) in
    let one = go (next_step u.from u.last) (next_goes_on u.from a.it u.last u.leads) in
    (λ h. there ∙ one.0 h, λ h. there ∙ one.1 h)
  where
    go : (o : Option PlaceStep) → GoesOn u.from o (offset u.from u.last + size a.it)
        → ((n + size a.it < number u.above (Some root) + size u.from) → option_map (λ s. u.above ++ s ∷ []) o ≡ Some (place_of_number root (n + size a.it)))
        × ((number u.above (Some root) + size u.from ≤ n + size a.it) → option_map (λ s. u.above ++ s ∷ []) o ≡ None)
    go None g = (λ h. absurd (omega (arith, u.number_is)), λ h. refl)
    go (Some s) g = (
      λ h. ap (λ p. Some p) (sym (placed_behind root u.above u.from s (offset u.from u.last + size a.it) (n + size a.it) u.stands g (omega (arith, u.number_is)))),
      λ h. absurd (omega (arith, u.number_is, step_within u.from g.to s g.leads, size_positive g.to, g.behind)),
    )
