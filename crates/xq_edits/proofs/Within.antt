-- Nodes that stand in one another, by what is above them and by document order.
use Rattle.std.proofs.Common.{◌≡◌, ℕ, ◌+◌, ◌-◌, Bool, true, false, ◌&&◌, ◌||◌, List, [], ◌∷◌, ◌++◌, Option, Some, None}
use Rattle.std.proofs.Common.{IsTrue, refl, sym, ap, ◌∙◌, subst}
use Rattle.std.specs.Prelude.{bytes_eq, is_some}
use Rattle.std.specs.Cmp.{IsTotalOrder}
use Rattle.std.specs.Cmp.Lexicographic.{slice_cmp}
use Rattle.std.specs.Option.{option_map, option_and, option_and_then}
use Rattle.std.specs.Ordering.{nat_cmp, ordering_then, ordering_reverse, is_eq}
use Rattle.std.specs.declared.cmp.Ordering.{Ordering}
use Rattle.std.specs.declared.cmp.Ordering.TheVariants.{Less, Equal, Greater}
use Rattle.std.specs.Cmp.{on_total, then_total}
use Rattle.std.proofs.lemmas.Bool.{true≢false, false≢true, and_parts}
use Rattle.std.proofs.lemmas.Cmp.{nat_list_cmp_total, tied_back}
use Rattle.std.proofs.lemmas.Map.Text.{is_eq-slice_cmp}
use Rattle.xml_model.specs.declared.place.PlaceStep.{PlaceStep}
use Rattle.xml_model.specs.DocumentOrder.{node_cmp}
use Rattle.xml_model.specs.Edits.{stands_below}
use Rattle.xml_model.specs.Forest.{Forest}
use Rattle.xml_model.specs.Nav.{Ending, Stored, ending, behind_step, standing, tree_of, at_place, parent_place, parent_of_node}
use Rattle.xml_model.specs.Place.{Placed, step_cmp, place_cmp, step_from, placed_from}
use Rattle.xml_model.proofs.TreeNumbers.{ending_is}
use Rattle.xq_nodes.proofs.NodeOrder.{step_total, place_total}
use Rattle.xq_edits.specs.Inside.{IsThere, is_inside}

-- ---- orderings

equal_or_not : (r : Ordering) → is_eq r ≡ true → r ≡ Equal
equal_or_not Less e = absurd (false≢true e)
equal_or_not Equal e = refl
equal_or_not Greater e = absurd (false≢true e)

both_equal : (r s : Ordering) → is_eq (ordering_then r s) ≡ (is_eq r && is_eq s)
both_equal Less s = refl
both_equal Equal s = refl
both_equal Greater s = refl

turned_equal : (r : Ordering) → is_eq (ordering_reverse r) ≡ is_eq r
turned_equal Less = refl
turned_equal Equal = refl
turned_equal Greater = refl

-- nothing is both less and greater
pub less_not_greater : {A : Type 0} {r : Ordering} → r ≡ Less → r ≡ Greater → A
less_not_greater {A} {r} e f = absurd (true≢false (ap is_less (sym e ∙ f)))
  where
    is_less : Ordering → Bool
    is_less Less = true
    is_less Equal = false
    is_less Greater = false

-- equality of two does not depend on their order
equal_turned : {K : Type 0} {R : K → K → Ordering} → IsTotalOrder R → (x y : K) → is_eq (R x y) ≡ is_eq (R y x)
equal_turned {K} {R} o x y = ap is_eq (o.antisymm x y) ∙ turned_equal (R y x)

no_and : (b : Bool) → (b && false) ≡ false
no_and true = refl
no_and false = refl

split_or : (b x y : Bool) → (b && (x || y)) ≡ ((b && x) || (b && y))
split_or true x y = refl
split_or false x y = refl

-- ---- document order

-- document order of stored nodes is total
pub stored_total : IsTotalOrder node_cmp
stored_total = then_total (on_total (λ (n : Stored). n.name) nat_list_cmp_total) (on_total (λ (n : Stored). n.place) place_total)

-- two nodes are one where their names and their places are
pub same_node : (a b : Stored) → is_eq (node_cmp a b) ≡ (bytes_eq a.name b.name && is_eq (place_cmp a.place b.place))
same_node a b =
    both_equal (slice_cmp nat_cmp a.name b.name) (place_cmp a.place b.place)
    ∙ ap (λ x. x && is_eq (place_cmp a.place b.place)) (is_eq-slice_cmp a.name b.name)

names_turned : (a b : List ℕ) → bytes_eq a b ≡ bytes_eq b a
names_turned a b = sym (is_eq-slice_cmp a b) ∙ (equal_turned nat_list_cmp_total a b ∙ is_eq-slice_cmp b a)

-- ---- places below a place

-- what stands below a place comes after it
below_after : (q p : List PlaceStep) → stands_below q p ≡ true → place_cmp p q ≡ Less
below_after [] [] e = absurd (false≢true e)
below_after [] (t ∷ p) e = absurd (false≢true e)
below_after (s ∷ q) [] e = refl
below_after (s ∷ q) (t ∷ p) e =
    let h = and_parts (is_eq (step_cmp s t)) (stands_below q p) e in
    let same : step_cmp t s ≡ Equal = tied_back step_total s t (equal_or_not (step_cmp s t) h.0) in
    ap (λ r. ordering_then r (place_cmp p q)) same ∙ below_after q p h.1

-- what is between a place and one below it is below it too
between : (p q r : List PlaceStep) → place_cmp p q ≡ Less → place_cmp q r ≡ Less → stands_below r p ≡ true → stands_below q p ≡ true
between p q [] a b e = absurd (false≢true e)
between [] [] (s ∷ r) a b e = absurd (true≢false (ap is_eq a))
between [] (u ∷ q) (s ∷ r) a b e = refl
between (t ∷ p) [] (s ∷ r) a b e = less_not_greater a refl
between (t ∷ p) (u ∷ q) (s ∷ r) a b e = go (step_cmp t u) refl (between p q r)
  where
    h : (is_eq (step_cmp s t) ≡ true) × (stands_below r p ≡ true)
    h = and_parts (is_eq (step_cmp s t)) (stands_below r p) e

    -- the steps s and t are one
    alike : step_cmp u s ≡ step_cmp u t
    alike = step_total.antisymm u s ∙ (ap ordering_reverse (step_total.congr s t u (equal_or_not (step_cmp s t) h.0)) ∙ sym (step_total.antisymm u t))

    go : (o : Ordering) → step_cmp t u ≡ o → (place_cmp p q ≡ Less → place_cmp q r ≡ Less → stands_below r p ≡ true → stands_below q p ≡ true)
        → stands_below (u ∷ q) (t ∷ p) ≡ true
    go Less o more =
        let up : step_cmp u s ≡ Greater = alike ∙ (step_total.antisymm u t ∙ ap ordering_reverse o) in
        less_not_greater b (ap (λ x. ordering_then x (place_cmp q r)) up)
    go Equal o more =
        let back : step_cmp u t ≡ Equal = tied_back step_total t u o in
        let one : place_cmp p q ≡ Less = sym (ap (λ x. ordering_then x (place_cmp p q)) o) ∙ a in
        let two : place_cmp q r ≡ Less = sym (ap (λ x. ordering_then x (place_cmp q r)) (alike ∙ back)) ∙ b in
        ap (λ x. is_eq x && stands_below q p) back ∙ more one two h.1
    go Greater o more = less_not_greater a (ap (λ x. ordering_then x (place_cmp p q)) o)

-- what stands below a place stands at the end of one step more, or above that
below_by_last : (above p : List PlaceStep) (s : PlaceStep) → stands_below (above ++ s ∷ []) p ≡ (is_eq (place_cmp p above) || stands_below above p)
below_by_last [] [] s = refl
below_by_last [] (t ∷ p) s = no_and (is_eq (step_cmp s t))
below_by_last (u ∷ above) [] s = refl
below_by_last (u ∷ above) (t ∷ p) s =
    ap (λ x. is_eq (step_cmp u t) && x) (below_by_last above p s)
    ∙ (split_or (is_eq (step_cmp u t)) (is_eq (place_cmp p above)) (stands_below above p)
    ∙ ap (λ x. x || (is_eq (step_cmp u t) && stands_below above p))
    (ap (λ x. x && is_eq (place_cmp p above)) (equal_turned step_total u t) ∙ sym (both_equal (step_cmp t u) (place_cmp p above))))

-- ---- nodes inside nodes

-- a node inside another one comes after it
pub inside_after : (n outer : Stored) → is_inside n outer ≡ true → node_cmp outer n ≡ Less
inside_after n outer e =
    let h = and_parts (bytes_eq n.name outer.name) (stands_below n.place outer.place) e in
    let one : slice_cmp nat_cmp outer.name n.name ≡ Equal = equal_or_not (slice_cmp nat_cmp outer.name n.name)
    (is_eq-slice_cmp outer.name n.name ∙ (names_turned outer.name n.name ∙ h.0)) in
    ap (λ r. ordering_then r (place_cmp outer.place n.place)) one ∙ below_after n.place outer.place h.1

-- a node before another one is not inside it
pub before_not_inside : (n outer : Stored) → node_cmp outer n ≡ Greater → is_inside n outer ≡ false
before_not_inside n outer e = go (is_inside n outer) refl
  where
    go : (b : Bool) → is_inside n outer ≡ b → is_inside n outer ≡ false
    go true h = less_not_greater (inside_after n outer h) e
    go false h = h

-- what is between a node and one inside it is inside it too
pub inside_between : (outer m n : Stored) → node_cmp outer m ≡ Less → node_cmp m n ≡ Less → is_inside n outer ≡ true → is_inside m outer ≡ true
inside_between outer m n a b e = go (slice_cmp nat_cmp outer.name m.name) refl
  where
    h : (bytes_eq n.name outer.name ≡ true) × (stands_below n.place outer.place ≡ true)
    h = and_parts (bytes_eq n.name outer.name) (stands_below n.place outer.place) e

    one : slice_cmp nat_cmp n.name outer.name ≡ Equal
    one = equal_or_not (slice_cmp nat_cmp n.name outer.name) (is_eq-slice_cmp n.name outer.name ∙ h.0)

    alike : slice_cmp nat_cmp m.name n.name ≡ slice_cmp nat_cmp m.name outer.name
    alike = nat_list_cmp_total.antisymm m.name n.name ∙ (ap ordering_reverse (nat_list_cmp_total.congr n.name outer.name m.name one) ∙ sym
        (nat_list_cmp_total.antisymm m.name outer.name))

    go : (o : Ordering) → slice_cmp nat_cmp outer.name m.name ≡ o → is_inside m outer ≡ true
    go Less o =
        let up : slice_cmp nat_cmp m.name n.name ≡ Greater = alike ∙ (nat_list_cmp_total.antisymm m.name outer.name ∙ ap ordering_reverse o) in
        less_not_greater b (ap (λ x. ordering_then x (place_cmp m.place n.place)) up)
    go Equal o =
        let back : slice_cmp nat_cmp m.name outer.name ≡ Equal = tied_back nat_list_cmp_total outer.name m.name o in
        let first : place_cmp outer.place m.place ≡ Less = sym (ap (λ x. ordering_then x (place_cmp outer.place m.place)) o) ∙ a in
        let second : place_cmp m.place n.place ≡ Less = sym (ap (λ x. ordering_then x (place_cmp m.place n.place)) (alike ∙ back)) ∙ b in
        ap (λ x. x && stands_below m.place outer.place) (sym (is_eq-slice_cmp m.name outer.name) ∙ ap is_eq back) ∙ between outer.place m.place n.place
        first second h.1
    go Greater o = less_not_greater a (ap (λ x. ordering_then x (place_cmp outer.place m.place)) o)

-- ---- what is above a node

-- the node is the other one, or inside it
abbrev pub at_or_inside : Option Stored → Stored → Bool
at_or_inside None outer = false
at_or_inside (Some n) outer = is_eq (node_cmp outer n) || is_inside n outer

-- something stands at the node, if there is one
abbrev pub AreThere : Forest → Option Stored → Type 0
AreThere F None = Unit {0}
AreThere F (Some n) = IsThere F n

-- what is above a place where something stands
above_there : (above : List PlaceStep) (s : PlaceStep) (o : Option Placed) → IsTrue (is_some (placed_from (above ++ s ∷ []) o))
    → IsTrue (is_some (placed_from above o))
above_there [] s None h = h
above_there [] s (Some from) h = refl
above_there (t ∷ above) s None h = h
above_there (t ∷ above) s (Some from) h = above_there above s (step_from from t) h

record Goes (F : Forest) (n outer : Stored) (o : Option Stored) : Type 0 where
  pub same : is_inside n outer ≡ at_or_inside o outer
  pub there : AreThere F o

-- a node is inside another one where the node above it is that one or is inside it
up : (F : Forest) (n outer : Stored) → IsThere F n → Goes F n outer (parent_of_node F n)
up F n outer there = in_tree (tree_of F n) refl there
  where
    in_tree : (o : Option Placed) → tree_of F n ≡ o → IsTrue (is_some (option_and_then (λ root. standing root n.place) o))
        → Goes F n outer (option_and_then (λ root. option_map (at_place n) (parent_place root n.place)) o)
    in_tree None t h = absurd (false≢true h)
    in_tree (Some root) t h = at_node (standing root n.place) refl h
      where
        by_place : (p : List PlaceStep) → n.place ≡ p → IsTrue (is_some (standing root p)) → Goes F n outer
            (option_map (at_place n) (option_map (λ (e : Ending). e.above) (ending p)))
        by_place [] e k = record {
          same = ap (λ p. bytes_eq n.name outer.name && stands_below p outer.place) e ∙ no_and (bytes_eq n.name outer.name);
          there = tt;
        }
        by_place (s ∷ p) e k =
            let end = behind_step s (ending p) in
            let whole = ending_is s p in
            record {
              same =
                  ap (λ p. bytes_eq n.name outer.name && stands_below p outer.place) (e ∙ sym whole)
                  ∙ (ap (λ x. bytes_eq n.name outer.name && x) (below_by_last end.above outer.place end.last)
                  ∙ (split_or (bytes_eq n.name outer.name) (is_eq (place_cmp outer.place end.above)) (stands_below end.above outer.place)
                  ∙ ap (λ x. x || (bytes_eq n.name outer.name && stands_below end.above outer.place))
                  (ap (λ x. x && is_eq (place_cmp outer.place end.above)) (names_turned n.name outer.name) ∙ sym (same_node outer (at_place n end.above)))));
              there =
                  subst (λ o. IsTrue (is_some (option_and_then (λ root. standing root end.above) o))) (sym t)
                  (above_there end.above end.last (Some root) (subst (λ p. IsTrue (is_some (standing root p))) (sym whole) k));
            }

        at_node : (o : Option Placed) → standing root n.place ≡ o → IsTrue (is_some o)
            → Goes F n outer (option_map (at_place n) (option_and o (option_map (λ (e : Ending). e.above) (ending n.place))))
        at_node None q k = absurd (false≢true k)
        at_node (Some it) q k = by_place n.place refl (subst (λ o. IsTrue (is_some o)) (sym q) refl)

module _ {I : Type 0} (F : Forest) (place : I → Stored) where
  -- the first turn
  pub begun : (n outer : I) (next : Option I) → IsThere F (place n) → option_map place next ≡ parent_of_node F (place n)
      → (is_inside (place n) (place outer) ≡ at_or_inside (option_map place next) (place outer)) × AreThere F (option_map place next)
  begun n outer next there e =
      let u = up F (place n) (place outer) there in
      subst (λ o. (is_inside (place n) (place outer) ≡ at_or_inside o (place outer)) × AreThere F o) (sym e) (u.same, u.there)

  -- one node up, where it comes after the other one
  pub one_up : (t : Bool) (m outer : I) (above next : Option I) → above ≡ Some m → (t ≡ at_or_inside (option_map place above) (place outer)) × AreThere F
      (option_map place above)
      → Less ≡ node_cmp (place outer) (place m) → option_map place next ≡ parent_of_node F (place m)
      → (t ≡ at_or_inside (option_map place next) (place outer)) × AreThere F (option_map place next)
  one_up t m outer above next e h less g =
      let k = subst (λ o. (t ≡ at_or_inside (option_map place o) (place outer)) × AreThere F (option_map place o)) e h in
      let b = begun m outer next k.1 g in
      (k.0 ∙ (ap (λ r. is_eq r || is_inside (place m) (place outer)) (sym less) ∙ b.0), b.1)

  -- where what is above comes before the other one, the node is not inside that
  pub passed : (t : Bool) (m outer : I) (above : Option I) → above ≡ Some m → t ≡ at_or_inside (option_map place above) (place outer)
      → Greater ≡ node_cmp (place outer) (place m) → false ≡ t
  passed t m outer above e h greater =
      sym (h ∙ (ap (λ o. at_or_inside (option_map place o) (place outer)) e
      ∙ (ap (λ r. is_eq r || is_inside (place m) (place outer)) (sym greater) ∙ before_not_inside (place m) (place outer) (sym greater))))

-- numbers rise on the way up, and none is greater than the greatest
abbrev pub left_above : {I : Type 0} → (I → ℕ) → ℕ → Option I → ℕ
left_above number most None = 0
left_above number most (Some m) = (most - number m) + 1
