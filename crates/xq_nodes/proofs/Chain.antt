-- The chain of a node, as `first` and `next` walk it: all that stands in a node is its first and what follows that, and
-- what follows a node in its chain is the next and what follows that.
use Rattle.std.proofs.Common.{◌≡◌, ℕ, zero, suc, ◌+◌, ◌<◌, ◌≤◌, Bool, true, false, cond, List, [], ◌∷◌, ◌++◌, map, drop, length, Option, Some, None, refl, sym, ap, ◌∙◌, append_assoc, append-nil, subst, IfSome, arith}
use Rattle.std.specs.Prelude.{nat_lt}
use Rattle.std.specs.List.{flat_map}
use Rattle.std.specs.Option.{option_map, option_map_or, option_or, option_and, option_and_then}
use Rattle.std.proofs.lemmas.Bool.{ltb-true, ltb-false}
use Rattle.std.proofs.lemmas.List.{map-append}
use Rattle.std.proofs.lemmas.Option.{none-some, same_Some}
use Rattle.xml_model.specs.declared.place.PlaceStep.{PlaceStep}
use Rattle.xml_model.specs.declared.place.PlaceStep.TheVariants as steps
use Rattle.xml_model.specs.Axes.{one_step_each, attribute_ways, child_ways, held_places, held_nodes, nodes_at}
use Rattle.xml_model.specs.Forest.{Forest}
use Rattle.xml_model.specs.Nav.{Ending, ending, behind_step, attr_step, kid_step, first_step, next_step, first_place, next_place, behind_ending, standing, Stored, tree_of, at_place, first_of_node, next_of_node}
use Rattle.xml_model.specs.Place.{Placed, a_node, an_attribute, attrs_of, kids_of, step_from}
use Rattle.xml_model.proofs.Chains.{within_some}
use Rattle.xml_model.proofs.Numbered.{placed_more}

-- ---- lists

drop_some : {A : Type 0} (xs : List A) (i : ℕ) → i < length xs → (x : A) × (drop i xs ≡ x ∷ drop (i + 1) xs)
drop_some [] i h = absurd (omega arith)
drop_some (x ∷ xs) zero h = (x, refl)
drop_some (x ∷ xs) (suc i) h =
    let it = drop_some xs i (omega arith) in
    let same : suc (i + 1) ≡ suc i + 1 = omega arith in
    (it.0, it.1 ∙ ap (λ n. it.0 ∷ drop n (x ∷ xs)) same)

pub drop_none : {A : Type 0} (xs : List A) (i : ℕ) → length xs ≤ i → drop i xs ≡ []
drop_none [] zero h = refl
drop_none [] (suc i) h = refl
drop_none (x ∷ xs) zero h = absurd (omega arith)
drop_none (x ∷ xs) (suc i) h = drop_none xs i (omega arith)

-- ---- steps

-- the ways behind a step in its chain
abbrev pub ways_behind : Placed → PlaceStep → List (List PlaceStep)
ways_behind from (steps.Attr i) = one_step_each steps.Attr (i + 1) (drop (i + 1) (attrs_of from)) ++ one_step_each steps.Kid 0 (kids_of from)
ways_behind from (steps.Kid i) = one_step_each steps.Kid (i + 1) (drop (i + 1) (kids_of from))

abbrev ways_on : Placed → Option PlaceStep → List (List PlaceStep)
ways_on from None = []
ways_on from (Some s) = (s ∷ []) ∷ ways_behind from s

kids_on : (from : Placed) (i : ℕ) → one_step_each steps.Kid i (drop i (kids_of from)) ≡ ways_on from (kid_step from i)
kids_on from i = go (nat_lt i (length (kids_of from))) refl
  where
    go : (b : Bool) → nat_lt i (length (kids_of from)) ≡ b → one_step_each steps.Kid i (drop i (kids_of from)) ≡ ways_on from (cond b (Some (steps.Kid i)) None)
    go true q = ap (one_step_each steps.Kid i) (drop_some (kids_of from) i (ltb-true i (length (kids_of from)) q)).1
    go false q = ap (one_step_each steps.Kid i) (drop_none (kids_of from) i (ltb-false i (length (kids_of from)) q))

attrs_on : (from : Placed) (i : ℕ) → one_step_each steps.Attr i (drop i (attrs_of from)) ++ one_step_each steps.Kid 0 (kids_of from)
    ≡ ways_on from (option_or (attr_step from i) (kid_step from 0))
attrs_on from i = go (nat_lt i (length (attrs_of from))) refl
  where
    go : (b : Bool) → nat_lt i (length (attrs_of from)) ≡ b → one_step_each steps.Attr i (drop i (attrs_of from)) ++ one_step_each steps.Kid 0 (kids_of from)
        ≡ ways_on from (option_or (cond b (Some (steps.Attr i)) None) (kid_step from 0))
    go true q = ap (λ left. one_step_each steps.Attr i left ++ one_step_each steps.Kid 0 (kids_of from)) (drop_some (attrs_of from) i (ltb-true i (length (attrs_of from)) q)).1
    go false q = ap (λ left. one_step_each steps.Attr i left ++ one_step_each steps.Kid 0 (kids_of from)) (drop_none (attrs_of from) i (ltb-false i (length (attrs_of from)) q)) ∙ kids_on from 0

first_on : (from : Placed) → attribute_ways from ++ child_ways from ≡ ways_on from (first_step from)
first_on from = attrs_on from 0

next_on : (from : Placed) (s : PlaceStep) → ways_behind from s ≡ ways_on from (next_step from s)
next_on from (steps.Attr i) = attrs_on from (i + 1)
next_on from (steps.Kid i) = kids_on from (i + 1)

-- each of these steps leads somewhere
Leads : Placed → PlaceStep → Type 0
Leads from s = (w : Placed) × (step_from from s ≡ Some w)

AllLead : Placed → Option PlaceStep → Type 0
AllLead from o = (s : PlaceStep) → o ≡ Some s → Leads from s

kid_leads : (from : Placed) (i : ℕ) → AllLead from (kid_step from i)
unfolding Leads AllLead
kid_leads from i = go (nat_lt i (length (kids_of from))) refl
  where
    go : (b : Bool) → nat_lt i (length (kids_of from)) ≡ b → (s : PlaceStep) → cond b (Some (steps.Kid i)) None ≡ Some s → (w : Placed) × (step_from from s ≡ Some w)
    go true q s e =
        let k = within_some (kids_of from) i (ltb-true i (length (kids_of from)) q) in
        (a_node k.0, ap (step_from from) (sym (same_Some (steps.Kid i) s e)) ∙ ap (option_map a_node) k.1)
    go false q s e = absurd (none-some s e)

attr_leads : (from : Placed) (i : ℕ) → AllLead from (option_or (attr_step from i) (kid_step from 0))
unfolding Leads AllLead
attr_leads from i = go (nat_lt i (length (attrs_of from))) refl
  where
    go : (b : Bool) → nat_lt i (length (attrs_of from)) ≡ b → (s : PlaceStep) → option_or (cond b (Some (steps.Attr i)) None) (kid_step from 0) ≡ Some s → (w : Placed) × (step_from from s ≡ Some w)
    go true q s e =
        let a = within_some (attrs_of from) i (ltb-true i (length (attrs_of from)) q) in
        (an_attribute a.0, ap (step_from from) (sym (same_Some (steps.Attr i) s e)) ∙ ap (option_map an_attribute) a.1)
    go false q s e = kid_leads from 0 s e

first_leads : (from : Placed) → AllLead from (first_step from)
first_leads from = attr_leads from 0

next_leads : (from : Placed) (s : PlaceStep) → AllLead from (next_step from s)
next_leads from (steps.Attr i) = attr_leads from (i + 1)
next_leads from (steps.Kid i) = kid_leads from (i + 1)

-- ---- places

abbrev later_from : Placed → Option Ending → List (List PlaceStep)
later_from root None = []
later_from root (Some e) = option_map_or (λ from. map (λ way. e.above ++ way) (ways_behind from e.last)) (standing root e.above) []

-- the places that follow a place in its chain
abbrev pub later_places : Placed → List PlaceStep → List (List PlaceStep)
later_places root place = option_map_or (λ it. later_from root (ending place)) (standing root place) []

abbrev seen_places : Placed → Option (List PlaceStep) → List (List PlaceStep)
seen_places root None = []
seen_places root (Some place) = place ∷ later_places root place

ending_more : (p : List PlaceStep) (s : PlaceStep) → ending (p ++ s ∷ []) ≡ Some (record { above = p; last = s })
ending_more [] s = refl
ending_more (t ∷ p) s = ap (λ o. Some (behind_step t o)) (ending_more p s)

on_from : (root : Placed) (p : List PlaceStep) (from : Placed) (o : Option PlaceStep) → standing root p ≡ Some from → AllLead from o
    → map (λ way. p ++ way) (ways_on from o) ≡ seen_places root (option_map (λ s. p ++ s ∷ []) o)
unfolding Leads AllLead
on_from root p from None e lead = refl
on_from root p from (Some s) e lead =
    let w = lead s refl in
    ap (λ rest. (p ++ s ∷ []) ∷ rest)
    (sym (ap (λ o. option_map_or (λ it. later_from root (ending (p ++ s ∷ []))) o []) (placed_more p s (Some root) from e ∙ w.1)
    ∙ (ap (later_from root) (ending_more p s)
    ∙ ap (λ o. option_map_or (λ from. map (λ way. p ++ way) (ways_behind from s)) o []) e)))

held_on : (root : Placed) (p : List PlaceStep) → held_places root p ≡ seen_places root (first_place root p)
held_on root p = go (standing root p) refl
  where
    go : (o : Option Placed) → standing root p ≡ o → held_places root p ≡ seen_places root (first_place root p)
    go None e =
        ap (λ o. option_map_or (λ from. map (λ way. p ++ way) (attribute_ways from)) o [] ++ option_map_or (λ from. map (λ way. p ++ way) (child_ways from)) o []) e
        ∙ sym (ap (λ o. seen_places root (option_and_then (λ from. option_map (λ s. p ++ s ∷ []) (first_step from)) o)) e)
    go (Some from) e =
        ap (λ o. option_map_or (λ from. map (λ way. p ++ way) (attribute_ways from)) o [] ++ option_map_or (λ from. map (λ way. p ++ way) (child_ways from)) o []) e
        ∙ (sym (map-append (λ way. p ++ way) (attribute_ways from) (child_ways from))
        ∙ (ap (map (λ way. p ++ way)) (first_on from)
        ∙ (on_from root p from (first_step from) e (first_leads from)
        ∙ sym (ap (λ o. seen_places root (option_and_then (λ from. option_map (λ s. p ++ s ∷ []) (first_step from)) o)) e))))

later_on : (root : Placed) (p : List PlaceStep) → later_places root p ≡ seen_places root (next_place root p)
later_on root p = go (standing root p)
  where
    onward : (o : Option Ending) → later_from root o ≡ seen_places root (option_and_then (behind_ending root) o)
    onward None = refl
    onward (Some e) = above (standing root e.above) refl
      where
        above : (o : Option Placed) → standing root e.above ≡ o → option_map_or (λ from. map (λ way. e.above ++ way) (ways_behind from e.last)) o []
            ≡ seen_places root (option_and_then (λ from. option_map (λ s. e.above ++ s ∷ []) (next_step from e.last)) o)
        above None q = refl
        above (Some from) q = ap (map (λ way. e.above ++ way)) (next_on from e.last) ∙ on_from root e.above from (next_step from e.last) q (next_leads from e.last)

    go : (o : Option Placed) → option_map_or (λ it. later_from root (ending p)) o [] ≡ seen_places root (option_and o (option_and_then (behind_ending root) (ending p)))
    go None = refl
    go (Some it) = onward (ending p)

-- ---- stored nodes

-- the nodes that follow a node in its chain
unfoldable pub later_nodes : Forest → Stored → List Stored
later_nodes F node = nodes_at later_places F node

-- a node and those that follow it
abbrev pub seen_nodes : Forest → Option Stored → List Stored
seen_nodes F None = []
seen_nodes F (Some node) = node ∷ later_nodes F node

module _ (F : Forest) (node : Stored) where
  seen_here : (root : Placed) (o : Option (List PlaceStep)) → tree_of F node ≡ Some root → map (at_place node) (seen_places root o) ≡ seen_nodes F (option_map (at_place node) o)
  unfolding later_nodes
  seen_here root None e = refl
  seen_here root (Some p) e = ap (λ rest. at_place node p ∷ rest) (sym (ap (λ o. option_map_or (λ root. map (at_place node) (later_places root p)) o []) e))

  -- all that stands in a node is its first and what follows it
  pub held_seen : held_nodes F node ≡ seen_nodes F (first_of_node F node)
  held_seen = go (tree_of F node) refl
    where
      go : (o : Option Placed) → tree_of F node ≡ o
          → option_map_or (λ root. map (at_place node) (held_places root node.place)) o [] ≡ seen_nodes F (option_and_then (λ root. option_map (at_place node) (first_place root node.place)) o)
      go None e = refl
      go (Some root) e = ap (map (at_place node)) (held_on root node.place) ∙ seen_here root (first_place root node.place) e

  -- what follows a node is the next and what follows that
  pub later_seen : later_nodes F node ≡ seen_nodes F (next_of_node F node)
  unfolding later_nodes
  later_seen = go (tree_of F node) refl
    where
      go : (o : Option Placed) → tree_of F node ≡ o
          → option_map_or (λ root. map (at_place node) (later_places root node.place)) o [] ≡ seen_nodes F (option_and_then (λ root. option_map (at_place node) (next_place root node.place)) o)
      go None e = refl
      go (Some root) e = ap (map (at_place node)) (later_on root node.place) ∙ seen_here root (next_place root node.place) e

-- ---- a turn of a walk

module _ {I : Type 0} (F : Forest) (place : I → Stored) (m : I) (o next : Option I) (e : o ≡ Some m) (gives : option_map place next ≡ next_of_node F (place m)) where
  onward : seen_nodes F (option_map place o) ≡ place m ∷ seen_nodes F (option_map place next)
  onward =
      ap (λ o. seen_nodes F (option_map place o)) e
      ∙ ap (λ rest. place m ∷ rest) (later_seen F (place m) ∙ ap (seen_nodes F) (sym gives))

  -- the node goes to those that are done
  pub turned : (all more : List I) (t : List Stored) → more ≡ all ++ m ∷ [] → map place all ++ seen_nodes F (option_map place o) ≡ t
      → map place more ++ seen_nodes F (option_map place next) ≡ t
  turned all more t p h =
      ap (λ xs. map place xs ++ seen_nodes F (option_map place next)) p
      ∙ (ap (λ xs. xs ++ seen_nodes F (option_map place next)) (map-append place all (m ∷ []))
      ∙ (append_assoc (map place all) (place m ∷ []) (seen_nodes F (option_map place next))
      ∙ (ap (λ rest. map place all ++ rest) (sym onward) ∙ h)))

  -- what comes of the node goes to what is done
  pub turned_into : (f : Stored → List Stored) (x y t : List Stored) → y ≡ x ++ f (place m) → x ++ flat_map f (seen_nodes F (option_map place o)) ≡ t
      → y ++ flat_map f (seen_nodes F (option_map place next)) ≡ t
  turned_into f x y t p h =
      ap (λ xs. xs ++ flat_map f (seen_nodes F (option_map place next))) p
      ∙ (append_assoc x (f (place m)) (flat_map f (seen_nodes F (option_map place next)))
      ∙ (ap (λ nodes. x ++ flat_map f nodes) (sym onward) ∙ h))

-- at the end of a chain all is done
pub ended : {I : Type 0} (F : Forest) (place : I → Stored) (f : Stored → List Stored) (o : Option I) (x t : List Stored) → o ≡ None
    → x ++ flat_map f (seen_nodes F (option_map place o)) ≡ t → x ≡ t
ended F place f o x t e h = sym (append-nil x) ∙ (ap (λ o. x ++ flat_map f (seen_nodes F (option_map place o))) (sym e) ∙ h)

-- numbers fall along a chain
pub lower : {I : Type 0} (number : I → ℕ) (m : I) (o next : Option I) (b : ℕ) → o ≡ Some m → IfSome o (λ m. number m < b) → IfSome next (λ n. number n < number m) → IfSome next (λ n. number n < b)
lower number m o None b e h k = tt
lower number m o (Some n) b e h k =
    let less : number m < b = subst (λ o. IfSome o (λ m. number m < b)) e h in
    omega (arith, k)
