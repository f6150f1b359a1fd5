-- Steps in constructed trees are steps without their predicates.
use Rattle.std.proofs.Common.{◌≡◌, ℕ, zero, suc, ◌+◌, ◌<◌, Bool, true, false, cond, List, [], ◌∷◌, ◌++◌, map, drop, length, get_or, Some, refl, sym, ap, ◌∙◌, append_assoc, append-nil, arith}
use Rattle.std.specs.List.{filter}
use Rattle.std.specs.Option.{option_map}
use Rattle.std.proofs.lemmas.List.{map-append}
use Rattle.std.proofs.lemmas.List.Elements.{filter-append}
use Rattle.xq_ast.specs.declared.step.Test.{Test}
use Rattle.xml_model.specs.declared.node.Attr.{Attr}
use Rattle.xml_model.specs.declared.node.Node.{Node}
use Rattle.xml_model.specs.declared.place.PlaceStep.{PlaceStep}
use Rattle.xml_model.specs.declared.place.PlaceStep.TheVariants as steps
use Rattle.xml_model.specs.Axes.{one_step_each, into_each, child_ways, attribute_ways, descendant_ways}
use Rattle.xml_model.specs.Nodes.{passes, passes_at}
use Rattle.xml_model.specs.Place.{Placed, a_node, an_attribute, attrs_of, kids_of, step_from, placed_from}
use Rattle.xq_values.specs.declared.item.NodeId.{NodeId}
use Rattle.xq_values.specs.declared.item.NodeId.TheVariants as id
use Rattle.xq_nodes.specs.MadeSteps.{way_fits, ways_from, ways_fitting, kids_fitting, attrs_fitting, made_node, made_where}
use Rattle.xq_nodes.proofs.Parts.{drop_first, ways_down_are}
use Rattle.xq_nodes.proofs.Stepping.{filter_map}

-- ---- ways on behind a step

-- the node at the end of a way behind a step is the one at its end from where the step leads
ways_behind : (tree : ℕ) (place : List PlaceStep) (s : PlaceStep) (ways : List (List PlaceStep))
    → map (made_node tree place) (map (λ way. s ∷ way) ways) ≡ map (made_node tree (place ++ s ∷ [])) ways
ways_behind tree place s [] = refl
ways_behind tree place s (w ∷ ways) =
    ap (λ p. id.Made (record { tree = tree; place = p }) ∷ map (made_node tree place) (map (λ way. s ∷ way) ways)) (sym (append_assoc place (s ∷ []) w))
    ∙ ap (λ l. made_node tree (place ++ s ∷ []) w ∷ l) (ways_behind tree place s ways)

-- one child more of those that are gone over
pub kid_turn : (deep : Bool) (wanted : Test) (tree : ℕ) (place : List PlaceStep) (kids : List Node) (i j : ℕ) (k : Node) (here : List PlaceStep) (old new t : List NodeId)
    → i < length kids → k ≡ get_or kids i k → j ≡ i → here ≡ place → new ≡ old ++ map (made_node tree (here ++ steps.Kid j ∷ [])) (ways_fitting deep wanted k)
    → old ++ map (made_node tree place) (kids_fitting deep wanted i (drop i kids)) ≡ t
    → new ++ map (made_node tree place) (kids_fitting deep wanted (i + 1) (drop (i + 1) kids)) ≡ t
kid_turn deep wanted tree place kids i j k at old new t n e same_number same_place p h =
    let rest = kids_fitting deep wanted (i + 1) (drop (i + 1) kids) in
    let here = map (λ way. steps.Kid i ∷ way) (ways_fitting deep wanted k) in
    let left : drop i kids ≡ k ∷ drop (i + 1) kids = first kids i n e in
    let added : new ≡ old ++ map (made_node tree (place ++ steps.Kid i ∷ [])) (ways_fitting deep wanted k) =
    p ∙ (ap (λ q. old ++ map (made_node tree (q ++ steps.Kid j ∷ [])) (ways_fitting deep wanted k)) same_place
    ∙ ap (λ m. old ++ map (made_node tree (place ++ steps.Kid m ∷ [])) (ways_fitting deep wanted k)) same_number) in
    ap (λ l. l ++ map (made_node tree place) rest) added
    ∙ (append_assoc old (map (made_node tree (place ++ steps.Kid i ∷ [])) (ways_fitting deep wanted k)) (map (made_node tree place) rest)
    ∙ (ap (λ l. old ++ l) (ap (λ l. l ++ map (made_node tree place) rest) (sym (ways_behind tree place (steps.Kid i) (ways_fitting deep wanted k)))
    ∙ sym (map-append (made_node tree place) here rest))
    ∙ (ap (λ l. old ++ map (made_node tree place) (kids_fitting deep wanted i l)) (sym left) ∙ h)))
  where
    first : (kids : List Node) (i : ℕ) → i < length kids → k ≡ get_or kids i k → drop i kids ≡ k ∷ drop (i + 1) kids
    first [] i n e = absurd (omega arith)
    first (x ∷ kids) zero n e = ap (λ y. y ∷ kids) (sym e)
    first (x ∷ kids) (suc i) n e =
        let same : i + 1 + 1 ≡ suc i + 1 = omega arith in
        let next : suc (i + 1) ≡ suc i + 1 = omega arith in
        first kids i (omega arith) e ∙ ap (λ n. k ∷ drop n (x ∷ kids)) next

-- one attribute more of those that are gone over
pub attr_turn : (wanted : Test) (tree : ℕ) (place : List PlaceStep) (attrs : List Attr) (i j : ℕ) (a : Attr) (here : List PlaceStep) (old new t : List NodeId)
    → i < length attrs → a ≡ get_or attrs i a → j ≡ i → here ≡ place → new ≡ old ++ made_where (passes true wanted (an_attribute a)) tree (here ++ steps.Attr j ∷ [])
    → old ++ map (made_node tree place) (attrs_fitting wanted i (drop i attrs)) ≡ t
    → new ++ map (made_node tree place) (attrs_fitting wanted (i + 1) (drop (i + 1) attrs)) ≡ t
attr_turn wanted tree place attrs i j a at old new t n e same_number same_place p h =
    let rest = attrs_fitting wanted (i + 1) (drop (i + 1) attrs) in
    let b = passes true wanted (an_attribute a) in
    let added : new ≡ old ++ made_where b tree (place ++ steps.Attr i ∷ []) =
    p ∙ (ap (λ q. old ++ made_where b tree (q ++ steps.Attr j ∷ [])) same_place ∙ ap (λ m. old ++ made_where b tree (place ++ steps.Attr m ∷ [])) same_number) in
    ap (λ l. l ++ map (made_node tree place) rest) added
    ∙ (append_assoc old (made_where b tree (place ++ steps.Attr i ∷ [])) (map (made_node tree place) rest)
    ∙ (ap (λ l. old ++ l) (one b refl) ∙ (ap (λ l. old ++ map (made_node tree place) (attrs_fitting wanted i l)) (sym (first attrs i n e)) ∙ h)))
  where
    one : (b : Bool) → b ≡ passes true wanted (an_attribute a)
        → made_where b tree (place ++ steps.Attr i ∷ []) ++ map (made_node tree place) (attrs_fitting wanted (i + 1) (drop (i + 1) attrs)) ≡ map (made_node tree place) (attrs_fitting wanted i (a ∷ drop (i + 1) attrs))
    one true q = ap (λ b. map (made_node tree place) (cond b ((steps.Attr i ∷ []) ∷ attrs_fitting wanted (i + 1) (drop (i + 1) attrs)) (attrs_fitting wanted (i + 1) (drop (i + 1) attrs)))) q
    one false q = ap (λ b. map (made_node tree place) (cond b ((steps.Attr i ∷ []) ∷ attrs_fitting wanted (i + 1) (drop (i + 1) attrs)) (attrs_fitting wanted (i + 1) (drop (i + 1) attrs)))) q

    first : (attrs : List Attr) (i : ℕ) → i < length attrs → a ≡ get_or attrs i a → drop i attrs ≡ a ∷ drop (i + 1) attrs
    first [] i n e = absurd (omega arith)
    first (x ∷ attrs) zero n e = ap (λ y. y ∷ attrs) (sym e)
    first (x ∷ attrs) (suc i) n e =
        let next : suc (i + 1) ≡ suc i + 1 = omega arith in
        first attrs i (omega arith) e ∙ ap (λ n. a ∷ drop n (x ∷ attrs)) next

-- ---- a child itself, and with all below it

-- from a step on, the same ways pass
passing_behind : (from next : Placed) (wanted : Test) (s : PlaceStep) → step_from from s ≡ Some next → (ways : List (List PlaceStep))
    → filter (way_fits false wanted from) (map (λ way. s ∷ way) ways) ≡ map (λ way. s ∷ way) (filter (way_fits false wanted next) ways)
passing_behind from next wanted s e ways =
    filter_map (λ (way : List PlaceStep). s ∷ way) (way_fits false wanted from) (way_fits false wanted next) (λ way. ap (λ o. passes_at false wanted (placed_from way o)) e) ways

-- the ways into children that pass are those that pass from each child
pub fit_kids : (deep : Bool) (wanted : Test) (from : Placed) (i : ℕ) (left : List Node) → drop i (kids_of from) ≡ left
    → filter (way_fits false wanted from) (into_each i (map (ways_from deep) left)) ≡ kids_fitting deep wanted i left
fit_kids deep wanted from i [] d = refl
fit_kids deep wanted from i (k ∷ left) d =
    let one = drop_first (kids_of from) i k left d in
    filter-append (way_fits false wanted from) (map (λ way. steps.Kid i ∷ way) (ways_from deep k)) (into_each (i + 1) (map (ways_from deep) left))
    ∙ (ap (λ l. l ++ filter (way_fits false wanted from) (into_each (i + 1) (map (ways_from deep) left))) (passing_behind from (a_node k) wanted (steps.Kid i) (ap (option_map a_node) one.0) (ways_from deep k))
    ∙ ap (λ l. map (λ way. steps.Kid i ∷ way) (ways_fitting deep wanted k) ++ l) (fit_kids deep wanted from (i + 1) left one.1))

-- what passes of a node and all below it
pub whole_fits : (wanted : Test) (n : Node)
    → ways_fitting true wanted n ≡ cond (passes false wanted (a_node n)) ([] ∷ kids_fitting true wanted 0 (kids_of (a_node n))) (kids_fitting true wanted 0 (kids_of (a_node n)))
whole_fits wanted n =
    ap (filter (way_fits false wanted (a_node n))) (ways_down_are n)
    ∙ ap (λ l. cond (passes false wanted (a_node n)) ([] ∷ l) l) (fit_kids true wanted (a_node n) 0 (kids_of (a_node n)) refl)

fit_attrs : (wanted : Test) (from : Placed) (i : ℕ) (left : List Attr) → drop i (attrs_of from) ≡ left
    → filter (way_fits true wanted from) (one_step_each steps.Attr i left) ≡ attrs_fitting wanted i left
fit_attrs wanted from i [] d = refl
fit_attrs wanted from i (a ∷ left) d =
    let one = drop_first (attrs_of from) i a left d in
    let same : way_fits true wanted from (steps.Attr i ∷ []) ≡ passes true wanted (an_attribute a) = ap (passes_at true wanted) (ap (option_map an_attribute) one.0) in
    ap (λ b. cond b ((steps.Attr i ∷ []) ∷ filter (way_fits true wanted from) (one_step_each steps.Attr (i + 1) left)) (filter (way_fits true wanted from) (one_step_each steps.Attr (i + 1) left))) same
    ∙ ap (λ l. cond (passes true wanted (an_attribute a)) ((steps.Attr i ∷ []) ∷ l) l) (fit_attrs wanted from (i + 1) left one.1)

child_ways_are : (i : ℕ) (kids : List Node) → one_step_each steps.Kid i kids ≡ into_each i (map (ways_from false) kids)
child_ways_are i [] = refl
child_ways_are i (k ∷ kids) = ap (λ l. (steps.Kid i ∷ []) ∷ l) (child_ways_are (i + 1) kids)

pub child_fit : (wanted : Test) (from : Placed) → filter (way_fits false wanted from) (child_ways from) ≡ kids_fitting false wanted 0 (kids_of from)
child_fit wanted from = ap (filter (way_fits false wanted from)) (child_ways_are 0 (kids_of from)) ∙ fit_kids false wanted from 0 (kids_of from) refl

pub descendant_fit : (wanted : Test) (from : Placed) → filter (way_fits false wanted from) (descendant_ways from) ≡ kids_fitting true wanted 0 (kids_of from)
descendant_fit wanted from = fit_kids true wanted from 0 (kids_of from) refl

pub attribute_fit : (wanted : Test) (from : Placed) → filter (way_fits true wanted from) (attribute_ways from) ≡ attrs_fitting wanted 0 (attrs_of from)
attribute_fit wanted from = fit_attrs wanted from 0 (attrs_of from) refl

-- what passes of a node, and then of its children and all below them
pub whole_added : (wanted : Test) (tree : ℕ) (here : List PlaceStep) (n : Node) (kids : List Node) (b : Bool) (old one new : List NodeId)
    → b ≡ passes false wanted (a_node n) → kids_of (a_node n) ≡ kids → one ≡ old ++ made_where b tree here → new ≡ one ++ map (made_node tree here) (kids_fitting true wanted 0 kids)
    → new ≡ old ++ map (made_node tree here) (ways_fitting true wanted n)
whole_added wanted tree here n kids b old one new e k p q =
    let found = kids_fitting true wanted 0 kids in
    q
    ∙ (ap (λ l. l ++ map (made_node tree here) found) p
    ∙ (append_assoc old (made_where b tree here) (map (made_node tree here) found)
    ∙ ap (λ l. old ++ l) (go b ∙ ap (map (made_node tree here)) (ap (λ b. cond b ([] ∷ found) found) e
    ∙ (ap (λ kids. cond (passes false wanted (a_node n)) ([] ∷ kids_fitting true wanted 0 kids) (kids_fitting true wanted 0 kids)) (sym k) ∙ sym (whole_fits wanted n))))))
  where
    go : (b : Bool) → made_where b tree here ++ map (made_node tree here) (kids_fitting true wanted 0 kids) ≡ map (made_node tree here) (cond b ([] ∷ kids_fitting true wanted 0 kids) (kids_fitting true wanted 0 kids))
    go true = ap (λ p. id.Made (record { tree = tree; place = p }) ∷ map (made_node tree here) (kids_fitting true wanted 0 kids)) (sym (append-nil here))
    go false = refl
