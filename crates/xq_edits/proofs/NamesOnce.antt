-- No element has two attributes of one name after an update: an insertion looks at those that are there, and replacing and
-- renaming look at them once the last target among an element's attributes has its edit.
use Rattle.std.proofs.Common.{◌≡◌, ℕ, ◌+◌, Bool, true, false, ◌&&◌, true≢false, if◌then◌else◌, IfSome, List, [], ◌∷◌, ◌++◌, Option, None, Some, Result, Ok, Err, refl, sym, ap, subst, ◌∙◌}
use Rattle.std.specs.Prelude.{bytes_eq}
use Rattle.std.specs.FinMap as fin_map
use Rattle.std.specs.Cmp.{tied_itself}
use Rattle.std.specs.Cmp.Lexicographic.{slice_cmp, nat_list_cmp_total}
use Rattle.std.specs.Ordering.{nat_cmp, ordering_then, is_eq}
use Rattle.std.specs.declared.cmp.Ordering.{Ordering}
use Rattle.std.specs.declared.cmp.Ordering.TheVariants.{Less, Equal, Greater}
use Rattle.std.proofs.lemmas.Bool.{and_parts, false≢true}
use Rattle.std.proofs.lemmas.List.{append_assoc}
use Rattle.std.proofs.lemmas.Slice.Eq.{bytes_eq-Decides}
use Rattle.xq_ast.specs.declared.code.Code.{Code}
use Rattle.xq_ast.specs.declared.code.Code.TheVariants.{XQDY0025}
use Rattle.xml_model.specs.declared.edit.EditKind.{EditKind}
use Rattle.xml_model.specs.declared.node.Attr.{Attr}
use Rattle.xml_model.specs.declared.place.PlaceStep.{PlaceStep}
use Rattle.xml_model.specs.declared.place.PlaceStep.TheVariants as steps
use Rattle.xml_model.specs.Constructors.{has_name_twice}
use Rattle.xml_model.specs.DocumentOrder.{node_cmp}
use Rattle.xml_model.specs.Edits.{Change, done_in, element_by, element_of, is_same_element, goes_on, standing_at, names_twice, named_once}
use Rattle.xml_model.specs.Items.{Documents}
use Rattle.xml_model.specs.Nav.{Stored, ending, behind_step}
use Rattle.xml_model.specs.Place.{Placed, attrs_of, place_cmp, step_cmp}
use Rattle.xml_model.specs.Rebuild.{EditsIn, edited_attribute, edited_attributes}
use Rattle.xml_model.proofs.Alike.{Each}
use Rattle.xml_model.proofs.PlaceTotal.{place_total}

-- ---- places and nodes that are the same

is_tie : (r : Ordering) → is_eq r ≡ true → r ≡ Equal
is_tie Less e = absurd (true≢false (sym e))
is_tie Equal e = refl
is_tie Greater e = absurd (true≢false (sym e))

tie_front : (r s : Ordering) → ordering_then r s ≡ Equal → r ≡ Equal
tie_front Less s e = e
tie_front Equal s e = refl
tie_front Greater s e = e

tie_rest : (r s : Ordering) → ordering_then r s ≡ Equal → s ≡ Equal
tie_rest Less s e = absurd (false≢true (ap is_eq e))
tie_rest Equal s e = e
tie_rest Greater s e = absurd (false≢true (ap is_eq e))

step_same : (s t : PlaceStep) → step_cmp s t ≡ Equal → s ≡ t
step_same (steps.Attr i) (steps.Attr j) e = ap steps.Attr (fin_map.nat_cmp-IsAntisymmetric i j e)
step_same (steps.Attr i) (steps.Kid j) e = absurd (false≢true (ap is_eq e))
step_same (steps.Kid i) (steps.Attr j) e = absurd (false≢true (ap is_eq e))
step_same (steps.Kid i) (steps.Kid j) e = ap steps.Kid (fin_map.nat_cmp-IsAntisymmetric i j e)

-- places that tie are one place
pub place_same : (p q : List PlaceStep) → place_cmp p q ≡ Equal → p ≡ q
place_same [] [] e = refl
place_same [] (t ∷ q) e = absurd (false≢true (ap is_eq e))
place_same (s ∷ p) [] e = absurd (false≢true (ap is_eq e))
place_same (s ∷ p) (t ∷ q) e = λ i. step_same s t (tie_front (step_cmp s t) (place_cmp p q) e) i ∷ place_same p q (tie_rest (step_cmp s t) (place_cmp p q) e) i

-- nodes that tie are one node
pub node_same : (a b : Stored) → node_cmp a b ≡ Equal → a ≡ b
node_same a b e =
    let names = fin_map.slice_cmp-IsAntisymmetric fin_map.nat_cmp-IsAntisymmetric a.name b.name (tie_front (slice_cmp nat_cmp a.name b.name) (place_cmp a.place b.place) e) in
    let places = place_same a.place b.place (tie_rest (slice_cmp nat_cmp a.name b.name) (place_cmp a.place b.place) e) in
    λ i. record { name = names i; place = places i }

node_itself : (a : Stored) → node_cmp a a ≡ Equal
node_itself a = ap (λ r. ordering_then r (place_cmp a.place a.place)) (tied_itself nat_list_cmp_total a.name) ∙ tied_itself place_total a.place

-- ---- what is done at a place

-- the change of a node at this place of the document of this name
abbrev is_at : List ℕ → List PlaceStep → Change → Bool
is_at name place c = bytes_eq c.node.name name && is_eq (place_cmp c.node.place place)

is_at_node : (name : List ℕ) (place : List PlaceStep) (c : Change) → is_at name place c ≡ true → c.node ≡ record { name = name; place = place }
is_at_node name place c e =
    let parts = and_parts (bytes_eq c.node.name name) (is_eq (place_cmp c.node.place place)) e in
    let names = (bytes_eq-Decides c.node.name name).0 parts.0 in
    let places = place_same c.node.place place (is_tie (place_cmp c.node.place place) parts.1) in
    λ i. record { name = names i; place = places i }

-- what holds of each change holds of what is done at a place, where something is
pub found_there : (P : Stored → EditKind → Type 0) (name : List ℕ) (place : List PlaceStep) (cs : List Change) → Each (λ c. P c.node c.what) cs
    → IfSome (done_in name cs place) (P (record { name = name; place = place }))
found_there P name place [] h = tt
found_there P name place (c ∷ cs) h =
    elim (is_at name place c) as (λ b. is_at name place c ≡ b → IfSome (if b then Some c.what else done_in name cs place) (P (record { name = name; place = place }))) [
      | true ↦ λ at. subst (λ n. P n c.what) (is_at_node name place c at) h.0
      | false ↦ λ other. found_there P name place cs h.1
    ] refl

-- what is done after these changes, where none of the later ones is at the place
done_before : (name : List ℕ) (place : List PlaceStep) (cs more : List Change) → Each (λ c. is_at name place c ≡ false) more
    → done_in name (cs ++ more) place ≡ done_in name cs place
done_before name place [] [] h = refl
done_before name place [] (c ∷ more) h = ap (λ b. if b then Some c.what else done_in name more place) h.0 ∙ done_before name place [] more h.1
done_before name place (c ∷ cs) more h = ap (λ o. if is_at name place c then Some c.what else o) (done_before name place cs more h)

-- ---- attributes of one element

-- what is done at the attributes of an element, one by one
edited_same : (at at' : EditsIn) (i : ℕ) (attrs : List Attr) → ((k : ℕ) → at (steps.Attr k ∷ []) ≡ at' (steps.Attr k ∷ []))
    → edited_attributes at i attrs ≡ edited_attributes at' i attrs
edited_same at at' i [] h = refl
edited_same at at' i (a ∷ attrs) h = λ j. edited_attribute a (h i j) ++ edited_same at at' (i + 1) attrs h j

-- edits that leave attributes as they are
pub attributes_stay : (at : EditsIn) (i : ℕ) (attrs : List Attr) → ((k : ℕ) (a : Attr) → edited_attribute a (at (steps.Attr k ∷ [])) ≡ a ∷ [])
    → edited_attributes at i attrs ≡ attrs
attributes_stay at i [] h = refl
attributes_stay at i (a ∷ attrs) h = λ j. h i a j ++ attributes_stay at (i + 1) attrs h j

ending_behind : (place : List PlaceStep) (s : PlaceStep) → ending (place ++ s ∷ []) ≡ Some (record { above = place; last = s })
ending_behind [] s = refl
ending_behind (t ∷ place) s = ap (λ e. Some (behind_step t e)) (ending_behind place s)

-- the change is at an attribute of the element
abbrev pub hits : Stored → Change → Bool
hits element c = is_same_element (Some element) (element_of c.node)

attribute_hits : (name : List ℕ) (place : List PlaceStep) (k : ℕ) (c : Change) → is_at name (place ++ steps.Attr k ∷ []) c ≡ true
    → hits (record { name = name; place = place }) c ≡ true
attribute_hits name place k c at =
    ap (λ n. is_same_element (Some (record { name = name; place = place })) (element_of n)) (is_at_node name (place ++ steps.Attr k ∷ []) c at)
    ∙ (ap (λ e. is_same_element (Some (record { name = name; place = place })) (element_by (record { name = name; place = place ++ steps.Attr k ∷ [] }) e)) (ending_behind place (steps.Attr k))
    ∙ ap is_eq (node_itself (record { name = name; place = place })))

-- one that hits no attribute of the element is at none of them
misses : (name : List ℕ) (place : List PlaceStep) (k : ℕ) (c : Change) → hits (record { name = name; place = place }) c ≡ false
    → is_at name (place ++ steps.Attr k ∷ []) c ≡ false
misses name place k c h =
    elim (is_at name (place ++ steps.Attr k ∷ []) c) as (λ b. is_at name (place ++ steps.Attr k ∷ []) c ≡ b → b ≡ false) [
      | true ↦ λ at. absurd (true≢false (sym (attribute_hits name place k c at) ∙ h))
      | false ↦ λ other. refl
    ] refl

all_miss : (name : List ℕ) (place : List PlaceStep) (k : ℕ) (cs : List Change) → Each (λ c. hits (record { name = name; place = place }) c ≡ false) cs
    → Each (λ c. is_at name (place ++ steps.Attr k ∷ []) c ≡ false) cs
all_miss name place k [] h = tt
all_miss name place k (c ∷ cs) h = (misses name place k c h.0, all_miss name place k cs h.1)

-- one that hits is at an attribute of this element and of no other
element_hit : (element : Stored) (o : Option Stored) → is_same_element (Some element) o ≡ true → o ≡ Some element
element_hit element None h = absurd (false≢true h)
element_hit element (Some n) h = ap (λ m. Some m) (sym (node_same element n (is_tie (node_cmp element n) h)))

-- ---- the turns of an update

module _ (docs : Documents) where
  -- each change was allowed in its turn, and leaves an element with the attributes that it has
  abbrev pub Turns : List Change → List Stored → List Change → Type 0
  Turns done [] [] = Unit {0}
  Turns done [] (c ∷ new) = ⊥
  Turns done (n ∷ ns) [] = ⊥
  Turns done (n ∷ ns) (c ∷ new) = (c.node ≡ n) × (named_once docs done ns c ≡ Ok c.what) × Turns (done ++ c ∷ []) ns new

  module _ (name : List ℕ) (place : List PlaceStep) (from : Placed) (there : standing_at docs (record { name = name; place = place }) ≡ from) where
    abbrev element : Stored
    element = record { name = name; place = place }

    -- the attributes of the element after these changes
    abbrev attributes_after : List Change → List Attr
    attributes_after cs = edited_attributes (λ s. done_in name cs (place ++ s)) 0 (attrs_of from)

    later_miss : (cs more : List Change) → Each (λ c. hits element c ≡ false) more → attributes_after (cs ++ more) ≡ attributes_after cs
    later_miss cs more h =
        edited_same (λ s. done_in name (cs ++ more) (place ++ s)) (λ s. done_in name cs (place ++ s)) 0 (attrs_of from)
        (λ k. done_before name (place ++ steps.Attr k ∷ []) cs more (all_miss name place k more h))

    -- the next target is no attribute of the element, so the names were tested
    not_on : (c : Change) (done : List Change) (ns : List Stored) (new : List Change) → hits element c ≡ true → Turns done ns new
        → Each (λ c. hits element c ≡ false) new → goes_on c.node ns ≡ false
    not_on c done [] [] hit t none = refl
    not_on c done [] (d ∷ new) hit t none = absurd t
    not_on c done (n ∷ ns) [] hit t none = absurd t
    not_on c done (n ∷ ns) (d ∷ new) hit t none =
        ap (λ o. is_same_element o (element_of n)) (element_hit element (element_of c.node) hit)
        ∙ (ap (λ m. is_same_element (Some element) (element_of m)) (sym t.0) ∙ none.0)

    passed : (b : Bool) (what : EditKind) → (if b then Err XQDY0025 else Ok what) ≡ Ok what → b ≡ false
    passed true what e = absurd (err_is_ok e)
      where
        is_ok : Result EditKind Code → Bool
        is_ok (Ok k) = true
        is_ok (Err code) = false

        err_is_ok : Err XQDY0025 ≡ Ok what → ⊥
        err_is_ok e = false≢true (ap is_ok e)
    passed false what e = refl

    tested_last : (c : Change) (done : List Change) (ns : List Stored) → hits element c ≡ true → goes_on c.node ns ≡ false → named_once docs done ns c ≡ Ok c.what
        → has_name_twice (attributes_after (done ++ c ∷ [])) ≡ false
    tested_last c done ns hit off once =
        let asked : names_twice docs (done ++ c ∷ []) (element_of c.node) ≡ false =
        passed (names_twice docs (done ++ c ∷ []) (element_of c.node)) c.what
        (sym (ap (λ b. if b then Ok c.what else (if names_twice docs (done ++ c ∷ []) (element_of c.node) then Err XQDY0025 else Ok c.what)) off) ∙ once) in
        sym (ap (λ it. has_name_twice (edited_attributes (λ s. done_in name (done ++ c ∷ []) (place ++ s)) 0 (attrs_of it))) there)
        ∙ (sym (ap (names_twice docs (done ++ c ∷ [])) (element_hit element (element_of c.node) hit)) ∙ asked)

    -- none of the changes hits the element, or its attributes have distinct names after all of them
    pub data Last (done new : List Change) : Type 0 where
      none_hits : Each (λ c. hits element c ≡ false) new → Last done new
      names_differ : has_name_twice (attributes_after (done ++ new)) ≡ false → Last done new

    one_more : (c : Change) (done : List Change) (ns : List Stored) (new : List Change) → named_once docs done ns c ≡ Ok c.what → Turns (done ++ c ∷ []) ns new
        → Last (done ++ c ∷ []) new → Last done (c ∷ new)
    one_more c done ns new once t (none_hits none) =
        elim (hits element c) as (λ b. hits element c ≡ b → Last done (c ∷ new)) [
          | true ↦ λ hit. names_differ (ap has_name_twice (ap attributes_after (sym (append_assoc done (c ∷ []) new)) ∙ later_miss (done ++ c ∷ []) new none)
              ∙ tested_last c done ns hit (not_on c (done ++ c ∷ []) ns new hit t none) once)
          | false ↦ λ miss. none_hits (miss, none)
        ] refl
    one_more c done ns new once t (names_differ differ) = names_differ (ap (λ cs. has_name_twice (attributes_after cs)) (sym (append_assoc done (c ∷ []) new)) ∙ differ)

    pub last_turn : (done : List Change) (ns : List Stored) (new : List Change) → Turns done ns new → Last done new
    last_turn done [] [] t = none_hits tt
    last_turn done [] (c ∷ new) t = absurd t
    last_turn done (n ∷ ns) [] t = absurd t
    last_turn done (n ∷ ns) (c ∷ new) t = one_more c done ns new t.1 t.2 (last_turn (done ++ c ∷ []) ns new t.2)

    untouched : (new : List Change) → has_name_twice (attrs_of from) ≡ false → Last [] new → has_name_twice (attributes_after new) ≡ false
    untouched new distinct (none_hits none) =
        ap has_name_twice (later_miss [] new none ∙ attributes_stay (λ s. None) 0 (attrs_of from) (λ k a. refl)) ∙ distinct
    untouched new distinct (names_differ differ) = differ

    -- where each change was allowed in its turn, and the element had distinct names, it has them after all
    pub turns_differ : (ns : List Stored) (new : List Change) → Turns [] ns new → has_name_twice (attrs_of from) ≡ false
        → has_name_twice (attributes_after new) ≡ false
    turns_differ ns new t distinct = untouched new distinct (last_turn [] ns new t)
