-- What stands at a place has its row, and the place its turn in document order, at the place's number.
use Rattle.std.proofs.Common.{◌≡◌, ℕ, zero, suc, ◌+◌, List, [], ◌∷◌, ◌++◌, map, length, take, Option, Some, None, refl, sym, ap, ◌∙◌, arith}
use Rattle.std.specs.List.{slice_get}
use Rattle.std.specs.Option.{option_map}
use Rattle.std.proofs.lemmas.List.{length-append, length-map}
use Rattle.std.proofs.lemmas.Option.{none-some, same_Some, slice_get-map}
use Rattle.xml_model.specs.declared.node.Attr.{Attr}
use Rattle.xml_model.specs.declared.node.Node.{Node}
use Rattle.xml_model.specs.declared.place.PlaceStep.{PlaceStep}
use Rattle.xml_model.specs.declared.place.PlaceStep.TheVariants as steps
use Rattle.xml_model.specs.Axes.{one_step_each, into_each}
use Rattle.xml_model.specs.Nav.{told_of}
use Rattle.xml_model.specs.Numbering.{Row, attr_rows, kid_rows, node_rows, all_step, all_ways}
use Rattle.xml_model.specs.Place.{an_attribute}
use Rattle.xml_model.specs.Trees.{count_node, count_of}
use Rattle.xml_model.proofs.NodeCases.{Each, node_has}
use Rattle.xml_model.proofs.Nodes.{fold-Element, fold-Text, fold-Pi}
use Rattle.xml_model.proofs.Numbers.{length-node_rows, count-Element, count-Text, count-Pi}

-- ---- elements of lists by their number

pub get_behind : {A : Type 0} (xs ys : List A) (n k : ℕ) → n ≡ length xs + k → slice_get (xs ++ ys) n ≡ slice_get ys k
get_behind [] ys n k e = let same : n ≡ k = omega arith in ap (slice_get ys) same
get_behind (x ∷ xs) ys n k e =
    let same : n ≡ suc (length xs + k) = omega arith in
    ap (slice_get (x ∷ (xs ++ ys))) same ∙ get_behind xs ys (length xs + k) k refl

pub get_before : {A : Type 0} (xs ys : List A) (k : ℕ) (x : A) → slice_get xs k ≡ Some x → slice_get (xs ++ ys) k ≡ Some x
get_before [] ys k x e = absurd (none-some x e)
get_before (y ∷ xs) ys zero x e = e
get_before (y ∷ xs) ys (suc k) x e = get_before xs ys k x e

pub record Mapped {A B : Type 0} (f : A → B) (o : Option A) (y : B) : Type 0 where
  pub it : A
  pub was : o ≡ Some it
  pub is : f it ≡ y

pub mapped : {A B : Type 0} (f : A → B) (o : Option A) (y : B) → option_map f o ≡ Some y → Mapped f o y
mapped f None y e = absurd (none-some y e)
mapped f (Some x) y e = record { it = x; was = refl; is = same_Some (f x) y e }

-- ---- attributes

pub attr_row_at : (b i : ℕ) (attrs : List Attr) (a : Attr) → slice_get attrs i ≡ Some a
    → slice_get (attr_rows b attrs) i ≡ Some (record { told = told_of (an_attribute a); back = b + i; size = 1 })
attr_row_at b i [] a e = absurd (none-some a e)
attr_row_at b zero (x ∷ more) a e =
    let same : b ≡ b + 0 = omega arith in
    ap (λ a. Some (record { told = told_of (an_attribute a); back = b; size = 1 })) (same_Some x a e)
    ∙ ap (λ n. Some (record { told = told_of (an_attribute a); back = n; size = 1 })) same
attr_row_at b (suc i) (x ∷ more) a e =
    let same : b + 1 + i ≡ b + suc i = omega arith in
    attr_row_at (b + 1) i more a e ∙ ap (λ n. Some (record { told = told_of (an_attribute a); back = n; size = 1 })) same

pub one_step_at : {X : Type 0} (step : ℕ → PlaceStep) (c i : ℕ) (xs : List X) (x : X) → slice_get xs i ≡ Some x → slice_get (one_step_each step c xs) i ≡ Some (step (c + i) ∷ [])
one_step_at step c i [] x e = absurd (none-some x e)
one_step_at step c zero (y ∷ xs) x e = let same : c ≡ c + 0 = omega arith in ap (λ n. Some (step n ∷ [])) same
one_step_at step c (suc i) (y ∷ xs) x e =
    let same : c + 1 + i ≡ c + suc i = omega arith in one_step_at step (c + 1) i xs x e ∙ ap (λ n. Some (step n ∷ [])) same

pub length-one_step_each : {X : Type 0} (step : ℕ → PlaceStep) (c : ℕ) (xs : List X) → length (one_step_each step c xs) ≡ length xs
length-one_step_each step c [] = refl
length-one_step_each step c (x ∷ xs) = ap suc (length-one_step_each step (c + 1) xs)

-- ---- children

pub kid_row_at : (b i k n : ℕ) (kids : List Node) (kid : Node) (r : Row) → slice_get kids i ≡ Some kid → n ≡ count_of (take i kids) + k
    → slice_get (node_rows kid (b + count_of (take i kids))) k ≡ Some r → slice_get (kid_rows b (map node_rows kids)) n ≡ Some r
kid_row_at b i k n [] kid r e m h = absurd (none-some kid e)
kid_row_at b zero k n (x ∷ kids) kid r e m h =
    let none : b + count_of (take 0 (x ∷ kids)) ≡ b = omega arith in
    let same : n ≡ k = omega arith in
    ap (slice_get (node_rows x b ++ _)) same
    ∙ get_before (node_rows x b) _ k r (ap (λ y. slice_get (node_rows y b) k) (same_Some x kid e) ∙ (ap (λ c. slice_get (node_rows kid c) k) (sym none) ∙ h))
kid_row_at b (suc i) k n (x ∷ kids) kid r e m h =
    let there : n ≡ length (node_rows x b) + (count_of (take i kids) + k) = omega (arith, length-node_rows x b) in
    let same : b + count_of (take (suc i) (x ∷ kids)) ≡ b + length (node_rows x b) + count_of (take i kids) = omega (arith, length-node_rows x b) in
    get_behind (node_rows x b) _ n (count_of (take i kids) + k) there
    ∙ kid_row_at (b + length (node_rows x b)) i k (count_of (take i kids) + k) kids kid r e refl (ap (λ c. slice_get (node_rows kid c) k) (sym same) ∙ h)

WaysCounted : Node → Type 0
WaysCounted n = length (all_ways n) ≡ count_node n

length-into_each : (c : ℕ) (kids : List Node) → Each WaysCounted kids → length (into_each c (map all_ways kids)) ≡ count_of kids
unfolding WaysCounted
length-into_each c [] h = refl
length-into_each c (k ∷ kids) h =
    length-append (map (λ way. steps.Kid c ∷ way) (all_ways k)) _
    ∙ omega (arith, length-map (all_ways k) (λ way. steps.Kid c ∷ way), h.0, length-into_each (c + 1) kids h.1)

pub length-all_ways : (n : Node) → length (all_ways n) ≡ count_node n
unfolding WaysCounted
length-all_ways n =
    node_has WaysCounted
    (λ name attrs kids h. ap length (fold-Element (List (List PlaceStep)) all_step name attrs kids)
    ∙ (ap suc (length-append (one_step_each steps.Attr 0 attrs) _)
    ∙ omega (arith, length-one_step_each steps.Attr 0 attrs, length-into_each 0 kids h, count-Element name attrs kids)))
    (λ value. ap length (fold-Text (List (List PlaceStep)) all_step value) ∙ sym (count-Text value))
    (λ target value. ap length (fold-Pi (List (List PlaceStep)) all_step target value) ∙ sym (count-Pi target value)) n

pub kid_way_at : (c i k n : ℕ) (kids : List Node) (kid : Node) (p : List PlaceStep) → slice_get kids i ≡ Some kid → n ≡ count_of (take i kids) + k
    → slice_get (all_ways kid) k ≡ Some p → slice_get (into_each c (map all_ways kids)) n ≡ Some (steps.Kid (c + i) ∷ p)
kid_way_at c i k n [] kid p e m h = absurd (none-some kid e)
kid_way_at c zero k n (x ∷ kids) kid p e m h =
    let same : n ≡ k = omega arith in
    let none : c ≡ c + 0 = omega arith in
    ap (slice_get (map (λ way. steps.Kid c ∷ way) (all_ways x) ++ _)) same
    ∙ get_before (map (λ way. steps.Kid c ∷ way) (all_ways x)) _ k _
    (slice_get-map (λ way. steps.Kid c ∷ way) (all_ways x) k
    ∙ ap (option_map (λ way. steps.Kid c ∷ way)) (ap (λ y. slice_get (all_ways y) k) (same_Some x kid e) ∙ h))
    ∙ ap (λ i. Some (steps.Kid i ∷ p)) none
kid_way_at c (suc i) k n (x ∷ kids) kid p e m h =
    let front = map (λ way. steps.Kid c ∷ way) (all_ways x) in
    let there : n ≡ length front + (count_of (take i kids) + k) = omega (arith, length-map (all_ways x) (λ way. steps.Kid c ∷ way), length-all_ways x) in
    let same : c + 1 + i ≡ c + suc i = omega arith in
    get_behind front _ n (count_of (take i kids) + k) there
    ∙ (kid_way_at (c + 1) i k (count_of (take i kids) + k) kids kid p e refl h ∙ ap (λ i. Some (steps.Kid i ∷ p)) same)

counted : (nodes : List Node) → Each WaysCounted nodes
unfolding WaysCounted
counted [] = tt
counted (n ∷ nodes) = (length-all_ways n, counted nodes)

pub length-all_kid_ways : (c : ℕ) (kids : List Node) → length (into_each c (map all_ways kids)) ≡ count_of kids
length-all_kid_ways c kids = length-into_each c kids (counted kids)
