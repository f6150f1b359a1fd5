-- Targets: nodes of documents as nodes of any tree, in document order.
use Rattle.std.proofs.Common.{◌≡◌, ℕ, suc, ◌+◌, ◌<◌, ◌≤◌, List, [], ◌∷◌, ◌++◌, map, length, length-drop, get_or, drop, drop-cons, add-one, Option, None, Some, Result, Ok, Err, refl, sym, ap, subst, ◌∙◌, append_assoc, append-nil, arith}
use Rattle.std.specs.List.{filter_map}
use Rattle.std.specs.declared.cmp.Ordering.{Ordering}
use Rattle.std.specs.declared.cmp.Ordering.TheVariants.{Less, Equal, Greater}
use Rattle.std.specs.Result.{is_ok, IsErrAnd}
use Rattle.std.proofs.lemmas.Bool.{false≢true}
use Rattle.std.proofs.lemmas.List.{map-append}
use Rattle.xq_ast.specs.declared.code.Code.{Code}
use Rattle.xml_model.specs.declared.nav.Id.{Id}
use Rattle.xml_model.specs.declared.place.PlaceStep.{PlaceStep}
use Rattle.xml_model.specs.DocumentOrder.{by_first, into, union, in_order}
use Rattle.xml_model.specs.DocumentOrder as documents
use Rattle.xml_model.specs.Edits.{stored_node, stored_nodes, targets_of}
use Rattle.xml_model.specs.Items.{Tree, stored, constructed, NodeAt, ◌>>?◌}
use Rattle.xml_model.specs.Nav.{Stored}
use Rattle.xml_model.specs.Nodes.{node_cmp}
use Rattle.xq_nodes.specs.Answers.{Looks}
use Rattle.xq_nodes.specs.Ends.{end_of_value}
use Rattle.xq_nodes.specs.declared.end.EvalEnd.{EvalEnd}
use Rattle.xq_values.specs.Gives.{Gives}
use Rattle.xq_values.specs.declared.end.ValueEnd.{ValueEnd}
use Rattle.xq_values.specs.declared.end.ValueEnd.TheVariants as value_ends
use Rattle.xq_edits.specs.Targets.{stored_id, in_tree, nodes_in_trees}
use Rattle.xq_values.specs.Seen.{item_seen, node_seen}
use Rattle.xq_values.specs.declared.item.Item.{Item}
use Rattle.xq_values.specs.declared.item.NodeId.{NodeId}
use Rattle.xq_values.specs.declared.item.NodeId.TheVariants as id

-- ---- order

module _ {A B : Type 0} (f : A → B) (cmp : A → A → Ordering) (cmp' : B → B → Ordering) (same : (x y : A) → cmp' (f x) (f y) ≡ cmp x y) where
  first_map : (r : Ordering) (x y : A) (a b c : List A) (a' b' c' : List B) → a' ≡ map f a → b' ≡ map f b → c' ≡ map f c
      → by_first cmp' r (f x) (f y) a' b' c' ≡ map f (by_first cmp r x y a b c)
  first_map Less x y a b c a' b' c' p q s = ap (λ l. f x ∷ l) p
  first_map Equal x y a b c a' b' c' p q s = ap (λ l. f x ∷ l) q
  first_map Greater x y a b c a' b' c' p q s = ap (λ l. f y ∷ l) s

  into_map : (x : A) (rest : List A → List A) (rest' : List B → List B) → ((ys : List A) → rest' (map f ys) ≡ map f (rest ys))
      → (ys : List A) → into cmp' (f x) rest' (map f ys) ≡ map f (into cmp x rest ys)
  into_map x rest rest' h [] = ap (λ l. f x ∷ l) (h [])
  into_map x rest rest' h (y ∷ ys) =
      ap (λ r. by_first cmp' r (f x) (f y) (rest' (f y ∷ map f ys)) (rest' (map f ys)) (into cmp' (f x) rest' (map f ys))) (same x y)
      ∙ first_map (cmp x y) x y (rest (y ∷ ys)) (rest ys) (into cmp x rest ys) (rest' (f y ∷ map f ys)) (rest' (map f ys)) (into cmp' (f x) rest' (map f ys))
      (h (y ∷ ys)) (h ys) (into_map x rest rest' h ys)

  union_map : (xs ys : List A) → union cmp' (map f xs) (map f ys) ≡ map f (union cmp xs ys)
  union_map [] ys = refl
  union_map (x ∷ xs) ys = into_map x (union cmp xs) (union cmp' (map f xs)) (union_map xs) ys

  -- Where two orders agree, the elements of the one in order are those of the other.
  pub in_order_map : (xs : List A) → in_order cmp' (map f xs) ≡ map f (in_order cmp xs)
  in_order_map [] = refl
  in_order_map (x ∷ xs) = ap (union cmp' (f x ∷ [])) (in_order_map xs) ∙ union_map (x ∷ []) (in_order cmp xs)

-- ---- ids

abbrev in_document : Tree → List PlaceStep → Option Stored
in_document (stored name) place = Some (record { name = name; place = place })
in_document (constructed number) place = None

-- the node of a document that a node is
abbrev of_document : NodeAt → Option Stored
of_document n = in_document n.tree n.place

back : (ns : List Stored) → filter_map of_document (map in_tree ns) ≡ ns
back [] = refl
back (n ∷ ns) = ap (λ l. n ∷ l) (back ns)

ids_seen : (place : Id → Stored) (nodes : List NodeId) → map place (filter_map stored_id nodes) ≡ filter_map of_document (map (node_seen place) nodes)
ids_seen place [] = refl
ids_seen place (id.Stored n ∷ nodes) = ap (λ l. place n ∷ l) (ids_seen place nodes)
ids_seen place (id.Made at ∷ nodes) = ids_seen place nodes

abbrev value_or : {A : Type 0} → A → Result A Code → A
value_or x (Ok y) = y
value_or x (Err code) = x

same_value : {A : Type 0} (x y : A) → ◌≡◌ {A = Result A Code} (Ok x) (Ok y) → x ≡ y
same_value x y e = ap (value_or x) e

no_value : {A : Type 0} (code : Code) (y : A) → ◌≡◌ {A = Result A Code} (Err code) (Ok y) → ⊥
no_value code y e = false≢true (ap is_ok e)

-- The ids of the nodes in order are those of the targets.
pub found : (place : Id → Stored) (r : Result (List Stored) Code) (nodes ordered : List NodeId) (ids : List Id)
    → (r >>? (λ ns. Ok (map in_tree ns))) ≡ Ok (map (node_seen place) nodes)
    → ◌≡◌ {A = Result (List NodeAt) Code} (Ok (in_order node_cmp (map (node_seen place) nodes))) (Ok (map (node_seen place) ordered))
    → ids ≡ filter_map stored_id ordered → (r >>? (λ ns. Ok (in_order documents.node_cmp ns))) ≡ Ok (map place ids)
found place (Ok ns) nodes ordered ids p q e =
    let taken : map in_tree ns ≡ map (node_seen place) nodes = same_value _ _ p in
    let sorted : in_order node_cmp (map (node_seen place) nodes) ≡ map (node_seen place) ordered = same_value _ _ q in
    let all : map in_tree (in_order documents.node_cmp ns) ≡ map (node_seen place) ordered =
    sym (in_order_map in_tree documents.node_cmp node_cmp (λ x y. refl) ns) ∙ (ap (in_order node_cmp) taken ∙ sorted) in
    ap (λ l. Ok l) (sym (back (in_order documents.node_cmp ns)) ∙ (ap (filter_map of_document) all ∙ (sym (ids_seen place ordered) ∙ ap (map place) (sym e))))
found place (Err code) nodes ordered ids p q e = absurd (no_value code _ p)

-- a code of the items is that of the targets
refused : (r : Result (List Stored) Code) (code : Code) → (r >>? (λ ns. Ok (map in_tree ns))) ≡ Err code
    → (r >>? (λ ns. Ok (in_order documents.node_cmp ns))) ≡ Err code
refused (Ok ns) code p = absurd (no_value code _ (sym p))
refused (Err other) code p = ap value_of p
  where
    value_of : Result (List NodeAt) Code → Result (List Stored) Code
    value_of (Ok ns) = Ok []
    value_of (Err code) = Err code

-- the nodes of all items
abbrev pub whole : (Id → Stored) → List Item → Result (List NodeAt) Code
whole place items = nodes_in_trees (map (item_seen place) items)

-- What ends the nodes of the items ends the targets.
pub ended : {F : Type 0} (honest : Type 0) (passes : F → Type 0) (place : Id → Stored) (items : List Item) (end : ValueEnd) (out : Result (List Id) (EvalEnd F))
    → IsErrAnd out (λ e. e ≡ end_of_value end) → Gives (map (node_seen place)) (Err end) (whole place items)
    → Looks honest passes (map place) out (targets_of (map (item_seen place) items))
ended honest passes place items end (Ok ids) is h = absurd is
ended honest passes place items end (Err e) is h =
    subst (λ x. Looks honest passes (map place) (Err x) (targets_of (map (item_seen place) items))) (sym is) (go end h)
  where
    go : (v : ValueEnd) → Gives (map (node_seen place)) (Err v) (whole place items)
        → Looks honest passes (map place) (Err (end_of_value v)) (targets_of (map (item_seen place) items))
    go (value_ends.Code code) h = λ b. refused (stored_nodes (map (item_seen place) items)) code h
    go value_ends.NoMemory h = tt

-- ---- item by item

-- the nodes of items after nodes that have been found
abbrev pub after : (Id → Stored) → List NodeId → List Item → Result (List NodeAt) Code
after place nodes rest = stored_nodes (map (item_seen place) rest) >>? (λ ns. Ok (map (node_seen place) nodes ++ map in_tree ns))

opened : (xs : List Item) (i : ℕ) (x : Item) → i < length xs → x ≡ get_or xs i x → drop i xs ≡ x ∷ drop (i + 1) xs
opened xs i x h is = drop-cons xs i x h ∙ (ap (λ y. y ∷ drop (suc i) xs) (sym is) ∙ ap (λ n. x ∷ drop n xs) (sym (add-one i)))

-- an item that is none ends them with its code
stopped : (place : Id → Stored) (nodes : List NodeId) (xs : List Item) (i : ℕ) (x : Item) (code : Code)
    → i < length xs → x ≡ get_or xs i x → stored_node (item_seen place x) ≡ Err code → after place nodes (drop i xs) ≡ whole place xs
    → whole place xs ≡ Err code
stopped place nodes xs i x code h is none e =
    sym e ∙ (ap (after place nodes) (opened xs i x h is)
    ∙ ap (λ (r : Result Stored Code). (r >>? (λ n. stored_nodes (map (item_seen place) (drop (i + 1) xs)) >>? (λ ns. Ok (n ∷ ns))))
    >>? (λ ns. Ok (map (node_seen place) nodes ++ map in_tree ns))) none)

-- So it ends the call.
pub stops : (place : Id → Stored) (nodes : List NodeId) (xs : List Item) (i : ℕ) (x : Item) (code : Code) (out : Result (List NodeId) ValueEnd)
    → IsErrAnd out (λ e. e ≡ value_ends.Code code)
    → i < length xs → x ≡ get_or xs i x → stored_node (item_seen place x) ≡ Err code → after place nodes (drop i xs) ≡ whole place xs
    → Gives (map (node_seen place)) out (whole place xs)
stops place nodes xs i x code (Ok ids) ends h is none e = absurd ends
stops place nodes xs i x code (Err end) ends h is none e =
    subst (λ v. Gives (map (node_seen place)) (Err v) (whole place xs)) (sym ends) (stopped place nodes xs i x code h is none e)

joined : (front : List NodeAt) (n : Stored) (r : Result (List Stored) Code)
    → ((r >>? (λ ns. Ok (n ∷ ns))) >>? (λ ns. Ok (front ++ map in_tree ns))) ≡ (r >>? (λ ns. Ok ((front ++ in_tree n ∷ []) ++ map in_tree ns)))
joined front n (Ok ns) = ap (λ l. Ok l) (sym (append_assoc front (in_tree n ∷ []) (map in_tree ns)))
joined front n (Err code) = refl

-- An item that is a node of a document is one more of them.
pub one_more : (place : Id → Stored) (nodes new : List NodeId) (xs : List Item) (i : ℕ) (x : Item) (n : Id)
    → i < length xs → x ≡ get_or xs i x → stored_node (item_seen place x) ≡ Ok (place n) → new ≡ nodes ++ id.Stored n ∷ []
    → after place nodes (drop i xs) ≡ whole place xs → after place new (drop (i + 1) xs) ≡ whole place xs
one_more place nodes new xs i x n h is one grown e =
    let rest : Result (List Stored) Code = stored_nodes (map (item_seen place) (drop (i + 1) xs)) in
    ap (λ l. rest >>? (λ ns. Ok (l ++ map in_tree ns))) (ap (map (node_seen place)) grown ∙ map-append (node_seen place) nodes (id.Stored n ∷ []))
    ∙ (sym (joined (map (node_seen place) nodes) (place n) rest)
    ∙ (sym (ap (λ (r : Result Stored Code). (r >>? (λ m. rest >>? (λ ns. Ok (m ∷ ns)))) >>? (λ ns. Ok (map (node_seen place) nodes ++ map in_tree ns))) one)
    ∙ (sym (ap (after place nodes) (opened xs i x h is)) ∙ e)))

none_left : {A : Type 0} (xs : List A) → length xs ≡ 0 → xs ≡ []
none_left [] h = refl
none_left (x ∷ xs) h = absurd (omega arith)

-- After the last item they are what has been found.
pub finished : (place : Id → Stored) (nodes : List NodeId) (xs : List Item) (i : ℕ) → length xs ≤ i
    → after place nodes (drop i xs) ≡ whole place xs → whole place xs ≡ Ok (map (node_seen place) nodes)
finished place nodes xs i h e =
    let short = length-drop i xs in
    let none : drop i xs ≡ [] = none_left (drop i xs) (omega arith) in
    sym e ∙ (ap (after place nodes) none ∙ ap (λ l. Ok l) (append-nil (map (node_seen place) nodes)))
