-- Lists of items that are nodes, one item after another.
use Rattle.std.proofs.Common.{◌≡◌, ℕ, suc, ◌+◌, ◌<◌, ◌≤◌, List, [], ◌∷◌, ◌++◌, map, length, length-drop, get_or, drop, drop-cons, add-one, refl, sym, ap, ◌∙◌, append_assoc, append-nil, arith}
use Rattle.std.specs.Prelude.{Result, Ok, Err}
use Rattle.std.proofs.lemmas.List.{map-append}
use Rattle.xq_ast.specs.declared.code.Code.{Code}
use Rattle.xml_model.specs.Items.{NodeAt, node, ◌>>?◌}
use Rattle.xml_model.specs.Nav.{Stored}
use Rattle.xml_model.specs.Nodes.{nodes_or}
use Rattle.xml_model.specs.declared.nav.Id.{Id}
use Rattle.xq_values.specs.Seen.{item_seen, node_seen}
use Rattle.xq_values.specs.declared.item.NodeId.{NodeId}
use Rattle.xq_values.specs.declared.item.Item.{Item}
use Rattle.xq_values.specs.declared.item.Item.TheVariants as item
use Rattle.xq_functions.specs.NodeItems.{IsNoNode}

-- The nodes of items behind nodes that have been found.
abbrev pub behind : (Id → Stored) → Code → List NodeId → List Item → Result (List NodeAt) Code
behind place code all rest = nodes_or code (map (item_seen place) rest) >>? (λ ns. Ok (map (node_seen place) all ++ ns))

-- An item of a list, and what follows it.
opened : (xs : List Item) (i : ℕ) (x : Item) → i < length xs → x ≡ get_or xs i x → drop i xs ≡ x ∷ drop (i + 1) xs
opened xs i x h is = drop-cons xs i x h ∙ (ap (λ y. y ∷ drop (suc i) xs) (sym is) ∙ ap (λ n. x ∷ drop n xs) (sym (add-one i)))

no_node : (place : Id → Stored) (code : Code) (x : Item) (rest : List Item) → IsNoNode x → nodes_or code (map (item_seen place) (x ∷ rest)) ≡ Err code
no_node place code (item.Node id) rest h = absurd h
no_node place code (item.Text text) rest h = refl
no_node place code (item.Int value) rest h = refl
no_node place code (item.Truth value) rest h = refl

-- An item that is no node ends them with the code.
pub stopped : (place : Id → Stored) (code : Code) (all : List NodeId) (xs : List Item) (i : ℕ) (x : Item)
    → i < length xs → x ≡ get_or xs i x → IsNoNode x → behind place code all (drop i xs) ≡ nodes_or code (map (item_seen place) xs)
    → nodes_or code (map (item_seen place) xs) ≡ Err code
stopped place code all xs i x h is none e =
    sym e ∙ (ap (behind place code all) (opened xs i x h is)
    ∙ ap (λ r. r >>? (λ ns. Ok (map (node_seen place) all ++ ns))) (no_node place code x (drop (i + 1) xs) none))

joined : (front : List NodeAt) (n : NodeAt) (r : Result (List NodeAt) Code)
    → ((r >>? (λ ns. Ok (n ∷ ns))) >>? (λ ns. Ok (front ++ ns))) ≡ (r >>? (λ ns. Ok ((front ++ n ∷ []) ++ ns)))
joined front n (Ok ns) = ap (λ l. Ok l) (sym (append_assoc front (n ∷ []) ns))
joined front n (Err code) = refl

-- An item that is a node is one more of them.
pub one_more : (place : Id → Stored) (code : Code) (all new : List NodeId) (xs : List Item) (i : ℕ) (x : Item) (id : NodeId)
    → i < length xs → x ≡ get_or xs i x → x ≡ item.Node id → new ≡ all ++ id ∷ []
    → behind place code all (drop i xs) ≡ nodes_or code (map (item_seen place) xs)
    → behind place code new (drop (i + 1) xs) ≡ nodes_or code (map (item_seen place) xs)
one_more place code all new xs i x id h is is_node grown e =
    let rest : List Item = drop (i + 1) xs in
    let r : Result (List NodeAt) Code = nodes_or code (map (item_seen place) rest) in
    ap (λ l. r >>? (λ ns. Ok (l ++ ns))) (ap (map (node_seen place)) grown ∙ map-append (node_seen place) all (id ∷ []))
    ∙ (sym (joined (map (node_seen place) all) (node_seen place id) r)
    ∙ (sym (ap (λ y. behind place code all (y ∷ rest)) is_node) ∙ (sym (ap (behind place code all) (opened xs i x h is)) ∙ e)))

-- A list without length has nothing.
pub none_of : {A : Type 0} (xs : List A) → length xs ≡ 0 → xs ≡ []
none_of [] h = refl
none_of (x ∷ xs) h = absurd (omega arith)

-- Behind the last item they are what has been found.
pub finished : (place : Id → Stored) (code : Code) (all : List NodeId) (xs : List Item) (i : ℕ) → length xs ≤ i
    → behind place code all (drop i xs) ≡ nodes_or code (map (item_seen place) xs) → nodes_or code (map (item_seen place) xs) ≡ Ok (map (node_seen place) all)
finished place code all xs i h e =
    let short = length-drop i xs in
    let none : drop i xs ≡ [] = none_of (drop i xs) (omega arith) in
    sym e ∙ (ap (behind place code all) none ∙ ap (λ l. Ok l) (append-nil (map (node_seen place) all)))

-- Nodes as items are seen as the nodes that they are.
pub items_seen : (place : Id → Stored) (ids : List NodeId) → map (item_seen place) (map (λ id. item.Node id) ids) ≡ map node (map (node_seen place) ids)
items_seen place [] = refl
items_seen place (id ∷ ids) = ap (λ l. node (node_seen place id) ∷ l) (items_seen place ids)
