-- Lists of items, of nodes and of variables, and what they are seen as.
use Rattle.std.specs.Prelude.{◌≡◌, ℕ, ◌+◌, ◌-◌, ◌≤◌, false, List, [], ◌∷◌, map, length, take, drop, Option, Some, None, IsTrue, refl}
use Rattle.std.proofs.Common.{get_or, sym, ap, arith, true≢false}
use Rattle.std.proofs.lemmas.List.{take_all}
use Rattle.xq_ast.specs.declared.tree.Bind.TheOpen.{Expr-F}
use Rattle.xq_ast.specs.declared.tree.SortKey.{SortKey}
use Rattle.xml_model.specs.Constructors.{limited_text, spaced}
use Rattle.xml_model.specs.Evaluation as spec
use Rattle.xml_model.specs.FunctionAnswers.{Context}
use Rattle.xml_model.specs.Items.{Documents, Made, node, give, plain, then_with, construct}
use Rattle.xml_model.specs.Nav.{Stored}
use Rattle.xml_model.specs.Nodes.{atomized}
use Rattle.xml_model.specs.Place.{a_node}
use Rattle.xml_model.specs.Tuples.{Bindings}
use Rattle.xml_model.specs.declared.nav.Id.{Id}
use Rattle.xml_model.specs.declared.node.Node.TheVariants.{Text}
use Rattle.xq_values.specs.Seen.{node_seen}
use Rattle.xq_values.specs.declared.item.Item.{Item}
use Rattle.xq_values.specs.declared.item.Item.TheVariants as item
use Rattle.xq_values.specs.declared.item.NodeId.{NodeId}
use Rattle.xq_eval.specs.Bound.{bound_of, bound_item}
use Rattle.xq_eval.specs.Meanings.{key_means}
use Rattle.xq_eval.specs.NodesAmong.{nodes_among, ids_among}
use Rattle.xq_eval.specs.Scopes.{items_seen, variables_seen}

-- nodes as items
pub entries_seen : (place : Id → Stored) (ns : List NodeId) → items_seen place (map item.Node ns) ≡ map node (map (node_seen place) ns)
entries_seen place [] = refl
entries_seen place (n ∷ ns) = ap (λ more. node (node_seen place n) ∷ more) (entries_seen place ns)

-- the nodes among items
pub ids_seen : (place : Id → Stored) (all : List Item) → map (node_seen place) (ids_among all) ≡ nodes_among (items_seen place all)
ids_seen place [] = refl
ids_seen place (item.Node n ∷ all) = ap (λ more. node_seen place n ∷ more) (ids_seen place all)
ids_seen place (item.Text text ∷ all) = ids_seen place all
ids_seen place (item.Int value ∷ all) = ids_seen place all
ids_seen place (item.Truth value ∷ all) = ids_seen place all

-- what is bound for each item
pub bound_seen : (docs : Documents) (place : Id → Stored) (name : List ℕ) (at : Option (List ℕ)) (position : ℕ) (all : List Item)
    → map (variables_seen place) (bound_of name at position all) ≡ spec.bound_items docs name at position (items_seen place all)
bound_seen docs place name None position [] = refl
bound_seen docs place name (Some at) position [] = refl
bound_seen docs place name None position (x ∷ all) = ap (λ more. variables_seen place (bound_item name None position x) ∷ more) (bound_seen docs
    place name None (position + 1) all)
bound_seen docs place name (Some at) position (x ∷ all) = ap (λ more. variables_seen place (bound_item name (Some at) position x) ∷ more) (bound_seen
    docs place name (Some at) (position + 1) all)

-- which keys descend
pub directions_are : (docs : Documents) (keys : List SortKey) → map (λ k. k.descending) (map (key_means docs) keys) ≡ map (λ k. k.descending) keys
directions_are docs [] = refl
directions_are docs (k ∷ keys) = ap (λ more. k.descending ∷ more) (directions_are docs keys)

-- a text of some items
pub text_made : (docs : Documents) (place : Id → Stored) (all : List Item) (env : Bindings) (cx : Context) (made : Made) → (all ≡ [] → IsTrue false)
    → spec.value_of docs (Expr-F.TextNode (Some (λ env cx. give (items_seen place all)))) env cx made
    ≡ then_with (plain (limited_text (spaced (atomized docs made (items_seen place all)))) made) (λ value. construct (a_node (Text value)))
text_made docs place [] env cx made h = absurd (true≢false (sym (h refl)))
text_made docs place (x ∷ all) env cx made h = refl

-- the first of some, and the others
pub opened : {A B : Type 0} (f : A → B) (xs : List A) (x : A) → 1 ≤ length xs → x ≡ get_or xs 0 x → map f xs ≡ f x ∷ map f (drop 1 xs)
opened f [] x h e = absurd (omega arith)
opened f (y ∷ ys) x h e = ap (λ z. f z ∷ map f ys) (sym e)

pub others : {A : Type 0} (xs : List A) → take (length xs - 1) (drop 1 xs) ≡ drop 1 xs
others [] = refl
others (x ∷ xs) = take_all (length (x ∷ xs) - 1) xs (omega arith)
