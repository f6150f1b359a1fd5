-- Each number below the size of a tree is that of a place where something stands.
use Rattle.std.proofs.Common.{◌≡◌, ℕ, zero, suc, ◌+◌, ◌-◌, ◌<◌, ◌≤◌, inl, inr, List, [], ◌∷◌, length, take, Some, refl, sym, ap, ◌∙◌, arith}
use Rattle.std.specs.List.{slice_get}
use Rattle.std.specs.Option.{option_map}
use Rattle.std.proofs.lemmas.Bool.{cases_lt}
use Rattle.xml_model.specs.declared.node.Node.{Node, Text, Pi}
use Rattle.xml_model.specs.declared.node.Node.TheVariants.{Element, outs-Element, outs-Text, outs-Pi}
use Rattle.xml_model.specs.declared.place.PlaceStep.{PlaceStep}
use Rattle.xml_model.specs.declared.place.PlaceStep.TheVariants as steps
use Rattle.xml_model.specs.Place.{Placed, a_node, an_attribute, attrs_of, kids_of, step_from, placed_from}
use Rattle.xml_model.specs.Trees.{count_node, count_of}
use Rattle.xml_model.proofs.Chains.{within_some}
use Rattle.xml_model.proofs.NodeCases.{Each, node_has}
use Rattle.xml_model.proofs.Numbered.{offset, number}
use Rattle.xml_model.proofs.Placing.{root, size}

-- a place with this number, and what stands there
pub record Found (from : Placed) (n : ℕ) : Type 0 where
  pub place : List PlaceStep
  pub it : Placed
  pub stands : placed_from place (Some from) ≡ Some it
  pub numbered : number place (Some from) ≡ n

pub IsReached : Node → Type 0
IsReached node = (n : ℕ) → n < count_node node → Found (a_node node) n

-- a child among whose rows a number is
record InKid (kids : List Node) (n : ℕ) : Type 0 where
  pub index : ℕ
  pub kid : Node
  pub rest : ℕ
  pub there : slice_get kids index ≡ Some kid
  pub is : n ≡ count_of (take index kids) + rest
  pub found : Found (a_node kid) rest

in_kid : (kids : List Node) → Each IsReached kids → (n : ℕ) → n < count_of kids → InKid kids n
unfolding IsReached
in_kid [] h n less = absurd (omega arith)
in_kid (k ∷ kids) h n less =
    elim (cases_lt n (count_node k)) [
      | inl here ↦ record { index = 0; kid = k; rest = n; there = refl; is = omega arith; found = h.0 n here }
      | inr later ↦ behind later (in_kid kids h.1 (n - count_node k) (omega arith))
    ]
  where
    behind : count_node k ≤ n → InKid kids (n - count_node k) → InKid (k ∷ kids) n
    behind later i = record { index = suc i.index; kid = i.kid; rest = i.rest; there = i.there; is = omega (arith, i.is); found = i.found }

step_found : (from w : Placed) (s : PlaceStep) (n m : ℕ) → step_from from s ≡ Some w → Found w m → n ≡ offset from s + m → Found from n
step_found from w s n m e f is = record {
  place = s ∷ f.place;
  it = f.it;
  stands = ap (placed_from f.place) e ∙ f.stands;
  numbered = ap (λ o. offset from s + number f.place o) e ∙ (ap (λ k. offset from s + k) f.numbered ∙ sym is);
}

itself : (from : Placed) → Found from 0
itself from = record { place = []; it = from; stands = refl; numbered = refl }

found_inside : (from : Placed) → Each IsReached (kids_of from) → (n : ℕ) → n < size from → Found from n
found_inside from h zero less = itself from
found_inside from h (suc m) less =
    elim (cases_lt m (length (attrs_of from))) [
      | inl here ↦
          let a = within_some (attrs_of from) m here in
          step_found from (an_attribute a.0) (steps.Attr m) (suc m) 0 (ap (option_map an_attribute) a.1) (itself (an_attribute a.0)) (omega arith)
      | inr later ↦ deeper later (in_kid (kids_of from) h (m - length (attrs_of from)) (omega (arith, (root from).sized)))
    ]
  where
    deeper : length (attrs_of from) ≤ m → InKid (kids_of from) (m - length (attrs_of from)) → Found from (suc m)
    deeper later i = step_found from (a_node i.kid) (steps.Kid i.index) (suc m) i.rest (ap (option_map a_node) i.there) i.found (omega (arith, i.is))

node_reached : (n : Node) → IsReached n
unfolding IsReached
node_reached n =
    node_has IsReached
    (λ name attrs kids h. found_inside (a_node (Element name attrs kids)) (rw (outs-Element name attrs kids) h))
    (λ value. found_inside (a_node (Text value)) (rw (outs-Text value) tt))
    (λ target value. found_inside (a_node (Pi target value)) (rw (outs-Pi target value) tt)) n

nodes_reached : (nodes : List Node) → Each IsReached nodes
nodes_reached [] = tt
nodes_reached (n ∷ nodes) = (node_reached n, nodes_reached nodes)

pub found : (from : Placed) (n : ℕ) → n < size from → Found from n
found from = found_inside from (nodes_reached (kids_of from))
