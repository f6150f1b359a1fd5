-- What stands in the place of nodes by their numbers is what stands there by their places, where the edits at the places
-- are those at the numbers.
use Rattle.std.proofs.Common.{◌≡◌, ℕ, suc, ◌+◌, ◌<◌, List, [], ◌∷◌, ◌++◌, map, length, take, drop, Option, Some, Result, refl, sym, ap, subst, ◌∙◌, arith}
use Rattle.std.specs.Prelude.{if◌then◌else◌, ◌==◌}
use Rattle.std.specs.FinMap as fin_map
use Rattle.std.specs.List.{slice_get}
use Rattle.std.specs.Option.{option_map}
use Rattle.std.specs.Ordering.{nat_cmp, is_eq, MatchOrdering}
use Rattle.std.specs.declared.cmp.Ordering.{Ordering}
use Rattle.std.specs.declared.cmp.Ordering.TheVariants.{Less, Equal, Greater}
use Rattle.std.proofs.lemmas.Bool.{ne_eqb}
use Rattle.std.proofs.lemmas.Bool.Decides.{Decides-eqb}
use Rattle.std.proofs.lemmas.Cmp.{ranked}
use Rattle.xml_model.specs.declared.node.Attr.{Attr}
use Rattle.xml_model.specs.declared.node.Doc.{Doc}
use Rattle.xml_model.specs.declared.node.Node.{Node}
use Rattle.xml_model.specs.declared.node.Node.TheOpen.{Node-F}
use Rattle.xml_model.specs.declared.node.Node.TheVariants.{Element, Text, Pi, outs-Element}
use Rattle.xml_model.specs.declared.place.PlaceStep.{PlaceStep}
use Rattle.xml_model.specs.declared.place.PlaceStep.TheVariants as steps
use Rattle.xml_model.specs.Nav.{standing}
use Rattle.xml_model.specs.Numbering.{place_of_number}
use Rattle.xml_model.specs.Place.{Placed, the_document, a_node, an_attribute, attrs_in, kids_in, attrs_of, kids_of, placed_from, place_cmp}
use Rattle.xml_model.specs.Trees.{total, count_node, count_of}
use Rattle.xml_model.proofs.NodeCases.{Each, node_has}
use Rattle.xml_model.proofs.Nodes.{fold-Element, fold-Text, fold-Pi}
use Rattle.xml_model.proofs.Numbered.{number}
use Rattle.xml_model.proofs.Numbers.{count-Element, count-Text, count-Pi}
use Rattle.xml_model.proofs.TreeNumbers.{place_back, numbers_ordered}
use Rattle.xml_model.specs.declared.edit.Edit.{Edit}
use Rattle.xml_model.specs.declared.edit.EditKind.{EditKind}
use Rattle.xml_model.specs.Rebuild.{EditsIn, behind, edits_at, edited_attribute, edited_attributes, edited_element, edited_kids, edited_step, edited_node, edited_document, edited, rebuild, limited_document, tidied}
use Rattle.xml_model.proofs.PlaceTotal.{place_total}
use Rattle.tree_edit.specs.Numbered.{look, Numbered, numbered_attributes, numbered_step, numbered, numbered_node, numbered_nodes}
use Rattle.tree_edit.specs.declared.kids.Kids.{Kids}
use Rattle.tree_edit.specs.declared.end.EditEnd.{EditEnd}
use Rattle.tree_edit.specs.Ends.{Gives}
use Rattle.tree_edit.specs.Tidy.{no_kids, closed, with_nodes, into_document}
use Rattle.tree_edit.proofs.Comes.{with_nodes_append, document_finished}

module _ (at : ℕ → Option EditKind) where
  -- ---- how many nodes

  Counted : Node → Type 0
  Counted n = (numbered at n).size ≡ count_node n

  counted_all : (kids : List Node) → Each Counted kids → total (map (λ kid. kid.size) (map (numbered at) kids)) ≡ count_of kids
  unfolding Counted
  counted_all [] h = refl
  counted_all (k ∷ kids) h = omega (arith, h.0, counted_all kids h.1)

  -- a node is as many nodes as it counts
  pub size_is : (n : Node) → (numbered at n).size ≡ count_node n
  unfolding Counted
  size_is n =
      node_has Counted
      (λ name attrs kids h. ap (λ x. x.size) (fold-Element Numbered (numbered_step at) name attrs kids) ∙ omega (
        arith,
        counted_all kids h,
        count-Element name attrs kids,
      ))
      (λ value. ap (λ x. x.size) (fold-Text Numbered (numbered_step at) value) ∙ sym (count-Text value))
      (λ target value. ap (λ x. x.size) (fold-Pi Numbered (numbered_step at) target value) ∙ sym (count-Pi target value)) n

  -- one node, and those behind it
  pub one_more : (k : Kids) (x : Node) (xs : List Node) (n : ℕ)
      → with_nodes k (numbered_nodes at (x ∷ xs) n) ≡ with_nodes (with_nodes k (numbered_node at x n)) (numbered_nodes at xs (n + count_node x))
  one_more k x xs n =
      with_nodes_append k (numbered_node at x n) (numbered_nodes at xs (n + (numbered at x).size))
      ∙ ap (λ size. with_nodes (with_nodes k (numbered_node at x n)) (numbered_nodes at xs (n + size))) (size_is x)

  -- a turn of a loop over nodes
  pub turn : (k new whole : Kids) (xs : List Node) (i : ℕ) (x : Node) (n next : ℕ) → drop i xs ≡ x ∷ drop (i + 1) xs
      → new ≡ with_nodes k (numbered_node at x n) → next ≡ n + count_node x
      → with_nodes k (numbered_nodes at (drop i xs) n) ≡ whole → with_nodes new (numbered_nodes at (drop (i + 1) xs) next) ≡ whole
  turn k new whole xs i x n next is made moved all =
      (λ j. with_nodes (made j) (numbered_nodes at (drop (i + 1) xs) (moved j)))
      ∙ (sym (one_more k x (drop (i + 1) xs) n) ∙ (ap (λ ys. with_nodes k (numbered_nodes at ys n)) (sym is) ∙ all))

  -- ---- the variants

  pub number-Element : (name : List ℕ) (attrs : List Attr) (kids : List Node) (n : ℕ)
      → numbered_node at (Element name attrs kids) n ≡ edited_element name (numbered_attributes at (n + 1) attrs) (numbered_nodes at kids (n + 1 +
      length attrs)) (at n)
  number-Element name attrs kids n = ap (λ x. x.made n) (fold-Element Numbered (numbered_step at) name attrs kids)

  pub number-Text : (value : List ℕ) (n : ℕ) → numbered_node at (Text value) n ≡ (numbered_step at (Node-F.Text value)).made n
  number-Text value n = ap (λ x. x.made n) (fold-Text Numbered (numbered_step at) value)

  pub number-Pi : (target value : List ℕ) (n : ℕ) → numbered_node at (Pi target value) n ≡ (numbered_step at (Node-F.Pi target value)).made n
  number-Pi target value n = ap (λ x. x.made n) (fold-Pi Numbered (numbered_step at) target value)

-- ---- places and numbers

-- the edits at the places of a tree are those at their numbers, from a number on
Follows : EditsIn → (ℕ → Option EditKind) → ℕ → Placed → Type 0
Follows by at n from = (p : List PlaceStep) (w : Placed) → placed_from p (Some from) ≡ Some w → by p ≡ at (n + number p (Some from))

module _ (at : ℕ → Option EditKind) where
  Alike : Node → Type 0
  Alike node = (by : EditsIn) (n : ℕ) → Follows by at n (a_node node) → edited_node node by ≡ numbered_node at node n

  -- attributes from the i-th on
  attributes_alike : (by : EditsIn) (i n : ℕ) (attrs : List Attr)
      → ((j : ℕ) (a : Attr) → slice_get attrs j ≡ Some a → by (steps.Attr (i + j) ∷ []) ≡ at (n + j))
      → edited_attributes by i attrs ≡ numbered_attributes at n attrs
  attributes_alike by i n [] h = refl
  attributes_alike by i n (a ∷ more) h =
      let first : i + 0 ≡ i = omega arith in
      let start : n + 0 ≡ n = omega arith in
      let one : by (steps.Attr i ∷ []) ≡ at n = ap (λ k. by (steps.Attr k ∷ [])) (sym first) ∙ (h 0 a refl ∙ ap at start) in
      let rest = attributes_alike by (i + 1) (n + 1) more (λ j b e.
      let this : i + 1 + j ≡ i + suc j = omega arith in
      let that : n + 1 + j ≡ n + suc j = omega arith in
      ap (λ k. by (steps.Attr k ∷ [])) this ∙ (h (suc j) b e ∙ ap at (sym that))) in
      λ k. edited_attribute a (one k) ++ rest k

  -- children from the i-th on
  kids_alike : (by : EditsIn) (i n : ℕ) (kids : List Node) → Each Alike kids
      → ((j : ℕ) (kid : Node) → slice_get kids j ≡ Some kid → Follows (behind by (steps.Kid (i + j))) at (n + count_of (take j kids)) (a_node kid))
      → edited_kids by i (map edited_node kids) ≡ numbered_nodes at kids n
  unfolding Alike Follows
  kids_alike by i n [] alike h = refl
  kids_alike by i n (kid ∷ more) alike h =
      let first : i + 0 ≡ i = omega arith in
      let one : edited_node kid (behind by (steps.Kid i)) ≡ numbered_node at kid n =
      alike.0 (behind by (steps.Kid i)) n (λ p w e.
      let start : n + count_of (take 0 (kid ∷ more)) + number p (Some (a_node kid)) ≡ n + number p (Some (a_node kid)) = omega arith in
      ap (λ k. by (steps.Kid k ∷ p)) (sym first) ∙ (h 0 kid refl p w e ∙ ap at start)) in
      let rest = kids_alike by (i + 1) (n + count_node kid) more alike.1 (λ j x e p w s.
      let this : i + 1 + j ≡ i + suc j = omega arith in
      let that : n + count_of (take (suc j) (kid ∷ more)) + number p (Some (a_node x)) ≡ n + count_node kid + count_of (take j more) + number p (Some
      (a_node x)) = omega arith in
      ap (λ k. by (steps.Kid k ∷ p)) this ∙ (h (suc j) x e p w s ∙ ap at that)) in
      (λ k. one k ++ rest k) ∙ ap (λ size. numbered_node at kid n ++ numbered_nodes at more (n + size)) (sym (size_is at kid))

  -- ---- what stands in a tree's root

  attributes_of_root : (from : Placed) (by : EditsIn) (n : ℕ) → Follows by at n from → edited_attributes by 0 (attrs_of from)
      ≡ numbered_attributes at (n + 1) (attrs_of from)
  unfolding Follows
  attributes_of_root from by n h =
      attributes_alike by 0 (n + 1) (attrs_of from) (λ j a e.
      let this : 0 + j ≡ j = omega arith in
      let that : n + (1 + j + 0) ≡ n + 1 + j = omega arith in
      ap (λ k. by (steps.Attr k ∷ [])) this ∙ (h (steps.Attr j ∷ []) (an_attribute a) (ap (option_map an_attribute) e) ∙ ap at that))

  kids_of_root : (from : Placed) (by : EditsIn) (n : ℕ) → Follows by at n from → Each Alike (kids_of from)
      → edited_kids by 0 (map edited_node (kids_of from)) ≡ numbered_nodes at (kids_of from) (n + 1 + length (attrs_of from))
  unfolding Follows
  kids_of_root from by n h alike =
      kids_alike by 0 (n + 1 + length (attrs_of from)) (kids_of from) alike (λ j kid e p w s.
      let this : 0 + j ≡ j = omega arith in
      let before = length (attrs_of from) + count_of (take j (kids_of from)) in
      let that : n + (1 + before + number p (Some (a_node kid))) ≡ n + 1 + length (attrs_of from) + count_of (take j (kids_of from)) + number p (Some
      (a_node kid)) = omega arith in
      ap (λ k. by (steps.Kid k ∷ p)) this
      ∙ (h (steps.Kid j ∷ p) w (ap (λ o. placed_from p (option_map a_node o)) e ∙ s)
      ∙ (ap (λ o. at (n + (1 + before + number p (option_map a_node o)))) e ∙ ap at that)))

  root_itself : (from : Placed) (by : EditsIn) (n : ℕ) → Follows by at n from → by [] ≡ at n
  unfolding Follows
  root_itself from by n h = let none : n + 0 ≡ n = omega arith in h [] from refl ∙ ap at none

  -- ---- each node

  element_alike : (name : List ℕ) (attrs : List Attr) (kids : List Node) → Each Alike kids → Alike (Element name attrs kids)
  unfolding Alike
  element_alike name attrs kids alike by n h =
      let from = a_node (Element name attrs kids) in
      let has : attrs_of from ≡ attrs = ap attrs_in (outs-Element name attrs kids) in
      let holds : kids_of from ≡ kids = ap kids_in (outs-Element name attrs kids) in
      let one : edited_attributes by 0 attrs ≡ numbered_attributes at (n + 1) attrs =
      subst (λ attrs. edited_attributes by 0 attrs ≡ numbered_attributes at (n + 1) attrs) has (attributes_of_root from by n h) in
      let two : edited_kids by 0 (map edited_node kids) ≡ numbered_nodes at kids (n + 1 + length attrs) =
      subst (λ kids. edited_kids by 0 (map edited_node kids) ≡ numbered_nodes at kids (n + 1 + length attrs)) holds
      (subst (λ attrs. edited_kids by 0 (map edited_node (kids_of from)) ≡ numbered_nodes at (kids_of from) (n + 1 + length attrs)) has
      (kids_of_root from by n h (subst (Each Alike) (sym holds) alike))) in
      ap (λ f. f by) (fold-Element (EditsIn → List Node) edited_step name attrs kids)
      ∙ ((λ k. edited_element name (one k) (two k) (root_itself from by n h k)) ∙ sym (number-Element at name attrs kids n))

  alike : (node : Node) → Alike node
  unfolding Alike
  alike =
      node_has Alike element_alike
      (λ value by n h. ap (λ f. f by) (fold-Text (EditsIn → List Node) edited_step value)
      ∙ (ap (λ what. edited_step (Node-F.Text value) (λ place. what)) (root_itself (a_node (Text value)) by n h) ∙ sym (number-Text at value n)))
      (λ target value by n h. ap (λ f. f by) (fold-Pi (EditsIn → List Node) edited_step target value)
      ∙ (ap (λ what. edited_step (Node-F.Pi target value) (λ place. what)) (root_itself (a_node (Pi target value)) by n h) ∙ sym (number-Pi at target
      value n)))

  all_alike : (nodes : List Node) → Each Alike nodes
  unfolding Alike
  all_alike [] = tt
  all_alike (n ∷ nodes) = (alike n, all_alike nodes)

  -- a document by numbers
  document_alike : (doc : Doc) (by : EditsIn) → Follows by at 0 (the_document doc)
      → edited doc by ≡ record { kids = tidied (edited_document (numbered_nodes at doc.kids 1) (at 0)) }
  document_alike doc by h =
      let from = the_document doc in
      let start : 0 + 1 + 0 ≡ 1 = refl in
      let kids : edited_kids by 0 (map edited_node doc.kids) ≡ numbered_nodes at doc.kids 1 = kids_of_root from by 0 h (all_alike doc.kids) in
      λ k. record { kids = tidied (edited_document (kids k) (root_itself from by 0 h k)) }

-- ---- the edits of a list

is_at : (k m : ℕ) → is_eq (nat_cmp k m) ≡ (m == k)
is_at k m = go (nat_cmp k m) (ranked k m (nat_cmp k m) refl)
  where
    go : (r : Ordering) → MatchOrdering r (k < m) (k ≡ m) (m < k) → is_eq r ≡ (m == k)
    go Less h = sym (ne_eqb m k (λ e. omega (arith, e)))
    go Equal h = sym ((Decides-eqb m k).1 (sym h))
    go Greater h = sym (ne_eqb m k (λ e. omega (arith, e)))

-- what is found at a place is what is found at its number
found : (root : Placed) (p : List PlaceStep) (w : Placed) → standing root p ≡ Some w → (edits : List Edit)
    → fin_map.find place_cmp p (map (λ e. (place_of_number root e.at, e.what)) edits) ≡ look edits (number p (Some root))
found root p w s [] = refl
found root p w s (e ∷ edits) =
    let k = number p (Some root) in
    let same : place_cmp p (place_of_number root e.at) ≡ nat_cmp k e.at =
    ap (λ q. place_cmp q (place_of_number root e.at)) (sym (place_back root p w s)) ∙ numbers_ordered root k e.at in
    ap (λ r. if is_eq r then Some e.what else fin_map.find place_cmp p (map (λ e. (place_of_number root e.at, e.what)) edits)) same
    ∙ ((λ i. if is_at k e.at i then Some e.what else found root p w s edits i))

-- the document after the edits, by their numbers
pub edited_by_number : (doc : Doc) (edits : List Edit)
    → edited doc (fin_map.get (edits_at doc edits)) ≡ record { kids = tidied (edited_document (numbered_nodes (look edits) doc.kids 1) (look edits 0)) }
unfolding Follows
edited_by_number doc edits =
    document_alike (look edits) doc (fin_map.get (edits_at doc edits)) (λ p w s.
    let start : number p (Some (the_document doc)) ≡ 0 + number p (Some (the_document doc)) = omega arith in
    fin_map.get-from_entries place_total (map (λ e. (place_of_number (the_document doc) e.at, e.what)) edits) p
    ∙ (found (the_document doc) p w s edits ∙ ap (look edits) start))

-- the answer for the nodes of a document and what goes into it is the answer for the document
pub whole : (doc : Doc) (edits : List Edit) (start made all : Kids) (n : ℕ) (what : Option EditKind) (kids : List Node) (r : Result Doc EditEnd)
    → start ≡ no_kids → n ≡ 1 → made ≡ with_nodes start (numbered_nodes (look edits) doc.kids n) → what ≡ look edits 0
    → all ≡ with_nodes made (into_document what)
    → kids ≡ (closed all).nodes → Gives r (limited_document (record { kids = kids })) → Gives r (rebuild doc (edits_at doc edits))
whole doc edits start made all n what kids r none one come is more finish gives =
    let first : made ≡ with_nodes no_kids (numbered_nodes (look edits) doc.kids 1) = come ∙ (λ i. with_nodes (none i) (numbered_nodes (look edits)
    doc.kids (one i))) in
    let last : all ≡ with_nodes (with_nodes no_kids (numbered_nodes (look edits) doc.kids 1)) (into_document (look edits 0)) =
    more ∙ (λ i. with_nodes (first i) (into_document (is i))) in
    let tidy : kids ≡ tidied (edited_document (numbered_nodes (look edits) doc.kids 1) (look edits 0)) =
    finish ∙ (ap (λ k. (closed k).nodes) last ∙ document_finished (numbered_nodes (look edits) doc.kids 1) (look edits 0)) in
    let D : Doc → Type 0 = λ d. Gives r (limited_document d) in
    subst D (sym (edited_by_number doc edits)) (subst (λ kids. Gives r (limited_document (record { kids = kids }))) tidy gives)

pub ruleset variants = (number-Element, number-Text, number-Pi)
