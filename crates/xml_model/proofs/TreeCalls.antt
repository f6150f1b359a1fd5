-- What the calls on the trees of a forest answer, by those of the one tree that they ask.
use Rattle.std.proofs.Common.{◌≡◌, ℕ, zero, suc, ◌-◌, ◌<◌, ◌≤◌, ◌^◌, false, ◌||◌, true≢false, IsTrue, IfSome, List, [], ◌∷◌, map, length, Option, Some, None, refl, sym, ap, subst, ◌∙◌, arith}
use Rattle.std.specs.Prelude.{is_some, unwrap_or}
use Rattle.std.specs.Cmp.Lexicographic.{slice_cmp}
use Rattle.std.specs.FinMap as fin_map
use Rattle.std.specs.List.{slice_get, list_any}
use Rattle.std.specs.Option.{option_map, option_map_or, option_and_then}
use Rattle.std.specs.Ordering.{nat_cmp, ordering_then, eq_by_cmp, is_eq}
use Rattle.std.specs.declared.cmp.Ordering.{Ordering}
use Rattle.std.specs.declared.cmp.Ordering.TheVariants.{Less, Equal, Greater}
use Rattle.std.proofs.lemmas.Bool.{false≢true}
use Rattle.std.proofs.lemmas.Option.{slice_get-map, none-some, same_Some}
use Rattle.xq_ast.specs.Names.{is_document_name}
use Rattle.xml_model.specs.declared.limits.TheConstants.{NODES_MAX}
use Rattle.xml_model.specs.declared.nav.Id.{Id}
use Rattle.xml_model.specs.declared.node.Doc.{Doc}
use Rattle.xml_model.specs.declared.place.PlaceStep.{PlaceStep}
use Rattle.xml_model.specs.declared.tree_nav.Tree.{Tree}
use Rattle.xml_model.specs.Document.{IsValid}
use Rattle.xml_model.specs.DocumentOrder.{node_cmp}
use Rattle.xml_model.specs.Forest.{Forest, IsForest}
use Rattle.xml_model.specs.Nav.{told_at, of_document, stored_at, tree_of, gone, at_place, root_of, standing}
use Rattle.xml_model.specs.Numbering.{place_of_number}
use Rattle.xml_model.specs.Place.{Placed, the_document, place_cmp}
use Rattle.xml_model.specs.TreeNodes.{name_at, place_in, node_of_id, tree_name, IsTreeOf, AreTreesOf, StandFor}
use Rattle.xml_model.specs.TreeRows.{placed_by}
use Rattle.xml_model.proofs.Chains.{within_some}
use Rattle.xml_model.proofs.TreeNumbers.{then_equal, numbers_ordered}

-- what stands for a forest stands for an equal one
pub along : (F G : Forest) (these those : List Tree) → F ≡ G → these ≡ those → StandFor F those → StandFor G these
along F G these those e f s = subst (λ F. StandFor F these) e (subst (StandFor F) (sym f) s)

-- a tree that is there is that of its document
tree_is : (F : Forest) (trees : List Tree) (n : ℕ) (tree : Tree) → AreTreesOf F trees → slice_get trees n ≡ Some tree → IsTreeOf F tree
tree_is F [] n tree are e = absurd (none-some tree e)
tree_is F (t ∷ trees) zero tree are e = subst (IsTreeOf F) (same_Some t tree e) are.0
tree_is F (t ∷ trees) (suc n) tree are e = tree_is F trees n tree are.1 e

-- no document has the empty name
nameless : (F : Forest) → IsForest F → fin_map.get F [] ≡ None
nameless F valid = go (fin_map.get F []) (valid [])
  where
    go : (o : Option Doc) → IfSome o (λ doc. IsTrue (is_document_name []) × IsValid doc) → o ≡ None
    go None h = refl
    go (Some doc) h = absurd (false≢true h.0)

no_value : (o : Option Doc) → is_some o ≡ false → o ≡ None
no_value None e = refl
no_value (Some doc) e = absurd (true≢false e)

-- no tree has a name that none of them has
none_named : (name : List ℕ) (trees : List Tree) → ((k : ℕ) → k < length trees → tree_name trees k ≡ name → ⊥)
    → list_any (eq_by_cmp (slice_cmp nat_cmp) name) (map (λ tree. tree.name) trees) ≡ false
none_named name [] none = refl
none_named name (tree ∷ trees) none = go (slice_cmp nat_cmp name tree.name) refl (none_named name trees (λ k h. none (suc k) (omega arith)))
  where
    go : (r : Ordering) → slice_cmp nat_cmp name tree.name ≡ r → list_any (eq_by_cmp (slice_cmp nat_cmp) name) (map (λ tree. tree.name) trees) ≡ false
        → (is_eq r || list_any (eq_by_cmp (slice_cmp nat_cmp) name) (map (λ tree. tree.name) trees)) ≡ false
    go Less e rest = rest
    go Equal e rest = absurd (none 0 (omega arith) (sym (fin_map.slice_cmp-IsAntisymmetric fin_map.nat_cmp-IsAntisymmetric name tree.name e)))
    go Greater e rest = rest

module _ (F : Forest) (trees : List Tree) (s : StandFor F trees) where
  names_same : (n : ℕ) → name_at F n ≡ tree_name trees n
  names_same n = ap (λ names. unwrap_or (slice_get names n) []) (sym s.names) ∙ (ap (λ o. unwrap_or o []) (slice_get-map (λ tree. tree.name) trees n) ∙ go (slice_get trees n))
    where
      go : (o : Option Tree) → unwrap_or (option_map (λ tree. tree.name) o) [] ≡ option_map_or (λ tree. tree.name) o []
      go None = refl
      go (Some tree) = refl

  -- ---- where no tree is

  name_missing : IsForest F → (id : Id) → slice_get trees id.doc ≡ None → tree_of F (node_of_id F id) ≡ None
  name_missing valid id h =
      ap (option_map the_document) (ap (fin_map.get F) (names_same id.doc ∙ ap (λ o. option_map_or (λ tree. tree.name) o []) h) ∙ nameless F valid)

  pub gone_nowhere : (way : Placed → List PlaceStep → Option (List PlaceStep)) → IsForest F → (id : Id) → slice_get trees id.doc ≡ None → None ≡ gone way F (node_of_id F id)
  gone_nowhere way valid id h =
      sym (ap (option_and_then (λ root. option_map (at_place (node_of_id F id)) (way root (node_of_id F id).place))) (name_missing valid id h))

  pub told_nowhere : IsForest F → (id : Id) → slice_get trees id.doc ≡ None → of_document ≡ told_at (stored_at F (node_of_id F id))
  told_nowhere valid id h = sym (ap (λ o. told_at (option_and_then (λ root. standing root (node_of_id F id).place) o)) (name_missing valid id h))

  -- ---- where a tree is

  -- its document, and the place that the id stands for
  record Here (id : Id) (tree : Tree) : Type 0 where
    pub doc : Doc
    pub found : fin_map.get F (name_at F id.doc) ≡ Some doc
    pub is : placed_by tree.rows.root ≡ the_document doc

  here : (id : Id) (tree : Tree) → slice_get trees id.doc ≡ Some tree → Here id tree
  here id tree h =
      let t = tree_is F trees id.doc tree s.are h in
      record { doc = t.doc; found = ap (fin_map.get F) (names_same id.doc ∙ ap (λ o. option_map_or (λ tree. tree.name) o []) h) ∙ t.found; is = t.is }

  -- another number of the same document
  sibling_id : (id : Id) (n : ℕ) (doc : Doc) → fin_map.get F (name_at F id.doc) ≡ Some doc
      → at_place (node_of_id F id) (place_of_number (the_document doc) n) ≡ node_of_id F (record { doc = id.doc; node = n })
  sibling_id id n doc found = ap (λ o. record { name = name_at F id.doc; place = place_in o n }) (sym found)

  siblings : (id : Id) (doc : Doc) (o : Option ℕ) → fin_map.get F (name_at F id.doc) ≡ Some doc
      → option_map (node_of_id F) (option_map (λ n. record { doc = id.doc; node = n }) o) ≡ option_map (at_place (node_of_id F id)) (option_map (place_of_number (the_document doc)) o)
  siblings id doc None found = refl
  siblings id doc (Some n) found = ap (λ n. Some n) (sym (sibling_id id n doc found))

  pub gone_here : (way : Placed → List PlaceStep → Option (List PlaceStep)) (id : Id) (tree : Tree) (o : Option ℕ) → slice_get trees id.doc ≡ Some tree
      → option_map (place_of_number (placed_by tree.rows.root)) o ≡ way (placed_by tree.rows.root) (place_of_number (placed_by tree.rows.root) id.node)
      → option_map (node_of_id F) (option_map (λ n. record { doc = id.doc; node = n }) o) ≡ gone way F (node_of_id F id)
  gone_here way id tree o h answer =
      let t = here id tree h in
      siblings id t.doc o t.found
      ∙ (ap (option_map (at_place (node_of_id F id))) (subst (λ root. option_map (place_of_number root) o ≡ way root (place_of_number root id.node)) t.is answer)
      ∙ sym (ap (option_and_then (λ root. option_map (at_place (node_of_id F id)) (way root (node_of_id F id).place))) (ap (option_map the_document) t.found)
      ∙ ap (λ place. option_map (at_place (node_of_id F id)) (way (the_document t.doc) place)) (ap (λ o. place_in o id.node) t.found)))

  pub told_here : (id : Id) (tree : Tree) → slice_get trees id.doc ≡ Some tree
      → told_at (standing (placed_by tree.rows.root) (place_of_number (placed_by tree.rows.root) id.node)) ≡ told_at (stored_at F (node_of_id F id))
  told_here id tree h =
      let t = here id tree h in
      ap (λ root. told_at (standing root (place_of_number root id.node))) t.is
      ∙ sym (ap told_at (ap (option_and_then (λ root. standing root (node_of_id F id).place)) (ap (option_map the_document) t.found)
      ∙ ap (λ o. standing (the_document t.doc) (place_in o id.node)) t.found))

  -- ---- order

  places_ordered : (o : Option Doc) (m n : ℕ) → place_cmp (place_in o m) (place_in o n) ≡ nat_cmp m n
  places_ordered None m n = then_equal (nat_cmp m n)
  places_ordered (Some doc) m n = numbers_ordered (the_document doc) m n

  pub order_alike : (a b : Id) → slice_cmp nat_cmp (tree_name trees a.doc) (tree_name trees b.doc) ≡ Equal → nat_cmp a.node b.node ≡ node_cmp (node_of_id F a) (node_of_id F b)
  order_alike a b e =
      let there : slice_cmp nat_cmp (name_at F a.doc) (name_at F b.doc) ≡ Equal = ap (λ x. slice_cmp nat_cmp x (name_at F b.doc)) (names_same a.doc) ∙ (ap (slice_cmp nat_cmp (tree_name trees a.doc)) (names_same b.doc) ∙ e) in
      let same : name_at F a.doc ≡ name_at F b.doc = fin_map.slice_cmp-IsAntisymmetric fin_map.nat_cmp-IsAntisymmetric _ _ there in
      sym (ap (λ r. ordering_then r (place_cmp (node_of_id F a).place (node_of_id F b).place)) there
      ∙ (ap (λ name. place_cmp (place_in (fin_map.get F name) a.node) (node_of_id F b).place) same ∙ places_ordered (fin_map.get F (name_at F b.doc)) a.node b.node))

  pub order_apart : (a b : Id) (r : Ordering) → r ≡ slice_cmp nat_cmp (tree_name trees a.doc) (tree_name trees b.doc) → (r ≡ Equal → ⊥) → r ≡ node_cmp (node_of_id F a) (node_of_id F b)
  order_apart a b r e apart =
      let there : r ≡ slice_cmp nat_cmp (name_at F a.doc) (name_at F b.doc) =
      e ∙ sym (ap (λ x. slice_cmp nat_cmp x (name_at F b.doc)) (names_same a.doc) ∙ ap (slice_cmp nat_cmp (tree_name trees a.doc)) (names_same b.doc)) in
      go r apart ∙ ap (λ r. ordering_then r (place_cmp (node_of_id F a).place (node_of_id F b).place)) there
    where
      go : (r : Ordering) → (r ≡ Equal → ⊥) → r ≡ ordering_then r (place_cmp (node_of_id F a).place (node_of_id F b).place)
      go Less apart = refl
      go Equal apart = absurd (apart refl)
      go Greater apart = refl

  -- ---- the document of a name

  pub root_found : (id : Id) (name : List ℕ) → id.node ≡ 0 → tree_name trees id.doc ≡ name → id.doc < length trees → Some (node_of_id F id) ≡ root_of F name
  root_found id name first named less =
      let t = within_some trees id.doc less in
      let is = tree_is F trees id.doc t.0 s.are t.1 in
      let same : t.0.name ≡ name = ap (λ o. option_map_or (λ tree. tree.name) o []) (sym t.1) ∙ named in
      let found : fin_map.get F name ≡ Some is.doc = ap (fin_map.get F) (sym same) ∙ is.found in
      ap (λ name. Some (record { name = name; place = place_in (fin_map.get F name) id.node })) (names_same id.doc ∙ named)
      ∙ (ap (λ o. Some (record { name = name; place = place_in o id.node })) found
      ∙ (ap (λ n. Some (record { name = name; place = place_of_number (the_document is.doc) n })) first ∙ sym (ap (option_map (λ doc. record { name = name; place = [] })) found)))

  pub root_missing : (name : List ℕ) → ((k : ℕ) → k < length trees → tree_name trees k ≡ name → ⊥) → None ≡ root_of F name
  root_missing name none =
      sym (ap (option_map (λ doc. record { name = name; place = [] }))
      (no_value (fin_map.get F name) (fin_map.contains_key-keys F name ∙ (ap (list_any (eq_by_cmp (slice_cmp nat_cmp) name)) (sym s.names) ∙ none_named name trees none))))

-- the numbers of ids fall as those of nodes rise
pub falls : (n : Id) (o : Option ℕ) (r : Option Id) → r ≡ option_map (λ m. record { doc = n.doc; node = m }) o → IfSome o (λ m. (n.node < m) × (m ≤ NODES_MAX))
    → IfSome r (λ m. 2 ^ 32 - m.node < 2 ^ 32 - n.node)
falls n None r e h = subst (λ r. IfSome r (λ m. 2 ^ 32 - m.node < 2 ^ 32 - n.node)) (sym e) tt
falls n (Some m) r e h = subst (λ r. IfSome r (λ m. 2 ^ 32 - m.node < 2 ^ 32 - n.node)) (sym e) (omega (arith, h.0, h.1))

pub rises : (n : Id) (o : Option ℕ) (r : Option Id) → r ≡ option_map (λ m. record { doc = n.doc; node = m }) o → IfSome o (λ m. (m < n.node) × (m ≤ NODES_MAX))
    → IfSome r (λ m. 2 ^ 32 - n.node < 2 ^ 32 - m.node)
rises n None r e h = subst (λ r. IfSome r (λ m. 2 ^ 32 - n.node < 2 ^ 32 - m.node)) (sym e) tt
rises n (Some m) r e h = subst (λ r. IfSome r (λ m. 2 ^ 32 - n.node < 2 ^ 32 - m.node)) (sym e) (omega (arith, h.0, h.1))
