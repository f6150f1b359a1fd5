-- The changes of an update are of its targets, which rise in document order.
use Rattle.std.proofs.Common.{◌≡◌, List, [], ◌∷◌, ◌++◌, None, Result, Ok, refl, sym, ap, subst, ◌∙◌}
use Rattle.std.specs.Cmp.{IsTotalOrder, on_total, then_total}
use Rattle.std.proofs.lemmas.Cmp.{nat_list_cmp_total}
use Rattle.xq_ast.specs.declared.code.Code.{Code}
use Rattle.xq_ast.specs.declared.update.Update.{Update}
use Rattle.xq_ast.specs.declared.update.Update.TheVariants as update
use Rattle.xml_model.specs.declared.edit.EditKind.{EditKind}
use Rattle.xml_model.specs.declared.edit.EditKind.TheVariants as edit
use Rattle.xml_model.specs.declared.node.Node.{Node}
use Rattle.xml_model.specs.DocumentOrder.{node_cmp, in_order}
use Rattle.xml_model.specs.Edits.{Change, stored_nodes, targets_of, into, beside, unless_document, without_attributes, standing_at, renamed, named_once, replaced, each, each_alone, content, targets, insert_into, insert_beside, changes}
use Rattle.xml_model.specs.Evaluation.{meaning}
use Rattle.xml_model.specs.Items.{Documents, Made, Making, plain, ◌>>=◌, ◌>>?◌}
use Rattle.xml_model.specs.Nav.{Stored}
use Rattle.xml_model.specs.Place.{Placed}
use Rattle.xml_model.specs.Tuples.{Means}
use Rattle.xml_model.proofs.PlaceTotal.{place_total}
use Rattle.xq_edits.specs.Turns.{nodes_of}
use Rattle.xq_edits.proofs.UpdateNames.{same_value, before, before_plain, of_plain, Allowed, each_allowed}
use Rattle.xq_nodes.specs.Joins.{Rises}
use Rattle.xq_nodes.proofs.Unions.{rises_union}

-- document order of stored nodes is a total order
pub stored_total : IsTotalOrder node_cmp
stored_total = then_total (on_total (λ (n : Stored). n.name) nat_list_cmp_total) (on_total (λ (n : Stored). n.place) place_total)

-- nodes in document order rise
pub in_order_rising : (nodes : List Stored) → Rises node_cmp (in_order node_cmp nodes)
in_order_rising [] = tt
in_order_rising (n ∷ nodes) = rises_union node_cmp stored_total (n ∷ []) (in_order node_cmp nodes) (tt, tt) (in_order_rising nodes)

module _ (docs : Documents) where
  -- targets rise
  pub targets_rise : (e : Means) (made : Made) (y : List Stored × Made) → targets docs e made ≡ Ok y → Rises node_cmp y.0
  targets_rise e made y is =
      let a = before (e [] None made) (λ items. plain (targets_of items)) y is in
      let b = before_plain (stored_nodes a.0.0) (λ ns. Ok (in_order node_cmp ns)) y.0 (of_plain (targets_of a.0.0) a.0.1 y a.1.1) in
      subst (Rises node_cmp) (same_value (in_order node_cmp b.0) y.0 b.1.1) (in_order_rising b.0)

  -- nothing is asked of a turn
  abbrev Anything : List Change → Stored → List Stored → EditKind → Type 0
  Anything done n ns what = Unit {0}

  nodes_are : (done : List Change) (ns : List Stored) (new : List Change) → Allowed docs Anything done ns new → nodes_of new ≡ ns
  nodes_are done [] [] h = refl
  nodes_are done [] (c ∷ new) h = absurd h
  nodes_are done (n ∷ ns) [] h = absurd h
  nodes_are done (n ∷ ns) (c ∷ new) h = λ i. h.0 i ∷ nodes_are (done ++ c ∷ []) ns new h.2 i

  -- each change is of one target, in the order of the targets
  pub each_node : (go : List Change → Stored → List Stored → Making EditKind) (ns : List Stored) (made : Made) (y : List Change × Made)
      → each docs go [] ns made ≡ Ok y → nodes_of y.0 ≡ ns
  each_node go ns made y e =
      let all = each_allowed docs Anything go (λ done n more made y is. tt) [] ns made y e in
      ap nodes_of all.1.0 ∙ nodes_are [] ns all.0 all.1.1

  each_rises : (go : List Change → Stored → List Stored → Making EditKind) (ns : List Stored) (made : Made) (y : List Change × Made)
      → Rises node_cmp ns → each docs go [] ns made ≡ Ok y → Rises node_cmp (nodes_of y.0)
  each_rises go ns made y rises e = subst (Rises node_cmp) (sym (each_node go ns made y e)) rises

  -- targets, and then each of them
  all_rise : (target : Means) (go : List Change → Stored → List Stored → Making EditKind) (made : Made) (y : List Change × Made)
      → (targets docs target >>= each docs go []) made ≡ Ok y → Rises node_cmp (nodes_of y.0)
  all_rise target go made y e =
      let a = before (targets docs target made) (each docs go []) y e in
      each_rises go a.0.0 a.0.1 y (targets_rise target made a.0 a.1.0) a.1.1

  abbrev alone : (Placed → Result EditKind Code) → List Change → Stored → List Stored → Making EditKind
  alone may done n more = plain (may (standing_at docs n))

  into_rises : (source target : Means) (y : List Change × Made) → insert_into docs source target [] ≡ Ok y → Rises node_cmp (nodes_of y.0)
  into_rises source target y e =
      let a = before (content docs source [] []) (λ c. targets docs target >>= each_alone docs (into c)) y e in
      all_rise target (alone (into a.0.0)) a.0.1 y a.1.1

  beside_rises : (put : List Node → EditKind) (source target : Means) (y : List Change × Made) → insert_beside docs put source target [] ≡ Ok y
      → Rises node_cmp (nodes_of y.0)
  beside_rises put source target y e =
      let a = before (content docs source [] [])
      (λ c. targets docs target >>= (λ ns. plain (without_attributes c) >>= (λ kids. each_alone docs (beside (put kids)) ns))) y e in
      let b = before (targets docs target a.0.1) (λ ns. plain (without_attributes a.0.0) >>= (λ kids. each_alone docs (beside (put kids)) ns)) y a.1.1 in
      let c = before (plain (without_attributes a.0.0) b.0.1) (λ kids. each_alone docs (beside (put kids)) b.0.0) y b.1.1 in
      each_rises (alone (beside (put c.0.0))) b.0.0 c.0.1 y (targets_rise target a.0.1 b.0 b.1.0) c.1.1

  -- the nodes of the changes of an update rise
  pub changes_rise : (what : Update) (y : List Change × Made) → changes docs what [] ≡ Ok y → Rises node_cmp (nodes_of y.0)
  changes_rise (update.Into source target) y e = into_rises (meaning docs source) (meaning docs target) y e
  changes_rise (update.Preceding source target) y e = beside_rises edit.Before (meaning docs source) (meaning docs target) y e
  changes_rise (update.Following source target) y e = beside_rises edit.After (meaning docs source) (meaning docs target) y e
  changes_rise (update.Delete target) y e = all_rise (meaning docs target) (alone (unless_document edit.Delete)) [] y e
  changes_rise (update.DeleteUndeep target) y e = all_rise (meaning docs target) (alone (unless_document edit.Undeep)) [] y e
  changes_rise (update.Replace name target by) y e = all_rise (meaning docs target) (replaced docs name (meaning docs by)) [] y e
  changes_rise (update.Rename target name) y e =
      all_rise (meaning docs target)
      (λ done n more. plain (renamed name (standing_at docs n) >>? (λ what. named_once docs done more (record { node = n; what = what })))) [] y e
