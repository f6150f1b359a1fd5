-- The changes that an update asks for: they are of its targets, which are in document order and of documents that are there.
use Rattle.std.specs.Prelude.{◌≡◌, ℕ, List, [], ◌∷◌, ◌++◌, map, None, Result, Ok, Err, IfOk, refl}
use Rattle.std.specs.Cmp.{IsTotalOrder, on_total, then_total}
use Rattle.std.specs.FinMap as forests
use Rattle.std.specs.declared.cmp.Ordering.{Ordering}
use Rattle.std.proofs.Common.{sym, ap, ◌∙◌, subst, append_assoc, append-nil}
use Rattle.std.proofs.lemmas.Cmp.{nat_list_cmp_total}
use Rattle.std.proofs.lemmas.List.{map-append}
use Rattle.xq_ast.specs.Documents.{documents}
use Rattle.xq_ast.specs.declared.code.Code.{Code}
use Rattle.xq_ast.specs.declared.tree.Expr.{Expr}
use Rattle.xq_ast.specs.declared.update.Update.{Update}
use Rattle.xq_ast.specs.declared.update.Update.TheVariants as update
use Rattle.xml_model.specs.declared.edit.EditKind.{EditKind}
use Rattle.xml_model.specs.declared.edit.EditKind.TheVariants as edit
use Rattle.xml_model.specs.declared.nav.Id.{Id}
use Rattle.xml_model.specs.declared.node.Node.{Node}
use Rattle.xml_model.specs.DocumentOrder.{node_cmp, in_order}
use Rattle.xml_model.specs.Edits as spec
use Rattle.xml_model.specs.Evaluation.{meaning}
use Rattle.xml_model.specs.Edits.{Change, stored_nodes, unless_document, standing_at}
use Rattle.xml_model.specs.Forest.{Forest}
use Rattle.xml_model.specs.Items.{Documents, Items, Made, Making, then_with, plain, ◌>>=◌, ◌>>?◌}
use Rattle.xml_model.specs.Nav.{Stored}
use Rattle.xml_model.specs.Place.{Placed}
use Rattle.xml_model.specs.Tuples.{Means}
use Rattle.xml_model.proofs.Alike.{Each, Any, Fine, any_fine, fine_then, Good, plain_good, good_then}
use Rattle.xml_model.proofs.TargetNames.{IsNamed}
use Rattle.xml_model.proofs.UpdateFrame.{AreChangesNamed, changes_named, target_of}
use Rattle.xq_edits.specs.Documents.{AreNamed}
use Rattle.xq_edits.specs.Turns.{nodes_of}
use Rattle.xq_nodes.proofs.NodeOrder.{place_total}
use Rattle.xq_nodes.proofs.Unions.{rises_union}
use Rattle.xq_nodes.specs.Answers.{Looks}
use Rattle.xq_nodes.specs.declared.end.EvalEnd.{EvalEnd}
use Rattle.xq_nodes.specs.Joins.{IsBefore, Rises}
use Rattle.xq_eval.specs.Meanings.{means}
use Rattle.xq_eval.specs.Updates.{target_expr}
use Rattle.xq_eval.proofs.Counted.{means_meaning}

-- ---- order

-- document order of stored nodes is a total order
pub stored_total : IsTotalOrder node_cmp
stored_total = then_total (on_total (λ (n : Stored). n.name) nat_list_cmp_total) (on_total (λ (n : Stored). n.place) place_total)

-- nodes in document order rise
pub in_order_rising : (nodes : List Stored) → Rises node_cmp (in_order node_cmp nodes)
in_order_rising [] = tt
in_order_rising (n ∷ nodes) = rises_union node_cmp stored_total (n ∷ []) (in_order node_cmp nodes) (tt, tt) (in_order_rising nodes)

-- targets rise
pub targets_rise : (items : Items) → Fine (Rises node_cmp) (spec.targets_of items)
targets_rise items =
    fine_then Any (Rises node_cmp) (λ ns. Ok (in_order node_cmp ns)) (λ ns _. in_order_rising ns) (stored_nodes items) (any_fine (stored_nodes items))

-- the same where it is known what they are
pub found_rise : (items : Items) (nodes : List Stored) → spec.targets_of items ≡ Ok nodes → Rises node_cmp nodes
found_rise items nodes e = subst (Fine (Rises node_cmp)) e (targets_rise items)

-- targets that were found rise
pub looks_rising : {F : Type 0} (h : Type 0) (p : F → Type 0) (place : Id → Stored) (r : Result (List Id) (EvalEnd F)) (items : Items)
    → Looks h p (map place) r (spec.targets_of items) → h → IfOk r (λ targets. Rises node_cmp (map place targets))
looks_rising h p place (Ok targets) items g w = found_rise items (map place targets) (g w)
looks_rising h p place (Err e) items g w = tt

module _ {A : Type 0} (cmp : A → A → Ordering) where
  before_front : (x : A) (xs ys : List A) (y : A) → IsBefore cmp x (xs ++ y ∷ ys) → IsBefore cmp x (xs ++ y ∷ [])
  before_front x [] ys y b = (b.0, tt)
  before_front x (w ∷ xs) ys y b = (b.0, before_front x xs ys y b.1)

  -- what stands at the front of a list that rises does so too
  pub rises_front : (xs ys : List A) (y : A) → Rises cmp (xs ++ y ∷ ys) → Rises cmp (xs ++ y ∷ [])
  rises_front [] ys y h = (tt, tt)
  rises_front (x ∷ xs) ys y h = (before_front x xs ys y h.0, rises_front xs ys y h.1)

-- ---- results

-- one property of values gives the other
good_gives : {A : Type 0} (G H : A → Type 0) → ((x : A) → G x → H x) → (r : Result (A × Made) Code) → Good G r → Good H r
good_gives G H h (Ok both) g = h both.0 g
good_gives G H h (Err code) g = tt

-- each value has no property
any_good : {A : Type 0} (r : Result (A × Made) Code) → Good Any r
any_good (Ok both) = tt
any_good (Err code) = tt

-- ---- changes are of the targets

regrouped : (done : List Change) (c : Change) (more : List Stored) → nodes_of (done ++ c ∷ []) ++ more ≡ nodes_of done ++ c.node ∷ more
regrouped done c more =
    ap (λ l. l ++ more) (map-append (λ (d : Change). d.node) done (c ∷ [])) ∙ append_assoc (nodes_of done) (c.node ∷ []) more

module _ (docs : Documents) where
  -- the nodes of the changes are those before and the targets
  pub each_nodes : (go : List Change → Stored → List Stored → Making EditKind) (done : List Change) (ns : List Stored) (made : Made)
      → Good (λ cs. nodes_of cs ≡ nodes_of done ++ ns) (spec.each docs go done ns made)
  each_nodes go done [] made = sym (append-nil (nodes_of done))
  each_nodes go done (n ∷ more) made = then_more (go done n more made) (λ d m. each_nodes go d more m)
    where
      then_more : (r : Result (EditKind × Made) Code)
          → ((d : List Change) (m : Made) → Good (λ cs. nodes_of cs ≡ nodes_of d ++ more) (spec.each docs go d more m))
          → Good (λ cs. nodes_of cs ≡ nodes_of done ++ n ∷ more)
          (then_with r (λ what. spec.each docs go (done ++ record { node = n; what = what } ∷ []) more))
      then_more (Ok both) others =
          let c : Change = record { node = n; what = both.0 } in
          good_gives (λ cs. nodes_of cs ≡ nodes_of (done ++ c ∷ []) ++ more) (λ cs. nodes_of cs ≡ nodes_of done ++ n ∷ more)
          (λ cs e. e ∙ regrouped done c more) (spec.each docs go (done ++ c ∷ []) more both.1) (others (done ++ c ∷ []) both.1)
      then_more (Err code) others = tt

  -- changes whose nodes rise
  abbrev RisingChanges : List Change → Type 0
  RisingChanges cs = Rises node_cmp (nodes_of cs)

  each_rising : (go : List Change → Stored → List Stored → Making EditKind) (ns : List Stored) → Rises node_cmp ns → (made : Made)
      → Good RisingChanges (spec.each docs go [] ns made)
  each_rising go ns h made =
      good_gives (λ cs. nodes_of cs ≡ ns) RisingChanges (λ cs e. subst (Rises node_cmp) (sym e) h) (spec.each docs go [] ns made) (each_nodes go [] ns made)

  alone_rising : (may : Placed → Result EditKind Code) (ns : List Stored) → Rises node_cmp ns → (made : Made)
      → Good RisingChanges (spec.each_alone docs may ns made)
  alone_rising may = each_rising (λ done n more. plain (may (standing_at docs n)))

  -- what is found rises
  targets_rising : (target : Means) (made : Made) → Good (Rises node_cmp) (spec.targets docs target made)
  targets_rising target made =
      good_then Any (Rises node_cmp) (λ items. plain (spec.targets_of items))
      (λ items _ m. plain_good (Rises node_cmp) (spec.targets_of items) m (targets_rise items)) (target [] None made) (any_good (target [] None made))

  after_targets : (target : Means) (f : List Stored → Making (List Change))
      → ((ns : List Stored) → Rises node_cmp ns → (made : Made) → Good RisingChanges (f ns made)) → (made : Made)
      → Good RisingChanges (then_with (spec.targets docs target made) f)
  after_targets target f h made = good_then (Rises node_cmp) RisingChanges f h (spec.targets docs target made) (targets_rising target made)

  into_rising : (source target : Means) (made : Made) → Good RisingChanges (spec.insert_into docs source target made)
  into_rising source target made =
      good_then Any RisingChanges (λ c. spec.targets docs target >>= spec.each_alone docs (spec.into c))
      (λ c _. after_targets target (spec.each_alone docs (spec.into c)) (λ ns h. alone_rising (spec.into c) ns h))
      (spec.content docs source [] made) (any_good (spec.content docs source [] made))

  beside_rising : (put : List Node → EditKind) (source target : Means) (made : Made) → Good RisingChanges (spec.insert_beside docs put source target made)
  beside_rising put source target made =
      good_then Any RisingChanges
      (λ c. spec.targets docs target >>= (λ ns. plain (spec.without_attributes c) >>= (λ kids. spec.each_alone docs (spec.beside (put kids)) ns)))
      (λ c _. after_targets target (λ ns. plain (spec.without_attributes c) >>= (λ kids. spec.each_alone docs (spec.beside (put kids)) ns))
      (λ ns h m. good_then Any RisingChanges (λ kids. spec.each_alone docs (spec.beside (put kids)) ns)
      (λ kids _. alone_rising (spec.beside (put kids)) ns h) (plain (spec.without_attributes c) m) (any_good (plain (spec.without_attributes c) m))))
      (spec.content docs source [] made) (any_good (spec.content docs source [] made))

  delete_rising : (what : EditKind) (target : Means) (made : Made) → Good RisingChanges (spec.delete docs what target made)
  delete_rising what target = after_targets target (spec.each_alone docs (unless_document what)) (λ ns h. alone_rising (unless_document what) ns h)

  replace_rising : (name : List ℕ) (target by : Means) (made : Made) → Good RisingChanges (spec.replace docs name target by made)
  replace_rising name target by =
      after_targets target (spec.each docs (spec.replaced docs name by) []) (λ ns h. each_rising (spec.replaced docs name by) ns h)

  -- what is done to a target that gets a name
  abbrev pub renamed_turn : List ℕ → List Change → Stored → List Stored → Making EditKind
  renamed_turn name done n more =
      plain (spec.renamed name (standing_at docs n) >>? (λ what. spec.named_once docs done more (record { node = n; what = what })))

  rename_rising : (name : List ℕ) (target : Means) (made : Made) → Good RisingChanges (spec.rename docs name target made)
  rename_rising name target = after_targets target (spec.each docs (renamed_turn name) []) (λ ns h. each_rising (renamed_turn name) ns h)

  -- the nodes of the changes that an update asks for rise
  pub changes_rising : (what : Update) (made : Made) → Good RisingChanges (spec.changes docs what made)
  changes_rising (update.Into source target) = into_rising (meaning docs source) (meaning docs target)
  changes_rising (update.Preceding source target) = beside_rising edit.Before (meaning docs source) (meaning docs target)
  changes_rising (update.Following source target) = beside_rising edit.After (meaning docs source) (meaning docs target)
  changes_rising (update.Delete target) = delete_rising edit.Delete (meaning docs target)
  changes_rising (update.DeleteUndeep target) = delete_rising edit.Undeep (meaning docs target)
  changes_rising (update.Replace name target by) = replace_rising name (meaning docs target) (meaning docs by)
  changes_rising (update.Rename target name) = rename_rising name (meaning docs target)

  -- the same where it is known what they are
  pub found_changes_rise : (what : Update) (made after : Made) (cs : List Change) → spec.changes docs what made ≡ Ok (cs, after)
      → Rises node_cmp (nodes_of cs)
  found_changes_rise what made after cs e = subst (Good RisingChanges) e (changes_rising what made)

-- ---- their documents

module _ (F : Forest) where
  nodes_named : (names : List (List ℕ)) (cs : List Change) → Each (λ c. IsNamed (forests.get F) names c.node.name) cs → AreNamed F names (nodes_of cs)
  nodes_named names [] h = tt
  nodes_named names (c ∷ cs) h = (h.0, nodes_named names cs h.1)

  target_same : (what : Update) → target_of what ≡ target_expr what
  target_same (update.Into source target) = refl
  target_same (update.Preceding source target) = refl
  target_same (update.Following source target) = refl
  target_same (update.Delete target) = refl
  target_same (update.DeleteUndeep target) = refl
  target_same (update.Replace name target by) = refl
  target_same (update.Rename target name) = refl

  -- each change is of a node of a document that is there and that the target expression names
  pub found_changes_named : (what : Update) (made after : Made) (cs : List Change) → spec.changes (forests.get F) what made ≡ Ok (cs, after)
      → AreNamed F (documents (target_expr what)) (nodes_of cs)
  found_changes_named what made after cs e =
      subst (λ t. AreNamed F (documents t) (nodes_of cs)) (target_same what)
      (nodes_named (documents (target_of what)) cs (subst (Good (AreChangesNamed (forests.get F) what)) e (changes_named (forests.get F) what made)))

-- ---- the forms, with meanings as the evaluator has them

module _ (docs : Documents) where
  -- `insert into` of what the parts mean is the changes of the update
  pub into_is : (source target : Expr) (made : Made)
      → spec.insert_into docs (means docs source) (means docs target) made ≡ spec.changes docs (update.Into source target) made
  into_is source target made = λ i. spec.insert_into docs (means_meaning docs source i) (means_meaning docs target i) made

  -- `insert preceding` of what the parts mean is the changes of the update
  pub preceding_is : (source target : Expr) (made : Made)
      → spec.insert_beside docs edit.Before (means docs source) (means docs target) made ≡ spec.changes docs (update.Preceding source target) made
  preceding_is source target made = λ i. spec.insert_beside docs edit.Before (means_meaning docs source i) (means_meaning docs target i) made

  -- `insert following` of what the parts mean is the changes of the update
  pub following_is : (source target : Expr) (made : Made)
      → spec.insert_beside docs edit.After (means docs source) (means docs target) made ≡ spec.changes docs (update.Following source target) made
  following_is source target made = λ i. spec.insert_beside docs edit.After (means_meaning docs source i) (means_meaning docs target i) made

  -- `delete` of what the parts mean is the changes of the update
  pub delete_is : (target : Expr) (made : Made) → spec.delete docs edit.Delete (means docs target) made ≡ spec.changes docs (update.Delete target) made
  delete_is target made = λ i. spec.delete docs edit.Delete (means_meaning docs target i) made

  -- `delete_undeep` of what the parts mean is the changes of the update
  pub undeep_is : (target : Expr) (made : Made) → spec.delete docs edit.Undeep (means docs target) made ≡ spec.changes docs (update.DeleteUndeep target) made
  undeep_is target made = λ i. spec.delete docs edit.Undeep (means_meaning docs target i) made

  -- `replace` of what the parts mean is the changes of the update
  pub replace_is : (name : List ℕ) (target by : Expr) (made : Made)
      → spec.replace docs name (means docs target) (means docs by) made ≡ spec.changes docs (update.Replace name target by) made
  replace_is name target by made = λ i. spec.replace docs name (means_meaning docs target i) (means_meaning docs by i) made

  -- `rename` of what the parts mean is the changes of the update
  pub rename_is : (target : Expr) (name : List ℕ) (made : Made)
      → spec.rename docs name (means docs target) made ≡ spec.changes docs (update.Rename target name) made
  rename_is target name made = λ i. spec.rename docs name (means_meaning docs target i) made
