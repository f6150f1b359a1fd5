-- Two look-ups of documents that agree on the names in the expressions of an update ask for the same changes, and each change is
-- of a node of a document that is there and that the target expression names.
use Rattle.std.specs.Prelude.{◌≡◌, ℕ, Bool, true, false, ◌||◌, if◌then◌else◌, IsTrue, List, [], ◌∷◌, ◌++◌, map, bytes_eq, Option, None, Some, unwrap_or, Result, Ok, Err, refl}
use Rattle.std.specs.List.{list_any}
use Rattle.std.specs.Option.{option_map}
use Rattle.std.proofs.Common.{sym, ap, subst, true≢false}
use Rattle.std.proofs.lemmas.Slice.Eq.{bytes_eq-Decides}
use Rattle.xq_ast.specs.Documents.{documents}
use Rattle.xq_ast.specs.declared.code.Code.{Code}
use Rattle.xq_ast.specs.declared.code.Code.TheVariants.{XPTY0004, XQDY0025}
use Rattle.xq_ast.specs.declared.need.LockMode.{LockMode}
use Rattle.xq_ast.specs.declared.need.LockMode.TheVariants.{S, X}
use Rattle.xq_ast.specs.declared.need.Need.{Need}
use Rattle.xq_ast.specs.declared.tree.Expr.{Expr}
use Rattle.xq_ast.specs.declared.update.Update.{Update as UpdateCall}
use Rattle.xq_ast.specs.declared.update.Update.TheVariants as update
use Rattle.xml_model.specs.declared.node.Node.{Node}
use Rattle.xml_model.specs.declared.place.PlaceStep.{PlaceStep}
use Rattle.xml_model.specs.declared.place.PlaceStep.TheVariants as steps
use Rattle.xml_model.specs.declared.edit.EditKind.{EditKind}
use Rattle.xml_model.specs.declared.edit.EditKind.TheVariants as edit
use Rattle.xml_model.specs.Constructors.{content_of, has_name_twice}
use Rattle.xml_model.specs.Edits.{Change, as_content, targets_of, without_attributes, into, beside, unless_document, in_place_of, renamed, stands_in, outermost, done_in, element_by, goes_on, standing_at, names_twice, named_once, each, each_alone, content, targets, insert_into, insert_beside, delete, replaced, replace, rename, changes}
use Rattle.xml_model.specs.Evaluation.{meaning}
use Rattle.xml_model.specs.Items.{Documents, stored, Made, Making, plain, ◌>>?◌}
use Rattle.xml_model.specs.Nav.{Stored, Ending, ending, at_place}
use Rattle.xml_model.specs.Needs.{all_in, asked_by_update}
use Rattle.xml_model.specs.Nodes.{no_nodes}
use Rattle.xml_model.specs.Place.{Placed, the_document, attrs_of, placed_from}
use Rattle.xml_model.specs.Rebuild.{edited_attributes}
use Rattle.xml_model.specs.Tuples.{Bindings, Means}
use Rattle.xml_model.proofs.Alike.{Each, each_append, each_front, each_rest, Any, Fine, any_fine, fine_then, Good, Alike, give_alike, plain_alike, look_alike, bind_alike}
use Rattle.xml_model.proofs.AlikeParts.{MeansAlike}
use Rattle.xml_model.proofs.Depths.{size, fits_at_size}
use Rattle.xml_model.proofs.Known.{Known, KnownItems, KnownBindings, content_same}
use Rattle.xml_model.proofs.QueryFrame.{alike_within}
use Rattle.xml_model.proofs.TargetNames.{IsAmong, IsNamed, IsNodeNamed, targets_named}

-- the expression whose nodes an update changes
abbrev pub target_of : UpdateCall → Expr
target_of (update.Into source target) = target
target_of (update.Preceding source target) = target
target_of (update.Following source target) = target
target_of (update.Delete target) = target
target_of (update.DeleteUndeep target) = target
target_of (update.Replace name target by) = target
target_of (update.Rename target name) = target

-- changes of documents that are there and that the target expression names
abbrev pub AreChangesNamed : Documents → UpdateCall → List Change → Type 0
AreChangesNamed docs what = Each (λ c. IsNamed docs (documents (target_of what)) c.node.name)

module _ (docs docs' : Documents) where
  -- ---- what stands at a node

  standing_same : (n : Stored) → docs n.name ≡ docs' n.name → standing_at docs n ≡ standing_at docs' n
  standing_same n e = ap (λ o. unwrap_or (placed_from n.place (option_map the_document o)) no_nodes) e

  twice_same : (done : List Change) (n : Stored) → docs n.name ≡ docs' n.name → names_twice docs done (Some n) ≡ names_twice docs' done (Some n)
  twice_same done n e =
      ap (λ from. has_name_twice (edited_attributes (λ place. done_in n.name done (n.place ++ place)) 0 (attrs_of from))) (standing_same n e)

  step_same : (done : List Change) (n : Stored) (above : List PlaceStep) (s : PlaceStep) → docs n.name ≡ docs' n.name
      → names_twice docs done (element_by n (Some (record { above = above; last = s })))
      ≡ names_twice docs' done (element_by n (Some (record { above = above; last = s })))
  step_same done n above (steps.Attr i) e = twice_same done (at_place n above) e
  step_same done n above (steps.Kid i) e = refl

  element_same : (done : List Change) (n : Stored) (o : Option Ending) → docs n.name ≡ docs' n.name
      → names_twice docs done (element_by n o) ≡ names_twice docs' done (element_by n o)
  element_same done n None e = refl
  element_same done n (Some ends) e = step_same done n ends.above ends.last e

  once_same : (done : List Change) (more : List Stored) (c : Change) → docs c.node.name ≡ docs' c.node.name
      → named_once docs done more c ≡ named_once docs' done more c
  once_same done more c e =
      ap (λ twice. if goes_on c.node more then Ok c.what else (if twice then Err XQDY0025 else Ok c.what))
      (element_same (done ++ c ∷ []) c.node (ending c.node.place) e)

  -- ---- content

  content_alike : (e e' : Means) → MeansAlike docs docs' e e' → (env : Bindings) → KnownBindings docs docs' env
      → Alike Any (content docs e env) (content docs' e' env)
  content_alike e e' h env v =
      bind_alike (KnownItems docs docs') Any _ _ _ _ (h env None v tt) (λ items k.
      look_alike Any (λ made. as_content (content_of docs made items)) (λ made. as_content (content_of docs' made items))
      (λ made. (ap as_content (content_same docs docs' made items k), any_fine (as_content (content_of docs made items)))))

  -- a result that both give
  result_alike : {A : Type 0} (G : A → Type 0) (r r' : Result A Code) → r ≡ r' → Fine G r → Alike G (plain r) (plain r')
  result_alike G r r' e g = look_alike G (λ made. r) (λ made. r') (λ made. (e, g))

  -- ---- target by target

  -- The targets have a property that makes them known.
  module _ (P : Stored → Type 0) (known : (n : Stored) → P n → Known docs docs' (stored n.name)) where
    -- changes of nodes that have it
    abbrev Changed : List Change → Type 0
    Changed = Each (λ c. P c.node)

    -- what is asked for at a target
    abbrev TurnAlike : (List Change → Stored → List Stored → Making EditKind) → (List Change → Stored → List Stored → Making EditKind) → Type 0
    TurnAlike go go' = (done : List Change) (n : Stored) → P n → (more : List Stored) → Alike Any (go done n more) (go' done n more)

    each_alike : (go go' : List Change → Stored → List Stored → Making EditKind) → TurnAlike go go' → (done : List Change) → Changed done
        → (ns : List Stored) → Each P ns → Alike Changed (each docs go done ns) (each docs' go' done ns)
    each_alike go go' h done d [] p = give_alike Changed done d
    each_alike go go' h done d (n ∷ more) p =
        bind_alike Any Changed _ _ _ _ (h done n p.0 more) (λ what _.
        each_alike go go' h (done ++ record { node = n; what = what } ∷ [])
        (each_append (λ c. P c.node) done (record { node = n; what = what } ∷ []) d (p.0, tt)) more p.1)

    alone_alike : (may : Placed → Result EditKind Code) (ns : List Stored) → Each P ns → Alike Changed (each_alone docs may ns) (each_alone docs' may ns)
    alone_alike may ns p =
        each_alike (λ done n more. plain (may (standing_at docs n))) (λ done n more. plain (may (standing_at docs' n)))
        (λ done n q more. result_alike Any (may (standing_at docs n)) (may (standing_at docs' n))
        (ap may (standing_same n (known n q).0)) (any_fine (may (standing_at docs n)))) [] tt ns p

    outermost_fine : (b : Bool) (n : Stored) → P n → Fine P (if b then Err XPTY0004 else Ok n)
    outermost_fine true n q = tt
    outermost_fine false n q = q

    tests_alike : (done : List Change) (n : Stored) → P n
        → Alike P (plain (unless_document edit.Delete (standing_at docs n) >>? (λ _. outermost done n)))
        (plain (unless_document edit.Delete (standing_at docs' n) >>? (λ _. outermost done n)))
    tests_alike done n q =
        result_alike P (unless_document edit.Delete (standing_at docs n) >>? (λ _. outermost done n))
        (unless_document edit.Delete (standing_at docs' n) >>? (λ _. outermost done n))
        (ap (λ from. unless_document edit.Delete from >>? (λ _. outermost done n)) (standing_same n (known n q).0))
        (fine_then Any P (λ _. outermost done n) (λ _ _. outermost_fine (list_any (stands_in n) done) n q)
        (unless_document edit.Delete (standing_at docs n)) (any_fine (unless_document edit.Delete (standing_at docs n))))

    replaced_alike : (name : List ℕ) (by by' : Means) → MeansAlike docs docs' by by' → TurnAlike (replaced docs name by) (replaced docs' name by')
    replaced_alike name by by' h done n q more =
        bind_alike P Any _ _ _ _ (tests_alike done n q) (λ m k.
        bind_alike Any Any _ _ _ _ (content_alike by by' h _ ((known m k, tt), tt)) (λ c _.
        result_alike Any _ _ (λ i. in_place_of c (standing_same m (known m k).0 i) >>?
        (λ what. once_same done more (record { node = m; what = what }) (known m k).0 i))
        (any_fine _)))

    renamed_alike : (name : List ℕ)
        → TurnAlike (λ done n more. plain (renamed name (standing_at docs n) >>? (λ what. named_once docs done more (record { node = n; what = what }))))
        (λ done n more. plain (renamed name (standing_at docs' n) >>? (λ what. named_once docs' done more (record { node = n; what = what }))))
    renamed_alike name done n q more =
        result_alike Any _ _ (λ i. renamed name (standing_same n (known n q).0 i) >>?
        (λ what. once_same done more (record { node = n; what = what }) (known n q).0 i))
        (any_fine _)

    -- ---- the forms

    module _ (target target' : Means) (found : Alike (Each P) (targets docs target) (targets docs' target')) where
      into_alike : (source source' : Means) → MeansAlike docs docs' source source'
          → Alike Changed (insert_into docs source target) (insert_into docs' source' target')
      into_alike source source' h =
          bind_alike Any Changed _ _ _ _ (content_alike source source' h [] tt) (λ c _.
          bind_alike (Each P) Changed _ _ _ _ found (λ ns p. alone_alike (into c) ns p))

      beside_alike : (put : List Node → EditKind) (source source' : Means) → MeansAlike docs docs' source source'
          → Alike Changed (insert_beside docs put source target) (insert_beside docs' put source' target')
      beside_alike put source source' h =
          bind_alike Any Changed _ _ _ _ (content_alike source source' h [] tt) (λ c _.
          bind_alike (Each P) Changed _ _ _ _ found (λ ns p.
          bind_alike Any Changed _ _ _ _ (plain_alike Any (without_attributes c) (any_fine (without_attributes c)))
          (λ kids _. alone_alike (beside (put kids)) ns p)))

      delete_alike : (what : EditKind) → Alike Changed (delete docs what target) (delete docs' what target')
      delete_alike what = bind_alike (Each P) Changed _ _ _ _ found (λ ns p. alone_alike (unless_document what) ns p)

      replace_alike : (name : List ℕ) (by by' : Means) → MeansAlike docs docs' by by'
          → Alike Changed (replace docs name target by) (replace docs' name target' by')
      replace_alike name by by' h =
          bind_alike (Each P) Changed _ _ _ _ found (λ ns p. each_alike _ _ (replaced_alike name by by' h) [] tt ns p)

      rename_alike : (name : List ℕ) → Alike Changed (rename docs name target) (rename docs' name target')
      rename_alike name = bind_alike (Each P) Changed _ _ _ _ found (λ ns p. each_alike _ _ (renamed_alike name) [] tt ns p)

  -- ---- expressions

  -- the look-ups agree on the name
  abbrev pub AgreesOn : List ℕ → Type 0
  AgreesOn name = docs name ≡ docs' name

  -- on the name of a need
  abbrev pub AgreesAt : Need → Type 0
  AgreesAt n = docs n.name ≡ docs' n.name

  -- on the names of all needs of a list
  abbrev pub AgreesAtAll : List Need → Type 0
  AgreesAtAll = Each AgreesAt

  asked_names : (mode : LockMode) (names : List (List ℕ)) → AgreesAtAll (map (λ name. record { name = name; mode = mode }) names) → Each AgreesOn names
  asked_names mode [] h = tt
  asked_names mode (name ∷ names) h = (h.0, asked_names mode names h.1)

  agrees_among : (names : List (List ℕ)) → Each AgreesOn names → (q : List ℕ) → IsAmong names q → docs q ≡ docs' q
  agrees_among [] h q among = absurd (true≢false (sym among))
  agrees_among (name ∷ names) h q among = by_first (agrees_among names h.1 q) (bytes_eq q name) refl among
    where
      by_first : (IsAmong names q → docs q ≡ docs' q) → (b : Bool) → bytes_eq q name ≡ b → IsTrue (b || list_any (bytes_eq q) names) → docs q ≡ docs' q
      by_first rest true e _ = subst AgreesOn (sym ((bytes_eq-Decides q name).0 e)) h.0
      by_first rest false e later = rest later

  means_alike : (mode : LockMode) (e : Expr) → AgreesAtAll (all_in mode e) → MeansAlike docs docs' (meaning docs e) (meaning docs' e)
  means_alike mode e h = alike_within docs docs' (size e) e (fits_at_size e) (asked_names mode (documents e) h)

  targets_alike : (e : Expr) → AgreesAtAll (all_in X e)
      → Alike (Each (IsNodeNamed docs (documents e))) (targets docs (meaning docs e)) (targets docs' (meaning docs' e))
  targets_alike e h made = (
    (bind_alike (KnownItems docs docs') Any _ _ _ _ (means_alike X e h [] None tt tt)
        (λ items _. plain_alike Any (targets_of items) (any_fine (targets_of items))) made).0,
    targets_named docs e made,
  )

  named_known : (e : Expr) → AgreesAtAll (all_in X e) → (n : Stored) → IsNodeNamed docs (documents e) n → Known docs docs' (stored n.name)
  named_known e h n is = (agrees_among (documents e) (asked_names X (documents e) h) n.name is.0, is.1)

  -- look-ups that agree on what an update asks for give the same changes, of documents that its target expression names
  pub changes_alike : (what : UpdateCall) → AgreesAtAll (asked_by_update what) → Alike (AreChangesNamed docs what) (changes docs what) (changes docs' what)
  changes_alike (update.Into source target) h =
      let s = each_front AgreesAt (all_in S source) (all_in X target) h in
      let t = each_rest AgreesAt (all_in S source) (all_in X target) h in
      into_alike (IsNodeNamed docs (documents target)) (named_known target t) (meaning docs target) (meaning docs' target) (targets_alike target t)
      (meaning docs source) (meaning docs' source) (means_alike S source s)
  changes_alike (update.Preceding source target) h =
      let s = each_front AgreesAt (all_in S source) (all_in X target) h in
      let t = each_rest AgreesAt (all_in S source) (all_in X target) h in
      beside_alike (IsNodeNamed docs (documents target)) (named_known target t) (meaning docs target) (meaning docs' target) (targets_alike target t)
      edit.Before (meaning docs source) (meaning docs' source) (means_alike S source s)
  changes_alike (update.Following source target) h =
      let s = each_front AgreesAt (all_in S source) (all_in X target) h in
      let t = each_rest AgreesAt (all_in S source) (all_in X target) h in
      beside_alike (IsNodeNamed docs (documents target)) (named_known target t) (meaning docs target) (meaning docs' target) (targets_alike target t)
      edit.After (meaning docs source) (meaning docs' source) (means_alike S source s)
  changes_alike (update.Delete target) h =
      delete_alike (IsNodeNamed docs (documents target)) (named_known target h) (meaning docs target) (meaning docs' target) (targets_alike target h)
      edit.Delete
  changes_alike (update.DeleteUndeep target) h =
      delete_alike (IsNodeNamed docs (documents target)) (named_known target h) (meaning docs target) (meaning docs' target) (targets_alike target h)
      edit.Undeep
  changes_alike (update.Replace name target by) h =
      let t = each_front AgreesAt (all_in X target) (all_in S by) h in
      let s = each_rest AgreesAt (all_in X target) (all_in S by) h in
      replace_alike (IsNodeNamed docs (documents target)) (named_known target t) (meaning docs target) (meaning docs' target) (targets_alike target t)
      name (meaning docs by) (meaning docs' by) (means_alike S by s)
  changes_alike (update.Rename target name) h =
      rename_alike (IsNodeNamed docs (documents target)) (named_known target h) (meaning docs target) (meaning docs' target) (targets_alike target h) name

module _ (docs : Documents) (what : UpdateCall) where
  each_itself : (asked : List Need) → AgreesAtAll docs docs asked
  each_itself [] = tt
  each_itself (n ∷ asked) = (refl, each_itself asked)

  -- each change is of a node of a document that is there and that the target expression names
  pub changes_named : (made : Made) → Good (AreChangesNamed docs what) (changes docs what made)
  changes_named made = (changes_alike docs docs what (each_itself (asked_by_update what)) made).1
