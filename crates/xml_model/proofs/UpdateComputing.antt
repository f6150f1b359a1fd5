-- What updates leave, where it computes. What rests on folds over nodes stands here once more over any fold, as for
-- queries: at the fold of nodes it is the definition, and at `refold` it computes. The documents are entries of a list.
use Rattle.std.proofs.Common.{◌≡◌, ℕ, List, [], ◌∷◌, map, Bool, true, false, T, Option, Some, None, Result, Ok, Err, refl, sym, ap, ◌∙◌, true≢false}
use Rattle.std.specs.Prelude.{◌&&◌, if◌then◌else◌, nat_lt}
use Rattle.std.specs.Cmp.Lexicographic.{slice_cmp}
use Rattle.std.proofs.lemmas.Cmp.{nat_list_cmp_total}
use Rattle.std.specs.FinMap as fin_map
use Rattle.std.specs.FinMap.Entries.{put}
use Rattle.std.specs.Ordering.{nat_cmp}
use Rattle.xq_ast.specs.declared.code.Code.{Code}
use Rattle.xq_ast.specs.declared.code.Code.TheVariants.{XPST0003, TooDeep, TooManyNodes, TooMuchText}
use Rattle.xq_ast.specs.declared.tree.Expr.{Expr}
use Rattle.xq_ast.specs.declared.update.Update.{Update as UpdateCall}
use Rattle.xq_ast.specs.declared.update.Update.TheVariants as update
use Rattle.xml_model.specs.declared.limits.TheConstants.{DEPTH_MAX, NODES_MAX, TEXT_BYTES_MAX}
use Rattle.xml_model.specs.declared.node.Doc.{Doc}
use Rattle.xml_model.specs.declared.node.Node.{Element', Node, Pi, Row_of-Node, end_of-Node, items-the_row-Node, more_of-Node}
use Rattle.xml_model.specs.declared.node.Node.TheFolds.{fold-Node}
use Rattle.xml_model.specs.declared.node.Node.TheOpen.{Node-F}
use Rattle.xml_model.specs.declared.node.Node.TheVariants.{Text}
use Rattle.xml_model.specs.declared.place.PlaceStep.{PlaceStep}
use Rattle.xml_model.specs.Evaluation as spec
use Rattle.xml_model.specs.Forest.{Forest}
use Rattle.xml_model.specs.Items.{Documents, Made, Making, fail, ◌>>?◌}
use Rattle.xml_model.specs.Place.{place_cmp}
use Rattle.xml_model.specs.Trees.{bytes_step, count_step, depth_step, largest, total}
use Rattle.xml_model.specs.Tuples.{Means}
use Rattle.xml_model.proofs.Bounded.{bounded, fits}
use Rattle.xml_model.proofs.Computing.{Entries, looked, forest_of, refold, refold_row, meaning_to}
use Rattle.xml_model.proofs.Nodes.{fold-Element', fold-Pi, fold-Text}
use Rattle.xml_model.specs.declared.edit.EditKind.{EditKind}
use Rattle.xml_model.specs.declared.edit.EditKind.TheVariants as edit
use Rattle.xml_model.specs.Rebuild.{EditsIn, tidied, edited_step, edited_kids, edited_document, rebuild}
use Rattle.xml_model.specs.Edits.{Change, DocumentEdits, insert_into, insert_beside, delete, replace, rename, changes, by_document, rebuilt_there, rebuilt_all, updated_by, updated}
use Rattle.xml_model.proofs.PlaceTotal.{place_total}

-- ---- the fold of nodes computes

mutual
  refolds : (A : Type 0) (step : Node-F A → A) (n : Node) → fold-Node A step n ≡ refold A step n
  refolds A step (Element' name attrs s row) = fold-Element' A step name attrs s row ∙ ap (λ kids. step (Node-F.Element name attrs kids))
      (refolds_row A step row)
  refolds A step (Text value) = fold-Text A step value
  refolds A step (Pi target value) = fold-Pi A step target value

  refolds_row : (A : Type 0) (step : Node-F A → A) {m : _} (row : Row_of-Node m) → map (fold-Node A step) (items-the_row-Node m row) ≡ refold_row A step row
  refolds_row A step end_of-Node = refl
  refolds_row A step (more_of-Node n row) = λ i. refolds A step n i ∷ refolds_row A step row i

same_fold : ◌≡◌ {A = (A : Type 0) → (Node-F A → A) → Node → A} (λ A step n. fold-Node A step n) refold
same_fold = λ i A step n. refolds A step n i

the_fold : (A : Type 0) → (Node-F A → A) → Node → A
the_fold A step n = fold-Node A step n

-- ---- documents

module _ (fold : (A : Type 0) → (Node-F A → A) → Node → A) where
  abbrev limited_to : Doc → Result Doc Code
  limited_to doc =
      if nat_lt DEPTH_MAX (largest (map (fold ℕ depth_step) doc.kids)) then Err TooDeep else
      (if nat_lt NODES_MAX (total (map (fold ℕ count_step) doc.kids)) then Err TooManyNodes else
      (if nat_lt TEXT_BYTES_MAX (total (map (fold ℕ bytes_step) doc.kids)) then Err TooMuchText else Ok doc))

  -- the document after edits
  abbrev pub rebuild_to : Doc → EditsIn → Result Doc Code
  rebuild_to doc at = limited_to (record {
    kids = tidied (edited_document (edited_kids at 0 (map (fold (EditsIn
        → List Node) edited_step) doc.kids)) (at []));
  })

-- a document that is rebuilt is what computes
pub rebuilds : (doc : Doc) (es : List (List PlaceStep × EditKind)) → rebuild doc (fin_map.from_entries es)
    ≡ rebuild_to refold doc (λ place. fin_map.find place_cmp place es)
rebuilds doc es = λ i. rebuild_to (same_fold i) doc (λ place. fin_map.get-from_entries place_total es place i)

-- ---- what an update asks for

-- its expressions are no deeper than the number
abbrev pub update_fits : ℕ → UpdateCall → Bool
update_fits n (update.Into source target) = fits n source && fits n target
update_fits n (update.Preceding source target) = fits n source && fits n target
update_fits n (update.Following source target) = fits n source && fits n target
update_fits n (update.Delete target) = fits n target
update_fits n (update.DeleteUndeep target) = fits n target
update_fits n (update.Replace name target by) = fits n target && fits n by
update_fits n (update.Rename target name) = fits n target

module _ (docs : Documents) (fold : (A : Type 0) → (Node-F A → A) → Node → A) (n : ℕ) where
  abbrev pub changes_to : UpdateCall → Making (List Change)
  changes_to (update.Into source target) = insert_into docs (meaning_to docs fold n source) (meaning_to docs fold n target)
  changes_to (update.Preceding source target) = insert_beside docs edit.Before (meaning_to docs fold n source) (meaning_to docs fold n target)
  changes_to (update.Following source target) = insert_beside docs edit.After (meaning_to docs fold n source) (meaning_to docs fold n target)
  changes_to (update.Delete target) = delete docs edit.Delete (meaning_to docs fold n target)
  changes_to (update.DeleteUndeep target) = delete docs edit.Undeep (meaning_to docs fold n target)
  changes_to (update.Replace name target by) = replace docs name (meaning_to docs fold n target) (meaning_to docs fold n by)
  changes_to (update.Rename target name) = rename docs name (meaning_to docs fold n target)

first : (a b : Bool) → (a && b) ≡ true → a ≡ true
first true b h = refl
first false b h = h

second : (a b : Bool) → (a && b) ≡ true → b ≡ true
second true b h = h
second false b h = absurd (true≢false (sym h))

same_meaning : (docs : Documents) (n : ℕ) (e : Expr) → fits n e ≡ true → meaning_to docs (λ A step m. fold-Node A step m) n e ≡ spec.meaning docs e
same_meaning docs = bounded (λ env cx. fail XPST0003) (spec.bind_step docs) (spec.expr_step docs) (spec.start_step docs)
    (spec.product_step docs) (spec.key_step docs) (spec.step_step docs) (spec.sum_step docs)

module _ (docs : Documents) (n : ℕ) where
  at_fold : UpdateCall → Making (List Change)
  at_fold = changes_to docs (λ A step m. fold-Node A step m) n

  two : (e f : Expr) → (fits n e && fits n f) ≡ true → (form : Means → Means → Making (List Change))
      → form (meaning_to docs (λ A step m. fold-Node A step m) n e) (meaning_to docs (λ A step m. fold-Node A step m) n f)
      ≡ form (spec.meaning docs e) (spec.meaning docs f)
  two e f h form = λ i. form (same_meaning docs n e (first (fits n e) _ h) i) (same_meaning docs n f (second (fits n e) _ h) i)

  same_changes : (u : UpdateCall) → update_fits n u ≡ true → changes_to docs (λ A step m. fold-Node A step m) n u ≡ changes docs u
  same_changes (update.Into source target) h = two source target h (insert_into docs)
  same_changes (update.Preceding source target) h = two source target h (insert_beside docs edit.Before)
  same_changes (update.Following source target) h = two source target h (insert_beside docs edit.After)
  same_changes (update.Delete target) h = ap (delete docs edit.Delete) (same_meaning docs n target h)
  same_changes (update.DeleteUndeep target) h = ap (delete docs edit.Undeep) (same_meaning docs n target h)
  same_changes (update.Replace name target by) h = two target by h (replace docs name)
  same_changes (update.Rename target name) h = ap (rename docs name) (same_meaning docs n target h)

-- ---- forests

-- the documents of a forest that comes, or the code
abbrev pub with_entries : Result Forest Code → Result Entries Code
with_entries (Ok F) = Ok (fin_map.entries F)
with_entries (Err code) = Err code

-- the documents after an update, or its code
abbrev pub after : Entries → UpdateCall → Result Entries Code
after es u = with_entries (updated (forest_of es) u)

abbrev rebuilt_in : Entries → DocumentEdits → Option Doc → Result Entries Code
rebuilt_in es d None = Ok es
rebuilt_in es d (Some doc) = rebuild_to refold doc (λ place. fin_map.find place_cmp place d.edits) >>? (λ new. Ok (put (slice_cmp nat_cmp) d.name new es))

abbrev rebuilt_list : Entries → List DocumentEdits → Result Entries Code
rebuilt_list es [] = Ok es
rebuilt_list es (d ∷ ds) = rebuilt_in es d (looked es d.name) >>? (λ gs. rebuilt_list gs ds)

same_all : (F : Forest) (ds : List DocumentEdits) → with_entries (rebuilt_all F ds) ≡ rebuilt_list (fin_map.entries F) ds
same_all F [] = refl
same_all F (d ∷ ds) =
    ap (λ o. with_entries (rebuilt_there F d o >>? (λ G. rebuilt_all G ds))) (fin_map.get-entries F d.name) ∙ found (looked (fin_map.entries F)
    d.name) (same_all F ds) (λ G. same_all G ds)
  where
    made : (new : Result Doc Code) → ((G : Forest) → with_entries (rebuilt_all G ds) ≡ rebuilt_list (fin_map.entries G) ds)
        → with_entries ((new >>? (λ doc. Ok (fin_map.insert F d.name doc))) >>? (λ G. rebuilt_all G ds))
        ≡ ((new >>? (λ doc. Ok (put (slice_cmp nat_cmp) d.name doc (fin_map.entries F)))) >>? (λ gs. rebuilt_list gs ds))
    made (Ok doc) more = more (fin_map.insert F d.name doc) ∙ ap (λ es. rebuilt_list es ds) (fin_map.entries-insert nat_list_cmp_total F d.name doc)
    made (Err code) more = refl

    found : (o : Option Doc) → with_entries (rebuilt_all F ds) ≡ rebuilt_list (fin_map.entries F) ds → ((G : Forest)
        → with_entries (rebuilt_all G ds) ≡ rebuilt_list (fin_map.entries G) ds)
        → with_entries (rebuilt_there F d o >>? (λ G. rebuilt_all G ds)) ≡ (rebuilt_in (fin_map.entries F) d o >>? (λ gs. rebuilt_list gs ds))
    found None same more = same
    found (Some doc) same more =
        ap (λ new. with_entries ((new >>? (λ doc. Ok (fin_map.insert F d.name doc))) >>? (λ G. rebuilt_all G ds))) (rebuilds doc d.edits)
        ∙ made (rebuild_to refold doc (λ place. fin_map.find place_cmp place d.edits)) more

abbrev after_by : Entries → Result (List Change × Made) Code → Result Entries Code
after_by es (Ok both) = rebuilt_list es (by_document both.0)
after_by es (Err code) = Err code

-- what computes
abbrev pub after_to : ℕ → Entries → UpdateCall → Result Entries Code
after_to n es u = after_by es (changes_to (looked es) refold n u [])

same_by : (F : Forest) (r : Result (List Change × Made) Code) → with_entries (updated_by F r) ≡ after_by (fin_map.entries F) r
same_by F (Ok both) = same_all F (by_document both.0)
same_by F (Err code) = refl

same_looked : (es : Entries) → T (fin_map.is_sorted (slice_cmp nat_cmp) es) → fin_map.get (forest_of es) ≡ looked es
same_looked es h = λ i name. fin_map.get-from_sorted (slice_cmp nat_cmp) es name h i

-- the documents after an update are what computes, where the number is no less than the depth of its expressions
pub updates : (es : Entries) → T (fin_map.is_sorted (slice_cmp nat_cmp) es) → (n : ℕ) (u : UpdateCall) → update_fits n u ≡ true → after es u ≡ after_to n es u
updates es sorted n u h =
    same_by (forest_of es) (changes (fin_map.get (forest_of es)) u [])
    ∙ (ap (λ gs. after_by gs (changes (fin_map.get (forest_of es)) u [])) (fin_map.entries-from_sorted (slice_cmp nat_cmp) es sorted)
    ∙ (ap (λ go. after_by es (go [])) (sym (same_changes (fin_map.get (forest_of es)) n u h))
    ∙ (λ i. after_by es (changes_to (same_looked es sorted i) (same_fold i) n u []))))
