-- Changes laid over forests.
use Rattle.std.proofs.Common.{◌≡◌, ℕ, ◌+◌, ◌<◌, Bool, true, false, cond, List, [], ◌∷◌, ◌++◌, length, get_or, take, fold, arith, Option, None, Some, refl, sym, ap, ◌∙◌}
use Rattle.std.specs.Ordering.{nat_cmp, eq_by_cmp}
use Rattle.std.specs.Cmp.Lexicographic.{slice_cmp, nat_list_cmp_total}
use Rattle.std.specs.Arc.{arc_value}
use Rattle.std.specs.List.{AllZip}
use Rattle.std.specs.declared.string.String.{String}
use Rattle.std.specs.declared.sync.Arc.{Arc}
use Rattle.std.specs.FinMap as map
use Rattle.std.specs.FinMap.{find, nat_cmp-IsAntisymmetric, slice_cmp-IsAntisymmetric}
use Rattle.std.proofs.lemmas.List.{take_more}
use Rattle.std.proofs.lemmas.List.Sums.{fold-append}
use Rattle.indexmap.specs.IndexMap.{IndexMap}
use Rattle.xml_model.specs.declared.node.Doc.{Doc}
use Rattle.xml_model.specs.Forest.{Forest, no_documents}
use Rattle.xml_model.specs.Changes.{ChangeMap, no_changes, with_document, with_documents, laid_over, changes_of_entries, with_layer, forest_of_layers}

-- the document of a name, by what the changes have at it and what is there below
abbrev pub seen_as : Option (Option Doc) → Option Doc → Option Doc
seen_as None there = there
seen_as (Some after) there = after

-- what is seen through one of two changes, by a condition, is one of what is seen through each, by that condition
pub seen-cond : (b : Bool) (x y : Option (Option Doc)) (there : Option Doc) → seen_as (cond b x y) there ≡ cond b (seen_as x there) (seen_as y there)
seen-cond true x y there = refl
seen-cond false x y there = refl

get-with_document : (name : List ℕ) (after : Option Doc) (F : Forest) (q : List ℕ)
    → map.get (with_document name after F) q ≡ cond (eq_by_cmp (slice_cmp nat_cmp) q name) after (map.get F q)
get-with_document name (Some doc) F q = map.get-insert nat_list_cmp_total F name doc q
get-with_document name None F q = map.get-remove nat_list_cmp_total F name q

-- with a list of documents laid over a forest, the first of a name counts, and else the forest's
pub get-with_documents : (es : List (List ℕ × Option Doc)) (F : Forest) (q : List ℕ)
    → map.get (with_documents es F) q ≡ seen_as (find (slice_cmp nat_cmp) q es) (map.get F q)
get-with_documents [] F q = refl
get-with_documents (e ∷ es) F q =
    get-with_document e.0 e.1 (with_documents es F) q
    ∙ ap (cond (eq_by_cmp (slice_cmp nat_cmp) q e.0) e.1) (get-with_documents es F q)
    ∙ sym (seen-cond (eq_by_cmp (slice_cmp nat_cmp) q e.0) (Some e.1) (find (slice_cmp nat_cmp) q es) (map.get F q))

-- the document of a name, seen through the changes
pub get-laid : (changes : ChangeMap) (F : Forest) (q : List ℕ) → map.get (laid_over changes F) q ≡ seen_as (map.get changes q) (map.get F q)
get-laid changes F q = get-with_documents (map.entries changes) F q ∙ ap (λ o. seen_as o (map.get F q)) (sym (map.get-entries changes q))

-- forests with the same document, or none, at each name are one forest
pub same_forest : (F G : Forest) → ((q : List ℕ) → map.get F q ≡ map.get G q) → F ≡ G
same_forest = map.same_map nat_list_cmp_total (slice_cmp-IsAntisymmetric nat_cmp-IsAntisymmetric)

-- the entries of a table of changes may be laid over in any way in which the first of a name counts
pub laid-entries : (es : List (List ℕ × Option Doc)) (F : Forest) → with_documents es F ≡ laid_over (map.from_entries es) F
laid-entries es F = same_forest _ _ (λ q.
    get-with_documents es F q ∙ ap (λ o. seen_as o (map.get F q)) (sym (map.get-from_entries nat_list_cmp_total es q))
    ∙ sym (get-laid (map.from_entries es) F q))

-- no changes leave the forest as it is
pub laid-none : (F : Forest) → laid_over no_changes F ≡ F
laid-none F = same_forest _ _ (λ q. get-laid no_changes F q ∙ ap (λ o. seen_as o (map.get F q)) (map.get-empty (slice_cmp nat_cmp) q))

-- the changes of a table without entries leave the forest as it is
pub laid-no-entries : {A Z : Type 0} (es : List (String A × Option (Arc Doc Z))) → length es ≡ 0 → (F : Forest) → laid_over (changes_of_entries es) F ≡ F
laid-no-entries [] none F = laid-none F
laid-no-entries (e ∷ es) none F = absurd (omega arith)

-- one change more
pub laid-one : (changes : ChangeMap) (name : List ℕ) (after : Option Doc) (F : Forest)
    → laid_over (map.insert changes name after) F ≡ with_document name after (laid_over changes F)
laid-one changes name after F = same_forest _ _ (λ q.
    get-laid (map.insert changes name after) F q
    ∙ ap (λ o. seen_as o (map.get F q)) (map.get-insert nat_list_cmp_total changes name after q)
    ∙ seen-cond (eq_by_cmp (slice_cmp nat_cmp) q name) (Some after) (map.get changes q) (map.get F q)
    ∙ ap (cond (eq_by_cmp (slice_cmp nat_cmp) q name) after) (sym (get-laid changes F q))
    ∙ sym (get-with_document name after (laid_over changes F) q))

none_below : (F : Forest) (q : List ℕ) → F ≡ no_documents → map.get F q ≡ None
none_below F q none = ap (λ G. map.get G q) none ∙ map.get-empty (slice_cmp nat_cmp) q

-- over no documents a dropped name may be forgotten
pub laid-forgotten : (changes : ChangeMap) (name : List ℕ) (F : Forest) → F ≡ no_documents
    → laid_over (map.remove changes name) F ≡ map.remove (laid_over changes F) name
laid-forgotten changes name F none = same_forest _ _ (λ q.
    get-laid (map.remove changes name) F q
    ∙ ap (λ o. seen_as o (map.get F q)) (map.get-remove nat_list_cmp_total changes name q)
    ∙ seen-cond (eq_by_cmp (slice_cmp nat_cmp) q name) None (map.get changes q) (map.get F q)
    ∙ (λ i. cond (eq_by_cmp (slice_cmp nat_cmp) q name) (none_below F q none i) (sym (get-laid changes F q) i))
    ∙ sym (map.get-remove nat_list_cmp_total (laid_over changes F) name q))

-- what is seen over no documents
pub get-laid-nothing : (changes : ChangeMap) (q : List ℕ) → map.get (laid_over changes no_documents) q ≡ seen_as (map.get changes q) None
get-laid-nothing changes q = get-laid changes no_documents q ∙ ap (seen_as (map.get changes q)) (map.get-empty (slice_cmp nat_cmp) q)

-- forests with the same document at a name have it through the changes too
pub laid-agree : (changes : ChangeMap) (F G : Forest) (q : List ℕ) → map.get F q ≡ map.get G q
    → map.get (laid_over changes F) q ≡ map.get (laid_over changes G) q
laid-agree changes F G q same = get-laid changes F q ∙ ap (seen_as (map.get changes q)) same ∙ sym (get-laid changes G q)

-- ---- layers

module _ {A S Y Z : Type 0} where
  -- the newest layer is laid over the others
  pub layers-push : (layers : List (Arc (IndexMap (String A) (Option (Arc Doc Z)) S) Y)) (layer : Arc (IndexMap (String A) (Option (Arc Doc Z)) S) Y)
      → forest_of_layers (layers ++ layer ∷ []) ≡ with_layer (forest_of_layers layers) layer
  layers-push layers layer = fold-append with_layer no_documents layers (layer ∷ [])

  -- no layers stand for the forest without documents
  pub no-layers : (layers : List (Arc (IndexMap (String A) (Option (Arc Doc Z)) S) Y)) → length layers ≡ 0 → forest_of_layers layers ≡ no_documents
  no-layers [] none = refl
  no-layers (layer ∷ layers) none = absurd (omega arith)

  -- what is seen through the newest layer
  pub get-newest : (layers older : List (Arc (IndexMap (String A) (Option (Arc Doc Z)) S) Y)) (layer : Arc (IndexMap (String A) (Option (Arc Doc Z)) S) Y)
      (table : IndexMap (String A) (Option (Arc Doc Z)) S) (q : List ℕ)
      → layers ≡ older ++ layer ∷ [] → table ≡ arc_value layer
      → map.get (forest_of_layers layers) q ≡ seen_as (map.get (changes_of_entries table.entries) q) (map.get (forest_of_layers older) q)
  get-newest layers older layer table q last same =
      ap (λ ls. map.get (forest_of_layers ls) q) last ∙ ap (λ F. map.get F q) (layers-push older layer)
      ∙ ap (λ t. map.get (laid_over (changes_of_entries t.entries) (forest_of_layers older)) q) (sym same)
      ∙ get-laid (changes_of_entries table.entries) (forest_of_layers older) q

  -- one layer more is laid over the others
  pub layers-more : (layers : List (Arc (IndexMap (String A) (Option (Arc Doc Z)) S) Y)) (i : ℕ) (layer : Arc (IndexMap (String A) (Option (Arc Doc Z)) S) Y)
      (table : IndexMap (String A) (Option (Arc Doc Z)) S)
      → i < length layers → layer ≡ get_or layers i layer → table ≡ arc_value layer
      → laid_over (changes_of_entries table.entries) (forest_of_layers (take i layers)) ≡ forest_of_layers (take (i + 1) layers)
  layers-more layers i layer table within at same =
      ap (λ t. laid_over (changes_of_entries t.entries) (forest_of_layers (take i layers))) same
      ∙ sym (ap forest_of_layers (take_more layers i layer within ∙ ap (λ l. take i layers ++ l ∷ []) (sym at)) ∙ layers-push (take i layers) layer)

  -- two layers in one
  pub layers-merged : (all older newer : List (Arc (IndexMap (String A) (Option (Arc Doc Z)) S) Y)) (x y z : Arc (IndexMap (String A) (Option (Arc Doc Z)) S) Y)
      → older ≡ all ++ x ∷ [] → newer ≡ older ++ y ∷ [] → with_layer (forest_of_layers all) z ≡ with_layer (with_layer (forest_of_layers all) x) y
      → forest_of_layers (all ++ z ∷ []) ≡ forest_of_layers newer
  layers-merged all older newer x y z before last merged =
      layers-push all z ∙ merged
      ∙ sym (ap forest_of_layers last ∙ layers-push older y ∙ ap (λ F. with_layer F y) (ap forest_of_layers before ∙ layers-push all x))

  copied_over : (es fs : List (Arc (IndexMap (String A) (Option (Arc Doc Z)) S) Y)) (F : Forest) → AllZip (λ e f. arc_value f ≡ arc_value e) es fs
      → fold with_layer F fs ≡ fold with_layer F es
  copied_over [] [] F same = refl
  copied_over [] (f ∷ fs) F same = absurd same
  copied_over (e ∷ es) [] F same = absurd same
  copied_over (e ∷ es) (f ∷ fs) F same = copied_over es fs (with_layer F f) same.1
      ∙ ap (λ table. fold with_layer (laid_over (changes_of_entries table.entries) F) es) same.0

  -- shared layers stand for the same forest
  pub layers-copy : (es fs : List (Arc (IndexMap (String A) (Option (Arc Doc Z)) S) Y)) → AllZip (λ e f. arc_value f ≡ arc_value e) es fs
      → forest_of_layers fs ≡ forest_of_layers es
  layers-copy es fs same = copied_over es fs no_documents same
