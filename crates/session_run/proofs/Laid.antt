-- Changes of an update's documents, laid over forests.
use Rattle.std.proofs.Common.{◌≡◌, ℕ, Bool, true, false, cond, List, [], ◌∷◌, Option, None, Some, IsTrue, true≢false, refl, sym, ap, subst, ◌∙◌}
use Rattle.std.specs.Prelude.{is_some, bytes_eq, ◌||◌}
use Rattle.std.specs.FinMap as map
use Rattle.std.specs.Ordering.{nat_cmp, eq_by_cmp, is_eq}
use Rattle.std.specs.declared.cmp.Ordering.{Ordering}
use Rattle.std.specs.declared.cmp.Ordering.TheVariants.{Less, Equal, Greater}
use Rattle.std.proofs.lemmas.Slice.Eq.{bytes_eq-Decides}
use Rattle.std.specs.Cmp.Lexicographic.{slice_cmp, nat_list_cmp_total}
use Rattle.xq_ast.specs.declared.need.Need.{Need}
use Rattle.xml_model.specs.declared.node.Doc.{Doc}
use Rattle.xml_model.specs.Changes.{ChangeMap, laid_over, with_document, unshared}
use Rattle.xml_model.specs.Forest.{Forest}
use Rattle.xml_model.specs.Needs.{AgreeAt, has_need}
use Rattle.xml_model.proofs.Laying.{laid-one, laid-agree}
use Rattle.session_run.specs.declared.changes.Change.{Change}
use Rattle.session_run.specs.Effects.{with_changes}
use Rattle.session_run.specs.Updates.{changed_by, AreThere}

-- changes with more of them, laid over a forest, are the forest with those laid over it and then more of them made
pub laid_more : (more : List Change) (changes : ChangeMap) (F : Forest) → laid_over (with_changes more changes) F ≡ changed_by more (laid_over changes F)
laid_more [] changes F = refl
laid_more (c ∷ more) changes F =
    laid_more more (map.insert changes c.name (unshared c.after)) F ∙ ap (changed_by more) (laid-one changes c.name (unshared c.after) F)

-- the document at a name, after a change of one name
pub get-changed : (name : List ℕ) (after : Option Doc) (F : Forest) (q : List ℕ)
    → map.get (with_document name after F) q ≡ cond (eq_by_cmp (slice_cmp nat_cmp) q name) after (map.get F q)
get-changed name (Some doc) F q = map.get-insert nat_list_cmp_total F name doc q
get-changed name None F q = map.get-remove nat_list_cmp_total F name q

-- forests with the same document at a name have it after the same changes too
pub changed_alike : (more : List Change) (F G : Forest) (q : List ℕ) → map.get F q ≡ map.get G q → map.get (changed_by more F) q ≡ map.get (changed_by more G) q
changed_alike [] F G q same = same
changed_alike (c ∷ more) F G q same =
    changed_alike more (with_document c.name (unshared c.after) F) (with_document c.name (unshared c.after) G) q
    (get-changed c.name (unshared c.after) F q ∙ ap (cond (eq_by_cmp (slice_cmp nat_cmp) q c.name) (unshared c.after)) same
    ∙ sym (get-changed c.name (unshared c.after) G q))

-- a name at which the one forest has a document is none at which it has none
other_name : (D : Forest) (q name : List ℕ) → map.get D q ≡ None → IsTrue (is_some (map.get D name)) → eq_by_cmp (slice_cmp nat_cmp) q name ≡ false
other_name D q name none there = go (slice_cmp nat_cmp q name) refl
  where
    go : (r : Ordering) → slice_cmp nat_cmp q name ≡ r → eq_by_cmp (slice_cmp nat_cmp) q name ≡ false
    go Less e = ap is_eq e
    go Greater e = ap is_eq e
    go Equal e =
        let same : q ≡ name = map.slice_cmp-IsAntisymmetric map.nat_cmp-IsAntisymmetric q name e in
        absurd (true≢false (sym there ∙ ap is_some (ap (map.get D) (sym same) ∙ none)))

-- changes of documents that a forest has leave a name at which it has none, in any forest
pub stays_beside : (D : Forest) (more : List Change) (q : List ℕ) → AreThere D more → map.get D q ≡ None
    → (G : Forest) → map.get (changed_by more G) q ≡ map.get G q
stays_beside D [] q there none G = refl
stays_beside D (c ∷ more) q there none G =
    stays_beside D more q there.1 none (with_document c.name (unshared c.after) G)
    ∙ (get-changed c.name (unshared c.after) G q
    ∙ ap (λ b. cond b (unshared c.after) (map.get G q)) (other_name D q c.name none there.0))

-- ---- forests that agree

-- what agrees at names agrees at each of them
pub agrees_at : (needs : List Need) (F G : Forest) → AgreeAt needs F G → (q : List ℕ) → has_need q needs ≡ true → map.get F q ≡ map.get G q
agrees_at [] F G agree q has = absurd (true≢false (sym has))
agrees_at (n ∷ more) F G agree q has = go (bytes_eq n.name q) refl has (agrees_at more F G agree.1 q)
  where
    go : (b : Bool) → bytes_eq n.name q ≡ b → (b || has_need q more) ≡ true → (has_need q more ≡ true → map.get F q ≡ map.get G q)
        → map.get F q ≡ map.get G q
    go true is has rest = subst (λ name. map.get F name ≡ map.get G name) ((bytes_eq-Decides n.name q).0 is) agree.0
    go false is has rest = rest has

-- forests that agree do with changes laid over them
pub laid_agree_at : (needs : List Need) (changes : ChangeMap) (F G : Forest) → AgreeAt needs F G → AgreeAt needs (laid_over changes F) (laid_over changes G)
laid_agree_at [] changes F G agree = tt
laid_agree_at (n ∷ more) changes F G agree = (laid-agree changes F G n.name agree.0, laid_agree_at more changes F G agree.1)

pub agree_through : (needs : List Need) (F G H : Forest) → AgreeAt needs F G → AgreeAt needs G H → AgreeAt needs F H
agree_through [] F G H one two = tt
agree_through (n ∷ more) F G H one two = (one.0 ∙ two.0, agree_through more F G H one.1 two.1)
