-- Changes that stand side by side, grouped by the numbers of their documents, are those grouped by the names.
use Rattle.std.proofs.Common.{◌≡◌, ℕ, ◌≤◌, Bool, true, false, ◌||◌, IsTrue, IfSome, List, [], ◌∷◌, ◌++◌, map, length, Option, Some, None}
use Rattle.std.proofs.Common.{refl, sym, ap, subst, ◌∙◌, arith, append_assoc, append-nil}
use Rattle.std.specs.Prelude.{bytes_eq, is_some, ◌==◌, if◌then◌else◌, cond}
use Rattle.std.specs.FinMap as forests
use Rattle.std.specs.List.{filter, list_any}
use Rattle.std.specs.Option.{option_map}
use Rattle.std.proofs.lemmas.Bool.{false≢true}
use Rattle.std.proofs.lemmas.Bool.Decides.{Decides-eqb}
use Rattle.std.proofs.lemmas.Option.{none-some, same_Some}
use Rattle.std.proofs.lemmas.Slice.Eq.{bytes_eq-Decides}
use Rattle.xml_model.specs.declared.edit.DocEdits.{DocEdits}
use Rattle.xml_model.specs.declared.edit.Edit.{Edit}
use Rattle.xml_model.specs.declared.nav.Id.{Id}
use Rattle.xml_model.specs.declared.node.Doc.{Doc}
use Rattle.xml_model.specs.Edits.{DocumentEdits, with_change, by_document}
use Rattle.xml_model.specs.Edits as spec
use Rattle.xml_model.specs.Forest.{Forest}
use Rattle.xml_model.specs.Nav.{Stored, root_of}
use Rattle.xq_edits.specs.declared.change.Change.{Change}
use Rattle.xq_edits.specs.declared.documents.NamedRoot.{NamedRoot}
use Rattle.xq_edits.specs.Documents.{AreNamed, AreIn, IsEditsOf, AreEditsOf, edits_seen, id_of}
use Rattle.xq_edits.specs.Groups.{is_there, names_of, AreRoots, named_by, numbered_by, AreTold, edit_of, same_document, from_other, edits_named}
use Rattle.xq_edits.specs.Seen.{change_seen}
use Rattle.xq_edits.specs.Turns.{nodes_of}
use Rattle.xq_edits.proofs.InOrder.{joined}

-- ---- one change more

differ : (a b : List ℕ) → (a ≡ b → ⊥) → bytes_eq a b ≡ false
differ a b h = go (bytes_eq a b) refl
  where
    go : (r : Bool) → bytes_eq a b ≡ r → r ≡ false
    go true e = absurd (h ((bytes_eq-Decides a b).0 e))
    go false e = refl

-- a change of the first document goes in front of its edits
with_same : (c : spec.Change) (d : DocumentEdits) (ds : List DocumentEdits) → c.node.name ≡ d.name
    → with_change c (d ∷ ds) ≡ record { name = c.node.name; edits = (c.node.place, c.what) ∷ d.edits } ∷ ds
with_same c d ds same =
    ap (λ b. joined b c d ds) ((bytes_eq-Decides c.node.name d.name).1 same)
    ∙ ap (λ name. record { name = name; edits = (c.node.place, c.what) ∷ d.edits } ∷ ds) (sym same)

-- one of another document is alone
with_other : (c : spec.Change) (d : DocumentEdits) (ds : List DocumentEdits) → (c.node.name ≡ d.name → ⊥)
    → with_change c (d ∷ ds) ≡ record { name = c.node.name; edits = (c.node.place, c.what) ∷ [] } ∷ d ∷ ds
with_other c d ds other =
    ap (λ b. joined b c d ds) (differ c.node.name d.name other)

-- ---- groups

module _ (place : Id → Stored) (roots : List NamedRoot) where
  abbrev seen : List Change → List spec.Change
  seen cs = map (change_seen place) cs

  -- a change and, after it, edits at nodes with this number of a document
  abbrev group_with : Change → ℕ → List Edit → DocumentEdits
  group_with c doc edits = record { name = (place c.node).name; edits = ((place c.node).place, c.what) ∷ edits_seen place doc edits }

  -- a change with those after it that are of its document
  abbrev group_of : Change → List Change → DocumentEdits
  group_of c cs = group_with c c.node.doc (same_document c.node.doc cs)

  -- of two changes with one number the documents have one name, and with one name they have one number
  one_name : (c d : Change) → named_by roots c.node.doc ≡ Some (place c.node).name → named_by roots d.node.doc ≡ Some (place d.node).name
      → d.node.doc ≡ c.node.doc → (place c.node).name ≡ (place d.node).name
  one_name c d p q e = same_Some _ _ (sym p ∙ (ap (named_by roots) (sym e) ∙ q))

  one_number : (c d : Change) → numbered_by roots (place c.node).name ≡ Some c.node.doc → numbered_by roots (place d.node).name ≡ Some d.node.doc
      → (place c.node).name ≡ (place d.node).name → d.node.doc ≡ c.node.doc
  one_number c d p q e = same_Some _ _ (sym q ∙ (ap (numbered_by roots) (sym e) ∙ p))

  -- changes by their documents begin with the group of the first
  begun : (c : Change) (cs : List Change) → AreTold place roots (c ∷ cs)
      → by_document (seen (c ∷ cs)) ≡ group_of c cs ∷ by_document (seen (from_other c.node.doc cs))
  begun c [] told = refl
  begun c (d ∷ more) told = go (d.node.doc == c.node.doc) refl (begun d more told.1)
    where
      go : (b : Bool) → (d.node.doc == c.node.doc) ≡ b → by_document (seen (d ∷ more)) ≡ group_of d more ∷ by_document (seen (from_other d.node.doc more))
          → by_document (seen (c ∷ d ∷ more))
          ≡ group_with c c.node.doc (if b then edit_of d ∷ same_document c.node.doc more else [])
          ∷ by_document (seen (if b then from_other c.node.doc more else d ∷ more))
      go true e h =
          let number : d.node.doc ≡ c.node.doc = (Decides-eqb d.node.doc c.node.doc).0 e in
          ap (with_change (change_seen place c)) h
          ∙ (with_same (change_seen place c) (group_of d more) (by_document (seen (from_other d.node.doc more))) (one_name c d told.0.0 told.1.0.0 number)
          ∙ ap (λ k. group_with c k (edit_of d ∷ same_document k more) ∷ by_document (seen (from_other k more))) number)
      go false e h =
          ap (with_change (change_seen place c)) h
          ∙ (with_other (change_seen place c) (group_of d more) (by_document (seen (from_other d.node.doc more)))
          (λ name. false≢true (sym e ∙ (Decides-eqb d.node.doc c.node.doc).1 (one_number c d told.0.1 told.1.0.1 name)))
          ∙ ap (λ ds. group_with c c.node.doc [] ∷ ds) (sym h))

  -- each edit of a group is of a node of its document
  same_are_in : (doc : ℕ) (name : List ℕ) (cs : List Change) → AreTold place roots cs → named_by roots doc ≡ Some name
      → AreIn place doc name (same_document doc cs)
  same_are_in doc name [] told is = tt
  same_are_in doc name (c ∷ more) told is = go (c.node.doc == doc) refl (same_are_in doc name more told.1 is)
    where
      go : (b : Bool) → (c.node.doc == doc) ≡ b → AreIn place doc name (same_document doc more)
          → AreIn place doc name (if b then edit_of c ∷ same_document doc more else [])
      go true e h =
          let number : c.node.doc ≡ doc = (Decides-eqb c.node.doc doc).0 e in
          let moved : (place (id_of doc (edit_of c))).name ≡ (place c.node).name = ap (λ k. (place (id_of k (edit_of c))).name) (sym number) in
          (moved ∙ same_Some _ _ (sym told.0.0 ∙ (ap (named_by roots) number ∙ is)), h)
      go false e h = tt

  -- the same by the numbers of the nodes
  abbrev numbered_group : Change → List Change → DocEdits
  numbered_group c cs = record { name = (place c.node).name; edits = edit_of c ∷ same_document c.node.doc cs }

  is_group : (c : Change) (cs : List Change) → AreTold place roots (c ∷ cs) → IsEditsOf place (numbered_group c cs) (group_of c cs)
  is_group c cs told = record { doc = c.node.doc; name = refl; all = (refl, same_are_in c.node.doc (place c.node).name cs told.1 told.0.0); edits = refl }

  told_from_other : (doc : ℕ) (cs : List Change) → AreTold place roots cs → AreTold place roots (from_other doc cs)
  told_from_other doc [] told = tt
  told_from_other doc (c ∷ more) told = go (c.node.doc == doc) (told_from_other doc more told.1)
    where
      go : (b : Bool) → AreTold place roots (from_other doc more) → AreTold place roots (if b then from_other doc more else c ∷ more)
      go true h = h
      go false h = told

  -- ---- the walk

  -- edits of documents are those of the changes
  abbrev Stands : List DocEdits → List Change → Type 0
  Stands all cs = AreEditsOf place all (by_document (seen cs))

  -- what stands for the changes that are left stands, after all so far, for the changes
  abbrev pub Goes : List DocEdits → List Change → List Change → Type 0
  Goes all left cs = AreTold place roots cs
      → AreTold place roots left × ((more : List DocEdits) → Stands more left → Stands (all ++ more) cs)

  -- at first all changes are left
  pub begins : (all : List DocEdits) (left cs : List Change) → all ≡ [] → left ≡ cs → Goes all left cs
  begins all left cs none same told = (
    subst (AreTold place roots) (sym same) told,
    λ more h. subst (λ l. Stands (l ++ more) cs) (sym none) (subst (λ l. Stands more l) same h),
  )

  -- one group more
  pub turned : (all new : List DocEdits) (left rest others cs : List Change) (c : Change) (edits : List Edit) → Goes all left cs → left ≡ c ∷ rest
      → edits ≡ edit_of c ∷ same_document c.node.doc rest → others ≡ from_other c.node.doc rest
      → new ≡ all ++ edits_named (named_by roots c.node.doc) edits → Goes new others cs
  turned all new left rest others cs c edits goes first group after added told =
      let before = goes told in
      let here : AreTold place roots (c ∷ rest) = subst (AreTold place roots) first before.0 in (
        subst (AreTold place roots) (sym after) (told_from_other c.node.doc rest here.1),
        λ more h. one here before.1 more (subst (λ l. Stands more l) after h),
      )
    where
      longer : AreTold place roots (c ∷ rest) → (more : List DocEdits) → new ++ more ≡ all ++ numbered_group c rest ∷ more
      longer here more =
          ap (λ l. l ++ more)
          (added ∙ (ap (λ o. all ++ edits_named o edits) here.0.0 ∙ ap (λ l. all ++ record { name = (place c.node).name; edits = l } ∷ []) group))
          ∙ append_assoc all (numbered_group c rest ∷ []) more

      one : AreTold place roots (c ∷ rest) → ((more : List DocEdits) → Stands more left → Stands (all ++ more) cs) → (more : List DocEdits)
          → Stands more (from_other c.node.doc rest) → Stands (new ++ more) cs
      one here before more h =
          let this = numbered_group c rest ∷ more in
          let stands : Stands this (c ∷ rest) = subst (AreEditsOf place this) (sym (begun c rest here)) (is_group c rest here, h) in
          subst (λ l. Stands l cs) (sym (longer here more)) (before this (subst (λ l. Stands this l) (sym first) stands))

  -- nothing is left
  pub ends : (all : List DocEdits) (left cs : List Change) → length left ≤ 0 → Goes all left cs → AreTold place roots cs → Stands all cs
  ends all [] cs none goes told = subst (λ l. Stands l cs) (append-nil all) ((goes told).1 [] tt)
  ends all (c ∷ left) cs none goes told = absurd (omega arith)

-- ---- names and numbers

there : (P : Type 0) (o : Option Doc) → IsTrue (is_some o) → IfSome o (λ doc. P) → P
there P None h k = absurd (false≢true h)
there P (Some doc) h k = k

-- a name that is there is kept among those that are
kept : (F : Forest) (name : List ℕ) (names : List (List ℕ)) → IsTrue (list_any (bytes_eq name) names) → IsTrue (is_there F name)
    → IsTrue (list_any (bytes_eq name) (filter (is_there F) names))
kept F name [] h is = h
kept F name (x ∷ names) h is = go (bytes_eq name x) refl (is_there F x) refl (λ h. kept F name names h is) h
  where
    go : (b : Bool) → bytes_eq name x ≡ b → (k : Bool) → is_there F x ≡ k
        → (IsTrue (list_any (bytes_eq name) names) → IsTrue (list_any (bytes_eq name) (filter (is_there F) names)))
        → IsTrue (b || list_any (bytes_eq name) names)
        → IsTrue (list_any (bytes_eq name) (cond k (x ∷ filter (is_there F) names) (filter (is_there F) names)))
    go true e true f later h = ap (λ b. b || list_any (bytes_eq name) (filter (is_there F) names)) e
    go true e false f later h = absurd (false≢true (sym f ∙ (ap (is_there F) (sym ((bytes_eq-Decides name x).0 e)) ∙ is)))
    go false e true f later h = ap (λ b. b || list_any (bytes_eq name) (filter (is_there F) names)) e ∙ later h
    go false e false f later h = later h

module _ (F : Forest) (place : Id → Stored) (named : (a b : Id) → a.doc ≡ b.doc → (place a).name ≡ (place b).name)
    (same : (a b : Id) → (place a).name ≡ (place b).name → IfSome (forests.get F (place a).name) (λ doc. a.doc ≡ b.doc)) where
  told_one : (roots : List NamedRoot) → AreRoots place roots → (n : Id) → IsTrue (is_there F (place n).name)
      → IsTrue (list_any (bytes_eq (place n).name) (names_of roots))
      → (named_by roots n.doc ≡ Some (place n).name) × (numbered_by roots (place n).name ≡ Some n.doc)
  told_one [] are n is h = absurd (false≢true h)
  told_one (r ∷ roots) are n is h = go (r.node.doc == n.doc) refl (bytes_eq (place n).name r.name) refl (told_one roots are.1 n is) h
    where
      go : (b : Bool) → (r.node.doc == n.doc) ≡ b → (k : Bool) → bytes_eq (place n).name r.name ≡ k
          → (IsTrue (list_any (bytes_eq (place n).name) (names_of roots))
          → (named_by roots n.doc ≡ Some (place n).name) × (numbered_by roots (place n).name ≡ Some n.doc))
          → IsTrue (k || list_any (bytes_eq (place n).name) (names_of roots))
          → ((if b then Some r.name else named_by roots n.doc) ≡ Some (place n).name)
          × ((if k then Some r.node.doc else numbered_by roots (place n).name) ≡ Some n.doc)
      go true e true f later h =
          (ap (λ x. Some x) (sym ((bytes_eq-Decides (place n).name r.name).0 f)), ap (λ x. Some x) ((Decides-eqb r.node.doc n.doc).0 e))
      go true e false f later h =
          absurd (false≢true (sym f ∙ (bytes_eq-Decides (place n).name r.name).1 (sym (named r.node n ((Decides-eqb r.node.doc n.doc).0 e)) ∙ are.0)))
      go false e true f later h =
          let one = (bytes_eq-Decides (place n).name r.name).0 f ∙ sym are.0 in
          let number = there (n.doc ≡ r.node.doc) (forests.get F (place n).name) is (same n r.node one) in
          absurd (false≢true (sym e ∙ (Decides-eqb r.node.doc n.doc).1 (sym number)))
      go false e false f later h = later h

  -- where the roots are those of the names that are there, they tell name and number of the documents of changes
  pub told_all : (roots : List NamedRoot) (names : List (List ℕ)) (cs : List Change) → AreRoots place roots
      → names_of roots ≡ filter (is_there F) names
      → AreNamed F names (nodes_of (map (change_seen place) cs)) → AreTold place roots cs
  told_all roots names [] are kept_names h = tt
  told_all roots names (c ∷ more) are kept_names h = (
    told_one roots are c.node h.0.1
        (subst (λ l. IsTrue (list_any (bytes_eq (place c.node).name) l)) (sym kept_names) (kept F (place c.node).name names h.0.0 h.0.1)),
    told_all roots names more are kept_names h.1,
  )

-- ---- the documents of the names

root_named : (name : List ℕ) (o : Option Doc) (n : Stored) → Some n ≡ option_map (λ doc. record { name = name; place = [] }) o → n.name ≡ name
root_named name None n e = absurd (none-some n (sym e))
root_named name (Some doc) n e = ap (λ n. n.name) (same_Some _ _ e)

-- one document more that is there
pub root_added : (F : Forest) (place : Id → Stored) (old new : List NamedRoot) (node : Id) (copied name : List ℕ) (o : Option Id) → o ≡ Some node
    → option_map place o ≡ root_of F name → copied ≡ name → new ≡ old ++ record { name = copied; node = node } ∷ [] → AreRoots place old → AreRoots place new
root_added F place old new node copied name o found gives copy added are =
    let named = root_named name (forests.get F name) (place node) (ap (option_map place) (sym found) ∙ gives) in
    subst (AreRoots place) (sym added) (one_more old (named ∙ sym copy) are)
  where
    one_more : (old : List NamedRoot) → (place node).name ≡ copied → AreRoots place old → AreRoots place (old ++ record { name = copied; node = node } ∷ [])
    one_more [] here are = (here, tt)
    one_more (r ∷ old) here are = (are.0, one_more old here are.1)
