-- Changes in document order, document by document: the names rise, and so do the places of each document's edits. (That what
-- holds of the names of the changes' documents holds of the names is `by_document_of` of `xml_model`.)
use Rattle.std.proofs.Common.{◌≡◌, ℕ, Bool, true, false, List, [], ◌∷◌, map, refl, sym, ap, subst, ◌∙◌}
use Rattle.std.specs.Prelude.{bytes_eq, if◌then◌else◌}
use Rattle.std.specs.Cmp.Lexicographic.{slice_cmp, nat_list_cmp_total}
use Rattle.std.specs.Cmp.{tied_itself}
use Rattle.std.specs.FinMap as fin_map
use Rattle.std.specs.Ordering.{nat_cmp, ordering_then}
use Rattle.std.specs.declared.cmp.Ordering.{Ordering}
use Rattle.std.specs.declared.cmp.Ordering.TheVariants.{Less, Equal, Greater}
use Rattle.std.proofs.lemmas.Bool.{false≢true}
use Rattle.std.proofs.lemmas.Slice.Eq.{bytes_eq-Decides}
use Rattle.xml_model.specs.declared.edit.EditKind.{EditKind}
use Rattle.xml_model.specs.declared.place.PlaceStep.{PlaceStep}
use Rattle.xml_model.specs.DocumentOrder.{node_cmp}
use Rattle.xml_model.specs.Edits.{Change, DocumentEdits, with_change, by_document}
use Rattle.xml_model.specs.Nav.{Stored}
use Rattle.xml_model.specs.Place.{place_cmp}
use Rattle.xml_model.proofs.Alike.{Each}
use Rattle.xml_model.proofs.Rebuilding.{by_document_of}
use Rattle.xq_edits.specs.Rising.{entry_cmp}
use Rattle.xq_edits.specs.Turns.{nodes_of}
use Rattle.xq_nodes.specs.Joins.{IsBefore, Rises}
use Rattle.xq_nodes.proofs.Unions.{before_more}

-- ---- one change more

-- documents with a change more, by whether it is one of the first document
abbrev pub joined : Bool → Change → DocumentEdits → List DocumentEdits → List DocumentEdits
joined b c d ds =
    if b then record { name = d.name; edits = (c.node.place, c.what) ∷ d.edits } ∷ ds else
    record { name = c.node.name; edits = (c.node.place, c.what) ∷ [] } ∷ d ∷ ds

-- ---- names

-- the names of documents
abbrev pub names_of : List DocumentEdits → List (List ℕ)
names_of ds = map (λ d. d.name) ds

less_greater : Less ≡ Greater → ⊥
less_greater e = cc

-- a node is not of a document after that of one that comes after it
not_after : (a b : Stored) → node_cmp a b ≡ Less → slice_cmp nat_cmp a.name b.name ≡ Greater → ⊥
not_after a b less greater = less_greater (sym less ∙ ap (λ r. ordering_then r (place_cmp a.place b.place)) greater)

none_after : (a : Stored) (cs : List Change) → IsBefore node_cmp a (nodes_of cs) → Each (λ c. slice_cmp nat_cmp a.name c.node.name ≡ Greater → ⊥) cs
none_after a [] before = tt
none_after a (c ∷ cs) before = (not_after a c.node before.0, none_after a cs before.1)

-- a name that is another one, and not after it, is before it
name_less : (a b : List ℕ) → bytes_eq a b ≡ false → (slice_cmp nat_cmp a b ≡ Greater → ⊥) → slice_cmp nat_cmp a b ≡ Less
name_less a b other not = go (slice_cmp nat_cmp a b) refl
  where
    go : (r : Ordering) → slice_cmp nat_cmp a b ≡ r → r ≡ Less
    go Less e = refl
    go Equal e =
        absurd (false≢true (sym other ∙ (bytes_eq-Decides a b).1 (fin_map.slice_cmp-IsAntisymmetric fin_map.nat_cmp-IsAntisymmetric a b e)))
    go Greater e = absurd (not e)

names_with : (c : Change) (ds : List DocumentEdits) → Each (λ d. slice_cmp nat_cmp c.node.name d.name ≡ Greater → ⊥) ds
    → Rises (slice_cmp nat_cmp) (names_of ds) → Rises (slice_cmp nat_cmp) (names_of (with_change c ds))
names_with c [] none rises = (tt, tt)
names_with c (d ∷ ds) none rises = go (bytes_eq c.node.name d.name) refl
  where
    go : (b : Bool) → bytes_eq c.node.name d.name ≡ b → Rises (slice_cmp nat_cmp) (names_of (joined b c d ds))
    go true e = rises
    go false e =
        let less = name_less c.node.name d.name e none.0 in
        ((less, before_more (slice_cmp nat_cmp) nat_list_cmp_total c.node.name d.name (names_of ds) less rises.0), rises)

-- where changes are in document order, the names of their documents rise
pub names_rise : (cs : List Change) → Rises node_cmp (nodes_of cs) → Rises (slice_cmp nat_cmp) (names_of (by_document cs))
names_rise [] rises = tt
names_rise (c ∷ cs) rises =
    names_with c (by_document cs) (by_document_of (λ name. slice_cmp nat_cmp c.node.name name ≡ Greater → ⊥) cs (none_after c.node cs rises.0))
    (names_rise cs rises.1)

-- ---- places

abbrev at_entry : List ℕ → List PlaceStep × EditKind → Stored
at_entry name e = record { name = name; place = e.0 }

-- a node comes before each node of these documents that is edited
abbrev IsBeforeAll : Stored → List DocumentEdits → Type 0
IsBeforeAll n [] = Unit {0}
IsBeforeAll n (d ∷ ds) = IsBefore node_cmp n (map (at_entry d.name) d.edits) × IsBeforeAll n ds

before_with : (n : Stored) (c : Change) (ds : List DocumentEdits) → node_cmp n c.node ≡ Less → IsBeforeAll n ds → IsBeforeAll n (with_change c ds)
before_with n c [] less all = ((less, tt), tt)
before_with n c (d ∷ ds) less all = go (bytes_eq c.node.name d.name) refl
  where
    go : (b : Bool) → bytes_eq c.node.name d.name ≡ b → IsBeforeAll n (joined b c d ds)
    go true e =
        ((subst (λ name. node_cmp n (record { name = name; place = c.node.place }) ≡ Less) ((bytes_eq-Decides c.node.name d.name).0 e) less, all.0), all.1)
    go false e = ((less, tt), all)

before_documents : (n : Stored) (cs : List Change) → IsBefore node_cmp n (nodes_of cs) → IsBeforeAll n (by_document cs)
before_documents n [] before = tt
before_documents n (c ∷ cs) before = before_with n c (by_document cs) before.0 (before_documents n cs before.1)

-- of two nodes of one document the one with the lesser place comes first
place_less : (n : Stored) (place : List PlaceStep) → node_cmp n (record { name = n.name; place = place }) ≡ Less → place_cmp n.place place ≡ Less
place_less n place less = ap (λ r. ordering_then r (place_cmp n.place place)) (sym (tied_itself nat_list_cmp_total n.name)) ∙ less

entries_before : (n : Stored) (what : EditKind) (edits : List (List PlaceStep × EditKind)) → IsBefore node_cmp n (map (at_entry n.name) edits)
    → IsBefore entry_cmp (n.place, what) edits
entries_before n what [] before = tt
entries_before n what (e ∷ edits) before = (place_less n e.0 before.0, entries_before n what edits before.1)

rises_with : (c : Change) (ds : List DocumentEdits) → IsBeforeAll c.node ds → Each (λ d. Rises entry_cmp d.edits) ds
    → Each (λ d. Rises entry_cmp d.edits) (with_change c ds)
rises_with c [] before rises = ((tt, tt), tt)
rises_with c (d ∷ ds) before rises = go (bytes_eq c.node.name d.name) refl
  where
    go : (b : Bool) → bytes_eq c.node.name d.name ≡ b → Each (λ d. Rises entry_cmp d.edits) (joined b c d ds)
    go true e =
        let same : c.node.name ≡ d.name = (bytes_eq-Decides c.node.name d.name).0 e in
        let all = subst (λ name. IsBefore node_cmp c.node (map (at_entry name) d.edits)) (sym same) before.0 in
        ((entries_before c.node c.what d.edits all, rises.0), rises.1)
    go false e = ((tt, tt), rises)

-- where changes are in document order, the edits of each document rise by their places
pub each_rises : (cs : List Change) → Rises node_cmp (nodes_of cs) → Each (λ d. Rises entry_cmp d.edits) (by_document cs)
each_rises [] rises = tt
each_rises (c ∷ cs) rises = rises_with c (by_document cs) (before_documents c.node cs rises.0) (each_rises cs rises.1)
