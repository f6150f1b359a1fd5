-- The changes of an update, document by document.
use Rattle.std.proofs.Common.{◌≡◌, ℕ, true, false, List, [], ◌∷◌, ◌++◌, refl, sym, ap, ◌∙◌}
use Rattle.std.specs.Prelude.{if◌then◌else◌}
use Rattle.std.specs.Str.{bytes_eq}
use Rattle.std.proofs.lemmas.Slice.Eq.{bytes_eq-Decides}
use Rattle.xml_model.specs.declared.edit.EditKind.{EditKind}
use Rattle.xml_model.specs.declared.place.PlaceStep.{PlaceStep}
use Rattle.xml_model.specs.Edits.{Change, DocumentEdits, with_change, by_document}

-- an edit of a document as a change
abbrev pub change_of : List ℕ → List PlaceStep × EditKind → Change
change_of name e = record { node = record { name = name; place = e.0 }; what = e.1 }

-- the edits of one document as changes
abbrev pub changes_in : List ℕ → List (List PlaceStep × EditKind) → List Change
changes_in name [] = []
changes_in name (e ∷ es) = change_of name e ∷ changes_in name es

-- the edits of all documents as changes
abbrev pub all_changes : List DocumentEdits → List Change
all_changes [] = []
all_changes (d ∷ ds) = changes_in d.name d.edits ++ all_changes ds

-- a change goes before all the others
pub goes_before : (c : Change) (ds : List DocumentEdits) → all_changes (with_change c ds) ≡ c ∷ all_changes ds
goes_before c [] = refl
goes_before c (d ∷ ds) =
    elim (bytes_eq c.node.name d.name) as (λ b. bytes_eq c.node.name d.name ≡ b
    → all_changes (if b then record { name = d.name; edits = (c.node.place, c.what) ∷ d.edits } ∷ ds else
    record { name = c.node.name; edits = (c.node.place, c.what) ∷ [] } ∷ d ∷ ds) ≡ c ∷ all_changes (d ∷ ds)) [
      | true ↦ λ same. ap (λ name. change_of name (c.node.place, c.what) ∷ all_changes (d ∷ ds)) (sym ((bytes_eq-Decides c.node.name d.name).0 same))
      | false ↦ λ other. refl
    ] refl

-- the edits of all documents, each with its document's name, are the changes in their order
pub all_of_them : (cs : List Change) → all_changes (by_document cs) ≡ cs
all_of_them [] = refl
all_of_them (c ∷ more) = goes_before c (by_document more) ∙ ap (λ rest. c ∷ rest) (all_of_them more)
