-- Edits of the documents of a forest, where ids stand for nodes as they do over plain trees: their numbers rise, and at the
-- places of their nodes is done what is defined.
use Rattle.std.proofs.Common.{◌≡◌, ℕ, ◌+◌, ◌<◌, ◌≤◌, List, [], ◌∷◌, map, Option, Some, None, refl, sym, ap, subst, ◌∙◌, arith}
use Rattle.std.specs.FinMap as forests
use Rattle.std.specs.Ordering.{nat_cmp}
use Rattle.std.specs.declared.cmp.Ordering.TheVariants.{Less}
use Rattle.std.proofs.lemmas.Cmp.{ranked}
use Rattle.xml_model.specs.declared.edit.DocEdits.{DocEdits}
use Rattle.xml_model.specs.declared.edit.Edit.{Edit}
use Rattle.xml_model.specs.declared.edit.EditKind.{EditKind}
use Rattle.xml_model.specs.declared.node.Doc.{Doc}
use Rattle.xml_model.specs.declared.place.PlaceStep.{PlaceStep}
use Rattle.xml_model.specs.Edits.{DocumentEdits}
use Rattle.xml_model.specs.Forest.{Forest}
use Rattle.xml_model.specs.Numbering.{place_of_number}
use Rattle.xml_model.specs.Place.{the_document, place_cmp}
use Rattle.xml_model.specs.Rebuild.{edits_at}
use Rattle.xml_model.specs.TreeNodes.{name_at, place_in, node_of_id}
use Rattle.xml_model.proofs.TreeNumbers.{then_equal, numbers_ordered}
use Rattle.xq_edits.specs.Documents.{AreIn, IsEditsOf, edits_seen}
use Rattle.xq_edits.specs.Rising.{RiseFrom, entry_cmp}
use Rattle.xq_nodes.specs.Joins.{IsBefore, Rises}

-- places are in the order of their numbers
places_ordered : (o : Option Doc) (m n : ℕ) → place_cmp (place_in o m) (place_in o n) ≡ nat_cmp m n
places_ordered None m n = then_equal (nat_cmp m n)
places_ordered (Some doc) m n = numbers_ordered (the_document doc) m n

less_by_number : (m n : ℕ) → nat_cmp m n ≡ Less → m < n
less_by_number m n e = ranked m n Less (sym e)

-- the first number is no less than this one
abbrev Begins : ℕ → List Edit → Type 0
Begins n [] = Unit {0}
Begins n (e ∷ more) = n ≤ e.at

module _ (o : Option Doc) where
  abbrev entries : List Edit → List (List PlaceStep × EditKind)
  entries edits = map (λ e. (place_in o e.at, e.what)) edits

  next_begins : (e : Edit) (more : List Edit) → IsBefore entry_cmp (place_in o e.at, e.what) (entries more) → Begins (e.at + 1) more
  next_begins e [] before = tt
  next_begins e (f ∷ more) before =
      let less : e.at < f.at = less_by_number e.at f.at (sym (places_ordered o e.at f.at) ∙ before.0) in
      omega arith

  -- where the places rise, the numbers do
  numbers_rise : (n : ℕ) (edits : List Edit) → Begins n edits → Rises entry_cmp (entries edits) → RiseFrom n edits
  numbers_rise n [] first rises = tt
  numbers_rise n (e ∷ more) first rises = (first, numbers_rise (e.at + 1) more (next_begins e more rises.0) rises.1)

begins_at_zero : (edits : List Edit) → Begins 0 edits
begins_at_zero [] = tt
begins_at_zero (e ∷ more) = omega arith

-- where the edits of a document rise by their places, those at its nodes rise by the nodes' numbers
pub edits_rise : (F : Forest) (at : DocEdits) (d : DocumentEdits) → IsEditsOf (node_of_id F) at d → Rises entry_cmp d.edits → RiseFrom 0 at.edits
edits_rise F at d is rises =
    numbers_rise (forests.get F (name_at F is.doc)) 0 at.edits (begins_at_zero at.edits) (subst (Rises entry_cmp) (sym is.edits) rises)

same_entries : (F : Forest) (number : ℕ) (name : List ℕ) (doc : Doc) (edits : List Edit) → forests.get F name ≡ Some doc
    → AreIn (node_of_id F) number name edits → map (λ e. (place_of_number (the_document doc) e.at, e.what)) edits ≡ edits_seen (node_of_id F) number edits
same_entries F number name doc [] found are = refl
same_entries F number name doc (e ∷ edits) found are = ap (λ o. entries o (e ∷ edits)) (sym (ap (forests.get F) are.0 ∙ found))

-- what is done at the nodes of a document by their numbers is what is defined for its places
pub edits_are : (F : Forest) (at : DocEdits) (d : DocumentEdits) (doc : Doc) → IsEditsOf (node_of_id F) at d → forests.get F d.name ≡ Some doc
    → edits_at doc at.edits ≡ forests.from_entries d.edits
edits_are F at d doc is found = ap forests.from_entries (same_entries F is.doc d.name doc at.edits found is.all ∙ is.edits)
