-- Documents remade by their edits.
use Rattle.std.proofs.Common.{◌≡◌, ℕ, ◌+◌, ◌<◌, ◌≤◌, List, [], ◌∷◌, ◌++◌, length, get_or, drop, drop-cons, length-drop, suc, Option, None, Some, IsTrue, refl, sym, ap, subst, ◌∙◌, arith}
use Rattle.std.specs.Prelude.{All, Result, Ok, Err, IfSome, is_some}
use Rattle.std.specs.FinMap as map
use Rattle.xq_ast.specs.Names.{is_document_name}
use Rattle.xq_ast.specs.declared.code.Code.{Code}
use Rattle.xml_model.specs.declared.edit.DocEdits.{DocEdits}
use Rattle.xml_model.specs.declared.node.Doc.{Doc}
use Rattle.xml_model.specs.Changes.{unshared, with_document}
use Rattle.xml_model.specs.Document.{IsValid}
use Rattle.xml_model.specs.Forest.{Forest, IsForest}
use Rattle.xml_model.specs.Items.{◌>>?◌}
use Rattle.xml_model.specs.Rebuild.{edits_at, rebuild}
use Rattle.tree_edit.specs.declared.end.EditEnd.{EditEnd}
use Rattle.tree_edit.specs.declared.end.EditEnd.TheVariants as ends
use Rattle.session_run.specs.declared.changes.Change.{Change}
use Rattle.session_run.specs.Effects.{AreValidChanges}
use Rattle.session_run.specs.Updates.{IsRemade, Remakes, RemakesAll, CanBeRemade, changed_one, changed_by, put_remade, remade_all, AreThere}
use Rattle.std.proofs.lemmas.List.Sums.{fold-append}

none_of : {A : Type 0} (xs : List A) → length xs ≡ 0 → xs ≡ []
none_of [] is = refl
none_of (x ∷ xs) is = absurd (omega arith)

-- the edits at a place, and those after it
pub next_edits : (edits : List DocEdits) (i : ℕ) (at : DocEdits) → i < length edits → at ≡ get_or edits i at → drop i edits ≡ at ∷ drop (i + 1) edits
next_edits edits i at within is =
    let more : suc i ≡ i + 1 = omega arith in
    drop-cons edits i at within ∙ (λ j. sym is j ∷ drop (more j) edits)

-- and these can be remade
pub can_here : (F : Forest) (edits : List DocEdits) (i : ℕ) (at : DocEdits) → All (CanBeRemade F) edits → i < length edits → at ≡ get_or edits i at
    → CanBeRemade F at
can_here F edits i at all within is = subst (CanBeRemade F) (sym is) (all i at within)

-- ---- one change more

pub changed-more : (more : List Change) (c : Change) (F : Forest) → changed_by (more ++ c ∷ []) F ≡ changed_one (changed_by more F) c
changed-more more c F = fold-append changed_one F more (c ∷ [])

pub there-more : (F : Forest) (more : List Change) (c : Change) → AreThere F more → IsTrue (is_some (map.get F c.name)) → AreThere F (more ++ c ∷ [])
there-more F [] c there is = (is, tt)
there-more F (d ∷ more) c there is = (there.0, there-more F more c there.1 is)

pub valid-more : (more : List Change) (c : Change) → AreValidChanges more → IsTrue (is_document_name c.name) × IfSome (unshared c.after) IsValid
    → AreValidChanges (more ++ c ∷ [])
valid-more [] c valid is = (is, tt)
valid-more (d ∷ more) c valid is = (valid.0, valid-more more c valid.1 is)

-- ---- a turn of the loop

-- what is left to be remade
module _ (D : Forest) (edits : List DocEdits) (i : ℕ) (at : DocEdits) (old : List Change) (next : drop i edits ≡ at ∷ drop (i + 1) edits) where
  -- a name without a document is passed over
  pub passed_over : map.get D at.name ≡ None → (whole : Result Forest Code) → remade_all D (changed_by old D) (drop i edits) ≡ whole
      → remade_all D (changed_by old D) (drop (i + 1) edits) ≡ whole
  passed_over none whole so =
      sym (ap (λ o. put_remade (changed_by old D) at o >>? (λ G. remade_all D G (drop (i + 1) edits))) none)
      ∙ sym (ap (remade_all D (changed_by old D)) next) ∙ so

  module _ (doc : Doc) (found : map.get D at.name ≡ Some doc) (whole : Result Forest Code)
      (so : remade_all D (changed_by old D) (drop i edits) ≡ whole) where
    -- the rest, once the document is remade or refused
    by_document : (r : Result Doc Code) → rebuild doc (edits_at doc at.edits) ≡ r
        → (r >>? (λ new. Ok (map.insert (changed_by old D) at.name new))) >>? (λ G. remade_all D G (drop (i + 1) edits)) ≡ whole
    by_document r is =
        sym (ap (λ r. (r >>? (λ new. Ok (map.insert (changed_by old D) at.name new))) >>? (λ G. remade_all D G (drop (i + 1) edits))) is)
        ∙ sym (ap (λ o. put_remade (changed_by old D) at o >>? (λ G. remade_all D G (drop (i + 1) edits))) found)
        ∙ sym (ap (remade_all D (changed_by old D)) next) ∙ so

    -- a code of one document is that of all
    pub refused_all : (code : Code) → rebuild doc (edits_at doc at.edits) ≡ Err code → whole ≡ Err code
    refused_all code is = sym (by_document (Err code) is)

    -- how one document ends without a new one, all end
    pub refused_end : (e : EditEnd) → Remakes at doc (Err e) → RemakesAll D (Err e) whole
    refused_end (ends.Code code) is = refused_all code is
    refused_end ends.NoMemory is = tt

    -- one document more is remade
    pub one_more : (c : Change) → IsRemade at doc c → (new : List Change) → new ≡ old ++ c ∷ []
        → remade_all D (changed_by new D) (drop (i + 1) edits) ≡ whole
    one_more c made new are =
        ap (λ cs. remade_all D (changed_by cs D) (drop (i + 1) edits)) are
        ∙ ap (λ G. remade_all D G (drop (i + 1) edits)) (changed-more old c D
        ∙ ap (λ name. with_document name (unshared c.after) (changed_by old D)) made.name
        ∙ ap (λ o. with_document at.name o (changed_by old D)) made.after)
        ∙ by_document (Ok made.new) made.is

-- with no edits left the changes so far are all
pub finished : (D : Forest) (edits : List DocEdits) (i : ℕ) (old : List Change) (whole : Result Forest Code) → length edits ≤ i
    → remade_all D (changed_by old D) (drop i edits) ≡ whole → whole ≡ Ok (changed_by old D)
finished D edits i old whole past so = sym so ∙ ap (remade_all D (changed_by old D)) (none_of (drop i edits) (grind (arith, length-drop)))

-- the change is of a document that is there
pub is_there : (D : Forest) (at : DocEdits) (doc : Doc) (c : Change) → map.get D at.name ≡ Some doc → IsRemade at doc c → IsTrue (is_some (map.get D c.name))
is_there D at doc c found made = ap is_some (ap (map.get D) made.name ∙ found)

named_there : (name : List ℕ) (o : Option Doc) (doc : Doc) → o ≡ Some doc → IfSome o (λ doc. IsTrue (is_document_name name) × IsValid doc)
    → IsTrue (is_document_name name)
named_there name None doc is fact = cc
named_there name (Some d) doc is fact = fact.0

-- and it is a valid one
pub is_valid : (D : Forest) (at : DocEdits) (doc : Doc) (c : Change) → IsForest D → CanBeRemade D at → map.get D at.name ≡ Some doc → IsRemade at doc c
    → IsTrue (is_document_name c.name) × IfSome (unshared c.after) IsValid
is_valid D at doc c forest can found made = (
  subst (λ name. IsTrue (is_document_name name)) (sym made.name) (named_there at.name (map.get D at.name) doc found (forest at.name)),
  subst (λ o. IfSome o IsValid) (sym made.after) (can.valid doc made.new found made.is),
)
