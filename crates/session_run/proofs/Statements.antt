-- What the effects of statements make of forests.
use Rattle.std.proofs.Common.{◌≡◌, ℕ, List, [], Option, None, Some, Result, Ok, Err, IfOk, refl, sym, ap, subst, ◌∙◌}
use Rattle.std.specs.FinMap as map
use Rattle.xq_ast.specs.declared.call.Call.{Call}
use Rattle.xq_ast.specs.declared.call.Call.TheVariants.{Create, Drop, Load, Export}
use Rattle.xq_ast.specs.declared.code.Code.TheVariants.{Exists, FODC0002, Pyx}
use Rattle.xml_model.specs.declared.node.Doc.{Doc}
use Rattle.xml_model.specs.declared.node.Node.{Node}
use Rattle.xml_model.specs.Document.{IsValid}
use Rattle.xml_model.proofs.ReadIsValid.{read_is_valid}
use Rattle.xml_model.specs.declared.node.RefusedLine.{RefusedLine}
use Rattle.xml_model.specs.Forest.{Forest}
use Rattle.xml_model.specs.Needs.{needs, AgreeAt}
use Rattle.xml_model.specs.Pyx.{Line, read, pyx}
use Rattle.xml_model.specs.Statement.{stmt, added_where_free, dropped, exported, answer_of}
use Rattle.session_core.specs.declared.history.event.Says.TheVariants as says
use Rattle.session_core.specs.History.Transactions.{says_of}
use Rattle.session_run.specs.declared.statement.Effect.{Effect}
use Rattle.xml_model.specs.Changes.{ChangeMap, laid_over}
use Rattle.session_run.specs.Effects.{with_changes, IsChanged, IsEffect, IsPut}
use Rattle.xml_model.proofs.Laying.{laid-one, laid-agree}

-- a document without nodes is valid
pub empty_is_valid : (kids : List Node) → kids ≡ [] → IsValid (record { kids = kids })
empty_is_valid kids none = subst (λ ks. IsValid (record { kids = ks })) (sym none) (read_is_valid [] (record { kids = [] }) refl)

-- what follows of each value holds of an Ok answer's value, where the first does
pub if_ok : {T E : Type 0} (P Q : T → Type 0) (r : Result T E) → ((x : T) → P x → Q x) → IfOk r P → IfOk r Q
if_ok P Q (Ok x) f fact = f x fact
if_ok P Q (Err e) f fact = tt

-- an effect without a change
pub unchanged : (call : Call) (changes : ChangeMap) (F : Forest) (effect : Effect) → effect.changes ≡ []
    → effect.says ≡ says_of (stmt (laid_over changes F) call).says
    → ((G : Forest) → AgreeAt (needs call) F G → (stmt (laid_over changes G) call).forest ≡ laid_over changes G) → IsEffect call changes F effect
unchanged call changes F effect none said leaves = record {
  says = said;
  leaves = λ G agree. ap (λ o. laid_over (with_changes o changes) G) none ∙ sym (leaves G agree);
}

-- ---- a document is to be put where the name is free

module _ (call : Call) (name : List ℕ) (made : Result Doc RefusedLine) (is : (F : Forest) → stmt F call ≡ added_where_free (map.get F name) name made F)
    (needed : (F G : Forest) → AgreeAt (needs call) F G → map.get F name ≡ map.get G name) (changes : ChangeMap) (F : Forest) (effect : Effect) where
  seen_there : (o : Option Doc) → map.get (laid_over changes F) name ≡ o → (G : Forest) → AgreeAt (needs call) F G → map.get (laid_over changes G) name ≡ o
  seen_there o there G agree = sym (laid-agree changes F G name (needed F G agree)) ∙ there

  -- where the name is taken, the answer Exists without a change is the statement's effect
  pub name_taken : (doc : Doc) → map.get (laid_over changes F) name ≡ Some doc → effect.says ≡ says.Error Exists → effect.changes ≡ []
      → IsEffect call changes F effect
  name_taken doc there said none = unchanged call changes F effect none
      (said ∙ sym (ap (λ r. says_of r.says) (is (laid_over changes F)) ∙ ap (λ o. says_of (added_where_free o name made (laid_over changes F)).says) there))
      (λ G agree. ap (λ r. r.forest) (is (laid_over changes G))
      ∙ ap (λ o. (added_where_free o name made (laid_over changes G)).forest) (seen_there (Some doc) there G agree))

  -- where the document cannot be made and the name is free, the refusal without a change is the statement's effect
  pub not_made : (refused : RefusedLine) → made ≡ Err refused → map.get (laid_over changes F) name ≡ None
      → effect.says ≡ says.Error (Pyx refused.why refused.line) → effect.changes ≡ [] → IsEffect call changes F effect
  not_made refused made_is free said none = unchanged call changes F effect none
      (said ∙ sym (ap (λ r. says_of r.says) (is (laid_over changes F)) ∙ ap (λ o. says_of (added_where_free o name made (laid_over changes F)).says) free
      ∙ ap (λ m. says_of (added_where_free None name m (laid_over changes F)).says) made_is))
      (λ G agree. ap (λ r. r.forest) (is (laid_over changes G))
      ∙ ap (λ o. (added_where_free o name made (laid_over changes G)).forest) (seen_there None free G agree)
      ∙ ap (λ m. (added_where_free None name m (laid_over changes G)).forest) made_is)

  -- where the document is made and the name is free, putting it there is the statement's effect
  pub put_where_free : (doc : Doc) → made ≡ Ok doc → map.get (laid_over changes F) name ≡ None → IsPut name doc effect → IsEffect call changes F effect
  put_where_free doc made_is free put = record {
    says = put.says ∙ sym (ap (λ r. says_of r.says) (is (laid_over changes F))
        ∙ ap (λ o. says_of (added_where_free o name made (laid_over changes F)).says) free
        ∙ ap (λ m. says_of (added_where_free None name m (laid_over changes F)).says) made_is);
    leaves = λ G agree. ap (λ c. laid_over c G) (put.leaves changes) ∙ laid-one changes name (Some doc) G
        ∙ sym (ap (λ r. r.forest) (is (laid_over changes G))
        ∙ ap (λ o. (added_where_free o name made (laid_over changes G)).forest) (seen_there None free G agree)
        ∙ ap (λ m. (added_where_free None name m (laid_over changes G)).forest) made_is);
  }

-- ---- CREATE and LOAD

-- CREATE of a name that is taken answers Exists and changes nothing
pub create_taken : (name : List ℕ) (changes : ChangeMap) (F : Forest) (effect : Effect) (doc : Doc) → map.get (laid_over changes F) name ≡ Some doc
    → effect.says ≡ says.Error Exists → effect.changes ≡ [] → IsEffect (Create name) changes F effect
create_taken name = name_taken (Create name) name (Ok (record { kids = [] })) (λ F. refl) (λ F G agree. agree.0)

-- CREATE of a free name puts an empty document there
pub create_free : (name : List ℕ) (changes : ChangeMap) (F : Forest) (effect : Effect) (doc : Doc) → record { kids = [] } ≡ doc
    → map.get (laid_over changes F) name ≡ None
    → IsPut name doc effect → IsEffect (Create name) changes F effect
create_free name changes F effect doc empty =
    put_where_free (Create name) name (Ok (record { kids = [] })) (λ F. refl) (λ F G agree. agree.0) changes F effect doc (ap (λ d. Ok d) empty)

-- LOAD under a name that is taken answers Exists and changes nothing
pub load_taken : (name : List ℕ) (lines : List Line) (changes : ChangeMap) (F : Forest) (effect : Effect) (doc : Doc)
    → map.get (laid_over changes F) name ≡ Some doc
    → effect.says ≡ says.Error Exists → effect.changes ≡ [] → IsEffect (Load name lines) changes F effect
load_taken name lines = name_taken (Load name lines) name (read lines) (λ F. refl) (λ F G agree. agree.0)

-- LOAD of lines that are no document, under a free name, answers by the refusal and changes nothing
pub load_refused : (name : List ℕ) (lines : List Line) (changes : ChangeMap) (F : Forest) (effect : Effect) (refused : RefusedLine) → read lines ≡ Err refused
    → map.get (laid_over changes F) name ≡ None
    → effect.says ≡ says.Error (Pyx refused.why refused.line) → effect.changes ≡ [] → IsEffect (Load name lines) changes F effect
load_refused name lines = not_made (Load name lines) name (read lines) (λ F. refl) (λ F G agree. agree.0)

-- LOAD of a document's lines under a free name puts that document there
pub load_free : (name : List ℕ) (lines : List Line) (changes : ChangeMap) (F : Forest) (effect : Effect) (doc : Doc) → read lines ≡ Ok doc
    → map.get (laid_over changes F) name ≡ None
    → IsPut name doc effect → IsEffect (Load name lines) changes F effect
load_free name lines = put_where_free (Load name lines) name (read lines) (λ F. refl) (λ F G agree. agree.0)

-- ---- DROP

-- DROP of a name without a document answers FODC0002 and changes nothing
pub drop_missing : (name : List ℕ) (changes : ChangeMap) (F : Forest) (effect : Effect) → map.get (laid_over changes F) name ≡ None
    → effect.says ≡ says.Error FODC0002 → effect.changes ≡ [] → IsEffect (Drop name) changes F effect
drop_missing name changes F effect missing said none = unchanged (Drop name) changes F effect none
    (said ∙ sym (ap (λ o. says_of (dropped o name (laid_over changes F)).says) missing))
    (λ G agree. ap (λ o. (dropped o name (laid_over changes G)).forest) (sym (laid-agree changes F G name agree.0) ∙ missing))

-- DROP of a document is done, and takes it from its name
pub drop_there : (name : List ℕ) (changes : ChangeMap) (F : Forest) (effect : Effect) (doc : Doc) → map.get (laid_over changes F) name ≡ Some doc
    → IsChanged name None effect → IsEffect (Drop name) changes F effect
drop_there name changes F effect doc there gone = record {
  says = gone.says ∙ sym (ap (λ o. says_of (dropped o name (laid_over changes F)).says) there);
  leaves = λ G agree. ap (λ c. laid_over c G) (gone.leaves changes) ∙ laid-one changes name None G
      ∙ sym (ap (λ o. (dropped o name (laid_over changes G)).forest) (sym (laid-agree changes F G name agree.0) ∙ there));
}

-- ---- EXPORT

-- EXPORT of a name without a document answers FODC0002 and changes nothing
pub export_missing : (name : List ℕ) (changes : ChangeMap) (F : Forest) (effect : Effect) → map.get (laid_over changes F) name ≡ None
    → effect.says ≡ says.Error FODC0002 → effect.changes ≡ [] → IsEffect (Export name) changes F effect
export_missing name changes F effect missing said none =
    unchanged (Export name) changes F effect none (said ∙ sym (ap (λ o. says_of (exported o)) missing)) (λ G agree. refl)

-- EXPORT of a document answers its lines and changes nothing
pub export_there : (name : List ℕ) (changes : ChangeMap) (F : Forest) (effect : Effect) (doc : Doc) → map.get (laid_over changes F) name ≡ Some doc
    → effect.says ≡ says_of (answer_of (pyx doc)) → effect.changes ≡ [] → IsEffect (Export name) changes F effect
export_there name changes F effect doc there said none =
    unchanged (Export name) changes F effect none (said ∙ sym (ap (λ o. says_of (exported o)) there)) (λ G agree. refl)
