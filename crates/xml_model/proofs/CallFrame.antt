-- Calls that keep to their needs.
use Rattle.std.proofs.Common.{◌≡◌, ℕ, Bool, true, false, ◌||◌, List, [], Option, None, Some, Result, Ok, Err, refl, sym, ap, ◌∙◌}
use Rattle.std.specs.FinMap as forests
use Rattle.std.specs.Str.{bytes_eq}
use Rattle.xq_ast.specs.declared.call.Call.{Call}
use Rattle.xq_ast.specs.declared.call.Call.TheVariants.{Begin, BeginRead, Commit, Rollback, Checkpoint, ShowDocuments, Create, Drop, Load, Export, Update, Query}
use Rattle.xml_model.specs.declared.node.Doc.{Doc}
use Rattle.xml_model.specs.declared.node.RefusedLine.{RefusedLine}
use Rattle.xml_model.specs.Forest.{Forest}
use Rattle.xml_model.specs.Needs.{KeepsToNeeds}
use Rattle.xml_model.specs.Statement.{exported, added_where_free, dropped}
use Rattle.xml_model.specs.Pyx.{read}
use Rattle.xml_model.proofs.Framing.{get-put, get-beside, get-gone, get-beside-gone}
use Rattle.xml_model.proofs.QueryNeeds.{query_says}
use Rattle.xml_model.proofs.UpdateNeeds.{update_keeps}

-- ---- what is said depends on the document of the name alone

added_says : (name : List ℕ) (o : Option Doc) (made : Result Doc RefusedLine) (F G : Forest)
    → (added_where_free o name made F).says ≡ (added_where_free o name made G).says
added_says name (Some there) made F G = refl
added_says name None (Ok doc) F G = refl
added_says name None (Err refused) F G = refl

dropped_says : (name : List ℕ) (o : Option Doc) (F G : Forest) → (dropped o name F).says ≡ (dropped o name G).says
dropped_says name (Some there) F G = refl
dropped_says name None F G = refl

-- ---- and so does the document behind it

added_after : (name : List ℕ) (o : Option Doc) (made : Result Doc RefusedLine) (F G : Forest) → forests.get F name ≡ forests.get G name
    → forests.get (added_where_free o name made F).forest name ≡ forests.get (added_where_free o name made G).forest name
added_after name (Some there) made F G same = same
added_after name None (Ok doc) F G same = get-put F name doc ∙ sym (get-put G name doc)
added_after name None (Err refused) F G same = same

dropped_after : (name : List ℕ) (o : Option Doc) (F G : Forest) → forests.get F name ≡ forests.get G name
    → forests.get (dropped o name F).forest name ≡ forests.get (dropped o name G).forest name
dropped_after name (Some there) F G same = get-gone F name ∙ sym (get-gone G name)
dropped_after name None F G same = same

-- ---- other names keep theirs

added_elsewhere : (name q : List ℕ) (o : Option Doc) (made : Result Doc RefusedLine) (F : Forest) → bytes_eq name q ≡ false
    → forests.get (added_where_free o name made F).forest q ≡ forests.get F q
added_elsewhere name q (Some there) made F other = refl
added_elsewhere name q None (Ok doc) F other = get-beside F name q doc other
added_elsewhere name q None (Err refused) F other = refl

dropped_elsewhere : (name q : List ℕ) (o : Option Doc) (F : Forest) → bytes_eq name q ≡ false → forests.get (dropped o name F).forest q ≡ forests.get F q
dropped_elsewhere name q (Some there) F other = get-beside-gone F name q other
dropped_elsewhere name q None F other = refl

first_false : (b : Bool) → (b || false) ≡ false → b ≡ false
first_false true e = e
first_false false e = e

-- ---- the calls

adding : (name : List ℕ) (made : Result Doc RefusedLine) (F G : Forest) → forests.get F name ≡ forests.get G name
    → (added_where_free (forests.get F name) name made F).says ≡ (added_where_free (forests.get G name) name made G).says
adding name made F G same = ap (λ o. (added_where_free o name made F).says) same ∙ added_says name (forests.get G name) made F G

adding_after : (name : List ℕ) (made : Result Doc RefusedLine) (F G : Forest) → forests.get F name ≡ forests.get G name
    → forests.get (added_where_free (forests.get F name) name made F).forest name ≡ forests.get (added_where_free (forests.get G name) name made G).forest name
adding_after name made F G same = ap (λ o. forests.get (added_where_free o name made F).forest name) same ∙ added_after name (forests.get G name) made F G same

-- each call keeps to its needs, but for SHOW DOCUMENTS
pub keeps : (call : Call) → (call ≡ ShowDocuments → ⊥) → KeepsToNeeds call
keeps Begin other = record { says = λ F G same. refl; after = λ F G same. tt; elsewhere = λ F q e. refl }
keeps BeginRead other = record { says = λ F G same. refl; after = λ F G same. tt; elsewhere = λ F q e. refl }
keeps Commit other = record { says = λ F G same. refl; after = λ F G same. tt; elsewhere = λ F q e. refl }
keeps Rollback other = record { says = λ F G same. refl; after = λ F G same. tt; elsewhere = λ F q e. refl }
keeps Checkpoint other = record { says = λ F G same. refl; after = λ F G same. tt; elsewhere = λ F q e. refl }
keeps ShowDocuments other = absurd (other refl)
keeps (Create name) other = record {
  says = λ F G same. adding name (Ok (record { kids = [] })) F G same.0;
  after = λ F G same. (adding_after name (Ok (record { kids = [] })) F G same.0, tt);
  elsewhere = λ F q e. added_elsewhere name q (forests.get F name) (Ok (record { kids = [] })) F (first_false _ e);
}
keeps (Load name lines) other = record {
  says = λ F G same. adding name (read lines) F G same.0;
  after = λ F G same. (adding_after name (read lines) F G same.0, tt);
  elsewhere = λ F q e. added_elsewhere name q (forests.get F name) (read lines) F (first_false _ e);
}
keeps (Drop name) other = record {
  says = λ F G same. ap (λ o. (dropped o name F).says) same.0 ∙ dropped_says name (forests.get G name) F G;
  after = λ F G same. (ap (λ o. forests.get (dropped o name F).forest name) same.0 ∙ dropped_after name (forests.get G name) F G same.0, tt);
  elsewhere = λ F q e. dropped_elsewhere name q (forests.get F name) F (first_false _ e);
}
keeps (Export name) other = record {
  says = λ F G same. ap exported same.0;
  after = λ F G same. same;
  elsewhere = λ F q e. refl;
}
keeps (Update what) other = update_keeps what
keeps (Query expr) other = record { says = λ F G same. query_says F G expr same; after = λ F G same. same; elsewhere = λ F q e. refl }
