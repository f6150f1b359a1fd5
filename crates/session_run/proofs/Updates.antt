-- What updates say and change: over the documents that they name as over all.
use Rattle.std.proofs.Common.{◌≡◌, ℕ, Bool, true, false, ◌||◌, ◌&&◌, List, [], ◌∷◌, Option, None, Some, IsTrue, refl, sym, ap, subst, ◌∙◌}
use Rattle.std.specs.Prelude.{Result, Ok, Err, is_some, bytes_eq}
use Rattle.std.specs.FinMap as map
use Rattle.xq_ast.specs.declared.call.Call.{Call}
use Rattle.xq_ast.specs.declared.call.Call.TheVariants.{Update}
use Rattle.xq_ast.specs.declared.code.Code.{Code}
use Rattle.xq_ast.specs.declared.need.Need.{Need}
use Rattle.xq_ast.specs.declared.update.Update.{Update as UpdateCall}
use Rattle.xq_ast.specs.Modes.{is_exclusive}
use Rattle.xml_model.specs.Changes.{ChangeMap, laid_over}
use Rattle.xml_model.specs.Edits.{updated}
use Rattle.xml_model.specs.Forest.{Forest}
use Rattle.xml_model.specs.Needs.{needs, AgreeAt, has_need, has_exclusive, KeepsToNeeds}
use Rattle.xml_model.specs.Statement.{stmt, changed, error}
use Rattle.xml_model.proofs.Laying.{same_forest}
use Rattle.xml_model.proofs.UpdateNeeds.{update_keeps}
use Rattle.session_core.specs.declared.history.event.Says.TheVariants as says
use Rattle.session_core.specs.History.Transactions.{says_of}
use Rattle.session_run.specs.declared.changes.Change.{Change}
use Rattle.session_run.specs.declared.statement.Effect.{Effect}
use Rattle.session_run.specs.Effects.{IsEffect, with_changes}
use Rattle.session_run.specs.Updates.{changed_by, AreThere}
use Rattle.session_run.proofs.Laid.{laid_more, changed_alike, stays_beside, agrees_at, laid_agree_at, agree_through}

-- a name that is not needed is not needed exclusively
not_exclusive : (name : List ℕ) (needs : List Need) → has_need name needs ≡ false → has_exclusive name needs ≡ false
not_exclusive name [] none = refl
not_exclusive name (n ∷ more) none = go (is_exclusive n.mode) (bytes_eq n.name name) none (not_exclusive name more)
  where
    go : (x b : Bool) → (b || has_need name more) ≡ false → (has_need name more ≡ false → has_exclusive name more ≡ false)
        → ((x && b) || has_exclusive name more) ≡ false
    go x true none rest = cc
    go true false none rest = rest none
    go false false none rest = rest none

-- an update that has a code leaves the forest
refused_leaves : (r : Result Forest Code) (F : Forest) (code : Code) → (changed r F).says ≡ error code → (changed r F).forest ≡ F
refused_leaves (Ok G) F code is = cc
refused_leaves (Err other) F code is = refl

module _ (what : UpdateCall) (changes : ChangeMap) (F D : Forest) (agree : AgreeAt (needs (Update what)) D (laid_over changes F))
    (others : (name : List ℕ) → has_need name (needs (Update what)) ≡ false → map.get D name ≡ None) where
  -- a forest with the same documents at the needs, with the changes laid over it, has those that were handed out
  handed : (G : Forest) → AgreeAt (needs (Update what)) F G → AgreeAt (needs (Update what)) D (laid_over changes G)
  handed G same = agree_through (needs (Update what)) D (laid_over changes F) (laid_over changes G) agree
      (laid_agree_at (needs (Update what)) changes F G same)

  -- what is said over the documents that were handed out is said over all
  said : (stmt D (Update what)).says ≡ (stmt (laid_over changes F) (Update what)).says
  said = (update_keeps what).says D (laid_over changes F) agree

  module _ (more : List Change) (there : AreThere D more) (is : updated D what ≡ Ok (changed_by more D)) where
    here : (stmt D (Update what)).forest ≡ changed_by more D
    here = ap (λ r. (changed r D).forest) is

    -- the changes make of a forest that agrees what the update does, at each name
    same_at : (H : Forest) → AgreeAt (needs (Update what)) D H → (q : List ℕ) (b : Bool) → has_need q (needs (Update what)) ≡ b
        → map.get (changed_by more H) q ≡ map.get (stmt H (Update what)).forest q
    same_at H at q true needed =
        sym (changed_alike more D H q (agrees_at (needs (Update what)) D H at q needed))
        ∙ ap (λ G. map.get G q) (sym here)
        ∙ agrees_at (needs (Update what)) (stmt D (Update what)).forest (stmt H (Update what)).forest ((update_keeps what).after D H at) q needed
    same_at H at q false none =
        stays_beside D more q there (others q none) H
        ∙ sym ((update_keeps what).elsewhere H q (not_exclusive q (needs (Update what)) none))

    -- the changes of the documents that were handed out, and that it is done, are the update's effect
    pub update_done : (effect : Effect) → effect.says ≡ says.Done → effect.changes ≡ more → IsEffect (Update what) changes F effect
    update_done effect done are = record {
      says = done ∙ sym (ap says_of (sym said ∙ ap (λ r. (changed r D).says) is));
      leaves = λ G same. ap (λ cs. laid_over (with_changes cs changes) G) are ∙ laid_more more changes G
          ∙ same_forest _ _ (λ q. same_at (laid_over changes G) (handed G same) q (has_need q (needs (Update what))) refl);
    }

  -- a code that comes over them, and no change, are the update's effect
  pub update_refused : (code : Code) (effect : Effect) → updated D what ≡ Err code → effect.says ≡ says.Error code → effect.changes ≡ []
      → IsEffect (Update what) changes F effect
  update_refused code effect is refused none = record {
    says = refused ∙ sym (ap says_of (sym said ∙ ap (λ r. (changed r D).says) is));
    leaves = λ G same. let H = laid_over changes G in
        ap (λ cs. laid_over (with_changes cs changes) G) none
        ∙ sym (refused_leaves (updated H what) H code (sym ((update_keeps what).says D H (handed G same)) ∙ ap (λ r. (changed r D).says) is));
  }
