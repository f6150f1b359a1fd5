use Rattle.std.proofs.Common.{◌≡◌, List, subst}
use Rattle.std.specs.Prelude.{Ok, Err}
use Rattle.xml_model.specs.declared.edit.DocEdits.{DocEdits}
use Rattle.xml_model.specs.declared.tree_nav.NoFault.{NoFault}
use Rattle.xml_model.specs.Forest.{Forest, IsForest}
use Rattle.xml_model.specs.TreeNodes.{node_of_id}
use Rattle.xq_nodes.specs.declared.end.EvalEnd.{EvalEnd}
use Rattle.xq_edits.specs.Documents.{AreEditsOf, asked}
use Rattle.xq_edits.specs.Finds.{Finds, Found}
use Rattle.session_run.specs.Updates.{RemakesAll}
use Rattle.session_run.proofs.Asked.{can_be_remade, remade_is_updated, asked_refused}
use Rattle.session_run.proofs.update.changes_of.Goals as goal

pub all_remade-requires : goal.all_remade-requires
all_remade-requires c =
    let docs = c.args.docs.now in
    let found : IsForest docs → Found (AreEditsOf (node_of_id docs)) c.in-Ok.edits (asked docs c.args.what.now) =
    subst (λ (F : Forest). IsForest F → Found (AreEditsOf (node_of_id F)) c.in-Ok.edits (asked F c.args.what.now)) c.in_ok-nav.ensures.forest c.in-Ok.ensures in
    record { edits = can_be_remade docs c.args.what.now c.in-Ok.edits c.in_ok-nav.ensures.valid c.requires.named (found c.in_ok-nav.ensures.valid) }

pub returns-in-Ok-clause-changes : goal.returns-in-Ok-clause-changes
returns-in-Ok-clause-changes c =
    let docs = c.args.docs.now in
    let found : IsForest docs → Found (AreEditsOf (node_of_id docs)) c.in-Ok.edits (asked docs c.args.what.now) =
    subst (λ (F : Forest). IsForest F → Found (AreEditsOf (node_of_id F)) c.in-Ok.edits (asked F c.args.what.now)) c.in_ok-nav.ensures.forest c.in-Ok.ensures in
    subst (RemakesAll docs c.all_remade.result) (remade_is_updated docs c.args.what.now c.in-Ok.edits (found c.in_ok-nav.ensures.valid))
    c.all_remade.ensures.remade

pub returns-in-Err-Code-clause-changes : goal.returns-in-Err-Code-clause-changes
returns-in-Err-Code-clause-changes c =
    let nav : Forest = c.in_ok-nav.nav in
    let said : IsForest nav → asked nav c.args.what.now ≡ Err c.in-Err-Code.code =
    subst (λ (end : EvalEnd NoFault). Finds (IsForest nav) (λ _. ⊥) (AreEditsOf (node_of_id nav)) (Err end) (asked nav c.args.what.now))
    c.in-Err-Code.field-0-is c.in-Err-Code.ensures in
    rw c.in-Err-Code.field-0-is
    (asked_refused c.args.docs.now c.args.what.now c.in-Err-Code.code
    (subst (λ (F : Forest). IsForest F → asked F c.args.what.now ≡ Err c.in-Err-Code.code) c.in_ok-nav.ensures.forest said c.in_ok-nav.ensures.valid))
