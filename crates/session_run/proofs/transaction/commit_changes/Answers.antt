use Rattle.std.proofs.Common.{◌∙◌, ap, sym}
use Rattle.session_core.specs.Keeping.Kept.{past, forest_in}
use Rattle.xml_model.specs.Changes.{laid_over}
use Rattle.session_run.proofs.Calling.{behind_changes}
use Rattle.session_run.proofs.transaction.commit_changes.Goals as goal

pub commit-requires-clause-forest : goal.commit-requires-clause-forest
commit-requires-clause-forest c =
    let changes = c.args.changes.now.changes in
    c.in_ok-docs.ensures ∙ ap (laid_over changes) (c.forest.ensures ∙ ap (forest_in c.args.core.now.base (past c.args.core.now)) c.requires.updating)
    ∙ sym (behind_changes c.args.core.now.base c.args.session (past c.args.core.now) changes c.requires.ready.tied c.requires.updating)
