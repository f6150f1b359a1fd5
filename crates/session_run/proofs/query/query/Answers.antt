use Rattle.std.proofs.Common.{◌≡◌, sym, ap, subst, refl, ◌∙◌}
use Rattle.xq_ast.specs.declared.call.Call.TheVariants.{Query}
use Rattle.session_core.specs.History.Transactions.{says_of}
use Rattle.xml_model.specs.Changes.{laid_over}
use Rattle.xml_model.specs.Needs.{needs, AgreeAt}
use Rattle.xml_model.proofs.QueryNeeds.{query_says}
use Rattle.session_run.specs.Effects.{IsEffect}
use Rattle.session_run.proofs.Statements.{unchanged}
use Rattle.session_run.proofs.query.query.Goals as goal

pub returns-clause-effect : goal.returns-clause-effect
returns-clause-effect c =
    let changes = c.args.changes.now.changes in
    let F = laid_over changes c.args.base.now in
    let expr = c.args.expr.now in
    let agree : AgreeAt (needs (Query expr)) c.in_ok-docs.docs F =
    subst (λ asked. AgreeAt asked c.in_ok-docs.docs F) (c.in_ok-needed.ensures ∙ ap needs c.requires.call) c.in_ok-docs.ensures.named in
    subst (λ call. IsEffect call changes c.args.base.now c.unchanged.result) (sym c.requires.call)
    (unchanged (Query expr) changes c.args.base.now c.unchanged.result c.unchanged.ensures.changes
    (c.unchanged.ensures.says ∙ c.in_ok-answer_of.ensures.says ∙ ap says_of (query_says c.in_ok-docs.docs F expr agree)) (λ G same. refl))
