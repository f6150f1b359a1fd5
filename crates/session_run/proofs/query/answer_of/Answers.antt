use Rattle.std.proofs.Common.{◌≡◌, sym, ap, subst}
use Rattle.std.specs.Prelude.{Err}
use Rattle.xq_nodes.specs.declared.end.EvalEnd.{EvalEnd}
use Rattle.xml_model.specs.declared.tree_nav.NoFault.{NoFault}
use Rattle.xq_eval.specs.Says.{Says}
use Rattle.session_core.specs.History.Transactions.{says_of}
use Rattle.xml_model.specs.Forest.{Forest, IsForest}
use Rattle.xml_model.specs.Statement.{lines, error, query_answer}
use Rattle.session_run.proofs.QueryLines.{plain_answer}
use Rattle.session_run.proofs.query.answer_of.Goals as goal

pub returns-in-Ok-clause-plain : goal.returns-in-Ok-clause-plain
returns-in-Ok-clause-plain c =
    plain_answer c.args.docs.now c.args.expr.now c.in_ok-nav.ensures.valid c.requires.named c.in-Ok.lines
    (subst (λ (F : Forest). IsForest F → query_answer F c.args.expr.now ≡ lines c.in-Ok.lines) c.in_ok-nav.ensures.forest c.in-Ok.ensures c.in_ok-nav.ensures.valid)

pub returns-in-Err-Code-clause-says : goal.returns-in-Err-Code-clause-says
returns-in-Err-Code-clause-says c =
    let nav : Forest = c.in_ok-nav.nav in
    let said : IsForest nav → query_answer nav c.args.expr.now ≡ error c.in-Err-Code.code =
    subst (λ (end : EvalEnd NoFault). Says (IsForest nav) (λ _. ⊥) (Err end) (query_answer nav c.args.expr.now)) c.in-Err-Code.field-0-is c.in-Err-Code.ensures in
    sym (ap says_of (subst (λ (F : Forest). IsForest F → query_answer F c.args.expr.now ≡ error c.in-Err-Code.code) c.in_ok-nav.ensures.forest said
    c.in_ok-nav.ensures.valid))
