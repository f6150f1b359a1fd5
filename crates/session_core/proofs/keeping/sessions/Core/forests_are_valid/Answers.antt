use Rattle.std.proofs.Common.{ℕ, subst}
use Rattle.xml_model.specs.Forest.{IsForest}
use Rattle.session_core.specs.History.{past_of}
use Rattle.session_core.specs.History.Transactions.{commits, after}
use Rattle.session_core.specs.Keeping.Kept.{Kept, past, kept_of}
use Rattle.session_core.specs.Keeping.Ties.{AllForests}
use Rattle.session_core.proofs.Adding.{valid_at}
use Rattle.session_core.proofs.keeping.sessions.Core.forests_are_valid.Goals as goal

pub returns : goal.returns
returns c = let f = c.self.inside in
    subst (λ (k : Kept). (n : ℕ) → IsForest (after k.base (past k) n)) c.self.view_is
    (λ n. valid_at f.base_forest.value (commits (past_of f.journal.items)) n (subst AllForests c.self.invariant.ties.forests_are c.self.invariant.valid))
