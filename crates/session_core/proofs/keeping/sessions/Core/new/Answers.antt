use Rattle.std.proofs.Common.{◌≡◌, ◌∷◌, [], rules, sym, subst}
use Rattle.xml_model.specs.Forest.{IsForest}
use Rattle.session_core.specs.Keeping.Kept.{kept_of}
use Rattle.session_core.proofs.Cores.{core_new}
use Rattle.session_core.proofs.keeping.sessions.Core.new.Goals as goal

pub invariant_of-result : goal.invariant_of-result
invariant_of-result c =
    let kept : c.push.new.self.items ≡ c.of-base_forest.result.value ∷ [] = search rules in
    core_new (kept_of c.args.commit c.args.generation c.of-base_forest.result.value []).base _ _ _ _ _ c.new.ensures.items c.new-2.ensures c.new-3.ensures kept
    (subst IsForest (sym c.of-base_forest.ensures) c.is_forest.ensures)
