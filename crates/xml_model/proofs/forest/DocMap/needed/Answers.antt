use Rattle.std.proofs.Common.{◌≡◌, ℕ, List, Some, take, length, ap, sym, subst, ◌∙◌, arith}
use Rattle.std.specs.Arc.{arc_value}
use Rattle.std.specs.Option.{option_copied}
use Rattle.xml_model.specs.Changes.{laid_over, unshared}
use Rattle.std.proofs.Math.Seq.{take-length}
use Rattle.std.proofs.lemmas.Result.{IfOk-weaker}
use Rattle.xq_ast.specs.declared.need.Need.{Need}
use Rattle.xml_model.specs.Forest.{Forest, no_documents}
use Rattle.xml_model.proofs.Laying.{laid-none}
use Rattle.xml_model.proofs.Needed.{OnlyNeeded, none_needed, next_put, next_absent, needed_agree, others_absent}
use Rattle.xml_model.proofs.forest.DocMap.needed.Goals as goal
use Rattle.xml_model.proofs.forest.DocMap.needed.Goals.{in-Some+in_ok-doc+in_ok-copy+in_ok-insert, in_default}

pub loop-need-init : goal.loop-need-init
loop-need-init c =
    none_needed (laid_over c.args.changes.now.changes c.args.self.now) (laid_over c.new-named.result.changes no_documents)
    (ap (λ changes. laid_over changes no_documents) c.new-named.ensures ∙ laid-none no_documents)

pub loop-need-preserved : goal.loop-need-preserved
loop-need-preserved c =
    let F = laid_over c.args.changes.now.changes c.args.self.now in
    let needs = c.as_slice-need-items.result.now in
    elim c.match-seen_shared.branch [
      | in-Some+in_ok-doc+in_ok-copy+in_ok-insert w ↦
          next_put needs c.loop-need.need-index c.need-item.result F c.loop-need.named.changes c.match-seen_shared.named.changes (omega arith) c.need-item.is
          c.loop-need.invariant w.in_ok-copy.field-0 (arc_value w.in_ok-doc.doc)
          (sym c.seen_shared.ensures.document ∙ ap (λ o. unshared (option_copied o)) w.in-Some.is ∙ ap (λ d. Some d) (sym w.in_ok-doc.ensures))
          w.in_ok-copy.ensures (ap (λ named. named.changes) w.named-is ∙ w.in_ok-insert.ensures.ok)
      | in_default w ↦
          next_absent needs c.loop-need.need-index c.need-item.result F c.loop-need.named.changes c.match-seen_shared.named.changes (omega arith) c.need-item.is
          c.loop-need.invariant (sym c.seen_shared.ensures.document ∙ ap (λ o. unshared (option_copied o)) w.in_default.is) (ap (λ named. named.changes) w.named-is)
    ]

all_needed : (needs : List Need) (i : ℕ) (F G : Forest) → i ≡ length needs → OnlyNeeded (take i needs) F G → OnlyNeeded needs F G
all_needed needs i F G all = subst (λ ns. OnlyNeeded ns F G) (ap (λ n. take n needs) all ∙ take-length needs)

pub returns : goal.returns
returns c =
    let F = laid_over c.args.changes.now.changes c.args.self.now in
    let G = laid_over c.loop-need.named.changes no_documents in
    let only : OnlyNeeded c.args.needs.now F G =
    subst (λ needs. OnlyNeeded needs F G) c.as_slice-need-items.ensures
    (all_needed c.as_slice-need-items.result.now c.loop-need.need-index F G (omega arith) c.loop-need.invariant) in
    let is : (docs : Forest) → docs ≡ laid_over c.loop-need.named.changes c.new.result → OnlyNeeded c.args.needs.now F docs =
    λ docs e. subst (OnlyNeeded c.args.needs.now F) (sym (e ∙ ap (laid_over c.loop-need.named.changes) c.new.ensures)) only in
    record {
      named = IfOk-weaker c.with_changes.result _ _ (λ docs e. needed_agree c.args.needs.now F docs (is docs e)) c.with_changes.ensures;
      others = IfOk-weaker c.with_changes.result _ _ (λ docs e. others_absent c.args.needs.now F docs (is docs e)) c.with_changes.ensures;
    }
