use Rattle.std.proofs.Common.{◌≡◌, false, take, refl, sym, subst}
use Rattle.std.proofs.lemmas.List.{take_all}
use Rattle.page_bytes.specs.declared.ids.PageId.{PageId}
use Rattle.page_bytes.specs.Changes.{change_of}
use Rattle.page_versions.specs.ChainMap.{chain_in}
use Rattle.page_versions.specs.Staging.{with_image, staged_image}
use Rattle.page_versions.proofs.Chaining.{take_at}
use Rattle.page_versions.proofs.Stages.{stages_none, stages_more, changes_more}
use Rattle.page_versions.proofs.staging.stage_changes.Goals as goal

pub loop-change-init : goal.loop-change-init
loop-change-init c = record { under = stages_none c.args.commit c.args.table.now c.args.touched.now.items c.requires.filled; done = λ q. refl }

pub returns-in_err-image-clause-under : goal.returns-in_err-image-clause-under
returns-in_err-image-clause-under c = c.loop-change.invariant.under

pub stage_one-requires : goal.stage_one-requires
stage_one-requires c = record { filled = c.loop-change.invariant.under.filled }

pub returns-in_err-stage_one-clause-under : goal.returns-in_err-stage_one-clause-under
returns-in_err-stage_one-clause-under c =
    stages_more c.args.commit c.args.table.now c.loop-change.table c.stage_one.new.table c.args.touched.now.items c.loop-change.touched.items
    c.stage_one.new.touched.items c.loop-change.invariant.under c.stage_one.ensures.under

pub loop-change-preserved : goal.loop-change-preserved
loop-change-preserved c = record {
  under = stages_more c.args.commit c.args.table.now c.loop-change.table c.stage_one.new.table c.args.touched.now.items c.loop-change.touched.items
      c.stage_one.new.touched.items c.loop-change.invariant.under c.stage_one.ensures.under;
  done = subst (λ cs. (q : PageId)
      → chain_in c.stage_one.new.table q ≡ with_image c.args.commit (staged_image (change_of cs q) false) (chain_in c.args.table.now q))
      (sym (take_at c.args.changes.now c.loop-change.change-index c.change-item.result c.loop-change-test.true c.change-item.is))
      (changes_more c.args.commit (take c.loop-change.change-index c.args.changes.now) c.change-item.result (chain_in c.args.table.now)
      (chain_in c.loop-change.table) (chain_in c.stage_one.new.table) c.in_ok-image.image
      c.requires.before c.in_ok-image.ensures c.loop-change.invariant.done c.in_ok-stage_one.ensures.ok);
}

pub returns-clause-under : goal.returns-clause-under
returns-clause-under c = c.loop-change.invariant.under

pub returns-clause-ok : goal.returns-clause-ok
returns-clause-ok c =
    subst (λ cs. (q : PageId) → chain_in c.loop-change.table q ≡ with_image c.args.commit (staged_image (change_of cs q) false) (chain_in c.args.table.now q))
    (take_all c.loop-change.change-index c.args.changes.now c.loop-change-test.false) c.loop-change.invariant.done
