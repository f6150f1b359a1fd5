use Rattle.std.proofs.Common.{take, get_or, refl, sym, subst}
use Rattle.std.proofs.lemmas.List.{take_more, take_all}
use Rattle.page_bytes.specs.declared.ids.PageId.{PageId}
use Rattle.page_versions.specs.declared.version.Image.TheVariants.{Absent}
use Rattle.page_versions.specs.ChainMap.{chain_in}
use Rattle.page_versions.specs.Inside.{staged_once}
use Rattle.page_versions.proofs.Paging.{Done, done_more}
use Rattle.page_versions.proofs.Stages.{stages_none, stages_more, once-once}
use Rattle.page_versions.proofs.staging.stage_absences.Goals as goal

abbrev no_page : PageId
no_page = record { space = record { commit = 0; ordinal = 0 }; number = 0 }

pub loop-id-init : goal.loop-id-init
loop-id-init c = record { under = stages_none c.args.commit c.args.table.now c.args.touched.now.items c.requires.filled; done = λ q. refl }

pub stage_one-requires : goal.stage_one-requires
stage_one-requires c = record { filled = c.loop-id.invariant.under.filled }

pub returns-in_err-stage_one-clause-under : goal.returns-in_err-stage_one-clause-under
returns-in_err-stage_one-clause-under c =
    stages_more c.args.commit c.args.table.now c.loop-id.table c.stage_one.new.table c.args.touched.now.items c.loop-id.touched.items
    c.stage_one.new.touched.items c.loop-id.invariant.under c.stage_one.ensures.under

pub loop-id-preserved : goal.loop-id-preserved
loop-id-preserved c =
    let f = staged_once c.args.commit Absent in let id = get_or c.args.pages.now c.loop-id.id-index no_page in record {
      under = stages_more c.args.commit c.args.table.now c.loop-id.table c.stage_one.new.table c.args.touched.now.items c.loop-id.touched.items
          c.stage_one.new.touched.items c.loop-id.invariant.under c.stage_one.ensures.under;
      done = subst (λ ps. Done f (chain_in c.args.table.now) ps (chain_in c.stage_one.new.table))
          (sym (take_more c.args.pages.now c.loop-id.id-index no_page c.loop-id-test.true))
          (done_more f (chain_in c.args.table.now) (chain_in c.loop-id.table) (chain_in c.stage_one.new.table) (take c.loop-id.id-index c.args.pages.now) id
          (λ q. once-once c.args.commit Absent (chain_in c.args.table.now q)) c.loop-id.invariant.done c.in_ok-stage_one.ensures.ok);
    }

pub returns-clause-under : goal.returns-clause-under
returns-clause-under c = c.loop-id.invariant.under

pub returns-clause-ok : goal.returns-clause-ok
returns-clause-ok c =
    subst (λ ps. Done (staged_once c.args.commit Absent) (chain_in c.args.table.now) ps (chain_in c.loop-id.table))
    (take_all c.loop-id.id-index c.args.pages.now c.loop-id-test.false) c.loop-id.invariant.done
