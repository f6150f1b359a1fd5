use Rattle.std.proofs.Common.{take, get_or, refl, sym, subst}
use Rattle.std.proofs.lemmas.List.{take_more, take_all}
use Rattle.page_bytes.specs.declared.ids.PageId.{PageId}
use Rattle.page_versions.specs.ChainMap.{chain_in}
use Rattle.page_versions.specs.Purging.{purged}
use Rattle.page_versions.proofs.Chaining.{purged-purged}
use Rattle.page_versions.proofs.Paging.{Done, done_more}
use Rattle.page_versions.proofs.moving.purge_all.Goals as goal

abbrev no_page : PageId
no_page = record { space = record { commit = 0; ordinal = 0 }; number = 0 }

pub loop-id-init : goal.loop-id-init
loop-id-init c = record { filled = c.requires.filled; done = λ q. refl }

pub purge_one-requires : goal.purge_one-requires
purge_one-requires c = record { filled = c.loop-id.invariant.filled }

pub loop-id-preserved : goal.loop-id-preserved
loop-id-preserved c =
    let f = purged c.args.staged c.args.snapshots.now.slots in let id = get_or c.args.pages.now c.loop-id.id-index no_page in record {
      filled = c.purge_one.ensures.filled;
      done = subst (λ ps. Done f (chain_in c.args.table.now) ps (chain_in c.purge_one.new.table))
          (sym (take_more c.args.pages.now c.loop-id.id-index no_page c.loop-id-test.true))
          (done_more f (chain_in c.args.table.now) (chain_in c.loop-id.table) (chain_in c.purge_one.new.table) (take c.loop-id.id-index c.args.pages.now) id
          (λ q. purged-purged c.args.staged c.args.snapshots.now.slots (chain_in c.args.table.now q)) c.loop-id.invariant.done c.purge_one.ensures.purged);
    }

pub returns-clause-filled : goal.returns-clause-filled
returns-clause-filled c = c.loop-id.invariant.filled

pub returns-clause-purged : goal.returns-clause-purged
returns-clause-purged c =
    subst (λ ps. Done (purged c.args.staged c.args.snapshots.now.slots) (chain_in c.args.table.now) ps (chain_in c.loop-id.table))
    (take_all c.loop-id.id-index c.args.pages.now c.loop-id-test.false) c.loop-id.invariant.done
