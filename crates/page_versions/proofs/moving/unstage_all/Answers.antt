use Rattle.std.proofs.Common.{take, get_or, refl, sym, subst}
use Rattle.std.proofs.lemmas.List.{take_more, take_all}
use Rattle.page_bytes.specs.declared.ids.PageId.{PageId}
use Rattle.page_versions.specs.ChainMap.{chain_in}
use Rattle.page_versions.specs.Purging.{unstaged}
use Rattle.page_versions.proofs.Paging.{Done, done_more}
use Rattle.page_versions.proofs.moving.unstage_all.Goals as goal

abbrev no_page : PageId
no_page = record { space = record { commit = 0; ordinal = 0 }; number = 0 }

pub loop-id-init : goal.loop-id-init
loop-id-init c = record { filled = c.requires.filled; done = λ q. refl }

pub unstage_one-requires : goal.unstage_one-requires
unstage_one-requires c = record { filled = c.loop-id.invariant.filled }

pub loop-id-preserved : goal.loop-id-preserved
loop-id-preserved c =
    let f = unstaged c.args.commit in let id = get_or c.args.pages.now c.loop-id.id-index no_page in record {
      filled = c.unstage_one.ensures.filled;
      done = subst (λ ps. Done f (chain_in c.args.table.now) ps (chain_in c.unstage_one.new.table))
          (sym (take_more c.args.pages.now c.loop-id.id-index no_page c.loop-id-test.true))
          (done_more f (chain_in c.args.table.now) (chain_in c.loop-id.table) (chain_in c.unstage_one.new.table) (take c.loop-id.id-index c.args.pages.now) id
          (c.requires.once) c.loop-id.invariant.done c.unstage_one.ensures.unstaged);
    }

pub returns-clause-filled : goal.returns-clause-filled
returns-clause-filled c = c.loop-id.invariant.filled

pub returns-clause-unstaged : goal.returns-clause-unstaged
returns-clause-unstaged c =
    subst (λ ps. Done (unstaged c.args.commit) (chain_in c.args.table.now) ps (chain_in c.loop-id.table))
    (take_all c.loop-id.id-index c.args.pages.now c.loop-id-test.false) c.loop-id.invariant.done
