use Rattle.std.proofs.Common.{◌<◌, IfSome, length, subst, sym}
use Rattle.page_versions.specs.Purging.{purged}
use Rattle.page_versions.proofs.Chaining.{some-purged}
use Rattle.page_versions.proofs.Paging.{changed-insert, filled-insert}
use Rattle.page_versions.proofs.moving.purge_one.Goals as goal

pub returns-then-has-clause-filled : goal.returns-then-has-clause-filled
returns-then-has-clause-filled c =
    let some = subst (λ o. IfSome o (λ chain. 0 < length chain)) c.lend.ensures.value (c.requires.filled c.args.id) in
    filled-insert c.args.table.now c.args.id c.purge.new.self c.requires.filled
    (subst (λ chain. 0 < length chain) (sym c.purge.ensures) (some-purged c.args.staged c.args.snapshots.now.slots c.lend.result.now some))

pub returns-then-has-clause-purged : goal.returns-then-has-clause-purged
returns-then-has-clause-purged c =
    changed-insert (purged c.args.staged c.args.snapshots.now.slots) c.args.table.now c.args.id c.lend.result.now c.purge.new.self c.lend.ensures.value
    c.purge.ensures
