use Rattle.std.proofs.Common.{take}
use Rattle.page_versions.specs.ChainMap.{chain_in}
use Rattle.page_versions.specs.Purging.{purged}
use Rattle.page_versions.specs.Inside.{NoneEmpty}
use Rattle.page_versions.proofs.Paging.{Done}
use Rattle.page_versions.proofs.moving.purge_all.Given as goal

abbrev pub invariant-loop-id : goal.invariant-loop-id
invariant-loop-id l = record {
  filled : NoneEmpty l.table;
  done : Done (purged l.staged l.snapshots.slots) (chain_in l.fn.table) (take l.id-index l.pages) (chain_in l.table);
}
