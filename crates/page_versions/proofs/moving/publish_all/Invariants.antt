use Rattle.std.proofs.Common.{◌≡◌, ◌≤◌, ◌+◌, ◌<◌, true, None, take, length, vec_len, vec_capacity}
use Rattle.page_bytes.specs.declared.ids.PageId.{PageId}
use Rattle.page_versions.specs.ChainMap.{chain_in}
use Rattle.page_versions.specs.Purging.{purged}
use Rattle.page_versions.specs.Inside.{NoneEmpty, is_listed}
use Rattle.page_versions.proofs.Paging.{Done}
use Rattle.page_versions.proofs.moving.publish_all.Given as goal

abbrev pub invariant-loop-id : goal.invariant-loop-id
invariant-loop-id l = record {
  filled : NoneEmpty l.table;
  done : Done (purged None l.snapshots.slots) (chain_in l.fn.table) (take l.id-index l.pages) (chain_in l.table);
  long : (q : PageId) → is_listed (take l.id-index l.pages) q ≡ true → 1 < length (chain_in l.table q) → is_listed l.older.items q ≡ true;
  kept : (q : PageId) → is_listed l.fn.older.items q ≡ true → is_listed l.older.items q ≡ true;
  room : vec_len l.older + length l.pages ≤ vec_capacity l.older + l.id-index;
}
