use Rattle.std.proofs.Common.{◌≡◌, false, take}
use Rattle.page_bytes.specs.declared.ids.PageId.{PageId}
use Rattle.page_bytes.specs.Changes.{change_of}
use Rattle.page_versions.specs.ChainMap.{chain_in}
use Rattle.page_versions.specs.Staging.{with_image, staged_image}
use Rattle.page_versions.specs.Inside.{StagesUnder}
use Rattle.page_versions.proofs.staging.stage_changes.Given as goal

abbrev pub invariant-loop-change : goal.invariant-loop-change
invariant-loop-change l = record {
  under : StagesUnder l.commit l.fn.table l.table l.fn.touched.items l.touched.items;
  done : (q : PageId) → chain_in l.table q ≡ with_image l.commit (staged_image (change_of (take l.change-index l.changes) q) false) (chain_in l.fn.table q);
}
