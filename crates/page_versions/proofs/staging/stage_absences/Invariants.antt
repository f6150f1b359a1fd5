use Rattle.std.proofs.Common.{take}
use Rattle.page_versions.specs.declared.version.Image.TheVariants.{Absent}
use Rattle.page_versions.specs.ChainMap.{chain_in}
use Rattle.page_versions.specs.Inside.{staged_once, StagesUnder}
use Rattle.page_versions.proofs.Paging.{Done}
use Rattle.page_versions.proofs.staging.stage_absences.Given as goal

abbrev pub invariant-loop-id : goal.invariant-loop-id
invariant-loop-id l = record {
  under : StagesUnder l.commit l.fn.table l.table l.fn.touched.items l.touched.items;
  done : Done (staged_once l.commit Absent) (chain_in l.fn.table) (take l.id-index l.pages) (chain_in l.table);
}
