-- The chains of all pages: for each page its versions, the newest first.
use Rattle.std.specs.Prelude.{List, [], unwrap_or}
use Rattle.std.specs.Coded.{Coded, coded_list}
use Rattle.std.specs.FinMap as map
use Rattle.page_bytes.specs.declared.ids.PageId.{PageId}
use Rattle.page_bytes.specs.Order.{page_cmp, page_code}
use Rattle.page_versions.specs.declared.version.Version.{Version}
use Rattle.page_versions.specs.contracts.version.Version as the_version

-- chains by their pages
abbrev pub ChainMap : Type 0
ChainMap = map.FinMap page_cmp (List Version)

-- how the chains are stored
abbrev pub chain_map_code : Coded ChainMap
chain_map_code = map.code page_code (coded_list the_version.the_row.coded)

-- the chain of a page, which has no versions where there is none
abbrev pub chain_in : ChainMap → PageId → List Version
chain_in m id = unwrap_or (map.get m id) []
