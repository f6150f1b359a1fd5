-- What a table ends as, once the borrow of one of its chains has ended.
use Rattle.std.specs.Prelude.{List}
use Rattle.std.specs.Borrow.{Fml, MutBor, Lends}
use Rattle.std.specs.FinMap as map
use Rattle.page_bytes.specs.declared.ids.PageId.{PageId}
use Rattle.page_versions.specs.declared.version.Version.{Version}
use Rattle.page_versions.specs.ChainMap.{ChainMap}
use Rattle.page_versions.specs.contracts.table.ChainTable as table
use Rattle.page_versions.specs.contracts.chain.Chain as chain

-- the page has the last chain written
abbrev pub lends_chain : MutBor ChainMap → PageId → MutBor (List Version) → Fml
lends_chain t id r = Lends table.the_row chain.the_row t r (map.insert t.now id)
