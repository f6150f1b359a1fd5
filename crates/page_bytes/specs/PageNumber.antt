-- The number of the page that an address is in: 256 pages to a layer.
use Rattle.std.specs.Prelude.{ℕ, ◌+◌, ◌*◌}
use Rattle.page_bytes.specs.declared.ids.Addr.{Addr}

-- the pages of all layers before it, and those before it in its own layer
abbrev pub page_number : Addr → ℕ
page_number a = a.layer * 256 + a.page

-- the last layer that page numbers reach
abbrev pub LAST_LAYER : ℕ
LAST_LAYER = 72057594037927935
