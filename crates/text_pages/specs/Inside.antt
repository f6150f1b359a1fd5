-- What the parts of a call tell each other: that a place is inside a page, that a page is there, and that pages stay there.
use Rattle.std.specs.Prelude.{◌≡◌, ℕ, ◌+◌, ◌<◌, ◌≤◌, IfOk, IsTrue, length}
use Rattle.page_bytes.specs.declared.ids.Space.{Space}
use Rattle.page_bytes.specs.declared.ids.PageId.{PageId}
use Rattle.page_bytes.specs.Known.{Known, is_there}
use Rattle.page_bytes.specs.Links.{page_in}
use Rattle.page_bytes.specs.Work.{first_bytes}
use Rattle.text_pages.specs.Finding.{first_in}
use Rattle.text_pages.specs.declared.forms.Hole.{Hole}
use Rattle.text_pages.specs.declared.forms.Tried.{Tried}
use Rattle.text_pages.specs.declared.forms.Tried.TheVariants.{Absent, Full, Fits}

-- a place that was found is inside its page with a piece of k bytes
abbrev pub IsInside : ℕ → Tried → Type 0
IsInside k Absent = Unit {0}
IsInside k (Full room) = Unit {0}
IsInside k (Fits place) = (place.slot < 1022) × (place.at + k ≤ 4096)

-- and the page is there
abbrev pub IsOn : Known → PageId → Tried → Type 0
IsOn k id Absent = Unit {0}
IsOn k id (Full room) = Unit {0}
IsOn k id (Fits place) = IsTrue (is_there k id)

-- a hole is inside its page, and its piece not below the lowest
abbrev pub IsHole : Hole → Type 0
IsHole hole = (hole.count ≤ 1022) × (hole.slot < hole.count) × (hole.lowest ≤ hole.at) × (hole.at + hole.length ≤ 4096)

-- a page, if it is there, has 4,096 bytes
abbrev pub IsLong : Known → PageId → Type 0
IsLong k id = length (first_bytes k id) ≡ 4096

-- and so has the page that is tried first, if there is one
abbrev pub IsFirstLong : Known → Space → Type 0
IsFirstLong k space = IfOk (first_in k space) (λ number. 0 < number → IsLong k (page_in space number))
