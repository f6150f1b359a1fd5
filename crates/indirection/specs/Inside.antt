-- What the parts of a call tell each other: what pages of node numbers are, and that node numbers' own was kept to.
use Rattle.std.specs.Prelude.{◌≡◌, ℕ, ◌≤◌, ◌⊎◌}
use Rattle.page_bytes.specs.declared.ids.Space.{Space}
use Rattle.page_bytes.specs.Kept as kept
use Rattle.page_bytes.specs.Kept.{IsWholePage}
use Rattle.page_bytes.specs.Known.{Known}
use Rattle.page_bytes.specs.Work.{Work}
use Rattle.indirection.specs.Owned.{number_pages}

-- a page of node numbers is there with its 4,096 bytes. It isn't the head
abbrev pub IsNumberPage : Known → Space → ℕ → Type 0
IsNumberPage k space n = IsWholePage number_pages k space n

-- a link to a new page may be written there: the head's to the root, or one of a page of node numbers, behind its kind
abbrev pub TakesLink : Known → Space → ℕ → ℕ → Type 0
TakesLink k space parent at = ((parent ≡ 0) × (at ≡ 18)) ⊎ (IsNumberPage k space parent × (1 ≤ at))

-- node numbers' own was kept to, with `most` new pages at most
abbrev pub HasKept : ℕ → Work → Work → Space → Type 0
HasKept most w new space = kept.HasKept number_pages most w new space
