-- Versions that are in no slot, of which none is staged or later than a commit.
use Rattle.std.specs.Prelude.{ℕ}
use Rattle.std.specs.List.{AllByRecursion}
use Rattle.page_bytes.specs.declared.ids.PageId.{PageId}
use Rattle.page_versions.specs.declared.version.Version.{Version}
use Rattle.page_versions.specs.declared.version.Image.{Image}
use Rattle.page_versions.specs.declared.version.Image.TheVariants.{Resident, Slot, Absent}
use Rattle.page_versions.specs.Kept.{Kept, IsUpTo, chain_of}

-- the image is in no slot
abbrev pub IsOut : Image → Type 0
IsOut (Resident page) = Unit {0}
IsOut (Slot slot) = ⊥
IsOut Absent = Unit {0}

-- no version is in a slot, none is staged, and none is later than the commit
pub record AreFresh (kept : Kept) (newest : ℕ) : Type 0 where
  pub upto : IsUpTo kept newest
  pub out : (id : PageId) → AllByRecursion (λ (v : Version). IsOut v.image) (chain_of kept id)
