-- What is put in front of a chain when a commit is staged.
use Rattle.std.specs.Prelude.{ℕ, Bool, true, false, ◌&&◌, ◌==◌, List, [], ◌∷◌, Option, Some, None, if◌then◌else◌}
use Rattle.std.specs.List.{list_any}
use Rattle.page_bytes.specs.declared.ids.Space.{Space}
use Rattle.page_bytes.specs.declared.ids.PageId.{PageId}
use Rattle.page_bytes.specs.declared.lists.PageChange.{PageChange}
use Rattle.page_bytes.specs.Changes.{change_of}
use Rattle.page_versions.specs.declared.version.Version.{Version}
use Rattle.page_versions.specs.declared.version.Image.{Image}
use Rattle.page_versions.specs.declared.version.Image.TheVariants.{Resident, Absent}

-- whether the space is one of these
abbrev pub is_dropped : List Space → Space → Bool
is_dropped spaces space = list_any (λ s. s.commit == space.commit && s.ordinal == space.ordinal) spaces

-- the image of what a page is now
abbrev pub image_of : Option (List ℕ) → Image
image_of None = Absent
image_of (Some page) = Resident page

-- whether a chain has a version
abbrev pub has_versions : List Version → Bool
has_versions [] = false
has_versions (v ∷ vs) = true

-- the image that a page gets: that of its change, or else an absence where its space is dropped and it has versions
abbrev pub staged_image : Option (Option (List ℕ)) → Bool → Option Image
staged_image (Some page) gone = Some (image_of page)
staged_image None gone = if gone then Some Absent else None

-- the chain with a version of the commit in front, if there is an image
abbrev pub with_image : ℕ → Option Image → List Version → List Version
with_image n None chain = chain
with_image n (Some image) chain = record { commit = n; image = image } ∷ chain

-- a page's chain with what the commit makes of it in front, if it changes the page or drops its space
abbrev pub staged_chain : ℕ → List PageChange → List Space → PageId → List Version → List Version
staged_chain n changes dropped id chain = with_image n (staged_image (change_of changes id) (is_dropped dropped id.space && has_versions chain)) chain
