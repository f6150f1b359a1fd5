-- How long the changes of a record are.
use Rattle.std.proofs.Common.{◌≡◌, ℕ, ◌+◌, List, ◌++◌, length, Some, None, arith, length-append}
use Rattle.page_bytes.specs.declared.ids.PageId.{PageId}
use Rattle.page_bytes.specs.declared.ids.DocEntry.{DocEntry}
use Rattle.redo_log.specs.Record.{number, space_bytes, named_bytes, image_bytes}
use Rattle.redo_log.proofs.Bodies.{length-number}

-- a page that is gone takes 25 bytes
pub length-gone : (id : PageId) → length (space_bytes id.space ++ number id.number ++ image_bytes None) ≡ 25
length-gone id = simp (length-append, length-number) (omega arith)

-- a page with its image takes 25 bytes and those of the image
pub length-image : (id : PageId) (page : List ℕ) → length (space_bytes id.space ++ number id.number ++ image_bytes (Some page)) ≡ 25 + length page
length-image id page = simp (length-append, length-number) (omega arith)

-- a drop takes 2 bytes and those of the name
pub length-drop_of : (name : List ℕ) → length (named_bytes name None) ≡ 2 + length name
length-drop_of name = omega arith

-- a set takes 19 bytes and those of the name
pub length-set_of : (name : List ℕ) (e : DocEntry) → length (named_bytes name (Some e)) ≡ 19 + length name
length-set_of name e = simp (length-append, length-number) (omega arith)
