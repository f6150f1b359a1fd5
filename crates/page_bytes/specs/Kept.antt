-- What the parts of a call tell each other: that the head and the structure's pages are there with all their bytes, and that they
-- kept to the structure's own.
use Rattle.std.specs.Prelude.{◌≡◌, ℕ, ◌<◌, IsTrue, List, length, slice_index, Option, is_some, true}
use Rattle.page_bytes.specs.declared.ids.Space.{Space}
use Rattle.page_bytes.specs.declared.ids.PageId.{PageId}
use Rattle.page_bytes.specs.Known.{Known, is_there}
use Rattle.page_bytes.specs.Links.{page_in}
use Rattle.page_bytes.specs.Own.{Own, KeepsToOwn}
use Rattle.page_bytes.specs.Seen.{seen}
use Rattle.page_bytes.specs.Work.{Work, first_bytes}

-- The head is there with its 4,096 bytes.
pub record IsWholeHead (k : Known) (space : Space) : Type 0 where
  pub there : IsTrue (is_there k (page_in space 0))
  pub long : length (first_bytes k (page_in space 0)) ≡ 4096

-- A page of the structure is there with its 4,096 bytes. It isn't the head.
pub record IsWholePage (own : Own) (k : Known) (space : Space) (n : ℕ) : Type 0 where
  pub beside : 0 < n
  pub there : IsTrue (is_there k (page_in space n))
  pub long : length (first_bytes k (page_in space n)) ≡ 4096
  pub kind : IsTrue (own.is_kind (slice_index (first_bytes k (page_in space n)) 0))

-- The structure's own was kept to, with `most` new pages at most; all pages that were there are; and the head is whole.
pub record HasKept (own : Own) (most : ℕ) (w new : Work) (space : Space) : Type 0 where
  pub kept : (all : PageId → Option (List ℕ)) → KeepsToOwn own most w new all space
  pub stays : (all : PageId → Option (List ℕ)) (n : ℕ) → is_some (seen w.now all space n) ≡ true → is_some (seen new.now all space n) ≡ true
  pub head : IsWholeHead new.now space
