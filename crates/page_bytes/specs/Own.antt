-- What a page structure keeps to. Texts, node numbers, schema entries and blocks of descriptors stand on the pages of one
-- space, each on pages of its own kinds, and each has its own fields of other pages: of the head, and blocks of schema pages
-- too. A call of one changes nothing else, and makes pages by the head's next page number alone.
use Rattle.std.specs.Prelude.{◌≡◌, ◌≢◌, ℕ, ◌+◌, ◌<◌, ◌≤◌, ◌⊎◌, Bool, IsTrue, List, [], ◌∷◌, length, slice_index, Option, Some, None}
use Rattle.page_bytes.specs.declared.ids.Space.{Space}
use Rattle.page_bytes.specs.declared.ids.PageId.{PageId}
use Rattle.page_bytes.specs.Fields.{bytes_at}
use Rattle.page_bytes.specs.Head.{LAST_PAGE}
use Rattle.page_bytes.specs.Known.{is_unknown}
use Rattle.page_bytes.specs.Seen.{PagesByNumber, seen, bytes, next_of}
use Rattle.page_bytes.specs.Work.{Work}

-- A field of a page: the page's number, the field's first byte and how many it has.
pub record PageField : Type 0 where
  pub page : ℕ
  pub at : ℕ
  pub width : ℕ

-- What is a structure's own: the kinds of its pages, and its fields of pages of other kinds.
pub record Own : Type 0 where
  pub is_kind : ℕ → Bool
  pub fields : List PageField

-- the page is there, and is of one of the structure's kinds
abbrev pub HasOwnPage : Own → Option (List ℕ) → Type 0
HasOwnPage own None = ⊥
HasOwnPage own (Some page) = IsTrue (own.is_kind (slice_index page 0))

-- it is, if it is there
abbrev pub IsOwnPage : Own → Option (List ℕ) → Type 0
IsOwnPage own None = Unit {0}
IsOwnPage own (Some page) = IsTrue (own.is_kind (slice_index page 0))

-- the page has a number that the head's next page number has passed
abbrev pub IsNewNumber : PagesByNumber → PagesByNumber → ℕ → Type 0
IsNewNumber old new n = (next_of old ≤ n) × (n < next_of new)

-- none of these fields is one of the page n
abbrev pub HasNoField : List PageField → ℕ → Type 0
HasNoField [] n = Unit {0}
HasNoField (field ∷ fields) n = (field.page ≢ n) × HasNoField fields n

-- the m bytes at a place of the page n have nothing of these fields
abbrev pub AreBeside : List PageField → ℕ → ℕ → ℕ → Type 0
AreBeside [] n at m = Unit {0}
AreBeside (field ∷ fields) n at m = ((field.page ≢ n) ⊎ ((at + m ≤ field.at) ⊎ (field.at + field.width ≤ at))) × AreBeside fields n at m

-- fields of a page were written, and nothing else of it: its kind, its length and all bytes beside the fields are as they were
pub record IsFieldWrite (fields : List PageField) (n : ℕ) (old new : List ℕ) : Type 0 where
  pub kind : slice_index new 0 ≡ slice_index old 0
  pub long : length new ≡ length old
  pub beside : (at m : ℕ) → AreBeside fields n at m → bytes_at at m new ≡ bytes_at at m old

-- the page was there and is there, and nothing but these fields of it was written
abbrev pub HasFieldWrite : List PageField → ℕ → Option (List ℕ) → Option (List ℕ) → Type 0
HasFieldWrite fields n (Some old) (Some new) = IsFieldWrite fields n old new
HasFieldWrite fields n (Some old) None = ⊥
HasFieldWrite fields n None new = ⊥

-- a page was one of the structure's, or has a new number, and is one of the structure's now, if it is there
abbrev pub ChangesOwn : Own → PagesByNumber → PagesByNumber → ℕ → Type 0
ChangesOwn own old new n = (HasOwnPage own (old n) ⊎ IsNewNumber old new n) × IsOwnPage own (new n)

-- a page is as it was, or it changed as the structure's own, or fields of the structure were written in it
abbrev pub KeepsPage : Own → PagesByNumber → PagesByNumber → ℕ → Type 0
KeepsPage own old new n = (new n ≡ old n) ⊎ (ChangesOwn own old new n ⊎ HasFieldWrite own.fields n (old n) (new n))

-- The call kept to the structure's own, and made `most` pages at most, one for each number that the head's next page number has
-- passed, which stays within page numbers. The head is as long as it was, and as it was beside the structure's fields and the
-- next page number, at 2. What isn't known is told by `all`. What the workspace was given is as it was, and what was known is.
pub record KeepsToOwn (own : Own) (most : ℕ) (w new : Work) (all : PageId → Option (List ℕ)) (space : Space) : Type 0 where
  pub pages : (n : ℕ) → 0 < n → KeepsPage own (seen w.now all space) (seen new.now all space) n
  pub head : (at m : ℕ) → AreBeside own.fields 0 at m → (at + m ≤ 2) ⊎ (10 ≤ at)
      → bytes_at at m (bytes (seen new.now all space) 0) ≡ bytes_at at m (bytes (seen w.now all space) 0)
  pub long : length (bytes (seen new.now all space) 0) ≡ length (bytes (seen w.now all space) 0)
  pub raised : next_of (seen w.now all space) ≤ next_of (seen new.now all space)
  pub most_made : next_of (seen new.now all space) ≤ next_of (seen w.now all space) + most
  pub last : next_of (seen w.now all space) ≤ LAST_PAGE → next_of (seen new.now all space) ≤ LAST_PAGE
  pub made : (n : ℕ) → 0 < n → IsNewNumber (seen w.now all space) (seen new.now all space) n → HasOwnPage own (seen new.now all space n)
  pub others : (other : Space) (n : ℕ) → other ≢ space → seen new.now all other n ≡ seen w.now all other n
  pub known : (id : PageId) → IsTrue (is_unknown new.now id) → IsTrue (is_unknown w.now id)
  pub below : new.below ≡ w.below
