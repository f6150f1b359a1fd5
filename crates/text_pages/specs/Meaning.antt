-- What the pages of a document mean as texts: a finite map from references to byte strings. The reference of a text leads along
-- a chain of pieces, whose bytes joined are the text, and no piece is in two texts or twice in one.
use Rattle.std.specs.Prelude.{◌≡◌, ◌≢◌, ℕ, ◌+◌, ◌<◌, ◌≤◌, ◌⊎◌, ◌==◌, ◌||◌, ◌&&◌, Bool, true, false, List, [], ◌∷◌, ◌++◌, length, slice_index, Option, Some, None, IsSome, IsTrue, if◌then◌else◌}
use Rattle.std.specs.declared.cmp.Ordering.{Ordering}
use Rattle.std.specs.Ordering.{nat_cmp, ordering_then}
use Rattle.std.specs.FinMap as map
use Rattle.std.specs.Str.{IsUtf8}
use Rattle.page_bytes.specs.declared.ids.Space.{Space}
use Rattle.page_bytes.specs.declared.ids.PageId.{PageId}
use Rattle.page_bytes.specs.declared.texts.TextRef.{TextRef}
use Rattle.page_bytes.specs.declared.end.PageEnd.{PageEnd}
use Rattle.page_bytes.specs.declared.end.PageEnd.TheVariants.{Damaged}
use Rattle.page_bytes.specs.Head.{is_head, next_page, LAST_PAGE}
use Rattle.page_bytes.specs.Known.{Known}
use Rattle.page_bytes.specs.Links.{page_in}
use Rattle.page_bytes.specs.Texts.{TEXT_KIND, slot_count, piece_at, piece_length, next_piece, piece_text}
use Rattle.text_pages.specs.Slots.{lowest, slots_end}
use Rattle.text_pages.specs.Finding.{tried_first}
use Rattle.text_pages.specs.Putting.{nowhere, piece_count}
use Rattle.page_bytes.specs.Answers.{IsStop, IsSpent}
use Rattle.page_bytes.specs.Seen.{seen, bytes, only}

-- a page of kind 5
abbrev pub IsTextPage : (ℕ → Option (List ℕ)) → ℕ → Type 0
IsTextPage pages n = slice_index (bytes pages n) 0 ≡ TEXT_KIND

-- a page has a piece in a slot
abbrev pub HasPiece : List ℕ → ℕ → Type 0
HasPiece page slot = (slot < slot_count page) × (0 < piece_at slot page)

-- two pieces of a page have no byte in common
abbrev pub AreApart : List ℕ → ℕ → ℕ → Type 0
AreApart page s t = (piece_at s page + piece_length s page ≤ piece_at t page) ⊎ (piece_at t page + piece_length t page ≤ piece_at s page)

-- a text page of 4,096 bytes: its slots end before the lowest piece, and no piece begins before that; each has a byte of text and
-- ends inside the page; no two share a byte; and there is one
pub record IsSound (page : List ℕ) : Type 0 where
  pub long : length page ≡ 4096
  pub slots : slots_end page ≤ lowest page
  pub low : lowest page ≤ 4096
  pub inside : (s : ℕ) → HasPiece page s → (lowest page ≤ piece_at s page) × (11 ≤ piece_length s page) × (piece_at s page + piece_length s page ≤ 4096)
  pub apart : (s t : ℕ) → HasPiece page s → HasPiece page t → s ≢ t → AreApart page s t
  pub some : (s : ℕ) × HasPiece page s

-- the head passes its test, and its next page number is past each text page; all text pages are sound; and the one that is tried
-- first is there. It is said of some of a space's pages, where the others aren't looked at
pub record IsForm (pages : ℕ → Option (List ℕ)) : Type 0 where
  pub head : IsTrue (is_head (bytes pages 0))
  pub long : length (bytes pages 0) ≡ 4096
  pub last : next_page (bytes pages 0) ≤ LAST_PAGE
  pub numbered : (n : ℕ) → IsTextPage pages n → n < next_page (bytes pages 0)
  pub sound : (n : ℕ) → IsTextPage pages n → IsSound (bytes pages n)
  pub first : (tried_first (bytes pages 0) ≡ 0) ⊎ IsTextPage pages (tried_first (bytes pages 0))

-- a reference leads to a piece, which has a reference to the next and bytes of text
abbrev pub IsPiece : (ℕ → Option (List ℕ)) → TextRef → Type 0
IsPiece pages r = IsTextPage pages r.page × HasPiece (bytes pages r.page) r.slot

-- the reference that a piece has to the next one
unfoldable pub next_at : (ℕ → Option (List ℕ)) → TextRef → TextRef
next_at pages r = next_piece r.slot (bytes pages r.page)

-- the bytes of text that a piece has
unfoldable pub bytes_of : (ℕ → Option (List ℕ)) → TextRef → List ℕ
bytes_of pages r = piece_text r.slot (bytes pages r.page)

-- from a reference on each piece leads to the next, and the last to none
abbrev pub IsChain : (ℕ → Option (List ℕ)) → TextRef → List TextRef → Type 0
IsChain pages at [] = at.page ≡ 0
IsChain pages at (r ∷ rs) = (at ≡ r) × IsPiece pages r × IsChain pages (next_at pages r) rs

-- the bytes of pieces, joined
abbrev pub joined_bytes : (ℕ → Option (List ℕ)) → List TextRef → List ℕ
joined_bytes pages [] = []
joined_bytes pages (r ∷ rs) = bytes_of pages r ++ joined_bytes pages rs

-- whether a piece is one of these, and that none of them comes twice
abbrev pub is_listed : List TextRef → TextRef → Bool
is_listed [] r = false
is_listed (x ∷ xs) r = (r.page == x.page && r.slot == x.slot) || is_listed xs r

-- no reference comes again later in the list
abbrev pub IsOnceEach : List TextRef → Type 0
IsOnceEach [] = Unit {0}
IsOnceEach (r ∷ rs) = (is_listed rs r ≡ false) × IsOnceEach rs

-- texts by their references, which stand in the order of pages and slots
abbrev pub ref_cmp : TextRef → TextRef → Ordering
ref_cmp a b = ordering_then (nat_cmp a.page b.page) (nat_cmp a.slot b.slot)

-- the texts by their references
abbrev pub TextMap : Type 0
TextMap = map.FinMap ref_cmp (List ℕ)

-- these pages alone mean these texts, each by the chain of its pieces
pub record AreTexts (pages : ℕ → Option (List ℕ)) (texts : TextMap) : Type 0 where
  pub form : IsForm pages
  pub chain : TextRef → List TextRef
  pub leads : (at : TextRef) → IsSome (map.get texts at) → IsChain pages at (chain at)
  pub joins : (at : TextRef) (text : List ℕ) → map.get texts at ≡ Some text → (text ≡ joined_bytes pages (chain at)) × (0 < length text)
  pub once : (at : TextRef) → IsSome (map.get texts at) → IsOnceEach (chain at)
  pub apart : (at other r : TextRef) → IsSome (map.get texts at) → IsSome (map.get texts other) → is_listed (chain at) r ≡ true
      → is_listed (chain other) r ≡ true → at ≡ other

-- The pages mean these texts: those of some set do, alone. These are the head, the page that it tries first, and the pages of the
-- chains; a page that nothing leads to may have anything.
pub record MeansTexts (pages : ℕ → Option (List ℕ)) (texts : TextMap) : Type 0 where
  pub reached : ℕ → Bool
  pub alone : AreTexts (only reached pages) texts

-- the text of a reference, if there is one. That of page 0 is empty
abbrev pub text_in : TextMap → TextRef → Option (List ℕ)
text_in texts at = if at.page == 0 then Some [] else map.get texts at

-- a text that is put has a new reference, and the empty one none
abbrev pub IsNew : TextMap → List ℕ → TextRef → Type 0
IsNew texts [] at = at ≡ nowhere
IsNew texts (b ∷ bs) at = (0 < at.page) × (map.get texts at ≡ None)

-- the texts with one put at a reference; the empty one isn't kept
abbrev pub with_text : TextMap → TextRef → List ℕ → TextMap
with_text texts at [] = texts
with_text texts at (b ∷ bs) = map.insert texts at (b ∷ bs)

-- the text has a reference that is new, and the pages mean the texts with it
abbrev pub IsPut : (ℕ → Option (List ℕ)) → TextMap → List ℕ → TextRef → Type 0
IsPut pages texts text at = IsNew texts text at × MeansTexts pages (with_text texts at text)

-- why a text isn't put that could be: a stop, or that the page numbers are spent for its pieces
abbrev pub IsNotPut : Known → (PageId → Option (List ℕ)) → Space → List ℕ → PageEnd → Type 0
IsNotPut k all space text end = IsStop k all space end ⊎ IsSpent (seen k all space) (piece_count text) end

-- why a text that is there isn't given: a stop, or that it is no UTF-8
abbrev pub IsNotGiven : Known → (PageId → Option (List ℕ)) → Space → TextRef → List ℕ → PageEnd → Type 0
IsNotGiven k all space at text end = IsStop k all space end ⊎ ((IsUtf8 text → ⊥) × (end ≡ Damaged (page_in space at.page)))
