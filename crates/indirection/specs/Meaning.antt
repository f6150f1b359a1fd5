-- What the pages of a document mean as node numbers: a map from numbers to addresses, and the free numbers in the order
-- in which they are given again. Each number up to the highest is either a node's or free.
use Rattle.std.specs.Prelude.{◌≡◌, ◌≢◌, ℕ, ◌+◌, ◌/◌, ◌%◌, ◌<◌, ◌≤◌, ◌⊎◌, ◌==◌, ◌||◌, Bool, true, false, List, [], ◌∷◌, length, slice_index, Option, Some, None}
use Rattle.std.specs.Ordering.{nat_cmp}
use Rattle.std.specs.FinMap as map
use Rattle.page_bytes.specs.declared.ids.Space.{Space}
use Rattle.page_bytes.specs.declared.ids.PageId.{PageId}
use Rattle.page_bytes.specs.declared.ids.Addr.{Addr}
use Rattle.page_bytes.specs.declared.end.PageEnd.{PageEnd}
use Rattle.page_bytes.specs.declared.end.PageEnd.TheVariants.{Damaged}
use Rattle.page_bytes.specs.Head.{head_of, next_page, LAST_PAGE}
use Rattle.page_bytes.specs.Known.{Known}
use Rattle.indirection.specs.Forms.{MOST_NUMBERS, LEAF_KIND, DIRECTORY_KIND, leaf_index, entry_index, root, first_free, highest, link, entry_page, entry_place}
use Rattle.page_bytes.specs.Answers.{IsStop, IsSpent}
use Rattle.page_bytes.specs.Seen.{seen, bytes}

-- a page of 4,096 bytes, of a kind
abbrev pub IsPage : (ℕ → Option (List ℕ)) → ℕ → ℕ → Type 0
IsPage pages kind n = (slice_index (bytes pages n) 0 ≡ kind) × (length (bytes pages n) ≡ 4096)

-- the numbers of the root, of each directory page and of each leaf
unfoldable pub root_number : (ℕ → Option (List ℕ)) → ℕ
root_number pages = root (bytes pages 0)

-- the page that the root's d-th link leads to
unfoldable pub directory_number : (ℕ → Option (List ℕ)) → ℕ → ℕ
directory_number pages d = link d (bytes pages (root_number pages))

-- the page that the leaf's link in its directory page leads to
unfoldable pub leaf_number : (ℕ → Option (List ℕ)) → ℕ → ℕ
leaf_number pages l = link (l % 511) (bytes pages (directory_number pages (l / 511)))

-- a page number of a document's own page: it is below the head's next page number
abbrev pub IsNumbered : (ℕ → Option (List ℕ)) → ℕ → Type 0
IsNumbered pages n = n < next_page (bytes pages 0)

-- there are this many roots, at most one, this many directory pages and this many leaves, and no page is two of them
pub record IsTable (pages : ℕ → Option (List ℕ)) (roots directories leaves : ℕ) : Type 0 where
  pub head : IsPage pages 2 0
  pub next : 0 < next_page (bytes pages 0)
  pub last : next_page (bytes pages 0) ≤ LAST_PAGE
  pub root : 0 < roots → IsPage pages DIRECTORY_KIND (root_number pages) × IsNumbered pages (root_number pages)
  pub directory : (d : ℕ) → d < directories → IsPage pages DIRECTORY_KIND (directory_number pages d) × IsNumbered pages (directory_number pages d)
  pub leaf : (l : ℕ) → l < leaves → IsPage pages LEAF_KIND (leaf_number pages l) × IsNumbered pages (leaf_number pages l)
  pub root_apart : (d : ℕ) → d < directories → directory_number pages d ≢ root_number pages
  pub directories_apart : (d e : ℕ) → d < directories → e < directories → directory_number pages d ≡ directory_number pages e → d ≡ e
  pub leaves_apart : (l m : ℕ) → l < leaves → m < leaves → leaf_number pages l ≡ leaf_number pages m → l ≡ m

-- how many leaves and directory pages so many numbers have
abbrev pub leaf_count : ℕ → ℕ
leaf_count highest = (highest + 339) / 340

-- one directory page for each 511 leaves begun
abbrev pub directory_count : ℕ → ℕ
directory_count leaves = (leaves + 510) / 511

-- the two fields of a number's entry
unfoldable pub page_at : (ℕ → Option (List ℕ)) → ℕ → ℕ
page_at pages h = entry_page (entry_index h) (bytes pages (leaf_number pages (leaf_index h)))

-- the place in a number's entry, or the next free number
unfoldable pub place_at : (ℕ → Option (List ℕ)) → ℕ → ℕ
place_at pages h = entry_place (entry_index h) (bytes pages (leaf_number pages (leaf_index h)))

-- node numbers: the address of each that is a node's, those that are free, and the highest of all
pub record NodeNumbers : Type 0 where
  pub taken : map.FinMap nat_cmp Addr
  pub free : List ℕ
  pub highest : ℕ

-- whether a number is in a list
abbrev pub is_listed : List ℕ → ℕ → Bool
is_listed [] h = false
is_listed (x ∷ xs) h = h == x || is_listed xs h

-- an entry is a node's, which has the entry's address, or it is free
abbrev pub EntryMeans : Option Addr → Bool → ℕ → ℕ → Type 0
EntryMeans (Some a) listed page place = (a ≡ record { layer = page / 256; page = page % 256; at = place }) × (0 < page) × (place < 65536) × (listed ≡ false)
EntryMeans None listed page place = (page ≡ 0) × (listed ≡ true)

-- from one free number each entry leads to the next, and no number comes twice
abbrev pub IsFreeList : (ℕ → Option (List ℕ)) → ℕ → List ℕ → Type 0
IsFreeList pages first [] = first ≡ 0
IsFreeList pages first (h ∷ hs) = (first ≡ h) × (is_listed hs h ≡ false) × IsFreeList pages (place_at pages h) hs

-- the pages mean these numbers
pub record MeansNumbers (pages : ℕ → Option (List ℕ)) (numbers : NodeNumbers) : Type 0 where
  pub table : IsTable pages (directory_count (leaf_count numbers.highest)) (directory_count (leaf_count numbers.highest)) (leaf_count numbers.highest)
  pub highest : highest (bytes pages 0) ≡ numbers.highest
  pub most : numbers.highest ≤ MOST_NUMBERS
  pub free : IsFreeList pages (first_free (bytes pages 0)) numbers.free
  pub entry : (h : ℕ) → 0 < h → h ≤ numbers.highest → EntryMeans (map.get numbers.taken h) (is_listed numbers.free h) (page_at pages h) (place_at pages h)
  pub outside : (h : ℕ) → (h ≡ 0) ⊎ (numbers.highest < h) → (map.get numbers.taken h ≡ None) × (is_listed numbers.free h ≡ false)

-- the numbers once one of them has an address
abbrev pub with_address : NodeNumbers → ℕ → Addr → NodeNumbers
with_address numbers h to = record numbers { taken = map.insert numbers.taken h to }

-- once one is free, which is then the first to be given again
abbrev pub without_number : NodeNumbers → ℕ → NodeNumbers
without_number numbers h = record numbers { taken = map.remove numbers.taken h; free = h ∷ numbers.free }

-- the number that is given next: the first free one, or else the one after the highest
abbrev pub next_number : ℕ → List ℕ → ℕ
next_number highest [] = highest + 1
next_number highest (h ∷ hs) = h

-- and the numbers once it is given
abbrev pub highest_given : ℕ → List ℕ → ℕ
highest_given highest [] = highest + 1
highest_given highest (h ∷ hs) = highest

-- the free numbers that are left: all but the first
abbrev pub free_left : List ℕ → List ℕ
free_left [] = []
free_left (h ∷ hs) = hs

-- the next number is a node's, with this address
abbrev pub with_number_given : NodeNumbers → Addr → NodeNumbers
with_number_given numbers to = record {
  taken = map.insert numbers.taken (next_number numbers.highest numbers.free) to;
  free = free_left numbers.free;
  highest = highest_given numbers.highest numbers.free;
}

-- why a call on a number may stop: a need of a page of which nothing is known, want of memory, or that the number isn't
-- there, which damages the head
abbrev pub IsRefused : Known → (PageId → Option (List ℕ)) → Space → Option Addr → PageEnd → Type 0
IsRefused k all space there end = IsStop k all space end ⊎ ((there ≡ None) × (end ≡ Damaged (head_of space)))

-- how many pages a number takes at most: a leaf, a directory page and the root
abbrev pub MOST_PAGES : ℕ
MOST_PAGES = 3

-- why no number is given: a need, want of memory, that the page numbers are spent, or that there are as many numbers as there
-- can be, which damages the head
abbrev pub IsNotGiven : Known → (PageId → Option (List ℕ)) → Space → NodeNumbers → PageEnd → Type 0
IsNotGiven k all space numbers end =
    IsStop k all space end
    ⊎ (IsSpent (seen k all space) MOST_PAGES end ⊎ ((numbers.highest ≡ MOST_NUMBERS) × (numbers.free ≡ []) × (end ≡ Damaged (head_of space))))
