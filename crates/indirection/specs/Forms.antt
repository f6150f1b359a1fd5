-- The page forms of node numbers. The head has the root, the first free number and the highest number. The root and the
-- directory pages, of kind 7, have 511 page numbers each: the root those of the directory pages, a directory page those
-- of its leaves. A leaf, of kind 6, has 340 entries: a page number and a place in that page, or for page 0, which means
-- that the number is free, the next free number.
use Rattle.std.specs.Prelude.{ℕ, ◌+◌, ◌-◌, ◌*◌, ◌/◌, ◌%◌, List}
use Rattle.page_bytes.specs.Fields.{field, with_field}

-- the first byte of every leaf
abbrev pub LEAF_KIND : ℕ
LEAF_KIND = 6

-- the first byte of the root and of every directory page
abbrev pub DIRECTORY_KIND : ℕ
DIRECTORY_KIND = 7

-- how many numbers a document has at most: 340 in each of 511 leaves of each of 511 directory pages
abbrev pub MOST_NUMBERS : ℕ
MOST_NUMBERS = 88781140

-- the leaf of a number, and its entry there
abbrev pub leaf_index : ℕ → ℕ
leaf_index h = (h - 1) / 340

-- the place of a number's entry among the 340 of its leaf
abbrev pub entry_index : ℕ → ℕ
entry_index h = (h - 1) % 340

-- the page number of the root: eight bytes of the head, at 18
abbrev pub root : List ℕ → ℕ
root head = field 8 18 head

-- the number that is given again first, or 0: four bytes of the head, at 34
abbrev pub first_free : List ℕ → ℕ
first_free head = field 4 34 head

-- the highest number: four bytes of the head, at 38
abbrev pub highest : List ℕ → ℕ
highest head = field 4 38 head

-- where a link of a directory page or of the root stands
abbrev pub link_at : ℕ → ℕ
link_at i = 8 + i * 8

-- the page number in a link: eight bytes
abbrev pub link : ℕ → List ℕ → ℕ
link i page = field 8 (link_at i) page

-- where an entry of a leaf stands: first the page, and 8 bytes on the place or the next free number
abbrev pub entry_at : ℕ → ℕ
entry_at i = 16 + i * 12

-- an entry's page, or 0 where its number is free: eight bytes
abbrev pub entry_page : ℕ → List ℕ → ℕ
entry_page i leaf = field 8 (entry_at i) leaf

-- an entry's place in its page, or the next free number: four bytes
abbrev pub entry_place : ℕ → List ℕ → ℕ
entry_place i leaf = field 4 (entry_at i + 8) leaf

-- the leaf with an entry written, and all other bytes as they were
abbrev pub with_entry : ℕ → ℕ → ℕ → List ℕ → List ℕ
with_entry i page place leaf = with_field 4 (with_field 8 leaf (entry_at i) page) (entry_at i + 8) place
