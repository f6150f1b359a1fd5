-- Flat pages, of kind 1: a text in pieces. Page 0 has the text's length, a number of 8 bytes at 1, and from 9 on its first
-- 4,087 bytes; each later page has, from 1 on, the next 4,095. So the length and then the text run through the pages, of which
-- each has, from 1 on, the next 4,095 bytes of both. What stands behind the text's end isn't looked at.
use Rattle.std.specs.Prelude.{ℕ, ◌+◌, ◌-◌, ◌/◌, ◌==◌, Bool, List, drop, slice_index}
use Rattle.page_bytes.specs.Fields.{field}

abbrev pub FLAT_KIND : ℕ
FLAT_KIND = 1

-- where each page's piece begins, and how many bytes it has
abbrev pub PIECE_AT : ℕ
PIECE_AT = 1

abbrev pub PIECE_BYTES : ℕ
PIECE_BYTES = 4095

-- how many bytes the length takes, in front of the text
abbrev pub LENGTH_BYTES : ℕ
LENGTH_BYTES = 8

-- how many pages a text of this length takes, with its length
abbrev pub page_count : ℕ → ℕ
page_count length = (LENGTH_BYTES + length + (PIECE_BYTES - 1)) / PIECE_BYTES

-- whether a page passes the test of a flat page
abbrev pub is_flat : List ℕ → Bool
is_flat page = slice_index page 0 == FLAT_KIND

abbrev pub piece : List ℕ → List ℕ
piece page = drop PIECE_AT page

-- the text's length, of which page 0 tells
abbrev pub stated_length : List ℕ → ℕ
stated_length first = field LENGTH_BYTES PIECE_AT first
