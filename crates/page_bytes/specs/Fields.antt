-- Fields of a page: numbers of some bytes, the highest first, and other bytes, at a place.
use Rattle.std.specs.Prelude.{ℕ, ◌+◌, List, ◌++◌, length, take, drop}
use Rattle.byteorder.specs.Endian.{big_number, big_bytes}

-- the n bytes at a place
abbrev pub bytes_at : ℕ → ℕ → List ℕ → List ℕ
bytes_at at n page = take n (drop at page)

-- the page with these bytes at a place, and all others as they were
abbrev pub with_bytes : List ℕ → ℕ → List ℕ → List ℕ
with_bytes page at bytes = take at page ++ bytes ++ drop (at + length bytes) page

-- the number of n bytes at a place
unfoldable pub field : ℕ → ℕ → List ℕ → ℕ
field n at page = big_number n (bytes_at at n page)

-- the page with the number x in the n bytes at a place, and all others as they were
unfoldable pub with_field : ℕ → List ℕ → ℕ → ℕ → List ℕ
with_field n page at x = with_bytes page at (big_bytes n x)
