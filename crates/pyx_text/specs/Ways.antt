-- How the hash and the bits of a name lead to its place in a list of attributes.
use Rattle.std.specs.Prelude.{◌≡◌, ℕ, zero, suc, ◌+◌, ◌*◌, ◌-◌, ◌/◌, ◌%◌, ◌<◌, ◌≤◌, Bool, true, false, nat_lt, if◌then◌else◌, List, [], ◌∷◌, ◌++◌, length, get_or, set, fold}
use Rattle.xml_model.specs.declared.node.Attr.{Attr}
use Rattle.xml_model.specs.Trees.{has_attribute}
use Rattle.pyx_text.specs.declared.places.TheConstants.{HASH_POINT, HASH_PRIME, NUMBERS}

-- the hash of one more byte
abbrev pub hash_more : ℕ → ℕ → ℕ
hash_more hash byte = (hash * HASH_POINT + byte) % HASH_PRIME

-- the hash of a name: that of its bytes, one after another
unfoldable pub hash_of : List ℕ → ℕ
hash_of name = fold hash_more 0 name

-- the bytes from the last, whose lower halves count, and then their upper halves
abbrev pub half_of : List ℕ → ℕ → ℕ
half_of name n = if nat_lt n (length name) then get_or name (length name - 1 - n) 0 else (get_or name (n - length name) 0 / 16)

-- a bit of a half
abbrev pub bit_of : ℕ → ℕ → ℕ
bit_of half zero = half % 2
bit_of half (suc zero) = half / 2 % 2
bit_of half (suc (suc zero)) = half / 4 % 2
bit_of half (suc (suc (suc n))) = half / 8 % 2

-- the way that a name takes at a depth: a bit of it
unfoldable pub way_of : List ℕ → ℕ → ℕ
way_of name depth = bit_of (half_of name (depth / 4)) (depth % 4)

-- the cell of a name's head, or of its way from the place with this number, which so many steps lead to
abbrev pub cell_of : ℕ → List ℕ → ℕ → ℕ → ℕ
cell_of heads name depth zero = hash_of name % heads
cell_of heads name depth (suc place) = heads + place * 2 + way_of name (depth - 1)

-- a word has the number of a place, and above it a mark, part of the hash of the name there
pub record IsWord (word hash number : ℕ) : Type 0 where
  pub low : word % NUMBERS ≡ number
  pub high : word / NUMBERS ≡ hash / NUMBERS

-- the number of the place in this cell
abbrev pub next_of : ℕ → List ℕ → List ℕ → ℕ → ℕ → ℕ
next_of heads cells name depth from = get_or cells (cell_of heads name depth from) 0 % NUMBERS

-- so many steps lead a name from one number, at a depth, to another. Each leads to a later place
abbrev pub Leads : ℕ → List ℕ → List ℕ → ℕ → ℕ → ℕ → ℕ → Type 0
Leads heads cells name zero depth from found = from ≡ found
Leads heads cells name (suc steps) depth from found =
    (from < next_of heads cells name depth from) × Leads heads cells name steps (depth + 1) (next_of heads cells name depth from) found

-- the name at a place
abbrev pub name_at : List Attr → ℕ → List ℕ
name_at [] n = []
name_at (a ∷ more) zero = a.name
name_at (a ∷ more) (suc n) = name_at more n

-- the answer whether the name stands at the place
abbrev pub HoldsName : Bool → List Attr → ℕ → List ℕ → Type 0
HoldsName true attrs place name = name_at attrs place ≡ name
HoldsName false attrs place name = name_at attrs place ≡ name → ⊥

-- a word has the number of a place, if any, and the mark of the name there
abbrev pub IsMarked : List Attr → ℕ → Type 0
IsMarked attrs word = 0 < word % NUMBERS
    → (word % NUMBERS ≤ length attrs) × (word / NUMBERS ≡ hash_of (name_at attrs (word % NUMBERS - 1)) / NUMBERS)

-- from this number, at this depth, the name is led to the number of an attribute that has it
pub record IsLed (attrs : List Attr) (heads : ℕ) (cells name : List ℕ) (depth from : ℕ) : Type 0 where
  pub steps : ℕ
  pub place : ℕ
  pub within : place < length attrs
  pub named : name_at attrs place ≡ name
  pub leads : Leads heads cells name steps depth from (place + 1)

-- a cell a head and two a place, heads where there are places, and each name of an attribute is led to one
pub record Tied (attrs : List Attr) (heads : ℕ) (cells : List ℕ) : Type 0 where
  pub full : length cells ≡ heads + length attrs * 2
  pub headed : 0 < length attrs → 0 < heads
  pub marked : (cell : ℕ) → IsMarked attrs (get_or cells cell 0)
  pub led : (name : List ℕ) → has_attribute name attrs ≡ true → ∥ IsLed attrs heads cells name 0 0 ∥₁

-- with the word of the next place in this cell, the cells fit the list with an attribute of this name at its end
pub record IsFree (attrs : List Attr) (heads : ℕ) (cells name : List ℕ) (cell : ℕ) : Type 0 where
  pub within : cell < heads + length attrs * 2
  pub fits : (word : ℕ) → IsWord word (hash_of name) (length attrs + 1) → (a : Attr) → a.name ≡ name
      → Tied (attrs ++ a ∷ []) heads (set (cells ++ 0 ∷ 0 ∷ []) cell word)
