-- Names of elements, attributes and instructions, the characters of names, and names of documents. A byte from 128 on
-- is a part of a character beyond ASCII, so such characters need no case of their own.
use Rattle.std.specs.Prelude.{ℕ, Bool, false, not, List, [], ◌∷◌, length, ◌==◌, nat_le, ◌&&◌, ◌||◌}
use Rattle.std.specs.List.{list_all}
use Rattle.xq_ast.specs.declared.limits.TheConstants.{NAME_BYTES_MAX, DOCUMENT_NAME_BYTES_MAX}

-- an ASCII letter
abbrev pub is_letter : ℕ → Bool
is_letter b = (nat_le 65 b && nat_le b 90) || (nat_le 97 b && nat_le b 122)

-- an ASCII digit
abbrev pub is_digit : ℕ → Bool
is_digit b = nat_le 48 b && nat_le b 57

-- the colon
abbrev pub is_colon : ℕ → Bool
is_colon b = b == 58

-- an ASCII letter, `_`, `:`, or a character beyond ASCII
abbrev pub begins_name : ℕ → Bool
begins_name b = is_letter b || b == 95 || is_colon b || nat_le 128 b

-- the same, a digit, `-` or `.`
abbrev pub continues_name : ℕ → Bool
continues_name b = begins_name b || is_digit b || b == 45 || b == 46

-- 1 to 255 bytes, of which the first begins a name and the others continue it
abbrev pub is_name : List ℕ → Bool
is_name [] = false
is_name (b ∷ bs) = begins_name b && (list_all continues_name bs && nat_le (length (b ∷ bs)) NAME_BYTES_MAX)

-- the parts of a name that colons join: a part begins and continues as a name does, but with no colon
abbrev pub begins_part : ℕ → Bool
begins_part b = begins_name b && not (is_colon b)

-- a byte that continues a name, but no colon
abbrev pub continues_part : ℕ → Bool
continues_part b = continues_name b && not (is_colon b)

-- a name of a document: 1 to 255 bytes, and no character below U+0020
abbrev pub is_document_name : List ℕ → Bool
is_document_name name = nat_le 1 (length name) && nat_le (length name) DOCUMENT_NAME_BYTES_MAX && list_all (nat_le 32) name
