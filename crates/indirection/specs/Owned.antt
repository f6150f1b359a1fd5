-- What is node numbers' own: the pages of kinds 6 and 7, and in the head the number of the root, the first free number and the
-- highest number.
use Rattle.std.specs.Prelude.{ℕ, Bool, ◌==◌, ◌||◌, [], ◌∷◌}
use Rattle.page_bytes.specs.Own.{Own}
use Rattle.indirection.specs.Forms.{LEAF_KIND, DIRECTORY_KIND}

-- whether pages of a kind are leaves, or roots and directory pages
abbrev pub is_number_kind : ℕ → Bool
is_number_kind kind = kind == LEAF_KIND || kind == DIRECTORY_KIND

-- node numbers' kinds of pages, and its three fields of the head
abbrev pub number_pages : Own
number_pages = record {
  is_kind = is_number_kind;
  fields = record { page = 0; at = 18; width = 8 } ∷ record { page = 0; at = 34; width = 4 } ∷ record { page = 0; at = 38; width = 4 } ∷ [];
}
