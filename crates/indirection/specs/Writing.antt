-- Pages that are written to: a field of a page, an entry of a leaf, and a new page to which another page has a link.
use Rattle.std.specs.Prelude.{ℕ, [], ◌∷◌}
use Rattle.page_bytes.specs.declared.ids.Space.{Space}
use Rattle.page_bytes.specs.declared.ids.PageId.{PageId}
use Rattle.page_bytes.specs.Fields.{with_field, with_bytes}
use Rattle.page_bytes.specs.Work.{Work, with_page, first_bytes, zeros, with_fresh, next_in}
use Rattle.indirection.specs.Forms.{with_entry}
use Rattle.page_bytes.specs.Links.{page_in}

-- the page's field of n bytes at a place has the number x
abbrev pub with_number : ℕ → Work → Space → ℕ → ℕ → ℕ → Work
with_number n w space page at x = with_page w (page_in space page) (with_field n (first_bytes w.now (page_in space page)) at x)

-- the leaf's entry has this page and this place
abbrev pub with_entry_in : Work → Space → ℕ → ℕ → ℕ → ℕ → Work
with_entry_in w space leaf i page place = with_page w (page_in space leaf) (with_entry i page place (first_bytes w.now (page_in space leaf)))

-- the page has this kind
abbrev pub with_kind : ℕ → Work → PageId → Work
with_kind kind w id = with_page w id (with_bytes (first_bytes w.now id) 0 (kind ∷ []))

-- a new page is there, all zeros but for its kind
abbrev pub with_new : ℕ → Work → Space → Work
with_new kind w space = with_page (with_fresh w space) (page_in space (next_in w space)) (with_bytes zeros 0 (kind ∷ []))

-- a new page is there, and the page `parent` has a link to it at a place
abbrev pub with_child : ℕ → Work → Space → ℕ → ℕ → Work
with_child kind w space parent at = with_number 8 (with_new kind w space) space parent at (next_in w space)
