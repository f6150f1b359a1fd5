-- A workspace: the pages below, which it was given, and what it knows now, its own changes among it.
use Rattle.std.specs.Prelude.{ℕ, ◌+◌, List, refl, replicate, not, unwrap_or}
use Rattle.std.specs.Coded.{Coded, code_by, coded×}
use Rattle.std.specs.FinMap as map
use Rattle.page_bytes.specs.declared.ids.Space.{Space}
use Rattle.page_bytes.specs.declared.ids.PageId.{PageId}
use Rattle.page_bytes.specs.Order.{is_in}
use Rattle.page_bytes.specs.Head.{head_of, next_page, with_next_page}
use Rattle.page_bytes.specs.Overlay.{overlay}
use Rattle.page_bytes.specs.Known.{PageMap, Known, page_map_code, known_code, known_of, is_absent}

-- `below` are the pages that it was given, `now` is what it knows
pub record Work : Type 0 where
  pub below : PageMap
  pub now : Known

-- a page of zeros
abbrev pub zeros : List ℕ
zeros = replicate 4096 0

-- a workspace that has changed nothing
abbrev pub work_over : PageMap → Work
work_over below = record { below = below; now = known_of below }

-- the page has these bytes now, and all else stays
abbrev pub with_page : Work → PageId → List ℕ → Work
with_page w id bytes = record w { now = record (w.now) { pages = map.insert w.now.pages id bytes } }

-- the page is gone and was freed, and all else stays
abbrev pub without_page : Work → PageId → Work
without_page w id = record w { now = record (w.now) { pages = map.remove w.now.pages id; freed = map.insert w.now.freed id tt } }

-- the space is whole and has no page, and all else stays
abbrev pub with_space : Work → Space → Work
with_space w space = record w {
  now =
      record (w.now) { pages = map.retain_keys w.now.pages (λ id. not (is_in space id)); whole = map.insert w.now.whole space tt };
}

-- nothing is known of the space: it has no page, neither below nor now, isn't whole, and no page of it was freed
abbrev pub without_space : Work → Space → Work
without_space w space = record {
  below = map.retain_keys w.below (λ id. not (is_in space id));
  now = record {
    pages = map.retain_keys w.now.pages (λ id. not (is_in space id));
    whole = map.remove w.now.whole space;
    freed = map.retain_keys w.now.freed (λ id. not (is_in space id));
  };
}

-- more pages are below, and there, each where nothing was known of it
abbrev pub with_pages : Work → PageMap → Work
with_pages w more = record {
  below = overlay w.below more;
  now = record (w.now) { pages = overlay w.now.pages (map.retain_keys more (λ id. not (is_absent w.now id))) };
}

-- the bytes that an edit begins with: the page's, or zeros where it isn't there
abbrev pub first_bytes : Known → PageId → List ℕ
first_bytes k id = unwrap_or (map.get k.pages id) zeros

-- the page that a new page of the space is: its number is the head's next one
abbrev pub fresh_page : Known → Space → PageId
fresh_page k space = record { space = space; number = next_page (first_bytes k (head_of space)) }

-- the number of the next new page
abbrev pub next_in : Work → Space → ℕ
next_in w space = next_page (first_bytes w.now (head_of space))

-- the new page is there, all zeros, and the head's next number is one more
abbrev pub with_fresh : Work → Space → Work
with_fresh w space =
    let head = first_bytes w.now (head_of space) in
    with_page (with_page w (fresh_page w.now space) zeros) (head_of space) (with_next_page head (next_page head + 1))

-- how a workspace is stored
abbrev pub work_code : Coded Work
work_code = code_by (PageMap × Known) (coded× page_map_code known_code) (λ w. (w.below, w.now)) (λ p. record { below = p.0; now = p.1 }) (λ _. refl)
