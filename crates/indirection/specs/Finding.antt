-- Where a number's entry is found: by the root and a directory page in a leaf.
use Rattle.std.specs.Prelude.{ℕ, ◌/◌, ◌%◌, ◌==◌, ◌||◌, nat_lt, Option, Some, None, Result, Ok, Err, if◌then◌else◌}
use Rattle.page_bytes.specs.declared.ids.Space.{Space}
use Rattle.page_bytes.specs.declared.ids.Addr.{Addr}
use Rattle.page_bytes.specs.declared.end.PageEnd.{PageEnd}
use Rattle.page_bytes.specs.declared.end.PageEnd.TheVariants.{Damaged}
use Rattle.page_bytes.specs.Known.{Known}
use Rattle.indirection.specs.declared.forms.Leaf.{Leaf}
use Rattle.indirection.specs.declared.forms.Numbers.{Numbers}
use Rattle.indirection.specs.declared.forms.Entry.{Entry}
use Rattle.indirection.specs.declared.forms.Entry.TheVariants.{Taken, Free}
use Rattle.indirection.specs.Forms.{LEAF_KIND, DIRECTORY_KIND, leaf_index, entry_index, root, first_free, highest, link, entry_page, entry_place}
use Rattle.page_bytes.specs.Links.{and_then, page_in}
use Rattle.indirection.specs.Reading.{numbers_head, linked}

-- the number of the directory page of a leaf, by the root
abbrev pub directory_in : Known → Space → ℕ → ℕ → Result ℕ PageEnd
directory_in k space root leaf = and_then (linked k space DIRECTORY_KIND 0 root) (λ bytes. Ok (link (leaf / 511) bytes))

-- the number of a leaf, by its directory page
abbrev pub leaf_in : Known → Space → ℕ → ℕ → ℕ → Result ℕ PageEnd
leaf_in k space root directory leaf = and_then (linked k space DIRECTORY_KIND root directory) (λ bytes. Ok (link (leaf % 511) bytes))

-- what an entry says. A place that is past those of any page is damage
abbrev pub entry_of : Space → ℕ → ℕ → ℕ → Result Entry PageEnd
entry_of space leaf page place =
    if page == 0 then Ok (Free place)
    else if nat_lt place 65536 then Ok (Taken (record { layer = page / 256; page = page % 256; at = place }))
    else Err (Damaged (page_in space leaf))

-- the leaf of a number with the number's entry
abbrev pub found_in : Known → Space → ℕ → ℕ → Result Leaf PageEnd
found_in k space root h =
    and_then (directory_in k space root (leaf_index h)) (λ directory.
    and_then (leaf_in k space root directory (leaf_index h)) (λ leaf.
    and_then (linked k space LEAF_KIND directory leaf) (λ bytes.
    and_then (entry_of space leaf (entry_page (entry_index h) bytes) (entry_place (entry_index h) bytes)) (λ entry.
    Ok (record { number = leaf; entry = entry })))))

-- the address of a number that is there
abbrev pub address_of : Entry → Option Addr
address_of (Taken address) = Some address
address_of (Free next) = None

-- what the head says of node numbers
abbrev pub numbers_in : Known → Space → Result Numbers PageEnd
numbers_in k space = and_then (numbers_head k space) (λ head. Ok (record { root = root head; first_free = first_free head; highest = highest head }))

-- the address of a number, if the number is there
abbrev pub address_in : Known → Space → ℕ → Result (Option Addr) PageEnd
address_in k space h =
    and_then (numbers_in k space) (λ numbers.
    if h == 0 || nat_lt numbers.highest h then Ok None
    else and_then (found_in k space numbers.root h) (λ leaf. Ok (address_of leaf.entry)))
