-- What the calls that change numbers do, page by page.
use Rattle.std.specs.Prelude.{ℕ, ◌+◌, ◌/◌, ◌%◌, ◌==◌, ◌||◌, nat_lt, Result, Ok, Err, if◌then◌else◌}
use Rattle.page_bytes.specs.declared.ids.Space.{Space}
use Rattle.page_bytes.specs.declared.ids.NodeNo.{NodeNo}
use Rattle.page_bytes.specs.declared.ids.Addr.{Addr}
use Rattle.page_bytes.specs.declared.end.PageEnd.{PageEnd}
use Rattle.page_bytes.specs.declared.end.PageEnd.TheVariants.{Damaged}
use Rattle.page_bytes.specs.PageNumber.{page_number}
use Rattle.page_bytes.specs.Head.{head_of}
use Rattle.page_bytes.specs.Refusal.{fresh_refusal}
use Rattle.page_bytes.specs.Known.{Known}
use Rattle.page_bytes.specs.Work.{Work, next_in}
use Rattle.indirection.specs.declared.forms.Entry.{Entry}
use Rattle.indirection.specs.declared.forms.Entry.TheVariants.{Taken, Free}
use Rattle.indirection.specs.Forms.{MOST_NUMBERS, LEAF_KIND, DIRECTORY_KIND, entry_index, root, highest, link, link_at}
use Rattle.page_bytes.specs.Links.{and_then, page_in}
use Rattle.indirection.specs.Reading.{linked}
use Rattle.indirection.specs.Finding.{numbers_in, directory_in, leaf_in, found_in}
use Rattle.indirection.specs.Writing.{with_number, with_entry_in, with_new, with_child}
use Rattle.indirection.specs.declared.forms.Numbers.{Numbers}
use Rattle.page_bytes.specs.Answers.{unless}

-- the leaf of a number that is a node's. Where it isn't, the head is damaged
abbrev pub taken_leaf : Space → ℕ → Entry → Result ℕ PageEnd
taken_leaf space leaf (Taken to) = Ok leaf
taken_leaf space leaf (Free next) = Err (Damaged (head_of space))

-- the leaf of a number from 1 to the highest that is a node's. Where it is none, the head is damaged
abbrev pub taken_in : Known → Space → Numbers → ℕ → Result ℕ PageEnd
taken_in k space numbers h =
    if h == 0 || nat_lt numbers.highest h then Err (Damaged (head_of space))
    else and_then (found_in k space numbers.root h) (λ leaf. taken_leaf space leaf.number leaf.entry)

-- a number that is there gets another address
abbrev pub changed_in : Work → Space → ℕ → Addr → Result (Unit {0} × Work) PageEnd
changed_in w space h to =
    and_then (numbers_in w.now space) (λ numbers.
    and_then (taken_in w.now space numbers h) (λ leaf.
    Ok (tt, with_entry_in w space leaf (entry_index h) (page_number to) to.at)))

-- a number that is there is taken away, and is the first free number
abbrev pub removed_in : Work → Space → ℕ → Result (Unit {0} × Work) PageEnd
removed_in w space h =
    and_then (numbers_in w.now space) (λ numbers.
    and_then (taken_in w.now space numbers h) (λ leaf.
    Ok (tt, with_number 4 (with_entry_in w space leaf (entry_index h) 0 numbers.first_free) space 0 34 h)))

-- the free number behind a free number: 0, or one that was given before. Where the number isn't free, the head is
-- damaged
abbrev pub free_behind : Space → ℕ → ℕ → Entry → Result ℕ PageEnd
free_behind space highest leaf (Taken to) = Err (Damaged (head_of space))
free_behind space highest leaf (Free next) = if nat_lt highest next then Err (Damaged (page_in space leaf)) else Ok next

-- the first free number is given again
abbrev pub reused_in : Work → Space → Numbers → Addr → Result (NodeNo × Work) PageEnd
reused_in w space numbers to =
    if nat_lt numbers.highest numbers.first_free then Err (Damaged (head_of space))
    else and_then (found_in w.now space numbers.root numbers.first_free) (λ leaf.
    and_then (free_behind space numbers.highest leaf.number leaf.entry) (λ next.
    Ok (
      record { 0 = numbers.first_free },
      with_number 4 (with_entry_in w space leaf.number (entry_index numbers.first_free) (page_number to) to.at) space 0 34 next,
    )))

-- a new page of a kind
abbrev pub new_in : Work → Space → ℕ → Result (ℕ × Work) PageEnd
new_in w space kind = unless (fresh_refusal w.now space) (next_in w space, with_new kind w space)

-- a new page of a kind to which a page of the space gets a link
abbrev pub child_in : Work → Space → ℕ → ℕ → ℕ → Result (ℕ × Work) PageEnd
child_in w space kind parent at = unless (fresh_refusal w.now space) (next_in w space, with_child kind w space parent at)

-- the root, which the first leaf makes
abbrev pub root_for : Work → Space → ℕ → ℕ → Result (ℕ × Work) PageEnd
root_for w space root leaf = if leaf == 0 then child_in w space DIRECTORY_KIND 0 18 else Ok (root, w)

-- the directory page of a new leaf, which each 511th leaf makes
abbrev pub directory_for : Work → Space → ℕ → ℕ → Result (ℕ × Work) PageEnd
directory_for w space root leaf =
    and_then (linked w.now space DIRECTORY_KIND 0 root) (λ bytes.
    if leaf % 511 == 0 then child_in w space DIRECTORY_KIND root (link_at (leaf / 511))
    else Ok (link (leaf / 511) bytes, w))

-- a new leaf
abbrev pub leaf_for : Work → Space → ℕ → ℕ → ℕ → Result (ℕ × Work) PageEnd
leaf_for w space root directory leaf =
    and_then (linked w.now space DIRECTORY_KIND root directory) (λ bytes.
    child_in w space LEAF_KIND directory (link_at (leaf % 511)))

-- a new leaf, with its directory page where it needs a new one
abbrev pub directed_in : Work → Space → ℕ → ℕ → Result (ℕ × Work) PageEnd
directed_in w space root leaf =
    and_then (directory_for w space root leaf) (λ directed. leaf_for directed.1 space root directed.0 leaf)

-- a new leaf, with all that it needs above it
abbrev pub grown_in : Work → Space → ℕ → ℕ → Result (ℕ × Work) PageEnd
grown_in w space root leaf = and_then (root_for w space root leaf) (λ rooted. directed_in rooted.1 space rooted.0 leaf)

-- a leaf that is there
abbrev pub placed_in : Known → Space → ℕ → ℕ → Result ℕ PageEnd
placed_in k space root leaf =
    and_then (directory_in k space root leaf) (λ directory.
    and_then (leaf_in k space root directory leaf) (λ number.
    and_then (linked k space LEAF_KIND directory number) (λ bytes.
    Ok number)))

-- the leaf of the number after the highest: a new one where all entries of the last are numbers
abbrev pub last_leaf : Work → Space → Numbers → Result (ℕ × Work) PageEnd
last_leaf w space numbers =
    if numbers.highest % 340 == 0 then grown_in w space numbers.root (numbers.highest / 340)
    else and_then (placed_in w.now space numbers.root (numbers.highest / 340)) (λ number. Ok (number, w))

-- the number after the highest is given
abbrev pub appended_in : Work → Space → Numbers → Addr → Result (NodeNo × Work) PageEnd
appended_in w space numbers to =
    if numbers.highest == MOST_NUMBERS then Err (Damaged (head_of space))
    else and_then (last_leaf w space numbers) (λ last.
    Ok (
      record { 0 = numbers.highest + 1 },
      with_number 4 (with_entry_in last.1 space last.0 (numbers.highest % 340) (page_number to) to.at) space 0 38 (numbers.highest + 1),
    ))

-- a number is given: the first free one, or else the one after the highest
abbrev pub added_in : Work → Space → Addr → Result (NodeNo × Work) PageEnd
added_in w space to =
    and_then (numbers_in w.now space) (λ numbers.
    if numbers.first_free == 0 then appended_in w space numbers to else reused_in w space numbers to)
