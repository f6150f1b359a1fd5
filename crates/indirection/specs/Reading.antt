-- How a call asks for pages, and what it answers where it cannot have one.
use Rattle.std.specs.Prelude.{ℕ, ◌==◌, nat_le, List, Result, Err, slice_index, if◌then◌else◌}
use Rattle.page_bytes.specs.declared.ids.Space.{Space}
use Rattle.page_bytes.specs.declared.end.PageEnd.{PageEnd}
use Rattle.page_bytes.specs.declared.end.PageEnd.TheVariants.{Damaged}
use Rattle.page_bytes.specs.Known.{Known}
use Rattle.page_bytes.specs.Head.{head_of, head_in}
use Rattle.indirection.specs.Forms.{MOST_NUMBERS, highest}
use Rattle.page_bytes.specs.Links.{page_in, and_then, asked, tested}

-- the head's bytes, once it has passed its test and has no more numbers than there can be
abbrev pub numbers_head : Known → Space → Result (List ℕ) PageEnd
numbers_head k space = and_then (head_in k space) (λ head. tested (head_of space) (nat_le (highest head) MOST_NUMBERS) head)

-- the page of a kind to which the page `from` has a link, which is 0 where it leads nowhere
abbrev pub linked : Known → Space → ℕ → ℕ → ℕ → Result (List ℕ) PageEnd
linked k space kind from number =
    if number == 0 then Err (Damaged (page_in space from))
    else and_then (asked k (page_in space from) (page_in space number)) (λ bytes. tested (page_in space number) (slice_index bytes 0 == kind) bytes)
