-- Worked rows of what three files open to. Each says what it shows; the contents are given by their fields.
use Rattle.std.specs.Prelude.{◌≡◌, ℕ, false, List, [], ◌∷◌, ◌++◌, length, Some, None, Result, Ok, refl}
use Rattle.std.specs.Ordering.{nat_cmp, eq_by_cmp}
use Rattle.std.specs.Cmp.Lexicographic.{slice_cmp, nat_list_cmp_total}
use Rattle.std.proofs.Common.{sym, ap, ◌∙◌, arith, cond}
use Rattle.std.specs.FinMap as finite
use Rattle.std.specs.Str.{is_utf8, chars}
use lib.Utf8.{encode}
use Rattle.page_device.specs.declared.device.Which.TheVariants.{LogA, LogB}
use Rattle.page_device.specs.Image.{Image}
use Rattle.page_bytes.specs.declared.ids.Space.{Space}
use Rattle.page_bytes.specs.declared.ids.PageId.{PageId}
use Rattle.page_bytes.specs.declared.ids.DocEntry.{DocEntry}
use Rattle.page_bytes.specs.Order.{space_cmp, page_cmp}
use Rattle.page_bytes.specs.Known.{Spaces, PageIds}
use Rattle.page_bytes.proofs.Orders.{space_cmp-total, page_cmp-total}
use Rattle.redo_log.specs.Names.{Names}
use Rattle.redo_log.specs.Record.{number}
use Rattle.redo_log.specs.Reading.{number_in, record_at, body_at, names_at, name_at, entry_at, pages_at, page_at, id_at}
use Rattle.redo_log.specs.Head.{head_at, documents_at, document_at, document_entry_at, rows_at, row_at}
use Rattle.redo_log.specs.Candidates.{NotAStore, counting, no_store, magic}
use Rattle.redo_log.specs.HeadAndRecords.{log_at, records_at}
use Rattle.redo_log.specs.Opened.{Opened, opened, slot_in}

-- the three files
abbrev files : List ℕ → List ℕ → List ℕ → Image
files slots log_a log_b = record { slots = slots; log_a = log_a; log_b = log_b }

-- what they open to; all that it rests on computes
computed : Image → Result Opened NotAStore
unfolding opened counting log_at head_at documents_at document_at document_entry_at rows_at row_at records_at record_at body_at names_at name_at
    entry_at pages_at page_at id_at number number_in is_utf8 chars encode
computed c = opened c

-- ---- the parts of the files

-- a log of this generation and this commit, with so many documents and pages
abbrev log : ℕ → ℕ → ℕ → ℕ → List ℕ → List ℕ
log generation commit documents pages rest = 1 ∷ magic ++ number generation ++ number commit ++ number documents ++ number pages ++ rest

-- a document with a name of one byte, and its space
abbrev document : ℕ → ℕ → ℕ → List ℕ
document name commit ordinal = 1 ∷ name ∷ number commit ++ number ordinal ++ 0 ∷ []

-- a page and its slot
abbrev row : ℕ → ℕ → ℕ → ℕ → List ℕ
row commit ordinal page slot = number commit ++ number ordinal ++ number page ++ number slot

-- a record whose gate is open: the stated length, the commit, the changes of names after their count, the pages after theirs
abbrev record_with : ℕ → ℕ → ℕ → List ℕ → ℕ → List ℕ → List ℕ
record_with long commit names named pages paged = 1 ∷ number long ++ number commit ++ number names ++ named ++ number pages ++ paged

-- a set of a name of one byte
abbrev set : ℕ → ℕ → ℕ → List ℕ
set name commit ordinal = 1 ∷ document name commit ordinal

-- a page that is gone
abbrev gone : ℕ → ℕ → ℕ → List ℕ
gone commit ordinal page = number commit ++ number ordinal ++ number page ++ 0 ∷ []

-- a closed gate, and a file that was never a candidate
abbrev shut : List ℕ
shut = 0 ∷ []

-- a new log
abbrev fresh : List ℕ
fresh = log 1 0 0 0 shut

-- a log with the document `d`, whose page 0 is in slot 0; what stands behind it begins with the gate at 92
abbrev with_d : List ℕ → List ℕ
with_d rest = log 1 1 1 1 (document 100 1 0 ++ row 1 0 0 0 ++ rest)

-- ---- what is asked of the catalogue, the spaces and the pages

abbrev space : ℕ → ℕ → Space
space commit ordinal = record { commit = commit; ordinal = ordinal }

abbrev page : ℕ → ℕ → ℕ → PageId
page commit ordinal number = record { space = space commit ordinal; number = number }

abbrev flat : ℕ → ℕ → DocEntry
flat commit ordinal = record { space = space commit ordinal; clustered = false }

-- a name of one byte, with this flat document
abbrev named : ℕ → ℕ → ℕ → Names
named name commit ordinal = finite.insert finite.empty (name ∷ []) (flat commit ordinal)

-- one space, and one page
abbrev one_space : ℕ → ℕ → Spaces
one_space commit ordinal = finite.insert finite.empty (space commit ordinal) tt

abbrev one_page : PageId → PageIds
one_page id = finite.insert finite.empty id tt

-- no name is in an empty catalogue, no space among none, no page among none
no_name : (name : List ℕ) → finite.get {X = DocEntry} {R = slice_cmp nat_cmp} finite.empty name ≡ None
no_name name = finite.get-empty (slice_cmp nat_cmp) name

no_space : (s : Space) → finite.get {X = Unit {0}} {R = space_cmp} finite.empty s ≡ None
no_space s = finite.get-empty space_cmp s

no_page : (id : PageId) → finite.get {X = Unit {0}} {R = page_cmp} finite.empty id ≡ None
no_page id = finite.get-empty page_cmp id

-- what one entry answers
of_name : (n q : List ℕ) (e : DocEntry) → finite.get {R = slice_cmp nat_cmp} (finite.insert finite.empty n e) q
    ≡ cond (eq_by_cmp (slice_cmp nat_cmp) q n) (Some e) None
of_name n q e = finite.get-insert nat_list_cmp_total finite.empty n e q ∙ ap (cond (eq_by_cmp (slice_cmp nat_cmp) q n) (Some e)) (no_name q)

of_space : (s q : Space) → finite.get (one_space s.commit s.ordinal) q ≡ cond (eq_by_cmp space_cmp q s) (Some tt) None
of_space s q = finite.get-insert space_cmp-total finite.empty s tt q ∙ ap (cond (eq_by_cmp space_cmp q s) (Some tt)) (no_space q)

of_page : (id q : PageId) → finite.get (one_page id) q ≡ cond (eq_by_cmp page_cmp q id) (Some tt) None
of_page id q = finite.get-insert page_cmp-total finite.empty id tt q ∙ ap (cond (eq_by_cmp page_cmp q id) (Some tt)) (no_page q)

no_entries : {A : Type 0} (es : List A) → length es ≡ 0 → es ≡ []
no_entries [] none = refl
no_entries (e ∷ es) none = absurd (omega (arith, none))

-- no space is among none, and one is among one
no_spaces : finite.entries {X = Unit {0}} {R = space_cmp} finite.empty ≡ []
no_spaces = no_entries _ (sym (finite.len-entries (finite.empty {X = Unit {0}} {R = space_cmp})) ∙ finite.len-empty space_cmp (Unit {0}))

space_alone : (s : Space) → finite.entries (one_space s.commit s.ordinal) ≡ (s, tt) ∷ []
space_alone s = finite.entries-insert space_cmp-total finite.empty s tt ∙ ap (finite.put space_cmp s tt) no_spaces

-- without the one there is none
none_left : finite.remove (one_space 1 0) (space 1 0) ≡ finite.empty
none_left = finite.empty_of_len _ (finite.len-remove space_cmp-total (one_space 1 0) (space 1 0) ∙ rw (
  of_space (space 1 0) (space 1 0),
  finite.len-insert space_cmp-total finite.empty (space 1 0) (tt {0}),
  no_space (space 1 0),
  finite.len-empty space_cmp (Unit {0}),
) refl)

-- ---- stores

-- the 42 bytes of a new log
bytes_of_a_new_log : fresh
    ≡ 1 ∷ 88 ∷ 68 ∷ 66 ∷ 76 ∷ 79 ∷ 71 ∷ 48 ∷ 49 ∷ 0 ∷ 0 ∷ 0 ∷ 0 ∷ 0 ∷ 0 ∷ 0 ∷ 1 ∷ 0 ∷ 0 ∷ 0 ∷ 0 ∷ 0 ∷ 0 ∷ 0 ∷ 0 ∷ 0 ∷ 0 ∷ 0 ∷ 0 ∷ 0 ∷ 0 ∷ 0 ∷ 0 ∷ 0 ∷
    0 ∷ 0 ∷ 0 ∷ 0 ∷ 0 ∷ 0 ∷ 0 ∷ 0 ∷ []
unfolding number
bytes_of_a_new_log = refl

-- the 75 bytes of a log with one commit without changes
bytes_of_a_log_with_one_commit : log 1 0 0 0 (record_with 24 1 0 [] 0 shut)
    ≡ 1 ∷ 88 ∷ 68 ∷ 66 ∷ 76 ∷ 79 ∷ 71 ∷ 48 ∷ 49 ∷ 0 ∷ 0 ∷ 0 ∷ 0 ∷ 0 ∷ 0 ∷ 0 ∷ 1 ∷ 0 ∷ 0 ∷ 0 ∷ 0 ∷ 0 ∷ 0 ∷ 0 ∷ 0 ∷ 0 ∷ 0 ∷ 0 ∷ 0 ∷ 0 ∷ 0 ∷ 0 ∷ 0 ∷ 0 ∷
    0 ∷ 0 ∷ 0 ∷ 0 ∷ 0 ∷ 0 ∷ 0 ∷ 1 ∷ 0 ∷ 0 ∷ 0 ∷ 0 ∷ 0 ∷ 0 ∷ 0 ∷ 24 ∷ 0 ∷ 0 ∷ 0 ∷ 0 ∷ 0 ∷ 0 ∷ 0 ∷ 1 ∷ 0 ∷ 0 ∷ 0 ∷ 0 ∷ 0 ∷ 0 ∷ 0 ∷ 0 ∷ 0 ∷ 0 ∷ 0 ∷ 0 ∷
    0 ∷ 0 ∷ 0 ∷ 0 ∷ 0 ∷ []
unfolding number
bytes_of_a_log_with_one_commit = refl

-- a new store: 42 bytes, the second log one byte, no slots
bytes_of_a_new_store : opened (files [] fresh shut)
    ≡ Ok (record { commit = 0; generation = 1; record_bytes = 0; names = finite.empty; pages = finite.empty })
unfolding computed
bytes_of_a_new_store = refl

-- after a commit without changes the log has 75 bytes
bytes_of_one_commit : opened (files [] (log 1 0 0 0 (record_with 24 1 0 [] 0 shut)) shut)
    ≡ Ok (record { commit = 1; generation = 1; record_bytes = 33; names = finite.empty; pages = finite.empty })
unfolding computed
bytes_of_one_commit = refl

-- the last generation is good
last_generation : opened (files [] (log 18446744073709551615 0 0 0 shut) [])
    ≡ Ok (record { commit = 0; generation = 18446744073709551615; record_bytes = 0; names = finite.empty; pages = finite.empty })
unfolding computed
last_generation = refl

-- generation 0 is good, and so is a second log that is empty
generation_of_0 : opened (files [] (log 0 0 0 0 shut) [])
    ≡ Ok (record { commit = 0; generation = 0; record_bytes = 0; names = finite.empty; pages = finite.empty })
unfolding computed
generation_of_0 = refl

-- the second log alone
second_log : opened (files [] [] (log 1 5 0 0 shut))
    ≡ Ok (record { commit = 5; generation = 1; record_bytes = 0; names = finite.empty; pages = finite.empty })
unfolding computed
second_log = refl

-- neither log has an open gate
foreign_bytes : opened (files [] (7 ∷ 7 ∷ []) []) ≡ no_store LogA 0
unfolding computed
foreign_bytes = refl

-- three empty files
nothing_at_all : opened (files [] [] []) ≡ no_store LogA 0
unfolding computed
nothing_at_all = refl

-- an open gate, but not the 8 bytes
foreign_bytes_behind_a_gate : opened (files [] (1 ∷ 7 ∷ []) []) ≡ no_store LogA 1
unfolding computed
foreign_bytes_behind_a_gate = refl

-- ---- which log counts

-- of two candidates that of the greater generation counts
greater_generation_counts : opened (files [] (log 1 3 0 0 shut) (log 2 4 0 0 shut))
    ≡ Ok (record { commit = 4; generation = 2; record_bytes = 0; names = finite.empty; pages = finite.empty })
unfolding computed
greater_generation_counts = refl

-- and it may be the first
first_log_may_be_newer : opened (files [] (log 8 3 0 0 shut) (log 7 4 0 0 shut))
    ≡ Ok (record { commit = 3; generation = 8; record_bytes = 0; names = finite.empty; pages = finite.empty })
unfolding computed
first_log_may_be_newer = refl

-- two equal generations
equal_generations : opened (files [] (log 1 0 0 0 shut) (log 1 0 0 0 shut)) ≡ no_store LogB 9
unfolding computed
equal_generations = refl

-- equal generations are named before any field behind them
equal_though_broken : opened (files [] (1 ∷ magic ++ number 1) (log 1 0 0 0 shut)) ≡ no_store LogB 9
unfolding computed
equal_though_broken = refl

-- the log that does not count is read no further than its generation
older_is_not_read : opened (files [] (1 ∷ magic ++ number 1) (log 2 4 0 0 shut))
    ≡ Ok (record { commit = 4; generation = 2; record_bytes = 0; names = finite.empty; pages = finite.empty })
unfolding computed
older_is_not_read = refl

-- a candidate without the 8 bytes, beside a good one
each_has_the_8_bytes : opened (files [] fresh (1 ∷ [])) ≡ no_store LogB 1
unfolding computed
each_has_the_8_bytes = refl

-- the 8 bytes of both are tested before a generation of either
the_8_bytes_come_first : opened (files [] (1 ∷ magic ++ 0 ∷ []) (1 ∷ 88 ∷ [])) ≡ no_store LogB 1
unfolding computed
the_8_bytes_come_first = refl

-- of two without the 8 bytes the first is named
first_log_first : opened (files [] (1 ∷ []) (1 ∷ [])) ≡ no_store LogA 1
unfolding computed
first_log_first = refl

-- a candidate that ends before its generation does
generation_past_the_end : opened (files [] (1 ∷ magic ++ 0 ∷ []) fresh) ≡ no_store LogA 9
unfolding computed
generation_past_the_end = refl

-- a first byte that is not 1 makes no candidate, whatever it is
another_gate : opened (files [] (213 ∷ magic ++ number 1) fresh)
    ≡ Ok (record { commit = 0; generation = 1; record_bytes = 0; names = finite.empty; pages = finite.empty })
unfolding computed
another_gate = refl

-- ---- where a file ends early

-- the commit runs past the end
ends_before_commit : opened (files [] (1 ∷ magic ++ number 1) []) ≡ no_store LogA 17
unfolding computed
ends_before_commit = refl

-- the number of documents runs past the end
ends_in_documents : opened (files [] (1 ∷ magic ++ number 1 ++ number 0 ++ 0 ∷ []) []) ≡ no_store LogA 25
unfolding computed
ends_in_documents = refl

-- the number of pages runs past the end
ends_in_pages : opened (files [] (1 ∷ magic ++ number 1 ++ number 0 ++ number 0 ++ 0 ∷ []) []) ≡ no_store LogA 33
unfolding computed
ends_in_pages = refl

-- the gate of the first record is missing
ends_before_gate : opened (files [] (log 1 0 0 0 []) []) ≡ no_store LogA 41
unfolding computed
ends_before_gate = refl

-- a name runs past the end
ends_in_a_name : opened (files [] (log 1 2 3 0 (3 ∷ 1 ∷ 68 ∷ [])) []) ≡ no_store LogA 42
unfolding computed
ends_in_a_name = refl

-- the space behind a name runs past the end
ends_behind_a_name : opened (files [] [] (log 1 2 3 3 (1 ∷ 68 ∷ []))) ≡ no_store LogB 43
unfolding computed
ends_behind_a_name = refl

-- a number of documents that the file cannot hold: the first runs past the end
many_documents : opened (files [] (log 1 0 18446744073709551615 0 []) []) ≡ no_store LogA 41
unfolding computed
many_documents = refl

-- a number of pages that the file cannot hold
many_pages : opened (files [] (log 1 0 0 18446744073709551615 []) []) ≡ no_store LogA 41
unfolding computed
many_pages = refl

-- the length of a record runs past the end
ends_in_length : opened (files [] (log 1 0 0 0 (1 ∷ 0 ∷ [])) []) ≡ no_store LogA 42
unfolding computed
ends_in_length = refl

-- the commit of a record runs past the end
ends_in_record_commit : opened (files [] (log 1 0 0 0 (1 ∷ number 24 ++ 0 ∷ [])) []) ≡ no_store LogA 50
unfolding computed
ends_in_record_commit = refl

-- the next gate is missing
ends_before_next_gate : opened (files [] (log 1 0 0 0 (record_with 24 1 0 [] 0 [])) []) ≡ no_store LogA 74
unfolding computed
ends_before_next_gate = refl

-- ---- gates of records

-- a gate that is not 1 ends the records, whatever it is and whatever stands behind it
closed_gate : opened (files [] (log 1 0 0 0 (7 ∷ number 24 ++ number 1 ++ number 0 ++ number 0 ++ shut)) shut)
    ≡ Ok (record { commit = 0; generation = 1; record_bytes = 0; names = finite.empty; pages = finite.empty })
unfolding computed
closed_gate = refl

-- records are taken while their gates are open
two_records : opened (files [] (log 1 0 0 0 (record_with 24 1 0 [] 0 (record_with 24 2 0 [] 0 shut))) shut)
    ≡ Ok (record { commit = 2; generation = 1; record_bytes = 66; names = finite.empty; pages = finite.empty })
unfolding computed
two_records = refl

-- ---- wrong fields of a head

-- an empty name
empty_name : opened (files [] (log 1 1 1 0 (0 ∷ [])) []) ≡ no_store LogA 41
unfolding computed
empty_name = refl

-- a name with a character below a space
name_against_the_rules : opened (files [] (log 1 1 1 0 (1 ∷ 31 ∷ [])) []) ≡ no_store LogA 41
unfolding computed
name_against_the_rules = refl

-- a name that is no UTF-8
name_that_is_no_text : opened (files [] (log 1 1 1 0 (1 ∷ 255 ∷ [])) []) ≡ no_store LogA 41
unfolding computed
name_that_is_no_text = refl

-- a name that comes before the one before it
names_out_of_order : opened (files [] (log 1 1 2 0 (document 98 1 0 ++ document 97 1 1)) []) ≡ no_store LogA 60
unfolding computed
names_out_of_order = rw (no_space (space 1 0)) refl

-- a name that stands twice
name_twice : opened (files [] (log 1 1 2 0 (document 98 1 0 ++ document 98 1 1)) []) ≡ no_store LogA 60
unfolding computed
name_twice = rw (no_space (space 1 0)) refl

-- a form past 1
another_form : opened (files [] (log 1 1 1 1 (1 ∷ 100 ∷ number 1 ++ number 0 ++ 7 ∷ [])) []) ≡ no_store LogA 59
unfolding computed
another_form = rw (no_space (space 1 0)) refl

-- a space that two names have
space_of_two_names : opened (files [] (log 1 1 2 0 (document 97 1 0 ++ document 98 1 0)) []) ≡ no_store LogA 62
unfolding computed
space_of_two_names = rw (no_space (space 1 0), of_space (space 1 0) (space 1 0)) refl

-- a space of commit 0, also where the file ends behind it
space_of_commit_0 : opened (files [] (log 1 1 1 0 (1 ∷ 100 ∷ number 0)) []) ≡ no_store LogA 43
unfolding computed
space_of_commit_0 = refl

-- a space of a commit past that of the head
space_past_the_head : opened (files [] (log 1 1 1 0 (1 ∷ 100 ∷ number 2)) []) ≡ no_store LogA 43
unfolding computed
space_past_the_head = refl

-- a page of a commit that no document has
page_of_no_commit : opened (files [] (log 1 1 1 1 (document 100 1 0 ++ row 2 0 0 0)) []) ≡ no_store LogA 60
unfolding computed
page_of_no_commit = rw (no_space (space 1 0), space_alone (space 1 0)) refl

-- a page of a space that no document has
page_of_no_document : opened (files [] (log 1 1 1 1 (document 100 1 0 ++ row 1 5 0 0)) []) ≡ no_store LogA 60
unfolding computed
page_of_no_document = rw (no_space (space 1 0), space_alone (space 1 0), of_space (space 1 0) (space 1 5)) refl

-- a slot that the slot file does not have whole
slot_past_the_end : (slots : List ℕ) → length slots ≡ 4095 → opened (files slots (with_d shut) shut) ≡ no_store LogA 84
unfolding computed
slot_past_the_end slots long = rw (no_space (space 1 0), space_alone (space 1 0), of_space (space 1 0) (space 1 0), long) refl

-- the last number as a slot
slot_far_past_the_end : (slots : List ℕ) → length slots ≡ 4096 →
    opened (files slots (log 1 1 1 1 (document 100 1 0 ++ row 1 0 0 18446744073709551615 ++ shut)) shut)
    ≡ no_store LogA 84
unfolding computed
slot_far_past_the_end slots long = rw (no_space (space 1 0), space_alone (space 1 0), of_space (space 1 0) (space 1 0), long) refl

-- a page that stands twice
page_out_of_order : (slots : List ℕ) → length slots ≡ 8192 →
    opened (files slots (log 1 1 1 2 (document 100 1 0 ++ row 1 0 0 0 ++ row 1 0 0 1 ++ shut)) shut)
    ≡ no_store LogA 92
unfolding computed
page_out_of_order slots long =
    rw (no_space (space 1 0), space_alone (space 1 0), of_space (space 1 0) (space 1 0), long, of_space (space 1 0) (space 1 0)) refl

-- a slot of two pages
slot_named_twice : (slots : List ℕ) → length slots ≡ 8192 →
    opened (files slots (log 1 1 1 2 (document 100 1 0 ++ row 1 0 0 0 ++ row 1 0 1 0 ++ shut)) shut)
    ≡ no_store LogA 116
unfolding computed
slot_named_twice slots long =
    rw (no_space (space 1 0), space_alone (space 1 0), of_space (space 1 0) (space 1 0), long, of_space (space 1 0) (space 1 0)) refl

-- a document without page 0
no_page_0 : (slots : List ℕ) → length slots ≡ 4096 → opened (files slots (log 1 1 1 1 (document 100 1 0 ++ row 1 0 1 0 ++ shut)) shut) ≡ no_store LogA 41
unfolding computed
no_page_0 slots long =
    rw (no_space (space 1 0), space_alone (space 1 0), of_space (space 1 0) (space 1 0), long, of_page (page 1 0 1) (page 1 0 0)) refl

-- a gate that is missing is named before a missing page 0
gate_before_page_0 : (slots : List ℕ) → length slots ≡ 4096 → opened (files slots (log 1 1 1 1 (document 100 1 0 ++ row 1 0 1 0)) shut) ≡ no_store LogA 92
unfolding computed
gate_before_page_0 slots long = rw (no_space (space 1 0), space_alone (space 1 0), of_space (space 1 0) (space 1 0), long) refl

-- a document with its page 0 in slot 0
one_document : (slots : List ℕ) → length slots ≡ 4096 → opened (files slots (with_d shut) shut)
    ≡ Ok (record { commit = 1; generation = 1; record_bytes = 0; names = named 100 1 0; pages = finite.insert finite.empty (page 1 0 0) (slot_in slots 0) })
unfolding computed
one_document slots long =
    rw (no_space (space 1 0), space_alone (space 1 0), of_space (space 1 0) (space 1 0), long, of_page (page 1 0 0) (page 1 0 0)) refl

-- the same file after 60 bytes: the first page runs past the end
document_cut_off : (slots : List ℕ) → length slots ≡ 4096 → opened (files slots (log 1 1 1 1 (document 100 1 0)) shut) ≡ no_store LogA 60
unfolding computed
document_cut_off slots long = rw (no_space (space 1 0)) refl

-- ---- wrong fields of a record

-- a commit that is not the one before plus 1
record_of_another_commit : opened (files [] (log 1 0 0 0 (record_with 24 2 0 [] 0 shut)) []) ≡ no_store LogA 50
unfolding computed
record_of_another_commit = refl

-- a length that is not that of the body
record_of_another_length : opened (files [] (log 1 0 0 0 (record_with 25 1 0 [] 0 shut)) []) ≡ no_store LogA 42
unfolding computed
record_of_another_length = refl

-- a next gate that is missing is named before a wrong length
gate_before_length : opened (files [] (log 1 0 0 0 (record_with 25 1 0 [] 0 [])) []) ≡ no_store LogA 74
unfolding computed
gate_before_length = refl

-- a kind of change past 1
another_kind : opened (files [] (log 1 0 0 0 (record_with 24 1 1 (2 ∷ []) 0 shut)) []) ≡ no_store LogA 66
unfolding computed
another_kind = refl

-- a drop of a name that is not there
drop_of_no_name : opened (files [] (log 1 0 0 0 (record_with 27 1 1 (0 ∷ 1 ∷ 100 ∷ []) 0 shut)) []) ≡ no_store LogA 67
unfolding computed
drop_of_no_name = rw (no_name (100 ∷ [])) refl

-- a new name whose space has another commit than the record
new_space_of_another_commit : opened (files [] (log 1 0 0 0 (record_with 44 1 1 (set 100 2 0) 0 shut)) []) ≡ no_store LogA 69
unfolding computed
new_space_of_another_commit = rw (no_name (100 ∷ [])) refl

-- a form past 1 in a set
another_form_set : opened (files [] (log 1 0 0 0 (record_with 44 1 1 (1 ∷ 1 ∷ 100 ∷ number 1 ++ number 0 ++ 2 ∷ []) 0 shut)) []) ≡ no_store LogA 85
unfolding computed
another_form_set = rw (no_name (100 ∷ []), no_space (space 1 0)) refl

-- a name that is set twice
set_twice : opened (files [] (log 1 0 0 0 (record_with 64 1 2 (set 100 1 0 ++ set 100 1 1) 0 shut)) []) ≡ no_store LogA 87
unfolding computed
set_twice = rw (no_name (100 ∷ []), no_space (space 1 0)) refl

-- a new space that another name has
new_space_of_two_names : opened (files [] (log 1 0 0 0 (record_with 64 1 2 (set 100 1 0 ++ set 101 1 0) 0 shut)) []) ≡ no_store LogA 89
unfolding computed
new_space_of_two_names =
    rw (no_name (100 ∷ []), no_space (space 1 0), of_name (100 ∷ []) (101 ∷ []) (flat 1 0), of_space (space 1 0) (space 1 0)) refl

-- a page where there is no document
page_of_no_space : opened (files [] (log 1 0 0 0 (record_with 49 1 0 [] 1 (gone 1 0 0 ++ shut))) []) ≡ no_store LogA 74
unfolding computed
page_of_no_space = rw (no_spaces) refl

-- a document that comes without page 0
set_without_page_0 : opened (files [] (log 1 0 0 0 (record_with 44 1 1 (set 100 1 0) 0 shut)) []) ≡ no_store LogA 67
unfolding computed
set_without_page_0 = rw (no_name (100 ∷ []), no_space (space 1 0), no_page (page 1 0 0)) refl

-- a name that is there, set with another space
set_with_another_space : (slots : List ℕ) → length slots ≡ 4096 → opened (files slots (with_d (record_with 44 2 1 (set 100 1 1) 0 shut)) shut)
    ≡ no_store LogA 120
unfolding computed
set_with_another_space slots long =
    rw (
      no_space (space 1 0),
      space_alone (space 1 0),
      of_space (space 1 0) (space 1 0),
      long,
      of_page (page 1 0 0) (page 1 0 0),
      of_name (100 ∷ []) (100 ∷ []) (flat 1 0),
    ) refl

-- a name that is there, set with a space of another commit
set_with_another_commit : (slots : List ℕ) → length slots ≡ 4096 → opened (files slots (with_d (record_with 44 2 1 (set 100 2 0) 0 shut)) shut)
    ≡ no_store LogA 120
unfolding computed
set_with_another_commit slots long =
    rw (
      no_space (space 1 0),
      space_alone (space 1 0),
      of_space (space 1 0) (space 1 0),
      long,
      of_page (page 1 0 0) (page 1 0 0),
      of_name (100 ∷ []) (100 ∷ []) (flat 1 0),
    ) refl

-- a kind of page past 1
another_page_kind : (slots : List ℕ) → length slots ≡ 4096 →
    opened (files slots (with_d (record_with 49 2 0 [] 1 (number 1 ++ number 0 ++ number 0 ++ 2 ∷ shut))) shut)
    ≡ no_store LogA 149
unfolding computed
another_page_kind slots long =
    rw (
      no_space (space 1 0),
      space_alone (space 1 0),
      of_space (space 1 0) (space 1 0),
      long,
      of_page (page 1 0 0) (page 1 0 0),
      space_alone (space 1 0),
      of_space (space 1 0) (space 1 0),
    ) refl

-- a gone page that is not there
gone_page_not_there : (slots : List ℕ) → length slots ≡ 4096 → opened (files slots (with_d (record_with 49 2 0 [] 1 (gone 1 0 5 ++ shut))) shut)
    ≡ no_store LogA 125
unfolding computed
gone_page_not_there slots long =
    rw (
      no_space (space 1 0),
      space_alone (space 1 0),
      of_space (space 1 0) (space 1 0),
      long,
      of_page (page 1 0 0) (page 1 0 0),
      space_alone (space 1 0),
      of_space (space 1 0) (space 1 0),
      of_page (page 1 0 0) (page 1 0 5),
    ) refl

-- a page 0 that is taken away
page_0_gone : (slots : List ℕ) → length slots ≡ 4096 → opened (files slots (with_d (record_with 49 2 0 [] 1 (gone 1 0 0 ++ shut))) shut) ≡ no_store LogA 125
unfolding computed
page_0_gone slots long =
    rw (
      no_space (space 1 0),
      space_alone (space 1 0),
      of_space (space 1 0) (space 1 0),
      long,
      of_page (page 1 0 0) (page 1 0 0),
      space_alone (space 1 0),
      of_space (space 1 0) (space 1 0),
      of_page (page 1 0 0) (page 1 0 0),
    ) refl

-- a page that runs past the end
image_cut_off : (slots : List ℕ) → length slots ≡ 4096 →
    opened (files slots (with_d (record_with 4145 2 0 [] 1 (number 1 ++ number 0 ++ number 1 ++ 1 ∷ 9 ∷ []))) shut)
    ≡ no_store LogA 150
unfolding computed
image_cut_off slots long =
    rw (
      no_space (space 1 0),
      space_alone (space 1 0),
      of_space (space 1 0) (space 1 0),
      long,
      of_page (page 1 0 0) (page 1 0 0),
      space_alone (space 1 0),
      of_space (space 1 0) (space 1 0),
    ) refl

-- a set that changes nothing is good
set_that_changes_nothing : (slots : List ℕ) → length slots ≡ 4096 → opened (files slots (with_d (record_with 44 2 1 (set 100 1 0) 0 shut)) shut)
    ≡ Ok (record {
      commit = 2;
      generation = 1;
      record_bytes = 53;
      names = finite.insert (named 100 1 0) (100 ∷ []) (flat 1 0);
      pages = finite.insert finite.empty (page 1 0 0) (slot_in slots 0);
    })
unfolding computed
set_that_changes_nothing slots long =
    rw (
      no_space (space 1 0),
      space_alone (space 1 0),
      of_space (space 1 0) (space 1 0),
      long,
      of_page (page 1 0 0) (page 1 0 0),
      of_name (100 ∷ []) (100 ∷ []) (flat 1 0),
      of_page (page 1 0 0) (page 1 0 0),
    ) refl

-- a page of a document that its own record drops belongs to no document
page_of_a_dropped_document : (slots : List ℕ) → length slots ≡ 4096 →
    opened (files slots (with_d (record_with 52 2 1 (0 ∷ 1 ∷ 100 ∷ []) 1 (gone 1 0 0 ++ shut))) shut)
    ≡ no_store LogA 128
unfolding computed
page_of_a_dropped_document slots long =
    rw (
      no_space (space 1 0),
      space_alone (space 1 0),
      of_space (space 1 0) (space 1 0),
      long,
      of_page (page 1 0 0) (page 1 0 0),
      of_name (100 ∷ []) (100 ∷ []) (flat 1 0),
      of_name (100 ∷ []) (100 ∷ []) (flat 1 0),
      none_left,
      no_spaces,
    ) refl
