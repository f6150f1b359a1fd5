-- How a record is read, field by field, with the first wrong field. A field is read from the front of bytes and gives
-- what stands behind it. A wrong field is named by how many bytes of the file stand from it on.
use Rattle.std.specs.Prelude.{◌≡◌, ◌⊎◌, ℕ, zero, suc, ◌+◌, ◌-◌, Bool, true, false, not, ◌==◌, ◌&&◌, ◌||◌, nat_lt, nat_le, slice_get, slice_index, ◌<◌, if◌then◌else◌, List, [], ◌∷◌, ◌++◌, length, take, drop, Option, Some, None, is_some, is_none, Result, Ok, Err}
use Rattle.std.specs.List.{list_all}
use Rattle.std.specs.Int.{w64, from_be_bytes}
use Rattle.std.specs.Str.{is_utf8}
use Rattle.std.specs.Ordering.{nat_cmp}
use Rattle.std.specs.Cmp.Lexicographic.{slice_cmp}
use Rattle.std.specs.declared.cmp.Ordering.{Ordering}
use Rattle.std.specs.declared.cmp.Ordering.TheVariants.{Less, Equal, Greater}
use Rattle.std.specs.FinMap as map
use Rattle.page_bytes.specs.declared.page.TheConstants.{PAGE_BYTES}
use Rattle.page_bytes.specs.declared.ids.Space.{Space}
use Rattle.page_bytes.specs.declared.ids.PageId.{PageId}
use Rattle.page_bytes.specs.declared.ids.DocEntry.{DocEntry}
use Rattle.page_bytes.specs.declared.lists.PageChange.{PageChange}
use Rattle.page_bytes.specs.Order.{space_cmp, page_cmp}
use Rattle.page_bytes.specs.Head.{head_of}
use Rattle.redo_log.specs.declared.change.LogName.{LogName}
use Rattle.redo_log.specs.declared.change.Change.{Change}
use Rattle.redo_log.specs.Record.{name_change, page_change}
use Rattle.redo_log.specs.declared.store.Store.{Store}
use Rattle.page_bytes.specs.Known.{PageIds, Spaces}
use Rattle.redo_log.specs.Store.{entry_of, same_space, has_space, has_commit, after_name, after_names, with_images, no_image, after}

-- what is read after a field reads on from there, and the first wrong field stays
infixl 10 ◌>>=◌
abbrev pub ◌>>=◌ : {A B : Type 0} → Result A ℕ → (A → Result B ℕ) → Result B ℕ
(Ok x) >>= f = f x
(Err n) >>= f = Err n

-- what is right, or the place of what is wrong
abbrev pub check : Bool → ℕ → Result (Unit {0}) ℕ
check true n = Ok tt
check false n = Err n

-- bytes are numbers below 256
abbrev pub IsBytes : List ℕ → Type 0
IsBytes bytes = (i : ℕ) → slice_index bytes i < 256

-- A number of eight bytes, or of one.
unfoldable pub number_in : List ℕ → ℕ
number_in bytes = from_be_bytes w64 (take 8 bytes)

-- a number, and the bytes after it; where eight aren't left, how many are
abbrev pub number_at : List ℕ → Result (ℕ × List ℕ) ℕ
number_at bytes = if nat_lt (length bytes) 8 then Err (length bytes) else Ok (number_in bytes, drop 8 bytes)

-- a byte, and those after it; where none is left, 0
abbrev pub byte_at : List ℕ → Result (ℕ × List ℕ) ℕ
byte_at [] = Err 0
byte_at (b ∷ rest) = Ok (b, rest)

-- so many bytes
abbrev pub bytes_at : ℕ → List ℕ → Result (List ℕ × List ℕ) ℕ
bytes_at n bytes = if nat_lt (length bytes) n then Err (length bytes) else Ok (take n bytes, drop n bytes)

-- a document's name is UTF-8, is not empty, and has no character below a space
abbrev pub is_name : List ℕ → Bool
is_name name = (is_utf8 name && nat_lt 0 (length name)) && list_all (λ b. nat_le 32 b) name

-- the last one of those that are done
abbrev pub last_in : {A : Type 0} → List A → Option A
last_in xs = slice_get xs (length xs - 1)

-- names rise in the order of their bytes; of one name a drop comes first, and then a set
abbrev pub rises : Ordering → Bool → Bool → Bool
rises Less dropped sets = true
rises Equal dropped sets = dropped && sets
rises Greater dropped sets = false

-- whether a name may come after the last that is done, `sets` where it is set and not dropped
abbrev pub is_next_name : Option LogName → Bool → List ℕ → Bool
is_next_name None sets name = true
is_next_name (Some last) sets name = rises (slice_cmp nat_cmp last.name name) (is_none last.entry) sets

-- a new document has a space of the record's commit, and one that is there keeps its space
abbrev pub is_commit_of : Option DocEntry → ℕ → ℕ → Bool
is_commit_of None commit c = c == commit
is_commit_of (Some e) commit c = c == e.space.commit

-- a new document's space is no other's, and one that is there keeps its own
abbrev pub is_space_of : Option DocEntry → Spaces → Space → Bool
is_space_of None spaces space = not (has_space spaces space)
is_space_of (Some e) spaces space = same_space e.space space

-- A set's space and form.
unfoldable pub entry_at : ℕ → Store → List ℕ → List ℕ → Result (DocEntry × List ℕ) ℕ
entry_at commit s name bytes = do
  c ← number_at bytes
  came ← check (is_commit_of (entry_of name s.names) commit c.0) (length bytes)
  o ← number_at c.1
  own ← check (is_space_of (entry_of name s.names) s.spaces (record { commit = c.0; ordinal = o.0 })) (length bytes)
  form ← byte_at o.1
  known ← check (nat_lt form.0 2) (length o.1)
  Ok (record { space = record { commit = c.0; ordinal = o.0 }; clustered = form.0 == 1 }, form.1)

-- the entry of a name that is set; a drop has none
abbrev pub entry_if : Bool → ℕ → Store → List ℕ → List ℕ → Result (Option DocEntry × List ℕ) ℕ
entry_if false commit s name bytes = Ok (None, bytes)
entry_if true commit s name bytes = do
  e ← entry_at commit s name bytes
  Ok (Some e.0, e.1)

-- One change of a name, after those that are done. A wrong name is named by its length.
unfoldable pub name_at : ℕ → List LogName → Store → List ℕ → Result (LogName × List ℕ) ℕ
name_at commit done s bytes = do
  kind ← byte_at bytes
  known ← check (nat_lt kind.0 2) (length bytes)
  long ← byte_at kind.1
  name ← bytes_at long.0 long.1
  good ← check (is_name name.0) (length kind.1)
  next ← check (is_next_name (last_in done) (kind.0 == 1) name.0) (length kind.1)
  there ← check (kind.0 == 1 || is_some (entry_of name.0 s.names)) (length kind.1)
  entry ← entry_if (kind.0 == 1) commit s name.0 name.1
  Ok (record { name = name.0; entry = entry.0 }, entry.1)

-- So many more changes of names, after those that are done. The store is as these leave it.
unfoldable pub names_at : ℕ → ℕ → List LogName → Store → List ℕ → Result (List LogName × List ℕ) ℕ
names_at commit zero done s bytes = Ok (done, bytes)
names_at commit (suc n) done s bytes = do
  first ← name_at commit done s bytes
  names_at commit n (done ++ first.0 ∷ []) (after_name first.0 s) first.1

-- pages rise
abbrev pub is_next_commit : Option PageChange → ℕ → Bool
is_next_commit None commit = true
is_next_commit (Some last) commit = nat_le last.id.space.commit commit

-- whether the first of two is before the second
abbrev pub is_below : Ordering → Bool
is_below Less = true
is_below Equal = false
is_below Greater = false

-- whether a space isn't before that of the last page
abbrev pub is_next_space : Option PageChange → Space → Bool
is_next_space None space = true
is_next_space (Some last) space = not (is_below (space_cmp space last.id.space))

-- whether a page is after the last one
abbrev pub is_next_page : Option PageChange → PageId → Bool
is_next_page None id = true
is_next_page (Some last) id = is_below (page_cmp last.id id)

-- A page's place, which lies in a document's space. A wrong page is named by its space's commit.
unfoldable pub id_at : Option PageChange → Spaces → List ℕ → Result (PageId × List ℕ) ℕ
id_at last spaces bytes = do
  c ← number_at bytes
  came ← check (is_next_commit last c.0 && has_commit spaces c.0) (length bytes)
  o ← number_at c.1
  own ← check (is_next_space last (record { commit = c.0; ordinal = o.0 }) && has_space spaces (record { commit = c.0; ordinal = o.0 })) (length bytes)
  number ← number_at o.1
  next ← check (is_next_page last (record { space = record { commit = c.0; ordinal = o.0 }; number = number.0 })) (length bytes)
  Ok (record { space = record { commit = c.0; ordinal = o.0 }; number = number.0 }, number.1)

-- The same, where the space alone decides if all of it is there.
unfoldable pub id_by_space : Option PageChange → Spaces → List ℕ → Result (PageId × List ℕ) ℕ
id_by_space last spaces bytes = do
  c ← number_at bytes
  came ← check (is_next_commit last c.0 && (nat_le 8 (length c.1) || has_commit spaces c.0)) (length bytes)
  o ← number_at c.1
  own ← check (is_next_space last (record { commit = c.0; ordinal = o.0 }) && has_space spaces (record { commit = c.0; ordinal = o.0 })) (length bytes)
  number ← number_at o.1
  next ← check (is_next_page last (record { space = record { commit = c.0; ordinal = o.0 }; number = number.0 })) (length bytes)
  Ok (record { space = record { commit = c.0; ordinal = o.0 }; number = number.0 }, number.1)

-- the bytes of a page that is there; one that is gone has none
abbrev pub image_if : Bool → List ℕ → Result (Option (List ℕ) × List ℕ) ℕ
image_if false bytes = Ok (None, bytes)
image_if true bytes = do
  page ← bytes_at PAGE_BYTES bytes
  Ok (Some page.0, page.1)

-- One page, after those that are done. A page that is gone was there.
unfoldable pub page_at : List PageChange → Store → List ℕ → Result (PageChange × List ℕ) ℕ
page_at done s bytes = do
  id ← id_at (last_in done) s.spaces bytes
  kind ← byte_at id.1
  known ← check (nat_lt kind.0 2) (length id.1)
  there ← check (kind.0 == 1 || map.contains_key s.pages id.0) (length bytes)
  image ← image_if (kind.0 == 1) kind.1
  Ok (record { id = id.0; page = image.0 }, image.1)

-- So many more pages, after those that are done.
unfoldable pub pages_at : ℕ → List PageChange → Store → List ℕ → Result (List PageChange × List ℕ) ℕ
pages_at zero done s bytes = Ok (done, bytes)
pages_at (suc n) done s bytes = do
  first ← page_at done s bytes
  pages_at n (done ++ first.0 ∷ []) s first.1

-- A document without page 0: the first set of a document whose page 0 was not there and has no image, by its name's
-- length; then the first page 0 that is gone, by the page. The names, and the pages, begin where so many bytes are left.
abbrev pub has_home : PageIds → Option DocEntry → Bool
has_home pages None = true
has_home pages (Some e) = map.contains_key pages (head_of e.space)

-- each name's document has its page 0; the first that hasn't is named by its name's length
abbrev pub names_housed : PageIds → List LogName → ℕ → Result (Unit {0}) ℕ
names_housed pages [] left = Ok tt
names_housed pages (n ∷ ns) left = do
  housed ← check (has_home pages n.entry) (left - 1)
  names_housed pages ns (left - length (name_change n))

-- whether a change is no page 0 that is gone
abbrev pub is_no_head : PageChange → Bool
is_no_head c = is_some c.page || nat_lt 0 c.id.number

-- no page 0 is gone; if one is, the first is named by its page
abbrev pub pages_housed : List PageChange → ℕ → Result (Unit {0}) ℕ
pages_housed [] left = Ok tt
pages_housed (c ∷ cs) left = do
  housed ← check (is_no_head c) left
  pages_housed cs (left - length (page_change c))

-- The changes of a record: the commit, the names, the pages.
unfoldable pub body_at : Store → List ℕ → Result (Change × List ℕ) ℕ
body_at s bytes = do
  commit ← number_at bytes
  next ← check (commit.0 == s.commit + 1) (length bytes)
  named ← number_at commit.1
  names ← names_at commit.0 named.0 [] s named.1
  paged ← number_at names.1
  pages ← pages_at paged.0 [] (after_names names.0 s) paged.1
  Ok (record { commit = commit.0; names = names.0; pages = pages.0 }, pages.1)

-- how many bytes the changes of names have
abbrev pub names_length : List LogName → ℕ
names_length [] = 0
names_length (n ∷ ns) = length (name_change n) + names_length ns

-- Each document has its page 0 after these changes, whose body begins where so many bytes are left; the pages are those
-- that are there after the changes of names.
abbrev pub all_housed : Change → PageIds → ℕ → Result (Unit {0}) ℕ
all_housed c pages left = do
  named ← names_housed (with_images no_image c.pages pages) c.names (left - 16)
  pages_housed c.pages (left - 24 - names_length c.names)

-- A record, from its length on: the length, the body, the next gate. First the fields in their order, the next gate among
-- them; then whether the length is the body's; then the documents without page 0.
unfoldable pub record_at : Store → List ℕ → Result (Change × List ℕ) ℕ
record_at s bytes = do
  long ← number_at bytes
  body ← body_at s long.1
  gate ← check (nat_lt 0 (length body.1)) 0
  exact ← check (long.0 + length body.1 == length long.1) (length bytes)
  housed ← all_housed body.0 (after_names body.0.names s).pages (length long.1)
  Ok body

-- These records follow each other from the gate on, and then comes a closed gate.
abbrev pub IsClosed : List ℕ → Type 0
IsClosed [] = ⊥
IsClosed (gate ∷ rest) = gate ≡ 1 → ⊥

-- each record has an open gate and reads, on what those before it leave, as its changes; `end` is at the last gate
abbrev pub AreRecords : Store → List Change → List ℕ → List ℕ → Type 0
AreRecords s [] bytes end = (bytes ≡ end) × IsClosed end
AreRecords s (c ∷ cs) bytes end =
    (rest : List ℕ) × (next : List ℕ) × (bytes ≡ 1 ∷ rest) × (record_at s rest ≡ Ok (c, next)) × AreRecords (after c s) cs next end

-- Behind these records a gate is past the end of the file, or is open and its record has a wrong field.
abbrev pub IsWrong : Store → List ℕ → ℕ → Type 0
IsWrong s bytes left = ((bytes ≡ []) × (left ≡ 0)) ⊎ ((rest : List ℕ) × (bytes ≡ 1 ∷ rest) × (record_at s rest ≡ Err left))

-- these records follow each other, and what is wrong comes after the last of them
abbrev pub IsRefused : Store → List Change → List ℕ → ℕ → Type 0
IsRefused s [] bytes left = IsWrong s bytes left
IsRefused s (c ∷ cs) bytes left =
    (rest : List ℕ) × (next : List ℕ) × (bytes ≡ 1 ∷ rest) × (record_at s rest ≡ Ok (c, next)) × IsRefused (after c s) cs next left
