-- Calls that have nothing to do with a text or with schema entries: what they keep off.
use Rattle.std.specs.Prelude.{◌≡◌, ℕ, zero, suc, ◌+◌, ◌<◌, false, List, Option, Ok}
use Rattle.page_bytes.specs.declared.ids.Space.{Space}
use Rattle.page_bytes.specs.declared.ids.PageId.{PageId}
use Rattle.page_bytes.specs.declared.texts.TextRef.{TextRef}
use Rattle.page_bytes.specs.Own.{PageField, Own, HasOwnPage, HasNoField, AreBeside, KeepsToOwn}
use Rattle.page_bytes.specs.Seen.{PagesByNumber, seen, bytes, next_of}
use Rattle.page_bytes.specs.Work.{Work}
use Rattle.page_bytes.specs.Texts.{TEXT_KIND, Joined, joined}
use Rattle.page_bytes.specs.Schema.{SCHEMA_KIND, entry_count, entry_end, Next, looked}

-- A call that kept to what is its own: whose, how many pages it may make, the workspace before and after, the map of which the
-- workspace knows a part, and the space.
pub record Call : Type 0 where
  pub own : Own
  pub most : ℕ
  pub old : Work
  pub new : Work
  pub all : PageId → Option (List ℕ)
  pub space : Space

-- the call kept to what is its own, between the workspace before it and the one after it
abbrev pub Keeps : Call → Type 0
Keeps c = KeepsToOwn c.own c.most c.old c.new c.all c.space

-- the pages of its space before it, and after it
abbrev pub before : Call → PagesByNumber
before c = seen c.old.now c.all c.space

-- the pages of the call's space after it
abbrev pub behind : Call → PagesByNumber
behind c = seen c.new.now c.all c.space

-- The page isn't the head, nor of the call's kinds, has none of its fields, and was made before it.
pub record IsSpared (c : Call) (n : ℕ) : Type 0 where
  pub beside : 0 < n
  pub foreign : HasOwnPage c.own (before c n) → ⊥
  pub untouched : HasNoField c.own.fields n
  pub earlier : n < next_of (before c)

-- The call keeps off a text: off each page that its pieces lead to.
pub record SparesText (c : Call) (at : TextRef) : Type 0 where
  pub keeps : Keeps c
  pub kind : c.own.is_kind TEXT_KIND ≡ false
  pub untouched : (n : ℕ) (r : Joined) → joined c.old.now c.space at n ≡ Ok r → 0 < r.at.page → HasNoField c.own.fields r.at.page
  pub earlier : (n : ℕ) (r : Joined) → joined c.old.now c.space at n ≡ Ok r → 0 < r.at.page → r.at.page < next_of (before c)

-- where the j-th entry of a schema page stands
abbrev pub entry_place : ℕ → List ℕ → ℕ
entry_place zero page = 16
entry_place (suc j) page = entry_end (entry_place j page) page

-- No field is written in what the search for an entry reads of a schema page: its kind, the number of its entries, the next
-- schema page, and the id and the length of the name of each entry. The other fields of entries may be written.
pub record SparesEntries (fields : List PageField) (n : ℕ) (page : List ℕ) : Type 0 where
  pub kind : AreBeside fields n 0 1
  pub count : AreBeside fields n 2 2
  pub next : AreBeside fields n 8 8
  pub id : (j : ℕ) → j < entry_count page → AreBeside fields n (entry_place j page) 4
  pub name : (j : ℕ) → j < entry_count page → AreBeside fields n (entry_place j page + 25) 1

-- The call keeps off the search for a schema entry: off the head's first schema page, and on each schema page on the way off what
-- the search reads.
pub record SparesSchema (c : Call) (id : ℕ) : Type 0 where
  pub keeps : Keeps c
  pub kind : c.own.is_kind SCHEMA_KIND ≡ false
  pub head : AreBeside c.own.fields 0 0 1
  pub first : AreBeside c.own.fields 0 10 8
  pub entries : (n from number : ℕ) → looked c.old.now c.space id n ≡ Ok (Next from number) → 0 < number
      → SparesEntries c.own.fields number (bytes (before c) number)
  pub earlier : (n from number : ℕ) → looked c.old.now c.space id n ≡ Ok (Next from number) → 0 < number → number < next_of (before c)
