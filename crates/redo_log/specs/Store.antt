-- What the records of a log stand on: the commit before the next record, the catalogue with its documents' spaces, and
-- the pages that are there. What a record does to pages is told for any map of pages, whatever it has at a page: the pages
-- that are there are one map, with nothing at each page, and the pages' images are another.
use Rattle.std.specs.Prelude.{◌≡◌, ℕ, Bool, not, ◌==◌, ◌&&◌, List, [], ◌∷◌, Option, Some, None}
use Rattle.std.specs.List.{list_any}
use Rattle.std.specs.FinMap as map
use Rattle.page_bytes.specs.declared.ids.Space.{Space}
use Rattle.page_bytes.specs.declared.ids.PageId.{PageId}
use Rattle.page_bytes.specs.declared.ids.DocEntry.{DocEntry}
use Rattle.page_bytes.specs.declared.lists.PageChange.{PageChange}
use Rattle.page_bytes.specs.Order.{page_cmp, is_in}
use Rattle.page_bytes.specs.Known.{PageIds, Spaces}
use Rattle.redo_log.specs.Names.{Names}
use Rattle.redo_log.specs.declared.change.LogName.{LogName}
use Rattle.redo_log.specs.declared.change.Change.{Change}
use Rattle.redo_log.specs.declared.store.Store.{Store}

-- what the catalogue has under a name
abbrev pub entry_of : List ℕ → Names → Option DocEntry
entry_of name names = map.get names name

-- whether these are one space
abbrev pub same_space : Space → Space → Bool
same_space s t = s.commit == t.commit && s.ordinal == t.ordinal

-- whether a document has this space
abbrev pub has_space : Spaces → Space → Bool
has_space spaces s = map.contains_key spaces s

-- whether a document has a space of this commit
abbrev pub has_commit : Spaces → ℕ → Bool
has_commit spaces commit = list_any (λ s. s.commit == commit) (map.keys spaces)

-- A drop takes the name, and its space. A set brings the name, or a new form of it.
abbrev pub names_after : List ℕ → Option DocEntry → Names → Names
names_after name None names = map.remove names name
names_after name (Some e) names = map.insert names name e

-- the spaces without that of a document, if there was one
abbrev pub without_space : Option DocEntry → Spaces → Spaces
without_space None spaces = spaces
without_space (Some e) spaces = map.remove spaces e.space

-- what a drop of a name, or a set with its space, leaves of the spaces, where the catalogue had this under it
abbrev pub spaces_after : Option DocEntry → Option DocEntry → Spaces → Spaces
spaces_after was None spaces = without_space was spaces
spaces_after was (Some e) spaces = map.insert spaces e.space tt

module _ {V : Type 0} where
  -- the pages without those of a document
  abbrev pub without_document : Option DocEntry → map.FinMap page_cmp V → map.FinMap page_cmp V
  without_document None pages = pages
  without_document (Some e) pages = map.retain_keys pages (λ id. not (is_in e.space id))

  -- a drop takes all pages of the name's space
  abbrev pub pages_after_name : Option DocEntry → Option DocEntry → map.FinMap page_cmp V → map.FinMap page_cmp V
  pages_after_name was None pages = without_document was pages
  pages_after_name was (Some e) pages = pages

  -- what these changes of names leave of the pages, one after another
  abbrev pub pages_after_names : List LogName → Names → map.FinMap page_cmp V → map.FinMap page_cmp V
  pages_after_names [] names pages = pages
  pages_after_names (n ∷ ns) names pages = pages_after_names ns (names_after n.name n.entry names) (pages_after_name (entry_of n.name names) n.entry pages)

  -- the pages with those of which there is an image, which is seen as a value
  abbrev pub with_image : (List ℕ → V) → Option (List ℕ) → PageId → map.FinMap page_cmp V → map.FinMap page_cmp V
  with_image seen None id pages = pages
  with_image seen (Some page) id pages = map.insert pages id (seen page)

  -- the pages with all images of these changes
  abbrev pub with_images : (List ℕ → V) → List PageChange → map.FinMap page_cmp V → map.FinMap page_cmp V
  with_images seen [] pages = pages
  with_images seen (c ∷ cs) pages = with_images seen cs (with_image seen c.page c.id pages)

  -- the pages without those that are gone
  abbrev pub without_page : Option (List ℕ) → PageId → map.FinMap page_cmp V → map.FinMap page_cmp V
  without_page None id pages = map.remove pages id
  without_page (Some page) id pages = pages

  -- the pages without all that these changes take
  abbrev pub without_gone : List PageChange → map.FinMap page_cmp V → map.FinMap page_cmp V
  without_gone [] pages = pages
  without_gone (c ∷ cs) pages = without_gone cs (without_page c.page c.id pages)

  -- what a record makes of pages, where the catalogue before it has these names
  abbrev pub pages_after : (List ℕ → V) → Change → Names → map.FinMap page_cmp V → map.FinMap page_cmp V
  pages_after seen c names pages = without_gone c.pages (with_images seen c.pages (pages_after_names c.names names pages))

-- the maps have the same pages
abbrev pub HaveSameKeys : {V W : Type 0} → map.FinMap page_cmp V → map.FinMap page_cmp W → Type 0
HaveSameKeys a b = (id : PageId) → map.contains_key a id ≡ map.contains_key b id

-- all of an image is seen
abbrev pub whole_image : List ℕ → List ℕ
whole_image page = page

-- nothing of an image is seen
abbrev pub no_image : List ℕ → Unit {0}
no_image page = tt

-- what a change of a name leaves: of the catalogue, the spaces and the pages
abbrev pub after_name : LogName → Store → Store
after_name n s = record {
  commit = s.commit;
  names = names_after n.name n.entry s.names;
  spaces = spaces_after (entry_of n.name s.names) n.entry s.spaces;
  pages = pages_after_name (entry_of n.name s.names) n.entry s.pages;
}

-- what these changes of names leave, one after another
abbrev pub after_names : List LogName → Store → Store
after_names [] s = s
after_names (n ∷ ns) s = after_names ns (after_name n s)

-- a commit's pages, where the names are as it leaves them
abbrev pub with_pages : Change → Store → Store
with_pages c s = record { commit = c.commit; names = s.names; spaces = s.spaces; pages = without_gone c.pages (with_images no_image c.pages s.pages) }

-- what the next record stands on
abbrev pub after : Change → Store → Store
after c s = with_pages c (after_names c.names s)

-- what the record after these stands on
abbrev pub after_all : List Change → Store → Store
after_all [] s = s
after_all (c ∷ cs) s = after_all cs (after c s)

-- what the first record stands on: the names are set one after the other
abbrev pub with_ids : List PageId → PageIds → PageIds
with_ids [] pages = pages
with_ids (id ∷ ids) pages = with_ids ids (map.insert pages id tt)

-- the store at this commit, with these names set one after the other, and these pages there
abbrev pub store_of : ℕ → List LogName → List PageId → Store
store_of commit names ids = after_names names (record { commit = commit; names = map.empty; spaces = map.empty; pages = with_ids ids map.empty })
