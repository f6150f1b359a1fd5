-- Which changes make a record on a store: those that reading takes.
use Rattle.std.specs.Prelude.{◌≡◌, ℕ, ◌+◌, ◌<◌, ◌≤◌, ◌^◌, IsTrue, List, [], ◌∷◌, ◌++◌, length, Option, Some, None, is_some, true}
use Rattle.std.specs.List.{list_all}
use Rattle.std.specs.FinMap as map
use Rattle.xq_ast.specs.declared.limits.TheConstants.{DOCUMENT_NAME_BYTES_MAX}
use Rattle.page_bytes.specs.declared.page.TheConstants.{PAGE_BYTES}
use Rattle.page_bytes.specs.declared.ids.Space.{Space}
use Rattle.page_bytes.specs.declared.ids.DocEntry.{DocEntry}
use Rattle.page_bytes.specs.Known.{Spaces}
use Rattle.redo_log.specs.Names.{Names}
use Rattle.page_bytes.specs.declared.ids.PageId.{PageId}
use Rattle.page_bytes.specs.declared.lists.PageChange.{PageChange}
use Rattle.redo_log.specs.declared.change.LogName.{LogName}
use Rattle.redo_log.specs.declared.change.Change.{Change}
use Rattle.redo_log.specs.declared.store.Store.{Store}
use Rattle.redo_log.specs.Record.{body_of}
use Rattle.redo_log.specs.Store.{entry_of, has_space, has_commit, after_name, after_names, with_images, no_image, after}
use Rattle.redo_log.specs.Reading.{last_in, is_name, is_next_name, is_commit_of, is_space_of, is_next_commit, is_next_space, is_next_page, has_home, is_no_head}

-- each document has a space of its own, and no other space is in use
pub record AreOwn (names : Names) (spaces : Spaces) : Type 0 where
  pub used : (name : List ℕ) (e : DocEntry) → entry_of name names ≡ Some e → has_space spaces e.space ≡ true
  pub own : (n m : List ℕ) (e f : DocEntry) → entry_of n names ≡ Some e → entry_of m names ≡ Some f → e.space ≡ f.space → n ≡ m
  pub no_other : (x : Space) → has_space spaces x ≡ true → (name : List ℕ) × (e : DocEntry) × (entry_of name names ≡ Some e) × (e.space ≡ x)

-- a name that is dropped is there; a new document has a new space of this commit, and one that is there keeps its space
abbrev pub IsEntryTaken : ℕ → Store → List ℕ → Option DocEntry → Type 0
IsEntryTaken commit s name None = IsTrue (is_some (entry_of name s.names))
IsEntryTaken commit s name (Some e) =
    (e.space.commit < 2 ^ 64) × (e.space.ordinal < 2 ^ 64) × IsTrue (is_commit_of (entry_of name s.names) commit e.space.commit)
    × IsTrue (is_space_of (entry_of name s.names) s.spaces e.space)

-- a change of a name after those that are done: it is a name, not too long, comes next, and its entry is taken
pub record IsNameTaken (commit : ℕ) (done : List LogName) (s : Store) (n : LogName) : Type 0 where
  pub name : IsTrue (is_name n.name)
  pub long : length n.name ≤ DOCUMENT_NAME_BYTES_MAX
  pub next : IsTrue (is_next_name (last_in done) (is_some n.entry) n.name)
  pub entry : IsEntryTaken commit s n.name n.entry

-- each change of a name is taken after those before it, on the store that they leave
abbrev pub AreNamesTaken : ℕ → List LogName → Store → List LogName → Type 0
AreNamesTaken commit done s [] = Unit {0}
AreNamesTaken commit done s (n ∷ ns) = IsNameTaken commit done s n × AreNamesTaken commit (done ++ n ∷ []) (after_name n s) ns

-- a page that is gone was there; an image has 4,096 bytes
abbrev pub IsImageTaken : Store → PageId → Option (List ℕ) → Type 0
IsImageTaken s id None = IsTrue (map.contains_key s.pages id)
IsImageTaken s id (Some page) = length page ≡ PAGE_BYTES

-- a page after those that are done: its numbers fit, its space is a document's, it comes next, its image is taken
pub record IsPageTaken (done : List PageChange) (s : Store) (c : PageChange) : Type 0 where
  pub commit : c.id.space.commit < 2 ^ 64
  pub ordinal : c.id.space.ordinal < 2 ^ 64
  pub number : c.id.number < 2 ^ 64
  pub from : IsTrue (is_next_commit (last_in done) c.id.space.commit) × IsTrue (has_commit s.spaces c.id.space.commit)
  pub own : IsTrue (is_next_space (last_in done) c.id.space) × IsTrue (has_space s.spaces c.id.space)
  pub next : IsTrue (is_next_page (last_in done) c.id)
  pub image : IsImageTaken s c.id c.page

-- each page is taken after those before it
abbrev pub ArePagesTaken : List PageChange → Store → List PageChange → Type 0
ArePagesTaken done s [] = Unit {0}
ArePagesTaken done s (c ∷ cs) = IsPageTaken done s c × ArePagesTaken (done ++ c ∷ []) s cs

-- the next commit's changes, after which each document has its page 0
pub record IsTaken (s : Store) (c : Change) : Type 0 where
  pub commit : c.commit ≡ s.commit + 1
  pub fits : c.commit < 2 ^ 64
  pub names_fit : length c.names < 2 ^ 64
  pub names : AreNamesTaken c.commit [] s c.names
  pub pages_fit : length c.pages < 2 ^ 64
  pub pages : ArePagesTaken [] (after_names c.names s) c.pages
  pub long : length (body_of c) < 2 ^ 64
  pub names_housed : IsTrue (list_all (λ n. has_home (with_images no_image c.pages (after_names c.names s).pages) n.entry) c.names)
  pub pages_housed : IsTrue (list_all is_no_head c.pages)

-- the changes of commits that follow each other
abbrev pub AreTaken : Store → List Change → Type 0
AreTaken s [] = Unit {0}
AreTaken s (c ∷ cs) = IsTaken s c × AreTaken (after c s) cs
