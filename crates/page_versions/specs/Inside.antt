-- What `Versions` keeps true of its fields.
use Rattle.std.specs.Prelude.{◌≡◌, ℕ, ◌<◌, ◌≤◌, Bool, true, false, List, [], ◌∷◌, length, Option, Some, None, IfSome, Contains, if◌then◌else◌}
use Rattle.std.specs.List.{list_any}
use Rattle.std.specs.Ordering.{eq_by_cmp}
use Rattle.std.specs.FinMap as map
use Rattle.page_bytes.specs.declared.ids.PageId.{PageId}
use Rattle.page_bytes.specs.Order.{page_cmp}
use Rattle.page_versions.specs.declared.version.Version.{Version}
use Rattle.page_versions.specs.ChainMap.{ChainMap, chain_in}
use Rattle.page_versions.specs.Chains.{is_staged}
use Rattle.page_versions.specs.Purging.{is_between, base, unstaged, has_staged}
use Rattle.page_versions.specs.declared.version.Image.{Image}

-- whether these are one page
abbrev pub is_page : PageId → PageId → Bool
is_page q id = eq_by_cmp page_cmp q id

-- whether a page is in a list
abbrev pub is_listed : List PageId → PageId → Bool
is_listed pages q = list_any (is_page q) pages

-- no chain is without versions
abbrev pub NoneEmpty : ChainMap → Type 0
NoneEmpty m = (q : PageId) → IfSome (map.get m q) (λ chain. 0 < length chain)

-- an open snapshot sees each of these versions, which stand below one of the commit `above`
abbrev pub AllSeen : List (Option ℕ) → ℕ → List Version → Type 0
AllSeen snapshots above [] = Unit {0}
AllSeen snapshots above (v ∷ vs) = (list_any (is_between v.commit above) snapshots ≡ true) × AllSeen snapshots v.commit vs

-- of published versions, an open snapshot sees all but the newest
abbrev pub IsSeen : List (Option ℕ) → List Version → Type 0
IsSeen snapshots [] = Unit {0}
IsSeen snapshots (v ∷ vs) = AllSeen snapshots v.commit vs

-- the version in front is of an earlier commit than what is staged
abbrev pub IsBefore : Option ℕ → List Version → Type 0
IsBefore None chain = Unit {0}
IsBefore (Some n) [] = Unit {0}
IsBefore (Some n) (v ∷ vs) = v.commit < n

-- a snapshot at this commit is before the version in front, where that is staged
abbrev pub IsLater : Option ℕ → ℕ → List Version → Type 0
IsLater staged s [] = Unit {0}
IsLater staged s (v ∷ vs) = is_staged staged v ≡ true → s < v.commit

-- the chain with a version of the commit in front, unless one is there
abbrev pub staged_once : ℕ → Image → List Version → List Version
staged_once n image chain = if has_staged n chain then chain else record { commit = n; image = image } ∷ chain

-- while versions of a commit are put in front, what is behind them stays, and so do the chains of pages that aren't listed
pub record StagesUnder (n : ℕ) (old new : ChainMap) (listed_old listed_new : List PageId) : Type 0 where
  pub filled : NoneEmpty new
  pub listed : (q : PageId) → is_listed listed_old q ≡ true → is_listed listed_new q ≡ true
  pub others : (q : PageId) → is_listed listed_new q ≡ false → chain_in new q ≡ chain_in old q
  pub under : (q : PageId) → unstaged n (chain_in new q) ≡ unstaged n (chain_in old q)

-- staged versions are those of listed pages, and pages with more than one published version are listed
pub record IsSound (m : ChainMap) (snapshots : List (Option ℕ)) (staged : Option ℕ) (touched older : List PageId) (used capacity : ℕ) : Type 0 where
  pub before : (q : PageId) → IsBefore staged (base staged (chain_in m q))
  pub seen : (q : PageId) → IsSeen snapshots (base staged (chain_in m q))
  pub front : (q : PageId) → is_listed touched q ≡ false → base staged (chain_in m q) ≡ chain_in m q
  pub long : (q : PageId) → 1 < length (base staged (chain_in m q)) → is_listed older q ≡ true
  pub filled : NoneEmpty m
  pub later : (s : ℕ) → Contains snapshots (Some s) → (q : PageId) → IsLater staged s (chain_in m q)
  pub room : used ≤ capacity
