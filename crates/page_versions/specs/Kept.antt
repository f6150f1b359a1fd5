-- What contracts see of `Versions`: the chains of pages, the commit number of each open snapshot under its key, and
-- the commit number of what is staged.
use Rattle.std.specs.Prelude.{◌≡◌, ℕ, ◌<◌, ◌≤◌, true, false, List, Option, Some, None, All, Contains, slice_index_or, refl}
use Rattle.std.specs.Coded.{Coded, code_by, coded×, coded_ℕ, coded_list, coded_option}
use Rattle.page_bytes.specs.declared.ids.PageId.{PageId}
use Rattle.page_versions.specs.declared.version.Version.{Version}
use Rattle.page_versions.specs.ChainMap.{ChainMap, chain_map_code, chain_in}
use Rattle.page_versions.specs.Chains.{version_at, is_staged, IsFalling, needed}

-- a key is a place in `snapshots`, and one without an open snapshot has None
pub record Kept : Type 0 where
  pub chains : ChainMap
  pub snapshots : List (Option ℕ)
  pub staged : Option ℕ

-- how these are stored
abbrev pub kept_code : Coded Kept
kept_code =
    code_by (ChainMap × (List (Option ℕ) × Option ℕ)) (coded× chain_map_code (coded× (coded_list (coded_option coded_ℕ)) (coded_option coded_ℕ)))
    (λ k. (k.chains, (k.snapshots, k.staged))) (λ p. record { chains = p.0; snapshots = p.1.0; staged = p.1.1 }) (λ _. refl)

-- a page's versions, the newest first
abbrev pub chain_of : Kept → PageId → List Version
chain_of k id = chain_in k.chains id

-- the commit number of the snapshot under a key, if one is open
abbrev pub snapshot_at : Kept → ℕ → Option ℕ
snapshot_at k key = slice_index_or k.snapshots key None

-- a snapshot is open at this commit
abbrev pub IsOpen : Kept → ℕ → Type 0
IsOpen k n = Contains k.snapshots (Some n)

-- a version is not after the commit where it is published, and after it where it is staged
abbrev pub IsKnownAt : Option ℕ → ℕ → Version → Type 0
IsKnownAt staged n v = (is_staged staged v ≡ false → v.commit ≤ n) × (is_staged staged v ≡ true → n < v.commit)

-- all published versions are known at this commit, and no staged one is
abbrev pub IsNewestAt : Kept → ℕ → Type 0
IsNewestAt k n = (id : PageId) → All (IsKnownAt k.staged n) (chain_of k id)

-- all versions are of earlier commits, and all snapshots are at earlier ones
pub record IsPast (k : Kept) (n : ℕ) : Type 0 where
  pub commits : (id : PageId) → All (λ v. v.commit < n) (chain_of k id)
  pub snapshots : (s : ℕ) → IsOpen k s → s < n

-- nothing is staged, and no version and no open snapshot is of a commit after this one
pub record IsUpTo (k : Kept) (n : ℕ) : Type 0 where
  pub staged : k.staged ≡ None
  pub commits : (id : PageId) → All (λ v. v.commit ≤ n) (chain_of k id)
  pub snapshots : (s : ℕ) → IsOpen k s → s ≤ n

-- at this commit each page has the version that it had
abbrev pub SameAt : Kept → Kept → ℕ → Type 0
SameAt old new n = (id : PageId) → version_at (chain_of new id) n ≡ version_at (chain_of old id) n

-- the snapshots that are open now see what they saw
abbrev pub SeesSame : Kept → Kept → Type 0
SeesSame old new = (s : ℕ) → IsOpen new s → SameAt old new s

-- each chain has exactly the versions that are needed, the newest first
pub record IsExact (k : Kept) : Type 0 where
  pub exact : (id : PageId) → needed k.staged k.snapshots (chain_of k id) ≡ chain_of k id
  pub falling : (id : PageId) → IsFalling (chain_of k id)
