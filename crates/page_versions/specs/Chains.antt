-- A page's versions, the newest first: which one is seen at a commit, and which ones are needed.
use Rattle.std.specs.Prelude.{ℕ, ◌<◌, Bool, false, not, ◌||◌, ◌==◌, nat_le, List, [], ◌∷◌, Option, Some, None, find, filter}
use Rattle.std.specs.List.{list_any}
use Rattle.page_versions.specs.declared.version.Version.{Version}

-- the version at a commit: the newest one whose commit is not after it
abbrev pub version_at : List Version → ℕ → Option Version
version_at chain n = find (λ v. nat_le v.commit n) chain

-- the commits fall from each version to the next
abbrev pub IsFallingBelow : ℕ → List Version → Type 0
IsFallingBelow above [] = Unit {0}
IsFallingBelow above (v ∷ vs) = (v.commit < above) × IsFallingBelow v.commit vs

-- and so from the first one on
abbrev pub IsFalling : List Version → Type 0
IsFalling [] = Unit {0}
IsFalling (v ∷ vs) = IsFallingBelow v.commit vs

-- whether a version is of the commit that is staged, if one is
abbrev pub is_staged : Option ℕ → Version → Bool
is_staged None v = false
is_staged (Some n) v = v.commit == n

-- the versions that are not staged
abbrev pub published : Option ℕ → List Version → List Version
published None chain = chain
published (Some n) chain = filter (λ v. not (v.commit == n)) chain

-- the version in front, if there is one
abbrev pub newest : List Version → Option Version
newest [] = None
newest (v ∷ vs) = Some v

-- whether this is the version, if there is one
abbrev pub is_version : Option Version → Version → Bool
is_version None v = false
is_version (Some w) v = w.commit == v.commit

-- whether a snapshot, if one is open under its key, sees the version
abbrev pub is_seen_by : List Version → Version → Option ℕ → Bool
is_seen_by chain v None = false
is_seen_by chain v (Some n) = is_version (version_at chain n) v

-- what a chain has to hold: what is staged, the newest published version, and those that an open snapshot sees
abbrev pub is_needed : Option ℕ → List (Option ℕ) → List Version → Version → Bool
is_needed staged snapshots chain v = is_staged staged v || (is_version (newest (published staged chain)) v || list_any (is_seen_by chain v) snapshots)

-- the chain with these alone
abbrev pub needed : Option ℕ → List (Option ℕ) → List Version → List Version
needed staged snapshots chain = filter (is_needed staged snapshots chain) chain
