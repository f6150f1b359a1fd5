-- Chains, the newest version first, as they are cut: what is staged stands in front.
use Rattle.std.specs.Prelude.{ℕ, Bool, false, ◌&&◌, ◌==◌, nat_le, nat_lt, List, [], ◌∷◌, Option, Some, None, if◌then◌else◌}
use Rattle.std.specs.List.{list_any}
use Rattle.page_versions.specs.declared.version.Version.{Version}
use Rattle.page_versions.specs.declared.version.Image.TheVariants.{Slot}

-- whether the version in front is of the commit
abbrev pub has_staged : ℕ → List Version → Bool
has_staged n [] = false
has_staged n (v ∷ vs) = v.commit == n

-- the chain without the version in front, where that is of the commit
abbrev pub unstaged : ℕ → List Version → List Version
unstaged n [] = []
unstaged n (v ∷ vs) = if v.commit == n then vs else v ∷ vs

-- the chain without what is staged in front
abbrev pub base : Option ℕ → List Version → List Version
base None chain = chain
base (Some n) chain = unstaged n chain

-- how many versions are staged in front
abbrev pub count_staged : Option ℕ → List Version → ℕ
count_staged None chain = 0
count_staged (Some n) chain = if has_staged n chain then 1 else 0

-- whether a snapshot, if one is open, is at a commit from the first on and before the second
abbrev pub is_between : ℕ → ℕ → Option ℕ → Bool
is_between from to None = false
is_between from to (Some n) = nat_le from n && nat_lt n to

-- the versions below one of the commit `above` that an open snapshot sees
abbrev pub purge_below : List (Option ℕ) → ℕ → List Version → List Version
purge_below snapshots above [] = []
purge_below snapshots above (v ∷ vs) =
    if list_any (is_between v.commit above) snapshots then v ∷ purge_below snapshots v.commit vs else purge_below snapshots above vs

-- the newest version, and those below it that an open snapshot sees
abbrev pub purged_base : List (Option ℕ) → List Version → List Version
purged_base snapshots [] = []
purged_base snapshots (v ∷ vs) = v ∷ purge_below snapshots v.commit vs

-- and what is staged before them
abbrev pub purged : Option ℕ → List (Option ℕ) → List Version → List Version
purged None snapshots chain = purged_base snapshots chain
purged (Some n) snapshots [] = []
purged (Some n) snapshots (v ∷ vs) = if v.commit == n then v ∷ purged_base snapshots vs else purged_base snapshots (v ∷ vs)

-- the version with a slot as its image
abbrev pub in_slot : ℕ → Version → Version
in_slot slot v = record { commit = v.commit; image = Slot slot }

-- the chain with this slot as the image of the version in front
abbrev pub newest_in_slot : ℕ → List Version → List Version
newest_in_slot slot [] = []
newest_in_slot slot (v ∷ vs) = in_slot slot v ∷ vs

-- the chain with this slot as the image of its newest published version
abbrev pub with_slot : Option ℕ → ℕ → List Version → List Version
with_slot None slot chain = newest_in_slot slot chain
with_slot (Some n) slot [] = []
with_slot (Some n) slot (v ∷ vs) = if v.commit == n then v ∷ newest_in_slot slot vs else in_slot slot v ∷ vs
