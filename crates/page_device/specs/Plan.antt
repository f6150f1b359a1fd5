-- Which calls of a device in memory are to fail.
use Rattle.std.specs.Prelude.{◌≡◌, ◌⊎◌, ℕ, Option, ◌+◌, ◌-◌, min, Some, Any, List}
use Rattle.std.specs.Option.{option_map}
use Rattle.page_device.specs.Device.{last_count}
use Rattle.page_device.specs.declared.plan.CallKind.{CallKind}
use Rattle.page_device.specs.declared.plan.CallKind.TheVariants.{Read, Write, Sync, Len}
use Rattle.page_device.specs.declared.plan.Counts.{Counts}
use Rattle.page_device.specs.declared.plan.Fail.{Fail}
use Rattle.page_device.specs.declared.plan.Plan.{Plan}

-- how many calls of this kind were made
abbrev pub count_of : Counts → CallKind → ℕ
count_of c Read = c.reads
count_of c Write = c.writes
count_of c Sync = c.syncs
count_of c Len = c.lens

-- the same but for the calls of this kind, of which there were n
abbrev pub with_count : Counts → CallKind → ℕ → Counts
with_count c Read n = record c { reads = n }
with_count c Write n = record c { writes = n }
with_count c Sync n = record c { syncs = n }
with_count c Len n = record c { lens = n }

-- one more, up to the last number
abbrev pub counted : ℕ → ℕ
counted n = min (n + 1) last_count

-- the next call of this kind fails: no calls are left, or the list names it by its kind and number
abbrev pub Fails : CallKind → Plan → Type 0
Fails kind p = (p.left ≡ Some 0) ⊎ Any (λ fail. (fail.kind ≡ kind) × (fail.number ≡ count_of p.counts kind + 1)) p.fails

-- after one call of this kind
abbrev pub passed : CallKind → Plan → Plan
passed kind p = record p { left = option_map (λ n. n - 1) p.left; counts = with_count p.counts kind (counted (count_of p.counts kind)) }

-- before the first call
abbrev pub new_plan : List Fail → Option ℕ → Plan
new_plan fails stop = record { fails = fails; left = stop; counts = record { reads = 0; writes = 0; syncs = 0; lens = 0 } }
