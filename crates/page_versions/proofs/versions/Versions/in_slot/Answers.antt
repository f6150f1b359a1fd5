use Rattle.std.proofs.Common.{◌+◌, sym, subst, vec_len, vec_capacity}
use Rattle.std.specs.FinMap as map
use Rattle.page_versions.specs.Inside.{IsSound}
use Rattle.page_versions.proofs.Sounding.{slot_sound}
use Rattle.page_versions.proofs.versions.Versions.in_slot.Goals as goal

pub invariant_of-self : goal.invariant_of-self
invariant_of-self c =
    subst (λ x. IsSound (map.insert c.self.inside.table c.args.id x) c.self.inside.snapshots.slots c.self.inside.staged c.self.inside.touched.items
    c.self.inside.older.items (vec_len c.self.inside.older + vec_len c.self.inside.touched) (vec_capacity c.self.inside.older)) (sym c.set_slot.ensures)
    (slot_sound c.self.inside.table c.self.inside.snapshots.slots c.self.inside.staged c.self.inside.touched.items c.self.inside.older.items _ _
    c.self.invariant c.args.id c.lend.result.now c.args.slot c.lend.ensures.value)
