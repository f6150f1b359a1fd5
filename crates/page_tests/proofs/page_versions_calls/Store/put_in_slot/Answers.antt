use Rattle.std.proofs.Common.{subst, sym, ◌≢◌, IsSomeAnd}
use Rattle.page_versions.specs.declared.version.Image.TheVariants.{Absent}
use Rattle.page_versions.specs.Kept.{Kept, IsUpTo}
use Rattle.page_versions.proofs.Callers.{slot_allowed, upto_slot}
use Rattle.page_tests.proofs.page_versions_calls.Store.put_in_slot.Goals as goal

pub in_slot-requires : goal.in_slot-requires
in_slot-requires c =
    slot_allowed c.self.inside.versions c.self.inside.newest c.args.id c.self.invariant
    (subst (λ o. IsSomeAnd o (λ i. i ≢ Absent)) c.page_at.ensures (c.is_there.ensures c.if-is_there.true))

pub invariant_of-self : goal.invariant_of-self
invariant_of-self c =
    subst (λ (k : Kept). IsUpTo k c.self.inside.newest) (sym c.in_slot.ensures)
    (upto_slot c.self.inside.versions c.self.inside.newest c.args.id c.args.slot c.self.invariant)
