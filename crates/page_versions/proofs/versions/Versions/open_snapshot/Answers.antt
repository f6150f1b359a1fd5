use Rattle.std.proofs.Common.{◌≡◌, ℕ, List, Option, Some, None, All, refl, sym, ap, subst, slice_index_or, Result, Ok, Err, IfOk, OnErr}
use Rattle.page_bytes.specs.declared.ids.PageId.{PageId}
use Rattle.page_versions.specs.ChainMap.{ChainMap, chain_in}
use Rattle.page_versions.specs.Kept.{Kept, chain_of, IsKnownAt}
use Rattle.page_versions.specs.Purging.{is_between}
use Rattle.page_versions.specs.Inside.{IsSound}
use Rattle.page_versions.proofs.Sounding.{open_sound, any_more, opened_keeps, opened_later}
use Rattle.slab.specs.Slab.{Slab, Updates}
use Rattle.page_versions.proofs.versions.Versions.open_snapshot.Goals as goal

open_by : {E : Type 0} (m : ChainMap) (touched older : List PageId) (used capacity n : ℕ) (staged : Option ℕ) (old new : Slab ℕ) (r : Result ℕ E)
    → IsSound m old.slots staged touched older used capacity
    → ((q : PageId) → All (IsKnownAt staged n) (chain_in m q)) → IfOk r (λ key. slice_index_or old.slots key None ≡ None)
    → IfOk r (λ key. Updates old new key (Some n)) → OnErr r (new ≡ record old { capacity = new.capacity })
    → IsSound m new.slots staged touched older used capacity
open_by m touched older used capacity n staged old new (Ok key) sound known vacant updates err =
    open_sound m old.slots staged touched older used capacity sound new.slots
    (λ c a. any_more (is_between c a) refl old.slots new.slots (opened_keeps old.slots new.slots key vacant updates.others))
    (opened_later staged m old.slots new.slots key n known sound.later updates.changed updates.others)
open_by m touched older used capacity n staged old new (Err e) sound known vacant updates err =
    subst (λ (xs : List (Option ℕ)). IsSound m xs staged touched older used capacity) (sym (ap (λ (s : Slab ℕ). s.slots) err)) sound

pub invariant_of-self : goal.invariant_of-self
invariant_of-self c =
    open_by c.self.inside.table c.self.inside.touched.items c.self.inside.older.items _ _ c.args.commit c.self.inside.staged c.self.inside.snapshots
    c.insert.new.self c.insert.result c.self.invariant
    (subst (λ (k : Kept). (q : PageId) → All (IsKnownAt k.staged c.args.commit) (chain_of k q)) (sym c.self.view_is) c.requires)
    c.insert.ensures.was_vacant c.insert.ensures.updates c.insert.ensures.err
