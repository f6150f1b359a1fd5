use Rattle.std.proofs.Common.{◌≡◌, ◌≤◌, ◌<◌, ℕ, true, cond, Some, None, All, Contains, sym, ap, ◌∙◌, subst, true≢false, arith, length}
use Rattle.page_bytes.specs.declared.ids.PageId.{PageId}
use Rattle.page_versions.specs.ChainMap.{chain_in}
use Rattle.page_versions.specs.Chains.{version_at, needed}
use Rattle.page_versions.specs.Kept.{Kept, chain_of}
use Rattle.page_versions.specs.Purging.{purged_base}
use Rattle.page_versions.specs.Inside.{is_listed}
use Rattle.page_versions.proofs.Needing.{needed-seen, needed-newest}
use Rattle.page_versions.proofs.Sounding.{publish_chains, publish_sound, long_noted}
use Rattle.page_versions.proofs.versions.Versions.publish.Goals as goal

pub publish_all-requires-clause-long : goal.publish_all-requires-clause-long
publish_all-requires-clause-long c =
    long_noted c.self.inside.table c.self.inside.snapshots.slots c.self.inside.staged c.self.inside.touched.items c.self.inside.older.items _ _ c.self.invariant

pub invariant_of-self : goal.invariant_of-self
invariant_of-self c =
    let done = subst (λ ps. (q : PageId)
    → chain_in c.publish_all.new.table q
    ≡ cond (is_listed ps q) (purged_base c.self.inside.snapshots.slots (chain_in c.self.inside.table q)) (chain_in c.self.inside.table q))
    c.as_slice.ensures.value c.publish_all.ensures.purged in
    let long = subst (λ ps. (q : PageId) → is_listed ps q ≡ true → 1 < length (chain_in c.publish_all.new.table q)
    → is_listed c.publish_all.new.older.items q ≡ true) c.as_slice.ensures.value c.publish_all.ensures.long in
    publish_sound c.self.inside.table c.self.inside.snapshots.slots c.self.inside.staged c.self.inside.touched.items c.self.inside.older.items _ _
    c.self.invariant c.publish_all.new.table done c.publish_all.new.older.items _ _ c.publish_all.ensures.filled long c.publish_all.ensures.kept
    (let room = c.publish_all.ensures.room in let none = c.clear.ensures.len in omega arith) c.clear.new.self.items

pub returns-clause-chains : goal.returns-clause-chains
returns-clause-chains c =
    let done = subst (λ ps. (q : PageId)
    → chain_in c.publish_all.new.table q
    ≡ cond (is_listed ps q) (purged_base c.self.inside.snapshots.slots (chain_in c.self.inside.table q)) (chain_in c.self.inside.table q))
    c.as_slice.ensures.value c.publish_all.ensures.purged in
    subst (λ (k : Kept). (q : PageId) → chain_in c.publish_all.new.table q ≡ needed None k.snapshots (chain_of k q)) c.self.view_is
    (publish_chains c.self.inside.table c.self.inside.snapshots.slots c.self.inside.staged c.self.inside.touched.items c.self.inside.older.items _ _
    c.self.invariant c.publish_all.new.table done)

pub returns-clause-seen : goal.returns-clause-seen
returns-clause-seen c =
    let slots = c.self.inside.snapshots.slots in let m = c.self.inside.table in
    let done = subst (λ ps. (q : PageId)
    → chain_in c.publish_all.new.table q
    ≡ cond (is_listed ps q) (purged_base slots (chain_in m q)) (chain_in m q)) c.as_slice.ensures.value c.publish_all.ensures.purged in
    subst (λ (k : Kept). (s : ℕ) → Contains slots (Some s) → (q : PageId)
    → version_at (chain_in c.publish_all.new.table q) s ≡ version_at (chain_of k q) s) c.self.view_is
    (λ s there q. ap (λ x. version_at x s)
    (publish_chains c.self.inside.table c.self.inside.snapshots.slots c.self.inside.staged c.self.inside.touched.items c.self.inside.older.items _ _
    c.self.invariant c.publish_all.new.table done q) ∙ needed-seen None slots (chain_in m q) s there)

pub returns-clause-newest : goal.returns-clause-newest
returns-clause-newest c =
    let slots = c.self.inside.snapshots.slots in let m = c.self.inside.table in
    let done = subst (λ ps. (q : PageId)
    → chain_in c.publish_all.new.table q
    ≡ cond (is_listed ps q) (purged_base slots (chain_in m q)) (chain_in m q)) c.as_slice.ensures.value c.publish_all.ensures.purged in
    subst (λ (k : Kept). (n : ℕ) → ((q : PageId) → All (λ v. v.commit ≤ n) (chain_of k q)) → (q : PageId)
    → version_at (chain_in c.publish_all.new.table q) n ≡ version_at (chain_of k q) n) c.self.view_is
    (λ n known q. ap (λ x. version_at x n)
    (publish_chains c.self.inside.table c.self.inside.snapshots.slots c.self.inside.staged c.self.inside.touched.items c.self.inside.older.items _ _
    c.self.invariant c.publish_all.new.table done q)
    ∙ needed-newest None slots (chain_in m q) n (λ i d less. (λ _. known q i d less, λ e. absurd (true≢false (sym e)))))
