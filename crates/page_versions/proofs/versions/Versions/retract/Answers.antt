use Rattle.std.proofs.Common.{◌≡◌, ℕ, cond, Some, Contains, subst, arith}
use Rattle.page_bytes.specs.declared.ids.PageId.{PageId}
use Rattle.page_versions.specs.ChainMap.{chain_in}
use Rattle.page_versions.specs.Chains.{version_at, published}
use Rattle.page_versions.specs.Kept.{Kept, chain_of, IsNewestAt}
use Rattle.page_versions.specs.Purging.{base}
use Rattle.page_versions.specs.Inside.{is_listed}
use Rattle.page_versions.proofs.Needing.{known_later}
use Rattle.page_versions.proofs.Sounding.{retract_chains, retract_seen, retract_sound, base-base}
use Rattle.page_versions.proofs.versions.Versions.retract.Goals as goal

pub retract_all-requires-clause-once : goal.retract_all-requires-clause-once
retract_all-requires-clause-once c = λ q. base-base c.self.inside.staged (chain_in c.self.inside.table q) (c.self.invariant.before q)

pub invariant_of-self : goal.invariant_of-self
invariant_of-self c =
    let sound = c.self.invariant in
    let done = subst (λ ps. (q : PageId)
    → chain_in c.retract_all.new.table q
    ≡ cond (is_listed ps q) (base c.self.inside.staged (chain_in c.self.inside.table q)) (chain_in c.self.inside.table q)) c.as_slice.ensures.value
    c.retract_all.ensures.retracted in
    retract_sound c.self.inside.table c.self.inside.snapshots.slots c.self.inside.staged c.self.inside.touched.items c.self.inside.older.items _ _
    c.self.invariant c.retract_all.new.table done _ _ c.retract_all.ensures.filled (let room = sound.room in let none = c.clear.ensures.len in
    omega arith) c.clear.new.self.items

pub returns-clause-chains : goal.returns-clause-chains
returns-clause-chains c =
    let done = subst (λ ps. (q : PageId)
    → chain_in c.retract_all.new.table q
    ≡ cond (is_listed ps q) (base c.self.inside.staged (chain_in c.self.inside.table q)) (chain_in c.self.inside.table q)) c.as_slice.ensures.value
    c.retract_all.ensures.retracted in
    subst (λ (k : Kept). (q : PageId) → chain_in c.retract_all.new.table q ≡ published k.staged (chain_of k q)) c.self.view_is
    (retract_chains c.self.inside.table c.self.inside.snapshots.slots c.self.inside.staged c.self.inside.touched.items c.self.inside.older.items _ _
    c.self.invariant c.retract_all.new.table done)

pub returns-clause-seen : goal.returns-clause-seen
returns-clause-seen c =
    let slots = c.self.inside.snapshots.slots in
    let done = subst (λ ps. (q : PageId)
    → chain_in c.retract_all.new.table q
    ≡ cond (is_listed ps q) (base c.self.inside.staged (chain_in c.self.inside.table q)) (chain_in c.self.inside.table q)) c.as_slice.ensures.value
    c.retract_all.ensures.retracted in
    subst (λ (k : Kept). (s : ℕ) → Contains slots (Some s) → (q : PageId)
    → version_at (chain_in c.retract_all.new.table q) s ≡ version_at (chain_of k q) s) c.self.view_is
    (λ s there q. retract_seen c.self.inside.table c.self.inside.snapshots.slots c.self.inside.staged c.self.inside.touched.items c.self.inside.older.items _ _
    c.self.invariant c.retract_all.new.table done s q (c.self.invariant.later s there q))

pub returns-clause-newest : goal.returns-clause-newest
returns-clause-newest c =
    let done = subst (λ ps. (q : PageId)
    → chain_in c.retract_all.new.table q
    ≡ cond (is_listed ps q) (base c.self.inside.staged (chain_in c.self.inside.table q)) (chain_in c.self.inside.table q)) c.as_slice.ensures.value
    c.retract_all.ensures.retracted in
    subst (λ (k : Kept). (n : ℕ) → IsNewestAt k n → (q : PageId)
    → version_at (chain_in c.retract_all.new.table q) n ≡ version_at (chain_of k q) n) c.self.view_is
    (λ n known q. retract_seen c.self.inside.table c.self.inside.snapshots.slots c.self.inside.staged c.self.inside.touched.items c.self.inside.older.items _ _
    c.self.invariant c.retract_all.new.table done n q (known_later c.self.inside.staged n (chain_in c.self.inside.table q) (known q)))
