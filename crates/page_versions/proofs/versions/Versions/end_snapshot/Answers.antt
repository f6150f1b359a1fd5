use Rattle.std.proofs.Common.{◌≡◌, ℕ, cond, Some, Contains, ap, ◌∙◌, subst, arith}
use Rattle.page_bytes.specs.declared.ids.PageId.{PageId}
use Rattle.page_versions.specs.ChainMap.{chain_in}
use Rattle.page_versions.specs.Chains.{version_at, needed}
use Rattle.page_versions.specs.Kept.{Kept, chain_of, IsNewestAt}
use Rattle.page_versions.specs.Purging.{purged}
use Rattle.page_versions.specs.Inside.{is_listed}
use Rattle.page_versions.proofs.Needing.{needed-seen, needed-newest}
use Rattle.page_versions.proofs.Sounding.{end_chains, end_sound, ended_open}
use Rattle.page_versions.proofs.versions.Versions.end_snapshot.Goals as goal

pub invariant_of-self : goal.invariant_of-self
invariant_of-self c =
    let sound = c.self.invariant in let open' = c.remove.new.self.slots in
    let done = subst (λ ps. (q : PageId)
    → chain_in c.purge_all.new.table q
    ≡ cond (is_listed ps q) (purged c.self.inside.staged open' (chain_in c.self.inside.table q)) (chain_in c.self.inside.table q)) c.as_slice.ensures.value
    c.purge_all.ensures.purged in
    end_sound c.self.inside.table c.self.inside.snapshots.slots c.self.inside.staged c.self.inside.touched.items c.self.inside.older.items _ _ c.self.invariant
    c.purge_all.new.table open' done c.keep_long.new.older.items _ _ c.purge_all.ensures.filled
    (λ s there. ended_open c.self.inside.snapshots.slots c.args.key s (subst (λ xs. Contains xs (Some s)) c.remove.ensures.slots there))
    c.keep_long.ensures.long (let room = sound.room in let less = c.keep_long.ensures.len in let same = c.keep_long.ensures.capacity in omega arith)

pub returns-clause-chains : goal.returns-clause-chains
returns-clause-chains c =
    let open' = c.remove.new.self.slots in
    let done = subst (λ ps. (q : PageId)
    → chain_in c.purge_all.new.table q
    ≡ cond (is_listed ps q) (purged c.self.inside.staged open' (chain_in c.self.inside.table q)) (chain_in c.self.inside.table q)) c.as_slice.ensures.value
    c.purge_all.ensures.purged in
    subst (λ (k : Kept). (q : PageId) → chain_in c.purge_all.new.table q ≡ needed k.staged open' (chain_of k q)) c.self.view_is
    (end_chains c.self.inside.table c.self.inside.snapshots.slots c.self.inside.staged c.self.inside.touched.items c.self.inside.older.items _ _
    c.self.invariant c.purge_all.new.table open' done)

pub returns-clause-seen : goal.returns-clause-seen
returns-clause-seen c =
    let open' = c.remove.new.self.slots in let m = c.self.inside.table in
    let done = subst (λ ps. (q : PageId)
    → chain_in c.purge_all.new.table q
    ≡ cond (is_listed ps q) (purged c.self.inside.staged open' (chain_in c.self.inside.table q)) (chain_in c.self.inside.table q)) c.as_slice.ensures.value
    c.purge_all.ensures.purged in
    subst (λ (k : Kept). (s : ℕ) → Contains open' (Some s) → (q : PageId)
    → version_at (chain_in c.purge_all.new.table q) s ≡ version_at (chain_of k q) s) c.self.view_is
    (λ s there q. ap (λ x. version_at x s)
    (end_chains c.self.inside.table c.self.inside.snapshots.slots c.self.inside.staged c.self.inside.touched.items c.self.inside.older.items _ _
    c.self.invariant c.purge_all.new.table open' done q) ∙ needed-seen c.self.inside.staged open' (chain_in m q) s there)

pub returns-clause-newest : goal.returns-clause-newest
returns-clause-newest c =
    let open' = c.remove.new.self.slots in let m = c.self.inside.table in
    let done = subst (λ ps. (q : PageId)
    → chain_in c.purge_all.new.table q
    ≡ cond (is_listed ps q) (purged c.self.inside.staged open' (chain_in c.self.inside.table q)) (chain_in c.self.inside.table q)) c.as_slice.ensures.value
    c.purge_all.ensures.purged in
    subst (λ (k : Kept). (n : ℕ) → IsNewestAt k n → (q : PageId) → version_at (chain_in c.purge_all.new.table q) n ≡ version_at (chain_of k q) n) c.self.view_is
    (λ n known q. ap (λ x. version_at x n)
    (end_chains c.self.inside.table c.self.inside.snapshots.slots c.self.inside.staged c.self.inside.touched.items c.self.inside.older.items _ _
    c.self.invariant c.purge_all.new.table open' done q) ∙ needed-newest c.self.inside.staged open' (chain_in m q) n (known q))
