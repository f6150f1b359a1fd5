use Rattle.std.proofs.Common.{◌≡◌, ◌<◌, ◌+◌, ℕ, true, cond, Some, None, All, Contains, refl, sym, ap, ◌∙◌, subst, arith, vec_len, vec_capacity}
use Rattle.page_bytes.specs.declared.ids.PageId.{PageId}
use Rattle.page_versions.specs.ChainMap.{ChainMap, chain_in}
use Rattle.page_versions.specs.Chains.{version_at}
use Rattle.page_versions.specs.Kept.{Kept, chain_of, IsKnownAt}
use Rattle.page_versions.specs.Purging.{unstaged}
use Rattle.page_versions.specs.Inside.{IsSound, is_listed}
use Rattle.page_versions.proofs.Chaining.{version_at-base, version_at-with_image, later_staged}
use Rattle.page_versions.proofs.Sounding.{stage_sound, stage_once, stage_under, stage_back, past_before}
use Rattle.page_versions.proofs.Callers.{staged_newest}
use Rattle.page_bytes.proofs.Sharing.{on_ok_is}
use Rattle.page_versions.proofs.versions.Versions.stage.Goals as goal

pub stage_with_room-staged-requires-clause-before : goal.stage_with_room-staged-requires-clause-before
stage_with_room-staged-requires-clause-before c q =
    past_before c.args.commit (chain_in c.self.inside.table q)
    (subst (λ (k : Kept). All (λ v. v.commit < c.args.commit) (chain_of k q)) (sym c.self.view_is) (c.requires.past.commits q))

pub unstage_all-requires-clause-once : goal.unstage_all-requires-clause-once
unstage_all-requires-clause-once c =
    let m = c.self.inside.table in let slots = c.self.inside.snapshots.slots in let n = c.stage_with_room-staged.new.table in let k = c.args.commit in
    let is : c.self.inside.staged ≡ None = ap (λ (x : Kept). x.staged) c.self.view_is ∙ c.requires.nothing_staged in
    let sound = subst (λ st. IsSound m slots st c.self.inside.touched.items c.self.inside.older.items
    (vec_len c.self.inside.older + vec_len c.self.inside.touched) (vec_capacity c.self.inside.older)) is c.self.invariant in
    let past = λ (q : PageId). past_before k (chain_in m q)
    (subst (λ (x : Kept). All (λ v. v.commit < k) (chain_of x q)) (sym c.self.view_is) (c.requires.past.commits q)) in
    let later = subst (λ (x : Kept). (s : ℕ) → Contains x.snapshots (Some s) → s < k) (sym c.self.view_is) c.requires.past.snapshots in
    stage_once m n slots c.self.inside.touched.items c.stage_with_room-staged.new.touched.items c.self.inside.older.items _ _ k sound past
    c.stage_with_room-staged.ensures.under

pub invariant_of-self : goal.invariant_of-self
invariant_of-self c =
    let m = c.self.inside.table in let slots = c.self.inside.snapshots.slots in let n = c.stage_with_room-staged.new.table in let k = c.args.commit in
    let is : c.self.inside.staged ≡ None = ap (λ (x : Kept). x.staged) c.self.view_is ∙ c.requires.nothing_staged in
    let sound = subst (λ st. IsSound m slots st c.self.inside.touched.items c.self.inside.older.items
    (vec_len c.self.inside.older + vec_len c.self.inside.touched) (vec_capacity c.self.inside.older)) is c.self.invariant in
    let past = λ (q : PageId). past_before k (chain_in m q)
    (subst (λ (x : Kept). All (λ v. v.commit < k) (chain_of x q)) (sym c.self.view_is) (c.requires.past.commits q)) in
    let later = subst (λ (x : Kept). (s : ℕ) → Contains x.snapshots (Some s) → s < k) (sym c.self.view_is) c.requires.past.snapshots in
    let same = stage_back m n slots c.self.inside.touched.items c.stage_with_room-staged.new.touched.items c.self.inside.older.items _ _ k sound past
    c.stage_with_room-staged.ensures.under c.unstage_all.new.table c.unstage_all.ensures.filled
    (subst (λ ps. (q : PageId)
    → chain_in c.unstage_all.new.table q
    ≡ cond (is_listed ps q) (unstaged k (chain_in n q)) (chain_in n q)) c.as_slice-then-is_err.ensures.value c.unstage_all.ensures.unstaged) in
    let room = c.self.invariant.room in
    subst (λ (t : ChainMap). IsSound t slots c.self.inside.staged c.clear.new.self.items c.stage_with_room-staged.new.older.items
    (vec_len c.stage_with_room-staged.new.older + vec_len c.clear.new.self) (vec_capacity c.stage_with_room-staged.new.older)) (sym same)
    (subst (λ st. IsSound m slots st c.clear.new.self.items c.stage_with_room-staged.new.older.items
    (vec_len c.stage_with_room-staged.new.older + vec_len c.clear.new.self) (vec_capacity c.stage_with_room-staged.new.older)) (sym is) (record {
      before = sound.before;
      seen = sound.seen;
      front = λ q out. refl;
      long = λ q many. subst (λ os. is_listed os q ≡ true) (sym c.stage_with_room-staged.ensures.older) (sound.long q many);
      filled = sound.filled;
      later = sound.later;
      room = let none = c.clear.ensures.len in let within = c.stage_with_room-staged.new.older.ok.1 in omega arith;
    }))

pub invariant_of-self-2 : goal.invariant_of-self-2
invariant_of-self-2 c =
    let m = c.self.inside.table in let slots = c.self.inside.snapshots.slots in let n = c.stage_with_room-staged.new.table in let k = c.args.commit in
    let is : c.self.inside.staged ≡ None = ap (λ (x : Kept). x.staged) c.self.view_is ∙ c.requires.nothing_staged in
    let sound = subst (λ st. IsSound m slots st c.self.inside.touched.items c.self.inside.older.items
    (vec_len c.self.inside.older + vec_len c.self.inside.touched) (vec_capacity c.self.inside.older)) is c.self.invariant in
    let past = λ (q : PageId). past_before k (chain_in m q)
    (subst (λ (x : Kept). All (λ v. v.commit < k) (chain_of x q)) (sym c.self.view_is) (c.requires.past.commits q)) in
    let later = subst (λ (x : Kept). (s : ℕ) → Contains x.snapshots (Some s) → s < k) (sym c.self.view_is) c.requires.past.snapshots in
    subst (λ os. IsSound n slots (Some k) c.stage_with_room-staged.new.touched.items os
    (vec_len c.stage_with_room-staged.new.older + vec_len c.stage_with_room-staged.new.touched) (vec_capacity c.stage_with_room-staged.new.older))
    (sym c.stage_with_room-staged.ensures.older)
    (stage_sound m n slots c.self.inside.touched.items c.stage_with_room-staged.new.touched.items c.self.inside.older.items _ _ k sound past
    c.stage_with_room-staged.ensures.under later _ _
    (on_ok_is c.stage_with_room-staged.result (sym c.is_err.ensures.value ∙ c.if-is_err.false) c.stage_with_room-staged.ensures.room))

pub returns-then-is_err-clause-seen : goal.returns-then-is_err-clause-seen
returns-then-is_err-clause-seen c =
    let m = c.self.inside.table in let slots = c.self.inside.snapshots.slots in let n = c.stage_with_room-staged.new.table in let k = c.args.commit in
    let is : c.self.inside.staged ≡ None = ap (λ (x : Kept). x.staged) c.self.view_is ∙ c.requires.nothing_staged in
    let sound = subst (λ st. IsSound m slots st c.self.inside.touched.items c.self.inside.older.items
    (vec_len c.self.inside.older + vec_len c.self.inside.touched) (vec_capacity c.self.inside.older)) is c.self.invariant in
    let past = λ (q : PageId). past_before k (chain_in m q)
    (subst (λ (x : Kept). All (λ v. v.commit < k) (chain_of x q)) (sym c.self.view_is) (c.requires.past.commits q)) in
    let later = subst (λ (x : Kept). (s : ℕ) → Contains x.snapshots (Some s) → s < k) (sym c.self.view_is) c.requires.past.snapshots in
    let same = stage_back m n slots c.self.inside.touched.items c.stage_with_room-staged.new.touched.items c.self.inside.older.items _ _ k sound past
    c.stage_with_room-staged.ensures.under c.unstage_all.new.table c.unstage_all.ensures.filled
    (subst (λ ps. (q : PageId)
    → chain_in c.unstage_all.new.table q
    ≡ cond (is_listed ps q) (unstaged k (chain_in n q)) (chain_in n q)) c.as_slice-then-is_err.ensures.value c.unstage_all.ensures.unstaged) in
    subst (λ (x : Kept). (s : ℕ) → Contains slots (Some s) → (q : PageId)
    → version_at (chain_in c.unstage_all.new.table q) s ≡ version_at (chain_of x q) s) c.self.view_is
    (λ s there q. ap (λ t. version_at (chain_in t q) s) same)

pub returns-then-is_err-clause-err : goal.returns-then-is_err-clause-err
returns-then-is_err-clause-err c =
    let m = c.self.inside.table in let slots = c.self.inside.snapshots.slots in let n = c.stage_with_room-staged.new.table in let k = c.args.commit in
    let is : c.self.inside.staged ≡ None = ap (λ (x : Kept). x.staged) c.self.view_is ∙ c.requires.nothing_staged in
    let sound = subst (λ st. IsSound m slots st c.self.inside.touched.items c.self.inside.older.items
    (vec_len c.self.inside.older + vec_len c.self.inside.touched) (vec_capacity c.self.inside.older)) is c.self.invariant in
    let past = λ (q : PageId). past_before k (chain_in m q)
    (subst (λ (x : Kept). All (λ v. v.commit < k) (chain_of x q)) (sym c.self.view_is) (c.requires.past.commits q)) in
    let later = subst (λ (x : Kept). (s : ℕ) → Contains x.snapshots (Some s) → s < k) (sym c.self.view_is) c.requires.past.snapshots in
    let same = stage_back m n slots c.self.inside.touched.items c.stage_with_room-staged.new.touched.items c.self.inside.older.items _ _ k sound past
    c.stage_with_room-staged.ensures.under c.unstage_all.new.table c.unstage_all.ensures.filled
    (subst (λ ps. (q : PageId)
    → chain_in c.unstage_all.new.table q
    ≡ cond (is_listed ps q) (unstaged k (chain_in n q)) (chain_in n q)) c.as_slice-then-is_err.ensures.value c.unstage_all.ensures.unstaged) in
    (λ i. record { chains = same i; snapshots = slots; staged = c.self.inside.staged }) ∙ c.self.view_is

pub returns-clause-seen : goal.returns-clause-seen
returns-clause-seen c =
    let m = c.self.inside.table in let slots = c.self.inside.snapshots.slots in let n = c.stage_with_room-staged.new.table in let k = c.args.commit in
    let is : c.self.inside.staged ≡ None = ap (λ (x : Kept). x.staged) c.self.view_is ∙ c.requires.nothing_staged in
    let sound = subst (λ st. IsSound m slots st c.self.inside.touched.items c.self.inside.older.items
    (vec_len c.self.inside.older + vec_len c.self.inside.touched) (vec_capacity c.self.inside.older)) is c.self.invariant in
    let past = λ (q : PageId). past_before k (chain_in m q)
    (subst (λ (x : Kept). All (λ v. v.commit < k) (chain_of x q)) (sym c.self.view_is) (c.requires.past.commits q)) in
    let later = subst (λ (x : Kept). (s : ℕ) → Contains x.snapshots (Some s) → s < k) (sym c.self.view_is) c.requires.past.snapshots in
    subst (λ (x : Kept). (s : ℕ) → Contains slots (Some s) → (q : PageId) → version_at (chain_in n q) s ≡ version_at (chain_of x q) s) c.self.view_is
    (λ s there q. sym (version_at-base (Some k) s (chain_in n q) (later_staged k s (chain_in n q) (later s there)))
    ∙ ap (λ x. version_at x s)
    (stage_under m n slots c.self.inside.touched.items c.stage_with_room-staged.new.touched.items c.self.inside.older.items _ _ k sound past
    c.stage_with_room-staged.ensures.under q))

pub returns-clause-same : goal.returns-clause-same
returns-clause-same c n lt q =
    let m = c.self.inside.table in let new = c.stage_with_room-staged.new.table in
    let chains = on_ok_is c.stage_with_room-staged.result (sym c.is_err.ensures.value ∙ c.if-is_err.false) c.stage_with_room-staged.ensures.ok in
    subst (λ (x : Kept). version_at (chain_in new q) n ≡ version_at (chain_of x q) n) c.self.view_is
    (ap (λ chain. version_at chain n) (chains q) ∙ version_at-with_image c.args.commit n _ (chain_in m q) lt)

pub returns-clause-newest : goal.returns-clause-newest
returns-clause-newest c n lt known q =
    let m = c.self.inside.table in let new = c.stage_with_room-staged.new.table in
    let is : c.self.inside.staged ≡ None = ap (λ (x : Kept). x.staged) c.self.view_is ∙ c.requires.nothing_staged in
    let chains = on_ok_is c.stage_with_room-staged.result (sym c.is_err.ensures.value ∙ c.if-is_err.false) c.stage_with_room-staged.ensures.ok in
    let before = subst (λ (x : Kept). All (IsKnownAt x.staged n) (chain_of x q)) (sym c.self.view_is) (known q) in
    staged_newest c.args.commit n _ (chain_in m q) (chain_in new q) lt (chains q) (subst (λ st. All (IsKnownAt st n) (chain_in m q)) is before)
