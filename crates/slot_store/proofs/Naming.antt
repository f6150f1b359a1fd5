-- The slots in use are exactly those that a table, a head in doubt, or a version that an open snapshot sees names.
use Rattle.std.proofs.Common.{◌≡◌, ℕ, ◌<◌, ◌≤◌, ◌⊎◌, inl, inr, ⊎_elim, Bool, true, false, cond, ◌&&◌, ◌||◌, ◌==◌, nat_le, List, [], ◌∷◌, ◌++◌, length, filter, All, Option, Some, None, refl, sym, ap, ◌∙◌, subst, arith, T, unwrap_or}
use Rattle.std.specs.List.{list_any, AllByRecursion, flat_map}
use Rattle.std.specs.FinMap as finite
use Rattle.std.specs.FinMap.Entries.{find, below_all}
use Rattle.std.specs.Ordering.{eq_by_cmp, is_eq, is_lt}
use Rattle.std.specs.declared.cmp.Ordering.{Ordering}
use Rattle.std.specs.declared.cmp.Ordering.TheVariants.{Less, Equal, Greater}
use Rattle.std.specs.Cmp.{eq_by_cmp_equiv}
use Rattle.std.proofs.lemmas.Bool.{or_left, or_right, ne_eqb}
use Rattle.std.proofs.lemmas.Bool.Decides.{nat_tests}
use Rattle.std.proofs.lemmas.List.Folds.{list_any-append}
use Rattle.std.proofs.lemmas.List.Elements.{recursion_from_All}
use Rattle.page_bytes.specs.declared.ids.PageId.{PageId}
use Rattle.page_bytes.specs.Order.{page_cmp}
use Rattle.page_bytes.proofs.Orders.{page_cmp-total}
use Rattle.page_versions.specs.declared.version.Version.{Version}
use Rattle.page_versions.specs.declared.version.Image.{Image as PageImage}
use Rattle.page_versions.specs.declared.version.Image.TheVariants.{Resident, Slot, Absent}
use Rattle.page_versions.specs.ChainMap.{ChainMap, chain_in}
use Rattle.page_versions.specs.Chains.{version_at, IsFalling, IsFallingBelow, is_seen_by, is_version, newest, is_needed, needed}
use Rattle.page_versions.specs.Kept.{Kept, IsUpTo, IsExact}
use Rattle.slot_store.specs.declared.table.Row.{Row}
use Rattle.slot_store.specs.declared.state.SlotState.{SlotState}
use Rattle.slot_store.specs.Used.{slots_of, slots_if, slot_of_image, slot_of_version, slots_of_chains, slot_if_seen, slots_seen, is_used, is_named}
use Rattle.slot_store.specs.Planned.{is_in_table, IsTabled, newest_images, with_version, with_image}

-- whether a slot is among these
abbrev has : ℕ → List ℕ → Bool
has s slots = list_any (λ t. t == s) slots

pub both_of : (a b : Bool) → (a && b) ≡ true → (a ≡ true) × (b ≡ true)
both_of true b is = (refl, is)
both_of false b is = absurd (cc is)

one_of : (a b : Bool) → (a || b) ≡ true → (a ≡ true) ⊎ (b ≡ true)
one_of true b is = inl refl
one_of false b is = inr is

pub is_true : (b : Bool) → T b → b ≡ true
is_true true t = refl
is_true false t = absurd t

less_not_equal : (o : Ordering) → is_lt o ≡ true → is_eq o ≡ false
less_not_equal Less is = refl
less_not_equal Equal is = absurd (cc is)
less_not_equal Greater is = absurd (cc is)

-- a key that stands behind another is found behind it
module _ {X : Type 0} where
  found_behind : (e : PageId × X) (all xs : List (PageId × X)) → below_all page_cmp e.0 xs ≡ true
      → AllByRecursion (λ (x : PageId × X). find page_cmp x.0 all ≡ Some x.1) xs
      → AllByRecursion (λ (x : PageId × X). find page_cmp x.0 (e ∷ all) ≡ Some x.1) xs
  found_behind e all [] below found = tt
  found_behind e all (x ∷ xs) below found =
      let parts = both_of (is_lt (page_cmp e.0 x.0)) (below_all page_cmp e.0 xs) below in
      let other : eq_by_cmp page_cmp x.0 e.0 ≡ false =
      (eq_by_cmp_equiv page_cmp-total).symm x.0 e.0 ∙ less_not_equal (page_cmp e.0 x.0) parts.0 in (
        ap (λ b. cond b (Some e.1) (find page_cmp x.0 all)) other ∙ found.0,
        found_behind e all xs parts.1 found.1,
      )

  -- each of a sorted list's entries is found by its key
  found_all : (es : List (PageId × X)) → finite.is_sorted page_cmp es ≡ true → AllByRecursion (λ (x : PageId × X). find page_cmp x.0 es ≡ Some x.1) es
  found_all [] sorted = tt
  found_all (e ∷ es) sorted = let parts = both_of (below_all page_cmp e.0 es) (finite.is_sorted page_cmp es) sorted in (
    ap (λ b. cond b (Some e.1) (find page_cmp e.0 es)) ((eq_by_cmp_equiv page_cmp-total).refl e.0),
    found_behind e es es parts.0 (found_all es parts.1),
  )

-- what passes alike on both sides of a join
has_more : (s : ℕ) (xs ys us vs : List ℕ) → (has s xs ≡ true → has s us ≡ true) → (has s ys ≡ true → has s vs ≡ true)
    → has s (xs ++ ys) ≡ true → has s (us ++ vs) ≡ true
has_more s xs ys us vs first second is =
    list_any-append (λ t. t == s) us vs
    ∙ ⊎_elim (λ l. or_left (has s us) (has s vs) (first l)) (λ r. or_right (has s us) (has s vs) (second r))
    (one_of (has s xs) (has s ys) (sym (list_any-append (λ t. t == s) xs ys) ∙ is))

-- a slot of a version that is looked at under one test is so under another that it passes
has_if : (s : ℕ) (b c : Bool) (slots : List ℕ) → c ≡ true → has s (cond b slots []) ≡ true → has s (cond c slots []) ≡ true
has_if s true c slots passes is = ap (λ x. has s (cond x slots [])) passes ∙ is
has_if s false c slots passes is = absurd (cc is)

-- commits fall from each version to those after it
falls : (above low : ℕ) (vs : List Version) → low ≤ above → IsFallingBelow low vs → AllByRecursion (λ (v : Version). v.commit < above) vs
falls above low [] le falling = tt
falls above low (v ∷ vs) le falling = (omega (arith, le, falling.0), falls above v.commit vs (omega (arith, le, falling.0)) falling.1)

module _ {X : Type 0} (p : X → Bool) where
  short : (xs : List X) → length (filter p xs) ≤ length xs
  short [] = omega arith
  short (x ∷ xs) = one (p x) (short xs)
    where
      one : (b : Bool) → length (filter p xs) ≤ length xs → length (cond b (x ∷ filter p xs) (filter p xs)) ≤ length (x ∷ xs)
      one true le = omega (arith, le)
      one false le = omega (arith, le)

  -- what a filter leaves whole passes it
  whole_passes : (xs : List X) → length xs ≤ length (filter p xs) → AllByRecursion (λ (x : X). p x ≡ true) xs
  whole_passes [] le = tt
  whole_passes (x ∷ xs) le = one (p x) refl le (λ less. whole_passes xs less)
    where
      one : (b : Bool) → p x ≡ b → length (x ∷ xs) ≤ length (cond b (x ∷ filter p xs) (filter p xs))
          → (length xs ≤ length (filter p xs) → AllByRecursion (λ (y : X). p y ≡ true) xs) → (p x ≡ true) × AllByRecursion (λ (y : X). p y ≡ true) xs
      one true is long later = (is, later (omega (arith, long)))
      one false is long later = absurd (omega (arith, long, short xs))

module _ (s commit : ℕ) (snapshots : List (Option ℕ)) where
  -- versions that an open snapshot sees, and that are not after the commit, have their slots among those in use
  seen_used : (chain vs : List Version) → AllByRecursion (λ (v : Version). v.commit ≤ commit) vs
      → has s (flat_map (slot_if_seen snapshots chain) vs) ≡ true → has s (flat_map (slot_of_version commit) vs) ≡ true
  seen_used chain [] upto is = is
  seen_used chain (v ∷ vs) upto is =
      let le : v.commit ≤ commit = upto.0 in let known : nat_le v.commit commit ≡ true = grind (arith, nat_tests) in
      has_more s (slot_if_seen snapshots chain v) (flat_map (slot_if_seen snapshots chain) vs) (slot_of_version commit v)
      (flat_map (slot_of_version commit) vs) (has_if s (list_any (is_seen_by chain v) snapshots) (nat_le v.commit commit) (slot_of_image v.image) known)
      (seen_used chain vs upto.1) is

  -- and so the other way round
  used_seen : (chain vs : List Version) → AllByRecursion (λ (v : Version). list_any (is_seen_by chain v) snapshots ≡ true) vs
      → has s (flat_map (slot_of_version commit) vs) ≡ true → has s (flat_map (slot_if_seen snapshots chain) vs) ≡ true
  used_seen chain [] seen is = is
  used_seen chain (v ∷ vs) seen is =
      has_more s (slot_of_version commit v) (flat_map (slot_of_version commit) vs) (slot_if_seen snapshots chain v)
      (flat_map (slot_if_seen snapshots chain) vs) (has_if s (nat_le v.commit commit) (list_any (is_seen_by chain v) snapshots) (slot_of_image v.image) seen.0)
      (used_seen chain vs seen.1) is

-- below the newest version, an open snapshot sees each that is needed
older_seen : (snapshots : List (Option ℕ)) (w : Version) (chain vs : List Version) → newest chain ≡ Some w → AllByRecursion
    (λ (v : Version). v.commit < w.commit) vs
    → AllByRecursion (λ (v : Version). is_needed None snapshots chain v ≡ true) vs
    → AllByRecursion (λ (v : Version). list_any (is_seen_by chain v) snapshots ≡ true) vs
older_seen snapshots w chain [] front below needs = tt
older_seen snapshots w chain (v ∷ vs) front below needs =
    let less : v.commit < w.commit = below.0 in
    let other : is_version (newest chain) v ≡ false =
    ap (λ o. is_version o v) front ∙ ne_eqb w.commit v.commit (λ same. absurd (omega (arith, less, same))) in (
      ap (λ b. b || list_any (is_seen_by chain v) snapshots) (sym other) ∙ needs.0,
      older_seen snapshots w chain vs front below.1 needs.1,
    )

-- what the versions of a page keep
record Holds (commit : ℕ) (snapshots : List (Option ℕ)) (chain : List Version) : Type 0 where
  upto : AllByRecursion (λ (v : Version). v.commit ≤ commit) chain
  falling : IsFalling chain
  exact : needed None snapshots chain ≡ chain

module _ (s commit : ℕ) (snapshots : List (Option ℕ)) (table : List Row) where
  -- the slot of the newest image is one of the table
  image_tabled : (id : PageId) (image : PageImage) (rest : List (PageId × PageImage))
      → AllByRecursion (λ (x : PageId × PageImage). IsTabled table x.1) (with_image id image rest)
      → has s (slot_of_image image) ≡ true → is_in_table table s ≡ true
  image_tabled id (Resident page) rest tabled is = absurd (cc is)
  image_tabled id Absent rest tabled is = absurd (cc is)
  image_tabled id (Slot slot) rest tabled is = slot_is (slot == s) refl tabled.0 is
    where
      slot_is : (b : Bool) → (slot == s) ≡ b → is_in_table table slot ≡ true → (b || false) ≡ true → is_in_table table s ≡ true
      slot_is true same in_table found = let is_s : slot ≡ s = grind (arith, nat_tests) in subst (λ t. is_in_table table t ≡ true) is_s in_table
      slot_is false same in_table found = absurd (cc found)

  rest_tabled : (id : PageId) (v : Option Version) (rest : List (PageId × PageImage))
      → AllByRecursion (λ (x : PageId × PageImage). IsTabled table x.1) (with_version id v rest)
      → AllByRecursion (λ (x : PageId × PageImage). IsTabled table x.1) rest
  rest_tabled id None rest tabled = tabled
  rest_tabled id (Some v) rest tabled = one v.image tabled
    where
      one : (image : PageImage) → AllByRecursion (λ (x : PageId × PageImage). IsTabled table x.1) (with_image id image rest)
          → AllByRecursion (λ (x : PageId × PageImage). IsTabled table x.1) rest
      one (Resident page) all = all.1
      one (Slot slot) all = all.1
      one Absent all = all

  -- a slot that a version of a page has is one of the table, or an open snapshot sees the version
  chain_named : (id : PageId) (chain : List Version) (rest : List (PageId × PageImage)) → Holds commit snapshots chain
      → AllByRecursion (λ (x : PageId × PageImage). IsTabled table x.1) (with_version id (version_at chain commit) rest)
      → has s (flat_map (slot_of_version commit) chain) ≡ true
      → (is_in_table table s ≡ true) ⊎ (has s (flat_map (slot_if_seen snapshots chain) chain) ≡ true)
  chain_named id [] rest holds tabled is = absurd (cc is)
  chain_named id (w ∷ ws) rest holds tabled is =
      let le : w.commit ≤ commit = holds.upto.0 in let known : nat_le w.commit commit ≡ true = grind (arith, nat_tests) in
      let front : version_at (w ∷ ws) commit ≡ Some w = ap (λ b. cond b (Some w) (version_at ws commit)) known in
      let tabled_w = subst (λ v. AllByRecursion (λ (x : PageId × PageImage). IsTabled table x.1) (with_version id v rest)) front tabled in
      let needs = whole_passes (is_needed None snapshots (w ∷ ws)) (w ∷ ws) (omega (arith, ap length holds.exact)) in
      let seen = older_seen snapshots w (w ∷ ws) ws refl (falls w.commit w.commit ws (omega arith) holds.falling) needs.1 in
      let here = slot_of_version commit w in let behind = flat_map (slot_of_version commit) ws in
      ⊎_elim
      (λ first. inl (image_tabled id w.image rest tabled_w (ap (λ b. has s (cond b (slot_of_image w.image) [])) (sym known) ∙ first)))
      (λ second. inr (list_any-append (λ t. t == s) (slot_if_seen snapshots (w ∷ ws) w) (flat_map (slot_if_seen snapshots (w ∷ ws)) ws)
      ∙ or_right (has s (slot_if_seen snapshots (w ∷ ws) w)) (has s (flat_map (slot_if_seen snapshots (w ∷ ws)) ws))
      (used_seen s commit snapshots (w ∷ ws) ws seen second)))
      (one_of (has s here) (has s behind) (sym (list_any-append (λ t. t == s) here behind) ∙ is))

  -- so it is for the versions of all pages
  chains_named : (es : List (PageId × List Version)) → AllByRecursion (λ (e : PageId × List Version). Holds commit snapshots e.1) es
      → AllByRecursion (λ (x : PageId × PageImage). IsTabled table x.1) (newest_images commit es) → has s (slots_of_chains commit es) ≡ true
      → (is_in_table table s ≡ true) ⊎ (has s (slots_seen snapshots es) ≡ true)
  chains_named [] holds tabled is = absurd (cc is)
  chains_named (e ∷ es) holds tabled is =
      let here = flat_map (slot_of_version commit) e.1 in let behind = slots_of_chains commit es in
      let seen = flat_map (slot_if_seen snapshots e.1) e.1 in let more = slots_seen snapshots es in
      ⊎_elim
      (λ first. ⊎_elim inl (λ is_seen. inr (list_any-append (λ t. t == s) seen more ∙ or_left (has s seen) (has s more) is_seen))
      (chain_named e.0 e.1 (newest_images commit es) holds.0 tabled first))
      (λ second. ⊎_elim inl (λ is_seen. inr (list_any-append (λ t. t == s) seen more ∙ or_right (has s seen) (has s more) is_seen))
      (chains_named es holds.1 (rest_tabled e.0 (version_at e.1 commit) (newest_images commit es) tabled) second))
      (one_of (has s here) (has s behind) (sym (list_any-append (λ t. t == s) here behind) ∙ is))

  chains_used : (es : List (PageId × List Version)) → AllByRecursion (λ (e : PageId × List Version). Holds commit snapshots e.1) es
      → has s (slots_seen snapshots es) ≡ true → has s (slots_of_chains commit es) ≡ true
  chains_used [] holds is = is
  chains_used (e ∷ es) holds is =
      has_more s (flat_map (slot_if_seen snapshots e.1) e.1) (slots_seen snapshots es) (flat_map (slot_of_version commit) e.1) (slots_of_chains commit es)
      (seen_used s commit snapshots e.1 e.1 holds.0.upto) (chains_used es holds.1) is

in_table_has : (s : ℕ) (rows : List Row) → is_in_table rows s ≡ true → has s (slots_of rows) ≡ true
in_table_has s [] is = is
in_table_has s (r ∷ rs) is = one (r.slot == s) is (in_table_has s rs)
  where
    one : (b : Bool) → (b || is_in_table rs s) ≡ true → (is_in_table rs s ≡ true → has s (slots_of rs) ≡ true) → (b || has s (slots_of rs)) ≡ true
    one true is_it later = refl
    one false is_it later = later is_it

same_joined : (p c d : Bool) → (c ≡ true → (p ≡ true) ⊎ (d ≡ true)) → (d ≡ true → c ≡ true) → (p || c) ≡ (p || d)
same_joined true c d there back = refl
same_joined false true d there back = ⊎_elim (λ is. absurd (cc is)) sym (there refl)
same_joined false false true there back = back refl
same_joined false false false there back = refl

-- each chain that is walked is that of its page
pub all_found : (chains : ChainMap) → AllByRecursion (λ (e : PageId × List Version). chain_in chains e.0 ≡ e.1) (finite.entries chains)
all_found chains = each (finite.entries chains) (found_all (finite.entries chains) (is_true _ (finite.entries_sorted chains)))
  where
    each : (es : List (PageId × List Version)) → AllByRecursion (λ (e : PageId × List Version). find page_cmp e.0 (finite.entries chains) ≡ Some e.1) es
        → AllByRecursion (λ (e : PageId × List Version). chain_in chains e.0 ≡ e.1) es
    each [] found = tt
    each (e ∷ es) found = (ap (λ o. unwrap_or o []) (finite.get-entries chains e.0 ∙ found.0), each es found.1)

-- the chains of the pages keep this where nothing is staged and no version is later
holds_all : (kept : Kept) (commit : ℕ) → IsUpTo kept commit → IsExact kept
    → AllByRecursion (λ (e : PageId × List Version). Holds commit kept.snapshots e.1) (finite.entries kept.chains)
holds_all kept commit upto exact = each (finite.entries kept.chains) (all_found kept.chains)
  where
    one : (id : PageId) (chain : List Version) → chain_in kept.chains id ≡ chain → Holds commit kept.snapshots chain
    one id chain is = record {
      upto = recursion_from_All (λ (v : Version). v.commit ≤ commit) chain
          (subst (All (λ (v : Version). v.commit ≤ commit)) is (upto.commits id));
      falling = subst IsFalling is (exact.falling id);
      exact = subst (λ st. needed st kept.snapshots chain ≡ chain) upto.staged
          (subst (λ c. needed kept.staged kept.snapshots c ≡ c) is (exact.exact id));
    }

    each : (es : List (PageId × List Version)) → AllByRecursion (λ (e : PageId × List Version). chain_in kept.chains e.0 ≡ e.1) es
        → AllByRecursion (λ (e : PageId × List Version). Holds commit kept.snapshots e.1) es
    each [] found = tt
    each (e ∷ es) found = (one e.0 e.1 found.0, each es found.1)

-- At the newest commit, the slots in use are those that the table of the log that counts, that of a head in doubt, or a version
-- that an open snapshot sees names.
pub used_named : (state : SlotState) (kept : Kept) (commit : ℕ) → IsUpTo kept commit → IsExact kept
    → AllByRecursion (λ (x : PageId × PageImage). IsTabled state.table x.1) (newest_images commit (finite.entries kept.chains)) → (s : ℕ)
    → is_used state commit (finite.entries kept.chains) s ≡ is_named state kept s
used_named state kept commit upto exact tabled s =
    let es = finite.entries kept.chains in let known = slots_of state.table ++ slots_if state.doubt in
    let used = slots_of_chains commit es in let seen = slots_seen kept.snapshots es in
    let holds = holds_all kept commit upto exact in
    let in_known : is_in_table state.table s ≡ true → has s known ≡ true = λ is.
    list_any-append (λ t. t == s) (slots_of state.table) (slots_if state.doubt)
    ∙ or_left (has s (slots_of state.table)) (has s (slots_if state.doubt)) (in_table_has s state.table is) in
    list_any-append (λ t. t == s) known used
    ∙ (same_joined (has s known) (has s used) (has s seen)
    (λ is. ⊎_elim (λ table. inl (in_known table)) inr (chains_named s commit kept.snapshots state.table es holds tabled is))
    (chains_used s commit kept.snapshots state.table es holds)
    ∙ sym (list_any-append (λ t. t == s) known seen))
