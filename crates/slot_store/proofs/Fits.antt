-- What a state that fits its versions gives a plan: the table as a walk of the chains meets it.
use Rattle.std.proofs.Common.{◌≡◌, ℕ, Bool, true, false, cond, ◌||◌, ◌&&◌, ◌==◌, List, [], ◌∷◌, Option, Some, None, refl, sym, ap, ◌∙◌, subst, arith, unwrap_or}
use Rattle.std.specs.List.{AllByRecursion}
use Rattle.std.specs.Option.{option_map}
use Rattle.std.specs.FinMap as finite
use Rattle.std.specs.FinMap.Entries.{below_all, find}
use Rattle.std.specs.declared.cmp.Ordering.{Ordering}
use Rattle.std.specs.declared.cmp.Ordering.TheVariants.{Less, Equal, Greater}
use Rattle.std.specs.Ordering.{is_eq, is_lt}
use Rattle.std.proofs.lemmas.Bool.{or_left, or_right}
use Rattle.std.proofs.lemmas.Bool.Decides.{nat_tests}
use Rattle.page_bytes.specs.declared.ids.PageId.{PageId}
use Rattle.page_bytes.specs.Order.{page_cmp}
use Rattle.page_versions.specs.declared.version.Version.{Version}
use Rattle.page_versions.specs.declared.version.Image.{Image as PageImage}
use Rattle.page_versions.specs.declared.version.Image.TheVariants.{Resident, Slot, Absent}
use Rattle.page_versions.specs.ChainMap.{ChainMap, chain_in}
use Rattle.page_versions.specs.Chains.{version_at}
use Rattle.page_versions.specs.Kept.{Kept}
use Rattle.slot_store.specs.declared.table.Row.{Row}
use Rattle.slot_store.specs.declared.state.SlotState.{SlotState}
use Rattle.slot_store.specs.Head.{EachPair}
use Rattle.slot_store.specs.Table.{slot_by, slot_of}
use Rattle.slot_store.specs.Planned.{newest_images, with_version, with_image, is_in_table, IsTabled, AreInTwo, FitsVersions, image_at, is_image}
use Rattle.slot_store.proofs.Naming.{all_found, both_of, is_true}
use Rattle.slot_store.proofs.Changing.{Entry, KeysAfter, Sorted, has_bytes, has_key, Covered, IsKnown, AllKnown, tied, staying, stay_images, stay_slot}

lt_is_less : (o : Ordering) → is_lt o ≡ true → o ≡ Less
lt_is_less Less is = refl
lt_is_less Equal is = absurd (cc is)
lt_is_less Greater is = absurd (cc is)

keys_after : (k : PageId) (es : List Entry) → below_all page_cmp k es ≡ true → KeysAfter k es
keys_after k [] below = tt
keys_after k (e ∷ es) below = let parts = both_of (is_lt (page_cmp k e.0)) (below_all page_cmp k es) below in
    (lt_is_less (page_cmp k e.0) parts.0, keys_after k es parts.1)

sorted_is : (es : List Entry) → finite.is_sorted page_cmp es ≡ true → Sorted es
sorted_is [] sorted = tt
sorted_is (e ∷ es) sorted = let parts = both_of (below_all page_cmp e.0 es) (finite.is_sorted page_cmp es) sorted in
    (keys_after e.0 es parts.0, sorted_is es parts.1)

-- a walk meets the chains in rising order of pages
pub walk_sorted : (chains : ChainMap) → Sorted (finite.entries chains)
walk_sorted chains = sorted_is (finite.entries chains) (is_true _ (finite.entries_sorted chains))

found_key : (commit : ℕ) (id : PageId) (es : List Entry) → has_bytes (version_at (unwrap_or (find page_cmp id es) []) commit) ≡ true → has_key commit id es ≡ true
found_key commit id [] has = absurd (cc has)
found_key commit id (e ∷ es) has = by (is_eq (page_cmp id e.0)) has (found_key commit id es)
  where
    by : (b : Bool) → has_bytes (version_at (unwrap_or (cond b (Some e.1) (find page_cmp id es)) []) commit) ≡ true
        → (has_bytes (version_at (unwrap_or (find page_cmp id es) []) commit) ≡ true → has_key commit id es ≡ true)
        → (b && has_bytes (version_at e.1 commit) || has_key commit id es) ≡ true
    by true here more = ap (λ b. b || has_key commit id es) here
    by false here more = more here

cover_all : (kept : Kept) (commit : ℕ) (rows : List Row) → AllByRecursion (λ (r : Row). is_image (image_at kept commit r.id) ≡ true) rows
    → Covered commit (finite.entries kept.chains) rows
cover_all kept commit [] all = tt
cover_all kept commit (r ∷ rs) all = (
  found_key commit r.id (finite.entries kept.chains)
      (sym (ap (λ o. has_bytes (version_at (unwrap_or o []) commit)) (finite.get-entries kept.chains r.id)) ∙ all.0),
  cover_all kept commit rs all.1,
)

-- each page whose row stays is met, with an image
pub walk_covers : (kept : Kept) (commit : ℕ) (rows : List Row) → Covered commit (finite.entries kept.chains) (staying kept commit rows)
walk_covers kept commit rows = cover_all kept commit (staying kept commit rows) (stay_images kept commit rows)

slot_is_image : (o : Option PageImage) (s : ℕ) → o ≡ Some (Slot s) → is_image o ≡ true
slot_is_image o s is = ap is_image is

known_all : (state : SlotState) (kept : Kept) (commit : ℕ) → FitsVersions state kept commit → (es : List Entry)
    → AllByRecursion (λ (e : Entry). chain_in kept.chains e.0 ≡ e.1) es → AllKnown commit es state.table
known_all state kept commit fits [] found = tt
known_all state kept commit fits (e ∷ es) found = (
  (λ s is. fits.known e.0 s (ap (λ chain. option_map (λ v. v.image) (version_at chain commit)) found.0 ∙ is)),
  known_all state kept commit fits es found.1,
)

-- an image in a slot is known where it is met
pub walk_knows : (state : SlotState) (kept : Kept) (commit : ℕ) → FitsVersions state kept commit → AllKnown commit (finite.entries kept.chains) state.table
walk_knows state kept commit fits = known_all state kept commit fits (finite.entries kept.chains) (all_found kept.chains)

stays_all : (state : SlotState) (kept : Kept) (commit : ℕ) → FitsVersions state kept commit → (es : List Entry)
    → AllByRecursion (λ (e : Entry). chain_in kept.chains e.0 ≡ e.1) es → AllKnown commit es (staying kept commit state.table)
stays_all state kept commit fits [] found = tt
stays_all state kept commit fits (e ∷ es) found = (
  (λ s is. let at : image_at kept commit e.0 ≡ Some (Slot s) = ap (λ chain. option_map (λ v. v.image) (version_at chain commit)) found.0 ∙ is in
      stay_slot kept commit e.0 state.table (slot_is_image (image_at kept commit e.0) s at) ∙ fits.known e.0 s at),
  stays_all state kept commit fits es found.1,
)

-- so it is among the rows that stay
pub walk_stays : (state : SlotState) (kept : Kept) (commit : ℕ) → FitsVersions state kept commit
    → AllKnown commit (finite.entries kept.chains) (staying kept commit state.table)
walk_stays state kept commit fits = stays_all state kept commit fits (finite.entries kept.chains) (all_found kept.chains)

same_some : (s t : ℕ) → Some s ≡ Some t → s ≡ t
same_some s t is = cc is

-- what holds of all slots holds of a page's
of_slot : (P : ℕ → Type 0) (id : PageId) (rows : List Row) (s : ℕ) → AllByRecursion (λ (r : Row). P r.slot) rows → slot_of id rows ≡ Some s → P s
of_slot P id [] s all is = absurd (cc is)
of_slot P id (q ∷ qs) s all is = by (page_cmp id q.id) is (of_slot P id qs s all.1)
  where
    by : (o : Ordering) → slot_by o q (slot_of id qs) ≡ Some s → (slot_of id qs ≡ Some s → P s) → P s
    by Less there more = more there
    by Equal there more = subst P (same_some q.slot s there) all.0
    by Greater there more = more there

in_both : (q : Row) (qs : List Row) → AllByRecursion (λ (r : Row). is_in_table qs r.slot ≡ true) qs → AllByRecursion (λ (r : Row). is_in_table (q ∷ qs) r.slot ≡ true) qs
in_both q qs all = each qs all
  where
    each : (rs : List Row) → AllByRecursion (λ (r : Row). is_in_table qs r.slot ≡ true) rs → AllByRecursion (λ (r : Row). is_in_table (q ∷ qs) r.slot ≡ true) rs
    each [] all = tt
    each (r ∷ rs) all = (or_right (q.slot == r.slot) (is_in_table qs r.slot) all.0, each rs all.1)

all_in : (rows : List Row) → AllByRecursion (λ (r : Row). is_in_table rows r.slot ≡ true) rows
all_in [] = tt
all_in (q ∷ qs) = (or_left (q.slot == q.slot) (is_in_table qs q.slot) (grind (arith, nat_tests)), in_both q qs (all_in qs))

-- the slot of a page is one of the table
slot_tabled : (id : PageId) (rows : List Row) (s : ℕ) → slot_of id rows ≡ Some s → is_in_table rows s ≡ true
slot_tabled id rows s is = of_slot (λ t. is_in_table rows t ≡ true) id rows s (all_in rows) is

tabled_all : (commit : ℕ) (es : List Entry) (rows : List Row) → AllKnown commit es rows
    → AllByRecursion (λ (x : PageId × PageImage). IsTabled rows x.1) (newest_images commit es)
tabled_all commit [] rows known = tt
tabled_all commit (e ∷ es) rows known = by (version_at e.1 commit) known.0 (tabled_all commit es rows known.1)
  where
    All : List (PageId × PageImage) → Type 0
    All xs = AllByRecursion (λ (x : PageId × PageImage). IsTabled rows x.1) xs

    one : (image : PageImage) → ((s : ℕ) → Some image ≡ Some (Slot s) → slot_of e.0 rows ≡ Some s) → All (newest_images commit es)
        → All (with_image e.0 image (newest_images commit es))
    one (Resident page) there more = (tt, more)
    one (Slot slot) there more = (slot_tabled e.0 rows slot (there slot refl), more)
    one Absent there more = more

    by : (v : Option Version) → IsKnown v e.0 rows → All (newest_images commit es) → All (with_version e.0 v (newest_images commit es))
    by None there more = more
    by (Some v) there more = one v.image there more

-- the newest images that are in slots are in slots of the table
pub walk_tabled : (state : SlotState) (kept : Kept) (commit : ℕ) → FitsVersions state kept commit
    → AllByRecursion (λ (x : PageId × PageImage). IsTabled state.table x.1) (newest_images commit (finite.entries kept.chains))
walk_tabled state kept commit fits = tabled_all commit (finite.entries kept.chains) state.table (walk_knows state kept commit fits)

-- two entries are not in one slot
abbrev AreTwo : ℕ → Entry → Entry → Type 0
AreTwo commit d e = (s : ℕ) → option_map (λ v. v.image) (version_at d.1 commit) ≡ Some (Slot s)
    → option_map (λ v. v.image) (version_at e.1 commit) ≡ Some (Slot s) → ⊥

two_all : (state : SlotState) (kept : Kept) (commit : ℕ) → FitsVersions state kept commit → (d : Entry) → chain_in kept.chains d.0 ≡ d.1
    → (es : List Entry) → KeysAfter d.0 es → AllByRecursion (λ (e : Entry). chain_in kept.chains e.0 ≡ e.1) es → AllByRecursion (AreTwo commit d) es
two_all state kept commit fits d here [] keys found = tt
two_all state kept commit fits d here (e ∷ es) keys found = (
  (λ s is is'. let image : List Version → Option PageImage = λ chain. option_map (λ v. v.image) (version_at chain commit) in
      let one : d.0 ≡ e.0 = fits.apart d.0 e.0 s (ap image here ∙ is) (ap image found.0 ∙ is') in
      absurd (cc (sym keys.0 ∙ subst (λ k. page_cmp k e.0 ≡ Equal) (sym one) (tied e.0)))),
  two_all state kept commit fits d here es keys.1 found.1,
)

apart_one : (commit : ℕ) (k : PageId) (image : PageImage) (es : List Entry)
    → AllByRecursion (λ (e : Entry). (s : ℕ) → Some image ≡ Some (Slot s) → option_map (λ v. v.image) (version_at e.1 commit) ≡ Some (Slot s) → ⊥) es
    → AllByRecursion (λ (y : PageId × PageImage). AreInTwo image y.1) (newest_images commit es)
apart_one commit k image [] two = tt
apart_one commit k image (e ∷ es) two = by (version_at e.1 commit) two.0 (apart_one commit k image es two.1)
  where
    both : (i j : PageImage) → ((s : ℕ) → Some i ≡ Some (Slot s) → Some j ≡ Some (Slot s) → ⊥) → AreInTwo i j
    both (Slot s) (Slot t) other = λ same. other s refl (ap (λ n. Some (Slot n)) (sym same))
    both (Slot s) (Resident page) other = tt
    both (Slot s) Absent other = tt
    both (Resident page) j other = tt
    both Absent j other = tt

    All : List (PageId × PageImage) → Type 0
    All ys = AllByRecursion (λ (y : PageId × PageImage). AreInTwo image y.1) ys

    one : (j : PageImage) → ((s : ℕ) → Some image ≡ Some (Slot s) → Some j ≡ Some (Slot s) → ⊥) → All (newest_images commit es)
        → All (with_image e.0 j (newest_images commit es))
    one (Resident page) other more = (both image (Resident page) other, more)
    one (Slot slot) other more = (both image (Slot slot) other, more)
    one Absent other more = more

    by : (v : Option Version) → ((s : ℕ) → Some image ≡ Some (Slot s) → option_map (λ w. w.image) v ≡ Some (Slot s) → ⊥) → All (newest_images commit es)
        → All (with_version e.0 v (newest_images commit es))
    by None other more = more
    by (Some v) other more = one v.image other more

apart_all : (state : SlotState) (kept : Kept) (commit : ℕ) → FitsVersions state kept commit → (es : List Entry) → Sorted es
    → AllByRecursion (λ (e : Entry). chain_in kept.chains e.0 ≡ e.1) es → EachPair (λ (x y : PageId × PageImage). AreInTwo x.1 y.1) (newest_images commit es)
apart_all state kept commit fits [] sorted found = tt
apart_all state kept commit fits (e ∷ es) sorted found =
    by (version_at e.1 commit) (two_all state kept commit fits e found.0 es sorted.0 found.1) (apart_all state kept commit fits es sorted.1 found.1)
  where
    Pairs : List (PageId × PageImage) → Type 0
    Pairs xs = EachPair (λ (x y : PageId × PageImage). AreInTwo x.1 y.1) xs

    Two : Option PageImage → Type 0
    Two image = AllByRecursion (λ (f : Entry). (s : ℕ) → image ≡ Some (Slot s) → option_map (λ v. v.image) (version_at f.1 commit) ≡ Some (Slot s) → ⊥) es

    one : (image : PageImage) → Two (Some image) → Pairs (newest_images commit es) → Pairs (with_image e.0 image (newest_images commit es))
    one (Resident page) two more = (apart_one commit e.0 (Resident page) es two, more)
    one (Slot slot) two more = (apart_one commit e.0 (Slot slot) es two, more)
    one Absent two more = more

    by : (v : Option Version) → Two (option_map (λ w. w.image) v) → Pairs (newest_images commit es) → Pairs (with_version e.0 v (newest_images commit es))
    by None two more = more
    by (Some v) two more = one v.image two more

-- no two of the newest images are in one slot
pub walk_apart : (state : SlotState) (kept : Kept) (commit : ℕ) → FitsVersions state kept commit
    → EachPair (λ (x y : PageId × PageImage). AreInTwo x.1 y.1) (newest_images commit (finite.entries kept.chains))
walk_apart state kept commit fits =
    apart_all state kept commit fits (finite.entries kept.chains) (walk_sorted kept.chains) (all_found kept.chains)
