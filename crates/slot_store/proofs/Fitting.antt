-- A plan fits its state: no two of its pages are in one slot, and what it writes goes to slots that the table doesn't name.
use Rattle.std.proofs.Common.{◌≡◌, ◌≢◌, ℕ, ◌+◌, ◌*◌, ◌<◌, ◌≤◌, List, [], ◌∷◌, ◌++◌, length, map, Bool, true, false, ◌==◌, ◌||◌, Option, Some, None, refl, sym, ap, ◌∙◌, subst, arith, length-append, append_assoc}
use Rattle.std.specs.Prelude.{IfSome}
use Rattle.std.specs.List.{list_any, AllByRecursion, flat_map}
use Rattle.std.proofs.lemmas.Bool.{both_ways, false_from_ne_true}
use Rattle.page_bytes.specs.declared.ids.PageId.{PageId}
use Rattle.page_versions.specs.declared.version.Image.{Image as PageImage}
use Rattle.slot_store.specs.declared.table.Row.{Row}
use Rattle.slot_store.specs.declared.planning.Placed.{Placed}
use Rattle.slot_store.specs.declared.planning.TheConstants.{LAST_SLOT}
use Rattle.page_versions.specs.declared.version.Version.{Version}
use Rattle.slot_store.specs.declared.state.SlotState.{SlotState}
use Rattle.slot_store.specs.Used.{used_slots, slots_of, slots_if, slots_of_chains}
use Rattle.slot_store.specs.Slots.{AreLeast}
use Rattle.page_device.specs.declared.device.TheConstants.{LONGEST}
use Rattle.redo_log.specs.declared.change.LogName.{LogName}
use Rattle.slot_store.specs.Head.{EachPair, front_bytes, head_bytes, row_bytes}
use Rattle.xq_ast.specs.declared.code.SpentKind.{SpentKind}
use Rattle.xq_ast.specs.declared.code.SpentKind.TheVariants.{Commit, Generation, Page, Slot, Log}
use Rattle.slot_store.specs.Spent.{IsSlotSpent, IsSlotEnd, IsSpentAt}
use Rattle.slot_store.proofs.Writing.{length-rows}
use Rattle.std.proofs.lemmas.List.{length-map}
use Rattle.slot_store.specs.Planned.{written_slots, slot_if, before_of, row_of, image_before, is_in_table, IsPlaced, IsPlacedIn, IsTabled, AreInTwo, AreApart}
use Rattle.slot_store.proofs.Opening.{all_so, all_both}

-- each of a list's images is one of a page's
pub all_before : (P : PageId × PageImage → Type 0) (placed : List Placed) → AllByRecursion P (map before_of placed)
    → AllByRecursion (λ (p : Placed). P (before_of p)) placed
all_before P [] all = tt
all_before P (p ∷ ps) all = (all.0, all_before P ps all.1)

-- the least free slots by one test are so by another that says the same
pub least_by : (f h : ℕ → Bool) → ((s : ℕ) → f s ≡ h s) → (ss : List ℕ) (from : ℕ) → AreLeast f from ss → AreLeast h from ss
least_by f h same [] from least = tt
least_by f h same (s ∷ ss) from least =
    (least.0, sym (same s) ∙ least.1, λ t low less. sym (same t) ∙ least.2 t low less, least_by f h same ss (s + 1) least.3)

module _ (table : List Row) (used : ℕ → Bool) (in_use : (s : ℕ) → is_in_table table s ≡ true → used s ≡ true) where
  free_out : (s : ℕ) → used s ≡ false → is_in_table table s ≡ false
  free_out s free = false_from_ne_true (is_in_table table s) (λ is. both_ways (used s) free (in_use s is))

  -- what comes behind a page
  record Behind (slot from : ℕ) (page : Option (List ℕ)) (rest : List ℕ) : Type 0 where
    next : ℕ
    low : from ≤ next
    less : IfSome page (λ (g : List ℕ). slot < next)
    least : AreLeast used next rest

  behind_page : (slot from : ℕ) (page : Option (List ℕ)) (rest : List ℕ) → AreLeast used from (slot_if slot page rest) → Behind slot from page rest
  behind_page slot from None rest l = record { next = from; low = omega arith; less = tt; least = l }
  behind_page slot from (Some g) rest l = record { next = slot + 1; low = omega (arith, l.0); less = omega arith; least = l.3 }

  free_page : (slot from : ℕ) (page : Option (List ℕ)) (rest : List ℕ) → IsTabled table (image_before slot page) → AreLeast used from (slot_if slot page rest)
      → AllByRecursion (λ (s : ℕ). s ≤ LAST_SLOT) (slot_if slot page rest) → IsPlaced table slot page
  free_page slot from None rest tabled l within = tabled
  free_page slot from (Some g) rest tabled l within = (free_out slot l.1, within.0)

  within_rest : (slot : ℕ) (page : Option (List ℕ)) (rest : List ℕ) → AllByRecursion (λ (s : ℕ). s ≤ LAST_SLOT) (slot_if slot page rest)
      → AllByRecursion (λ (s : ℕ). s ≤ LAST_SLOT) rest
  within_rest slot None rest within = within
  within_rest slot (Some g) rest within = within.1

  -- each page is in a slot of the table, or goes to one that it doesn't name
  pub all_placed : (placed : List Placed) (from : ℕ) → AllByRecursion (λ (x : PageId × PageImage). IsTabled table x.1) (map before_of placed)
      → AreLeast used from (written_slots placed) → AllByRecursion (λ (s : ℕ). s ≤ LAST_SLOT) (written_slots placed) → AllByRecursion (IsPlacedIn table) placed
  all_placed [] from tabled least within = tt
  all_placed (p ∷ ps) from tabled least within =
      let behind = behind_page p.slot from p.page (written_slots ps) least in (
        free_page p.slot from p.page (written_slots ps) tabled.0 least within,
        all_placed ps behind.next tabled.1 behind.least (within_rest p.slot p.page (written_slots ps) within),
      )

  above_more : (slot low high : ℕ) (page : Option (List ℕ)) → low ≤ high → IfSome page (λ (g : List ℕ). high ≤ slot) → IfSome page (λ (g : List ℕ). low ≤ slot)
  above_more slot low high None le above = tt
  above_more slot low high (Some g) le above = omega (arith, le, above)

  above_one : (slot from : ℕ) (page : Option (List ℕ)) (rest : List ℕ) → AreLeast used from (slot_if slot page rest) → IfSome page (λ (g : List ℕ). from ≤ slot)
  above_one slot from None rest l = tt
  above_one slot from (Some g) rest l = l.0

  all_above : (placed : List Placed) (from : ℕ) → AreLeast used from (written_slots placed)
      → AllByRecursion (λ (q : Placed). IfSome q.page (λ (g : List ℕ). from ≤ q.slot)) placed
  all_above [] from least = tt
  all_above (q ∷ qs) from least =
      let behind = behind_page q.slot from q.page (written_slots qs) least in (
        above_one q.slot from q.page (written_slots qs) least,
        all_so (λ (x : Placed). IfSome x.page (λ (g : List ℕ). behind.next ≤ x.slot)) (λ (x : Placed). IfSome x.page (λ (g : List ℕ). from ≤ x.slot))
            (λ x above. above_more x.slot from behind.next x.page behind.low above) qs (all_above qs behind.next behind.least),
      )

  two_slots : (s t next : ℕ) (page other : Option (List ℕ)) → IsPlaced table s page → IsPlaced table t other → AreInTwo (image_before s page)
      (image_before t other)
      → IfSome page (λ (g : List ℕ). s < next) → IfSome other (λ (g : List ℕ). next ≤ t) → s ≢ t
  two_slots s t next None None one two apart less above = apart
  two_slots s t next None (Some g) one two apart less above = λ same.
      both_ways (is_in_table table t) two.0 (subst (λ (u : ℕ). is_in_table table u ≡ true) same one)
  two_slots s t next (Some g) None one two apart less above = λ same.
      both_ways (is_in_table table s) one.0 (subst (λ (u : ℕ). is_in_table table u ≡ true) (sym same) two)
  two_slots s t next (Some g) (Some h) one two apart less above = λ same. absurd (omega (arith, same, less, above))

  -- no two pages are in one slot
  pub all_apart : (placed : List Placed) (from : ℕ) → AreLeast used from (written_slots placed) → AllByRecursion (IsPlacedIn table) placed
      → EachPair (λ (x y : PageId × PageImage). AreInTwo x.1 y.1) (map before_of placed) → EachPair AreApart placed
  all_apart [] from least is apart = tt
  all_apart (p ∷ ps) from least is apart =
      let behind = behind_page p.slot from p.page (written_slots ps) least in (
        all_both (λ (q : Placed). IsPlaced table q.slot q.page × AreInTwo (image_before p.slot p.page) (image_before q.slot q.page))
            (λ (q : Placed). IfSome q.page (λ (g : List ℕ). behind.next ≤ q.slot)) (AreApart p)
            (λ q two above. two_slots p.slot q.slot behind.next p.page q.page is.0 two.0 two.1 behind.less above) ps
            (all_both (IsPlacedIn table) (λ (q : Placed). AreInTwo (image_before p.slot p.page) (image_before q.slot q.page))
            (λ (q : Placed). IsPlaced table q.slot q.page × AreInTwo (image_before p.slot p.page) (image_before q.slot q.page))
            (λ q one two. (one, two)) ps is.1
            (all_before (λ (y : PageId × PageImage). AreInTwo (image_before p.slot p.page) y.1) ps apart.0))
            (all_above ps behind.next behind.least),
        all_apart ps behind.next behind.least is.1 apart.1,
      )

-- a slot of the table is in use
pub table_used : (rows : List Row) (more : List ℕ) (s : ℕ) → is_in_table rows s ≡ true → list_any (λ t. t == s) (map (λ (r : Row). r.slot) rows ++ more) ≡ true
table_used [] more s is = absurd (cc is)
table_used (r ∷ rs) more s is = one (r.slot == s) is (table_used rs more s)
  where
    one : (b : Bool) → (b || is_in_table rs s) ≡ true
        → (is_in_table rs s ≡ true → list_any (λ t. t == s) (map (λ (x : Row). x.slot) rs ++ more) ≡ true)
        → (b || list_any (λ t. t == s) (map (λ (x : Row). x.slot) rs ++ more)) ≡ true
    one true h later = refl
    one false h later = later h

-- so is one of the state's table
pub state_used : (state : SlotState) (commit : ℕ) (entries : List (PageId × List Version)) (s : ℕ) → is_in_table state.table s ≡ true
    → list_any (λ t. t == s) (used_slots state commit entries) ≡ true
state_used state commit entries s is =
    ap (list_any (λ t. t == s)) (append_assoc (slots_of state.table) (slots_if state.doubt) (slots_of_chains commit entries))
    ∙ table_used state.table (slots_if state.doubt ++ slots_of_chains commit entries) s is

-- a head of which the front and the rows fit a file fits it
pub fits_from : (generation commit : ℕ) (entries : List LogName) (placed : List Placed) (front : List ℕ)
    → front ≡ front_bytes generation commit entries (length placed)
    → length front + length placed * 32 + 2 ≤ LONGEST
    → length (head_bytes (record { generation = generation; commit = commit; entries = entries; rows = map row_of placed })) + 2 ≤ LONGEST
fits_from generation commit entries placed front is fits =
    let rows = map row_of placed in
    let same : length (front_bytes generation commit entries (length rows)) ≡ length front =
    ap (λ (n : ℕ). length (front_bytes generation commit entries n)) (length-map placed row_of) ∙ ap length (sym is) in
    omega (
      arith,
      fits,
      same,
      length-append (front_bytes generation commit entries (length rows))
          (flat_map row_bytes rows),
      length-rows rows,
      length-map placed row_of,
    )

-- slots that are spent by one test are so by another that says the same
pub spent_by : (f h : ℕ → Bool) → ((s : ℕ) → f s ≡ h s) → (images : List (PageId × PageImage)) → IsSlotSpent f images → IsSlotSpent h images
spent_by f h same images spent = record {
  slots = spent.slots;
  least = least_by f h same spent.slots 0 spent.least;
  few = spent.few;
  all = λ s within free. spent.all s within (same s ∙ free);
}

-- where slots are spent, the last slot is named, and that is one of the ends of a plan
pub slot_end_only : (kind : SpentKind) (n : ℕ) → IsSlotEnd kind n → IsSpentAt kind n
slot_end_only Commit n is = is
slot_end_only Generation n is = absurd is
slot_end_only Page n is = is
slot_end_only Slot n is = is
slot_end_only Log n is = absurd is
