-- Slots that are given one after another, and the set of those that are in use.
use Rattle.std.proofs.Common.{◌≡◌, ℕ, suc, ◌+◌, ◌<◌, ◌≤◌, List, [], ◌∷◌, ◌++◌, length, map, Bool, true, false, ◌==◌, ◌||◌, Option, Some, None, is_some, cond, refl, sym, ap, ◌∙◌, subst, arith, ⊎_elim}
use Rattle.std.specs.List.{list_any, AllByRecursion}
use Rattle.slot_store.specs.declared.planning.TheConstants.{LAST_SLOT}
use Rattle.std.specs.FinMap as finite
use Rattle.std.specs.Ordering.{nat_cmp, eq_by_cmp}
use Rattle.std.specs.Cmp.{nat_cmp_total, unsigned_tied}
use Rattle.std.proofs.lemmas.Bool.{or_left, or_right, eq-eqb, ne_eqb, cases_eq, cases_lt, both_ways}
use Rattle.std.proofs.lemmas.List.{append-nil, append_assoc}
use Rattle.std.proofs.lemmas.List.Folds.{list_any-append}
use Rattle.page_bytes.specs.declared.ids.PageId.{PageId}
use Rattle.page_versions.specs.declared.version.Version.{Version}
use Rattle.page_versions.specs.declared.version.Image.{Image as PageImage}
use Rattle.slot_store.specs.declared.planning.Placed.{Placed}
use Rattle.slot_store.specs.Slots.{AreLeast, GivesSlots}
use Rattle.slot_store.specs.declared.table.Row.{Row}
use Rattle.slot_store.specs.Used.{SlotIds, with_slots, slots_of}
use Rattle.page_versions.specs.declared.version.Image.TheVariants.{Resident, Slot, Absent}
use Rattle.slot_store.specs.Planned.{written_slots, slot_if, before_of, image_before, newest_images, with_version, with_image}
use Rattle.page_versions.specs.Chains.{version_at}
use Rattle.std.specs.Option.{option_map, unwrap_or}
use Rattle.slot_store.specs.Spent.{count_residents, one_resident, IsSlotSpent, NoneFree}

-- one more page's slot comes behind
pub written_snoc : (placed : List Placed) (p : Placed) → written_slots (placed ++ p ∷ []) ≡ written_slots placed ++ written_slots (p ∷ [])
written_snoc [] p = refl
written_snoc (q ∷ qs) p = ap (slot_if q.slot q.page) (written_snoc qs p) ∙ two q.page
  where
    two : (page : Option (List ℕ)) → slot_if q.slot page (written_slots qs ++ written_slots (p ∷ [])) ≡ slot_if q.slot page
        (written_slots qs) ++ written_slots (p ∷ [])
    two None = refl
    two (Some page) = refl

-- no slot is given
pub gives_none : (used : ℕ → Bool) (from : ℕ) (before : List ℕ) → GivesSlots used from from before before
gives_none used from before = record {
  given = [];
  is = sym (append-nil before);
  least = λ more h. h;
  all = λ s low high free. absurd (omega (arith, low, high));
  within = tt;
}

-- the least free slot is given
pub gives_one : (used : ℕ → Bool) (from s : ℕ) (before after : List ℕ) → after ≡ before ++ s ∷ [] → from ≤ s → s ≤ LAST_SLOT → used s ≡ false
    → ((t : ℕ) → from ≤ t → t < s → used t ≡ true) → GivesSlots used from (s + 1) before after
gives_one used from s before after is low high_enough free below = record {
  given = s ∷ [];
  is = is;
  least = λ more h. (low, free, below, h);
  all = λ t from_low high t_free. ⊎_elim (λ less. absurd (both_ways (used t) t_free (below t from_low less)))
      (λ more. or_left (s == t) false (eq-eqb s t (omega (arith, high, more)))) (cases_lt t s);
  within = (high_enough, tt);
}

is_some-cond : (b : Bool) (o : Option (Unit {0})) → is_some (cond b (Some tt) o) ≡ (b || is_some o)
is_some-cond true o = refl
is_some-cond false o = refl

same_test : (a b : ℕ) → (a == b) ≡ (b == a)
same_test a b = ⊎_elim (λ same. eq-eqb a b same ∙ sym (eq-eqb b a (sym same)))
    (λ other. ne_eqb a b other ∙ sym (ne_eqb b a (λ same. other (sym same)))) (cases_eq a b)

-- a set with one slot more
pub insert_has : (set : SlotIds) (s q : ℕ) → finite.contains_key (finite.insert set s tt) q ≡ ((s == q) || finite.contains_key set q)
insert_has set s q =
    ap is_some (finite.get-insert nat_cmp_total set s tt q) ∙ is_some-cond (eq_by_cmp nat_cmp q s) (finite.get set q)
    ∙ ap (λ b. b || finite.contains_key set q) (unsigned_tied q s ∙ same_test q s)

or_moves : (a b c : Bool) → (a || (b || c)) ≡ ((b || a) || c)
or_moves true true c = refl
or_moves true false c = refl
or_moves false true c = refl
or_moves false false c = refl

-- whether a set has a slot, once these are in it
pub with_slots-has : (ss : List ℕ) (set : SlotIds) (q : ℕ)
    → finite.contains_key (with_slots ss set) q ≡ (list_any (λ t. t == q) ss || finite.contains_key set q)
with_slots-has [] set q = refl
with_slots-has (s ∷ ss) set q = with_slots-has ss (finite.insert set s tt) q
    ∙ (ap (λ b. list_any (λ t. t == q) ss || b) (insert_has set s q) ∙ or_moves (list_any (λ t. t == q) ss) (s == q) (finite.contains_key set q))

-- one list after another
pub with_slots-append : (ss ts : List ℕ) (set : SlotIds) → with_slots (ss ++ ts) set ≡ with_slots ts (with_slots ss set)
with_slots-append [] ts set = refl
with_slots-append (s ∷ ss) ts set = with_slots-append ss ts (finite.insert set s tt)

or_none : (b : Bool) → (b || false) ≡ b
or_none true = refl
or_none false = refl

-- the set of these slots has exactly these
pub slots_has : (ss : List ℕ) (q : ℕ) → finite.contains_key (with_slots ss finite.empty) q ≡ list_any (λ t. t == q) ss
slots_has ss q = with_slots-has ss finite.empty q
    ∙ (ap (λ (o : Option (Unit {0})). list_any (λ t. t == q) ss || is_some o) (finite.get-empty nat_cmp q) ∙ or_none (list_any (λ t. t == q) ss))

-- slots that are given after others
pub gives_more : (used : ℕ → Bool) (from mid to : ℕ) (one two three : List ℕ) → GivesSlots used from mid one two → GivesSlots used mid to two three
    → GivesSlots used from to one three
gives_more used from mid to one two three first second = record {
  given = first.given ++ second.given;
  is = second.is ∙ (ap (λ l. l ++ second.given) first.is ∙ append_assoc one first.given second.given);
  least = λ more h. subst (AreLeast used from) (sym (append_assoc first.given second.given more)) (first.least (second.given ++ more) (second.least more h));
  all = λ s is_low high free. list_any-append (λ t. t == s) first.given second.given ∙ ⊎_elim
      (λ less. or_left (list_any (λ t. t == s) first.given) (list_any (λ t. t == s) second.given) (first.all s is_low less free))
      (λ more. or_right (list_any (λ t. t == s) first.given) (list_any (λ t. t == s) second.given) (second.all s more high free)) (cases_lt s mid);
  within = all_append first.given second.given first.within second.within;
}
  where
    all_append : (xs ys : List ℕ) → AllByRecursion (λ (s : ℕ). s ≤ LAST_SLOT) xs → AllByRecursion (λ (s : ℕ). s ≤ LAST_SLOT) ys
        → AllByRecursion (λ (s : ℕ). s ≤ LAST_SLOT) (xs ++ ys)
    all_append [] ys all more = more
    all_append (x ∷ xs) ys all more = (all.0, all_append xs ys all.1 more)

-- a page that stays in its slot takes none
pub placed_kept : (used : ℕ → Bool) (from : ℕ) (old new : List Placed) (p : Placed) → new ≡ old ++ p ∷ [] → p.page ≡ None
    → GivesSlots used from from (written_slots old) (written_slots new)
placed_kept used from old new p is none =
    subst (GivesSlots used from from (written_slots old))
    (sym (ap written_slots is ∙ (written_snoc old p ∙ (ap (λ o. written_slots old ++ slot_if p.slot o []) none ∙ append-nil (written_slots old)))))
    (gives_none used from (written_slots old))

-- a page that is written takes the least free slot
pub placed_given : (used : ℕ → Bool) (from : ℕ) (old new : List Placed) (p : Placed) (page : List ℕ) → new ≡ old ++ p ∷ [] → p.page ≡ Some page
    → from ≤ p.slot → p.slot ≤ LAST_SLOT → used p.slot ≡ false → ((t : ℕ) → from ≤ t → t < p.slot → used t ≡ true)
    → GivesSlots used from (p.slot + 1) (written_slots old) (written_slots new)
placed_given used from old new p page is some low high free below =
    gives_one used from p.slot (written_slots old) (written_slots new)
    (ap written_slots is ∙ (written_snoc old p ∙ ap (λ o. written_slots old ++ slot_if p.slot o []) some)) low high free below

-- how many pages are written
pub count_placed : (placed : List Placed) → count_residents (map before_of placed) ≡ length (written_slots placed)
count_placed [] = refl
count_placed (p ∷ ps) = one p.slot p.page (count_placed ps)
  where
    one : (slot : ℕ) (page : Option (List ℕ)) → count_residents (map before_of ps) ≡ length (written_slots ps)
        → one_resident (image_before slot page) (count_residents (map before_of ps)) ≡ length (slot_if slot page (written_slots ps))
    one slot None same = same
    one slot (Some page) same = ap suc same

-- of images one after another
pub count-append : (xs ys : List (PageId × PageImage)) → count_residents (xs ++ ys) ≡ count_residents xs + count_residents ys
count-append [] ys = omega arith
count-append (x ∷ xs) ys = one x.1 (count-append xs ys)
  where
    one : (image : PageImage) → count_residents (xs ++ ys) ≡ count_residents xs + count_residents ys
        → one_resident image (count_residents (xs ++ ys)) ≡ one_resident image (count_residents xs) + count_residents ys
    one (Resident page) same = omega (arith, same)
    one (Slot slot) same = same
    one Absent same = same

-- where no slot is free any more, slots are spent
pub slots_spent : (used : ℕ → Bool) (placed : List Placed) (from : ℕ) (images rest : List (PageId × PageImage)) → GivesSlots used 0 from []
    (written_slots placed)
    → map before_of placed ++ rest ≡ images → 0 < count_residents rest → NoneFree used from → IsSlotSpent used images
slots_spent used placed from images rest gives is some none = record {
  slots = written_slots placed;
  least = subst (AreLeast used 0) (append-nil gives.given ∙ sym gives.is) (gives.least [] tt);
  few = subst (λ (l : List (PageId × PageImage)). length (written_slots placed) < count_residents l) is
      (omega (arith, count-append (map before_of placed) rest, count_placed placed, some));
  all = λ s within free. ⊎_elim
      (λ less. subst (λ l. list_any (λ t. t == s) l ≡ true) (sym gives.is) (gives.all s (omega arith) less free))
      (λ more. absurd (both_ways (used s) free (none s more within))) (cases_lt s from);
}

-- the newest images of one page, and of those after it
pub newest_more : (commit : ℕ) (e : PageId × List Version) (es : List (PageId × List Version))
    → newest_images commit (e ∷ es) ≡ with_version e.0 (version_at e.1 commit) [] ++ newest_images commit es
newest_more commit e es = one (version_at e.1 commit)
  where
    two : (image : PageImage) → with_image e.0 image (newest_images commit es) ≡ with_image e.0 image [] ++ newest_images commit es
    two (Resident page) = refl
    two (Slot slot) = refl
    two Absent = refl

    one : (v : Option Version) → with_version e.0 v (newest_images commit es) ≡ with_version e.0 v [] ++ newest_images commit es
    one None = refl
    one (Some v) = two v.image

-- a page's image that is found is that of its version
pub found_version : (id : PageId) (v : Option Version) (image : PageImage) → Some image ≡ option_map (λ w. w.image) v
    → with_version id v [] ≡ with_image id image []
found_version id None image is = absurd (cc is)
found_version id (Some v) image is = ap (λ o. with_image id (unwrap_or o image) []) (sym is)

-- a page of which no image is found has no version
pub no_version : (id : PageId) (v : Option Version) → ◌≡◌ {A = Option PageImage} None (option_map (λ w. w.image) v) → with_version id v [] ≡ []
no_version id None is = refl
no_version id (Some v) is = absurd (cc is)

-- the slots of some rows are put one after another
pub slots_parts : (xs : List Row) (m : Row) (ys : List Row) (set : SlotIds)
    → with_slots (slots_of (xs ++ m ∷ ys)) set ≡ with_slots (slots_of ys) (finite.insert (with_slots (slots_of xs) set) m.slot tt)
slots_parts [] m ys set = refl
slots_parts (x ∷ xs) m ys set = slots_parts xs m ys (finite.insert set x.slot tt)
